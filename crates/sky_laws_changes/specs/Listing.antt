-- Whether a table stays in a set from one place of a history to another.
use Rattle.std.specs.Prelude.{◌≡◌, ℕ, Bool, true, false, List, ◌++◌, Some, length, nat_lt, bytes_eq, if◌then◌else◌}
use Rattle.londiste_state.specs.Nodes.{is_among}
use Rattle.sky_model.specs.History.{Mark, noded, set_removed, History}
use Rattle.sky_model.specs.Nodes.{node, set_tables}
use Rattle.sky_model.specs.State.{database_of}
use Rattle.sky_model.specs.StepNode.{set_queue}

-- a place is below another, or is the same
pub record IsBelow (p q : History) : Type 0 where
  pub later : List Mark
  pub reaches : q ≡ later ++ p

-- the later of two places of a history
abbrev pub later_of : (p q : History) → History
later_of p q = if nat_lt (length p) (length q) then q else p

-- the table of a name is in the set of the database's root, which has this queue
pub record IsListed (p : History) (queue : ℕ) (name : List ℕ) : Type 0 where
  pub set : set_queue (database_of p) ≡ Some queue
  pub among : is_among name (set_tables (node p)) ≡ true

-- it is at each place from `p` to `q`
abbrev pub StaysListed : (p q : History) → ℕ → List ℕ → Type 0
StaysListed p q queue name = (x : History) → IsBelow p x → IsBelow x q → IsListed x queue name

-- whether a mark takes the table of a name out of the set
abbrev pub is_unlisting : List ℕ → Mark → Bool
is_unlisting name (noded (set_removed table)) = bytes_eq name table
is_unlisting name _ = false
