-- When a leaf and its provider both have a table, and what the parts of a copy leave.
use Rattle.std.specs.Prelude.{◌≡◌, ℕ, true, List, [], ◌∷◌, Option, Some, Ok}
use Rattle.sky_val.specs.declared.val.Val.{Val}
use Rattle.sky_val.specs.declared.column.Column.{Column}
use Rattle.sky_val.specs.Schemas.{key_of}
use Rattle.londiste_state.specs.Nodes.{is_among}
use Rattle.sky_model.specs.Nodes.{leaf_tables}
use Rattle.sky_model.specs.NodesOfWorld.{columns_called}
use Rattle.sky_model.specs.State.{Database}
use Rattle.sky_model.specs.StepNode.{joining, parting, holding, beginning_copy, table_number}
use Rattle.sky_model.specs.Hands.{CopyHand}
use Rattle.sky_model.specs.WorkerMoves.{behind_calls}
use Rattle.sky_model.specs.CopyMoves.{copy_consumer, first_hand, held_snapshot, next_piece, starts_copy}
use Rattle.sky_model.specs.ShownRows.{snapshot_now}
use Rattle.londiste_batches.specs.Moved.{ServesAll}

-- the leaf has the table, which has these numbers in the provider's database and in its own, and the columns are the same
pub record SameTable (p r : Database) (table : List ℕ) (from to : ℕ) : Type 0 where
  pub joined : is_among table (leaf_tables r.node) ≡ true
  pub there : table_number p table ≡ Some from
  pub here : table_number r table ≡ Some to
  pub columns : columns_called table p ≡ columns_called table r

-- a copy has begun, as its definition says, and what is then in hand. The present snapshot is held for it. The provider's rows are as they were, and so are
-- the replica's node, the names of its tables and the columns of the table
pub record Begun (p p_new r r_new : Database) (table : List ℕ) (hand : CopyHand) : Type 0 where
  pub allowed : starts_copy p r table ≡ Ok (behind_calls (parting (copy_consumer r.node) ∷ joining (copy_consumer r.node) ∷ holding ∷ []) (beginning_copy table ∷ [])
      (next_piece p table (snapshot_now p.part) hand))
  pub provider : ServesAll p p_new (parting (copy_consumer r.node) ∷ joining (copy_consumer r.node) ∷ holding ∷ [])
  pub replica : ServesAll r r_new (beginning_copy table ∷ [])
  pub first : hand ≡ first_hand p
  pub held : held_snapshot p_new hand.hold ≡ Some (snapshot_now p.part)
  pub rows : p_new.part ≡ p.part
  pub node : r_new.node ≡ r.node
  pub tables : r_new.part.tables ≡ r.part.tables
  pub columns : columns_called table r_new ≡ columns_called table r

-- the key of the last of some rows of a table of these columns, or else one from before
abbrev pub last_row_key : List Column → Option (List Val) → List (List Val) → Option (List Val)
last_row_key columns before [] = before
last_row_key columns before (row ∷ rows) = last_row_key columns (Some (key_of columns row)) rows
