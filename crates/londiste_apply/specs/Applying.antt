-- What a worker may write for events, and what it makes of them.
use Rattle.std.specs.Prelude.{◌≡◌, ℕ, List, Bool, true, false, Option, Some, None, IfSome, option_and_then, length}
use Rattle.sky_val.specs.declared.event.Event.{Event}
use Rattle.sky_txid.specs.Ids.{contains}
use Rattle.sky_names.specs.Places.{place_of}
use Rattle.londiste_state.specs.Nodes.{Leaf, Node, of_leaf}
use Rattle.sky_model.specs.History.{Mark}
use Rattle.sky_model.specs.State.{RowPart, after_part, after_part_marks}
use Rattle.sky_model.specs.StepApply.{applies_events}
use Rattle.londiste_apply.specs.declared.apply.Work.{Work}
use Rattle.londiste_apply.specs.Writing.{MayWrite}

-- the leaf, if a node is one
abbrev pub as_leaf : Option Node → Option Leaf
as_leaf (Some (of_leaf l)) = Some l
as_leaf _ = None

-- a worker's transaction may write the table of an event, if there is one
abbrev pub MayWriteFor : RowPart → (t : ℕ) → Event → Type 0
MayWriteFor d t event = IfSome (option_and_then (λ name. place_of name d.tables) event.ev_extra1) (λ table. MayWrite d table t)

-- whether a mark was made; if there is none, nothing has changed
abbrev pub Makes : Bool → (old new : RowPart) → Option Mark → Type 0
Makes made old new None = (made ≡ false) × (new ≡ old)
Makes made old new (Some mark) = (made ≡ true) × (new ≡ after_part old mark)

-- what a worker's transaction, which still runs, has made of events: their writes up to the first that can't be applied, and which one that is; if there
-- is none, it has applied as many as there are
pub record Works (work : Work) (old new : RowPart) (t : ℕ) (events : List Event) : Type 0 where
  pub runs : contains t new.workers ≡ true
  pub left : new ≡ after_part_marks old (applies_events old t events).marks
  pub bad : work.bad ≡ (applies_events old t events).bad
  pub many : work.bad ≡ None → work.many ≡ length events
