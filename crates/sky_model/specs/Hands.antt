-- What the workers of a leaf have in hand.
use Rattle.std.specs.Prelude.{ℕ, List, Bool, Option, Some, None}
use Rattle.sky_val.specs.declared.val.Val.{Val}

-- of a copy that runs: the snapshot that is held for it, by its number; the tick at which its consumer registered; and the last key that was copied, if
-- one was
pub record CopyHand : Type 0 where
  pub hold : ℕ
  pub tick : ℕ
  pub last : Option (List Val)

-- a batch of the set's queue: its id, the ids of its ticks, and whether it is done, that is, applied or skipped
pub record BatchHand : Type 0 where
  pub id : ℕ
  pub prev : ℕ
  pub cur : ℕ
  pub is_done : Bool

-- what the worker that copies a table has: its copy, or, once the table catches up, a batch
pub data Hand : Type 0 where
  of_copy : CopyHand → Hand
  of_batch : BatchHand → Hand

-- the copy, if it is one
abbrev pub copy_in : Option Hand → Option CopyHand
copy_in (Some (of_copy copy)) = Some copy
copy_in hand = None

-- the batch, if it is one
abbrev pub batch_in : Option Hand → Option BatchHand
batch_in (Some (of_batch batch)) = Some batch
batch_in hand = None
