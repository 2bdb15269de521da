-- A subscription as the code keeps it, what the definitions see of it, and how it changes.
use Rattle.std.specs.Prelude.{ℕ, Option, Some, None, option_map}
use Rattle.sky_model.specs.Consumers.{Subscription}
use Rattle.pgq_sub.specs.declared.sub.OpenBatch.{OpenBatch}

-- a batch goes from the subscription's position to its closing tick, and is kept here alone
pub record SubView : Type 0 where
  pub id : ℕ
  pub position : ℕ
  pub active : Option OpenBatch

-- of a batch the definitions see the id
abbrev pub seen_sub : SubView → Subscription
seen_sub s = record { id = s.id; position = s.position; active = option_map OpenBatch.id s.active }

-- one that has this batch
abbrev pub with_open : OpenBatch → SubView → SubView
with_open batch s = record s { active = Some batch }

-- one that has finished its batch or given it up, and is at this tick
abbrev pub at_tick : ℕ → SubView → SubView
at_tick tick s = record s { position = tick; active = None }

-- one that is at the closing tick of its batch, if it had one
abbrev pub after_batch : SubView → Option OpenBatch → SubView
after_batch s None = s
after_batch s (Some batch) = at_tick batch.cur s

abbrev pub finished : SubView → SubView
finished s = after_batch s s.active
