-- Which stored events are looked at for a batch, and how many at most.
use Rattle.std.specs.Prelude.{◌≡◌, ℕ, List, [], Option, Some}
use Rattle.pgq_tables.specs.Tables.{Tables}
use Rattle.pgq_tables.specs.declared.looked.Looked.{Looked}
use Rattle.pgq_batch.specs.Bound.{most_looks}
use Rattle.pgq_batch.specs.Looked.{AreLookedAt}
use Rattle.sky_model.specs.History.{Batch}
use Rattle.sky_model.specs.Queues.{Tick, tick}
use Rattle.sky_model.specs.State.{Queue}

-- none without both ticks
abbrev pub most_between : (from to : Option Tick) → Tables → ℕ
most_between (Some from) (Some to) ts = most_looks from.snapshot to.snapshot ts
most_between _ _ ts = 0

-- for a batch of a queue
abbrev pub most_in : Queue → Batch → ℕ
most_in q b = most_between (tick b.prev q.tick_list) (tick b.cur q.tick_list) q.event_tables

-- what is looked at between two ticks; nothing without both
abbrev pub AreLookedAtBetween : (from to : Option Tick) → Tables → List Looked → Type 0
AreLookedAtBetween (Some from) (Some to) ts looks = AreLookedAt from.snapshot to.snapshot ts looks
AreLookedAtBetween _ _ ts looks = looks ≡ []

-- for a batch of a queue
abbrev pub AreLookedAtIn : Queue → Batch → List Looked → Type 0
AreLookedAtIn q b looks = AreLookedAtBetween (tick b.prev q.tick_list) (tick b.cur q.tick_list) q.event_tables looks
