-- What is kept of triggers, and of tables with triggers.
use Rattle.std.specs.Prelude.{◌≡◌, ℕ, suc, ◌-◌, nat_lt, ◌==◌, false, not, List, [], ◌∷◌, Option, Some, None, option_map, map, filter, slice_get, slice_index_or, if◌then◌else◌}
use Rattle.std.specs.List.{All}
use Rattle.sky_val.specs.declared.column.Column.{Column}
use Rattle.sky_model.specs.Triggers.{TableTrigger, triggers_of}
use Rattle.sky_model.specs.State.{RowPart}
use Rattle.pgq_queue.specs.Views.{QueueView}
use Rattle.pgq_queues.specs.Views.{TracedTableView, TracedView, QueuesView}
use Rattle.pgq_queues.specs.Seen.{Stands, kept}

-- a trigger that isn't made
abbrev pub no_trigger : TableTrigger
no_trigger = record { table = 0; name = None; trigger = record { queue = 0; backup = false; ignored = [] } }

-- the triggers at places
abbrev pub triggers_at : List TableTrigger → List ℕ → List TableTrigger
triggers_at triggers places = map (λ place. slice_index_or triggers place no_trigger) places

-- a table with triggers
abbrev pub traced_by : List TableTrigger → TracedTableView → TracedView
traced_by triggers t = record { name = t.name; columns = t.columns; triggers = triggers }

-- the table of a number with its triggers, if anything is kept of it
abbrev pub traced_at : QueuesView → ℕ → Option TracedView
traced_at q n = option_map (traced_by (triggers_of n q.triggers)) (kept q.traced_tables n)

-- the places of a table's triggers, if the first of all is at this one
abbrev pub places_from : (first table : ℕ) → List TableTrigger → List ℕ
places_from first table [] = []
places_from first table (t ∷ ts) = if t.table == table then first ∷ places_from (suc first) table ts else places_from (suc first) table ts

-- places once one of them is gone: those after it have moved
abbrev pub place_after : (gone place : ℕ) → ℕ
place_after gone place = if nat_lt gone place then place - 1 else place

abbrev pub places_without : (gone : ℕ) → List ℕ → List ℕ
places_without gone places = map (place_after gone) (filter (λ p. not (p == gone)) places)

-- the places of a table, which has none if nothing is kept of it
abbrev pub places_of : Option TracedTableView → List ℕ
places_of None = []
places_of (Some t) = t.places

-- these are the places of a table's triggers
abbrev pub ArePlaced : List TableTrigger → (table : ℕ) → (places : List ℕ) → Type 0
ArePlaced triggers table places = places ≡ places_from 0 table triggers

-- each trigger's events go to a queue that exists, and what is kept of a table are the places of its own
pub record TracedWithin (queues : List QueueView) (triggers : List TableTrigger) (traced : List (ℕ × TracedTableView)) : Type 0 where
  pub stand : All (λ t. Stands queues t.trigger.queue) triggers
  pub places : (n : ℕ) → ArePlaced triggers n (places_of (kept traced n))

-- the time of the running statement, what is kept of triggers and of tables with triggers, and how often retries came back, stay the same
pub record KeepsRest (old new : QueuesView) : Type 0 where
  pub time : new.time ≡ old.time
  pub triggers : new.triggers ≡ old.triggers
  pub traced_tables : new.traced_tables ≡ old.traced_tables
  pub rounds : new.rounds ≡ old.rounds

-- a table of a row part, by its name and its columns
abbrev pub IsTable : RowPart → ℕ → List ℕ → List Column → Type 0
IsTable part n name columns = (slice_get part.tables n ≡ Some name) × (part.columns n ≡ columns)

-- what is kept of a table is its name and its columns; one of which nothing is kept has no trigger
abbrev pub IsTraced : RowPart → ℕ → List TableTrigger → Option TracedTableView → Type 0
IsTraced part n triggers None = triggers_of n triggers ≡ []
IsTraced part n triggers (Some t) = IsTable part n t.name t.columns

-- this holds of each table
abbrev pub AreTables : RowPart → QueuesView → Type 0
AreTables part q = (n : ℕ) → IsTraced part n q.triggers (kept q.traced_tables n)
