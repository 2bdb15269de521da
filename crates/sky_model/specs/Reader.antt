-- How a place is read, and what is done there.
use Rattle.std.specs.Prelude.{ℕ, ℤ, List, [], ◌∷◌, ◌++◌, Option, option_map}
use Rattle.sky_val.specs.declared.event.Event.{Event}
use Rattle.sky_model.specs.declared.reply.Reply.{Reply}
use Rattle.sky_model.specs.declared.reply.Reply.TheVariants.{Refused}
use Rattle.sky_model.specs.declared.reply.Refusal.{Refusal}
use Rattle.sky_model.specs.History.{Mark, History, Fact, appeared, founded, within, Past}
use Rattle.sky_model.specs.Consumers.{active_batch}
use Rattle.sky_model.specs.Batches.{batch_events}
use Rattle.sky_model.specs.State.{RowPart, part_of, after_part, Database, database_of, after_mark}
use Rattle.sky_model.specs.ShownRows.{RowsShown, rows_in, rows_by}
use Rattle.sky_model.specs.Selection.{selected}
use Rattle.sky_model.specs.Outcome.{Outcome, Checked}
use Rattle.sky_model.specs.Telling.{tells}
use Rattle.sky_model.specs.World.{World, world_of, after_facts, history_in, on_top}

-- what a database shows a statement besides what it keeps: the events of the active batch of an id, and the rows of its tables
pub record Shown : Type 0 where
  pub events : ℕ → Option (List Event)
  pub rows : RowsShown

-- by its history
abbrev pub shown_in : History → Shown
shown_in h = record { events = λ id. option_map (batch_events h) (active_batch id h); rows = rows_in h }

-- by what it keeps
abbrev pub shown_by : Database → Shown
shown_by d = record { events = λ id. option_map (selected d) (d.batch id); rows = rows_by d.part }

-- how a statement on rows reads a place: the row part there, what its tables show there, what a statement does there once its writes are recorded,
-- and the place after a mark
pub record PartReader (P : Type 0) : Type 0 where
  pub part : P → RowPart
  pub rows : P → RowsShown
  pub tells : P → Checked Outcome → Checked Outcome
  pub behind : P → Mark → P

-- nothing records the writes
abbrev pub silent : {P : Type 0} → P → Checked Outcome → Checked Outcome
silent p checked = checked

-- a place is the history there, or what the row part keeps there
abbrev pub part_by_history : PartReader History
part_by_history = record { part = part_of; rows = rows_in; tells = silent; behind = λ h mark. mark ∷ h }

abbrev pub part_by_itself : PartReader RowPart
part_by_itself = record { part = λ d. d; rows = rows_by; tells = silent; behind = after_part }

-- the same of a whole database
pub record DatabaseReader (P : Type 0) : Type 0 where
  pub database : P → Database
  pub shown : P → Shown
  pub behind : P → Mark → P

abbrev pub database_by_history : DatabaseReader History
database_by_history = record { database = database_of; shown = shown_in; behind = λ h mark. mark ∷ h }

abbrev pub database_by_itself : DatabaseReader Database
database_by_itself = record { database = λ d. d; shown = shown_by; behind = after_mark }

-- the row part of a database, whose writes are recorded at this time
abbrev pub within_part : {P : Type 0} → DatabaseReader P → ℤ → PartReader P
within_part r now = record { part = λ p. (r.database p).part; rows = λ p. (r.shown p).rows; tells = λ p checked. tells (r.database p) now checked; behind = r.behind }

-- and of the world: the world there, what each database shows there, and the place after what happens
pub record Reader (P : Type 0) : Type 0 where
  pub world : P → World
  pub shown : P → ℕ → Shown
  pub behind : P → List Fact → P

-- a place of the world, as one of a database
abbrev pub within_database : {P : Type 0} → Reader P → ℕ → DatabaseReader P
within_database r d = record {
  database = λ p. (r.world p).database d;
  shown = λ p. r.shown p d;
  behind = λ p mark. r.behind p (within d mark ∷ []);
}

-- a place is what has happened there
abbrev pub by_past : Reader Past
by_past = record { world = world_of; shown = λ past d. shown_in (history_in past d); behind = on_top }

-- a place is what the world shows there
abbrev pub by_world : Reader World
by_world = record { world = λ w. w; shown = λ w d. shown_by (w.database d); behind = after_facts }

-- answers, each with its session, and what happened, in order
pub record Deed : Type 0 where
  pub answers : List (ℕ × Reply)
  pub facts : List Fact

-- the answer of a session's statement, and what happened
abbrev pub answers_with : ℕ → Reply → List Fact → Deed
answers_with who reply facts = record { answers = (who, reply) ∷ []; facts = facts }

-- a refusal in the world, where nothing happens
abbrev pub refuses : ℕ → Refusal → Deed
refuses who refusal = answers_with who (Refused refusal) []

-- a session appears, without an answer
abbrev pub appears : List ℕ → Deed
appears name = record { answers = []; facts = appeared name ∷ [] }

-- a database is made, without an answer
abbrev pub founds : List ℕ → Deed
founds name = record { answers = []; facts = founded name ∷ [] }

-- nothing is done
abbrev pub idles : Deed
idles = record { answers = []; facts = [] }

-- a deed after another
abbrev pub deed_with : Deed → Deed → Deed
deed_with deed rest = record { answers = deed.answers ++ rest.answers; facts = deed.facts ++ rest.facts }

-- a deed, and then what is done at the place after it
abbrev pub followed : {P : Type 0} → Reader P → P → (P → Deed) → Deed → Deed
followed r p rest deed = deed_with deed (rest (r.behind p deed.facts))
