-- The tests that `add_trigger` makes.
use Rattle.std.specs.Prelude.{ℕ, List, not, option_map, nat_le, length, find, Ok}
use Rattle.sky_model.specs.declared.reply.Limit.TheVariants.{Triggers}
use Rattle.sky_model.specs.declared.reply.Refusal.TheVariants.{BadColumn, SetQueue, TableBusy, TooMany, TriggerExists}
use Rattle.sky_model.specs.Limits.{most_of}
use Rattle.sky_model.specs.Outcome.{Checked, ◌>>=◌, ◌>>◌, refused_if, refused_by}
use Rattle.sky_model.specs.Nodes.{is_set_queue}
use Rattle.sky_model.specs.ShownRows.{least_writer}
use Rattle.sky_model.specs.State.{RowPart, Database}
use Rattle.sky_model.specs.StepQueue.{queue_called}
use Rattle.sky_model.specs.StepTrigger.{has_trigger, may_ignore}
use Rattle.sky_model.specs.Triggers.{TableTrigger, triggers_of}

-- the queue of a name, which is no set's
abbrev pub queue_of_no_set : List ℕ → Database → Checked ℕ
queue_of_no_set name d = do
  queue ← queue_called name d
  refused_if (is_set_queue name d.node) SetQueue
  Ok queue

-- a table may have one more trigger beside these: none has its name, they are few enough, it may ignore these columns,
-- and no running transaction has written the table
abbrev pub trigger_fits : RowPart → List TableTrigger → ℕ → List ℕ → List (List ℕ) → Checked (Unit {0})
trigger_fits part triggers table name ignored = do
  refused_if (has_trigger name (triggers_of table triggers)) (TriggerExists name)
  refused_if (nat_le (most_of Triggers) (length (triggers_of table triggers))) (TooMany Triggers)
  refused_by (option_map BadColumn (find (λ column. not (may_ignore (part.columns table) column)) ignored))
  refused_by (option_map TableBusy (least_writer part table))
