-- What `add_trigger` does.
use Rattle.std.specs.Prelude.{ℕ, List, [], ◌∷◌, Bool, false, not, ◌&&◌, Option, Some, None, option_map, nat_le, length, find, bytes_eq}
use Rattle.std.specs.List.{list_any}
use Rattle.sky_val.specs.declared.column.Column.{Column}
use Rattle.sky_model.specs.declared.stmt.AddedTrigger.{AddedTrigger}
use Rattle.sky_model.specs.declared.reply.Reply.TheVariants.{Done}
use Rattle.sky_model.specs.declared.reply.Limit.TheVariants.{Triggers}
use Rattle.sky_model.specs.declared.reply.Refusal.TheVariants.{BadColumn, SetQueue, TableBusy, TooMany, TriggerExists}
use Rattle.sky_model.specs.Limits.{most_of}
use Rattle.sky_model.specs.History.{queued, traced}
use Rattle.sky_model.specs.Triggers.{TableTrigger, triggers_of}
use Rattle.sky_model.specs.Nodes.{is_set_queue}
use Rattle.sky_model.specs.State.{Database}
use Rattle.sky_model.specs.ShownRows.{least_writer}
use Rattle.sky_model.specs.Outcome.{Outcome, Checked, ◌>>=◌, ◌>>◌, refused_if, refused_by, does_marks}
use Rattle.sky_model.specs.StepRows.{table_called}
use Rattle.sky_model.specs.StepQueue.{queue_called}

-- whether something that may have a name has this one
abbrev pub has_name : List ℕ → Option (List ℕ) → Bool
has_name name None = false
has_name name (Some own) = bytes_eq own name

-- whether a trigger of this name is among them
abbrev pub has_trigger : List ℕ → List TableTrigger → Bool
has_trigger name triggers = list_any (λ t. has_name name t.name) triggers

-- whether a trigger may ignore the column of a name: one of these, and not part of the key
abbrev pub may_ignore : List Column → List ℕ → Bool
may_ignore columns name = list_any (λ c. bytes_eq c.name name && not c.key) columns

-- `add_trigger NAME TABLE NAME`, with `backup` or without, and with names to ignore
abbrev pub add_trigger : Database → AddedTrigger → Checked Outcome
add_trigger d trigger = do
  table ← table_called trigger.table d.part
  queue ← queue_called trigger.queue d
  refused_if (is_set_queue trigger.queue d.node) SetQueue
  refused_if (has_trigger trigger.name (triggers_of table d.triggers)) (TriggerExists trigger.name)
  refused_if (nat_le (most_of Triggers) (length (triggers_of table d.triggers))) (TooMany Triggers)
  refused_by (option_map BadColumn (find (λ column. not (may_ignore (d.part.columns table) column)) trigger.ignored))
  refused_by (option_map TableBusy (least_writer d.part table))
  does_marks Done (queued (traced table (Some trigger.name) (record { queue = queue; backup = trigger.backup; ignored = trigger.ignored })) ∷ [])
