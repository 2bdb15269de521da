-- What holds of each event that event tables have.
use Rattle.std.specs.Prelude.{ℕ, ◌≤◌, unwrap_or}
use Rattle.std.specs.List.{All}
use Rattle.sky_val.specs.declared.event.Event.{Event}
use Rattle.pgq_tables.specs.Tables.{Tables}

abbrev pub AllStored : (Event → Type 0) → Tables → Type 0
AllStored P ts = All (All (λ s. P s.event)) ts.lists

-- an event was retried at most so often
abbrev pub RetriedAtMost : ℕ → Event → Type 0
RetriedAtMost rounds e = unwrap_or e.ev_retry 0 ≤ rounds
