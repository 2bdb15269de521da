-- What records writes begins and ends no wait, so in a whole database, too, none is ready after a turn.
use Rattle.std.proofs.Common.{ℤ, refl}
use Rattle.sky_model.specs.State.{database_of}
use Rattle.sky_model.specs.Printed.{ReplyHasMoments}
use Rattle.sky_model.specs.Reader.{database_by_history, database_by_itself, within_part}
use Rattle.sky_histories.proofs.Marks.{part_of-mark}
use Rattle.sky_histories.proofs.RowStanding.{part-behind}
use Rattle.sky_histories.proofs.StatementMarks.{gives-tells}
use Rattle.sky_histories.proofs.Resting.{keeps_waiters, KeepsPart}

-- a database keeps its row part by itself
pub database-keeps : (now : ℤ) → KeepsPart (within_part database_by_itself now)
database-keeps now = record { part = part-behind; quiet = λ d c quiet. gives-tells keeps_waiters (λ mark _. refl) ReplyHasMoments d now c quiet }

-- and a history does
pub history-keeps : (now : ℤ) → KeepsPart (within_part database_by_history now)
history-keeps now = record { part = part_of-mark; quiet = λ h c quiet. gives-tells keeps_waiters (λ mark _. refl) ReplyHasMoments (database_of h) now c quiet }
