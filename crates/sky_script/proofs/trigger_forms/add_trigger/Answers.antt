use Rattle.std.proofs.Common.{rules, refl}
use Rattle.sky_model.specs.Grammar.{ignore_row}
use Rattle.sky_script.proofs.trigger_forms.add_trigger.Goals as goal

pub returns-in_err-ignored : goal.returns-in_err-ignored
returns-in_err-ignored c =
    let skips = c.skip-backup.ensures (λ backup. ignore_row c.in_ok-name.name c.in_ok-table.table c.in_ok-queue.queue backup) refl in
    search (rules, skips)

pub returns : goal.returns
returns c =
    let skips = c.skip-backup.ensures (λ backup. ignore_row c.in_ok-name.name c.in_ok-table.table c.in_ok-queue.queue backup) refl in
    search (rules, skips)
