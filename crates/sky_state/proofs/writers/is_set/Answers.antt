use Rattle.std.proofs.Common.{◌≡◌, ◌∙◌, false, nat_lt, arith}
use Rattle.std.proofs.lemmas.Bool.Decides.{nat_tests}
use Rattle.sky_state.proofs.WriterBits.{behind}
use Rattle.sky_state.proofs.writers.is_set.Goals as goal

pub returns-else-table-lt64 : goal.returns-else-table-lt64
returns-else-table-lt64 c =
    let small : nat_lt c.args.table 64 ≡ false = grind (arith, nat_tests) in
    small ∙ behind c.args.tables c.args.table c.ranges.tables.fits c.if-table-lt64.false
