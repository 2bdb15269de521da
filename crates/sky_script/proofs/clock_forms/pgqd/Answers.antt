-- Either of the two words may come next: by whether it is `off`, the line ends, or continues with `on`.
use Rattle.std.proofs.Common.{rules, Bool, true, false, refl}
use Rattle.sky_model.specs.declared.line.Fixed.TheVariants as fixed
use Rattle.sky_model.specs.declared.stmt.WorldStmt.TheVariants.{PgqdOn, PgqdOff}
use Rattle.sky_model.specs.declared.stmt.Stmt.TheVariants.{World}
use Rattle.sky_model.specs.Grammar.{GrammarRow, stop, literal}
use Rattle.sky_script.proofs.clock_forms.pgqd.Goals as goal

abbrev by_off : Bool → GrammarRow
by_off true = stop (World PgqdOff)
by_off false = literal fixed.On (stop (World PgqdOn))

pub returns-in_err-end : goal.returns-in_err-end
returns-in_err-end c =
    let skips = rw c.if-skip.true at c.skip.ensures by_off refl in
    search (rules, skips)

pub returns-then-skip : goal.returns-then-skip
returns-then-skip c =
    let skips = rw c.if-skip.true at c.skip.ensures by_off refl in
    search (rules, skips)

pub returns-in_err-fixed : goal.returns-in_err-fixed
returns-in_err-fixed c =
    let skips = rw c.if-skip.false at c.skip.ensures by_off refl in
    search (rules, skips)

pub returns-in_err-end-2 : goal.returns-in_err-end-2
returns-in_err-end-2 c =
    let skips = rw c.if-skip.false at c.skip.ensures by_off refl in
    search (rules, skips)

pub returns : goal.returns
returns c =
    let skips = rw c.if-skip.false at c.skip.ensures by_off refl in
    search (rules, skips)
