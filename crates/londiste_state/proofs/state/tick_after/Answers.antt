use Rattle.std.proofs.Common.{Some, None, sym}
use Rattle.std.specs.Fmt.{decimal}
use Rattle.std.proofs.lemmas.Bool.Decides.{Decides-eqb}
use Rattle.std.proofs.lemmas.Slice.Eq.{strip_prefix_is}
use Rattle.londiste_state.proofs.Ticks.{tick_read}
use Rattle.londiste_state.proofs.state.tick_after.Goals as goal

pub returns-in_err-strip_prefix : goal.returns-in_err-strip_prefix
returns-in_err-strip_prefix c =
    let stripped = strip_prefix_is Decides-eqb c.args.text.now c.args.word.now None c.in_err-strip_prefix.ensures.cases in
    rw c.from_residual.ensures (λ tick small written. stripped (decimal tick) (sym written))

pub returns : goal.returns
returns c =
    let stripped = strip_prefix_is Decides-eqb c.args.text.now c.args.word.now (Some c.in_ok-strip_prefix.field-0) c.in_ok-strip_prefix.ensures.cases in
    tick_read c.args.word.now c.args.text.now c.in_ok-strip_prefix.field-0.now c.number_of.result stripped c.number_of.ensures
