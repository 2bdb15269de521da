use Rattle.std.proofs.Common.{◌∙◌, sym, ap}
use Rattle.londiste_copy.specs.declared.table.Progress.{Progress}
use Rattle.londiste_copy.proofs.CatchingUp.{catching}
use Rattle.londiste_copy.proofs.catching_up.follow.Goals as goal

pub catch_up-requires-clause-state : goal.catch_up-requires-clause-state
catch_up-requires-clause-state g c = sym (ap Progress.state c.requires.progress) ∙ catching c.args.progress.state c.requires.state c.in_default-state.not-DoSync
