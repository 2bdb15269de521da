use Rattle.std.proofs.Common.{rules}
use Rattle.std.specs.Prelude.{not, bytes_eq}
use Rattle.std.proofs.lemmas.Fn.{filter_same}
use Rattle.londiste_state.proofs.node.remove.Goals as goal

pub returns : goal.returns
returns c = filter_same _ (λ other. not (bytes_eq c.args.name.now other)) _ (λ other b f' called. search rules) _ _ c.retain.ensures.filtered
