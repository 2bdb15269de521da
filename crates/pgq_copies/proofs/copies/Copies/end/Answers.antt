use Rattle.std.proofs.Common.{rules, ◌∙◌, ap, not, ◌==◌}
use Rattle.std.proofs.lemmas.Fn.{filter_same}
use Rattle.sky_model.specs.Copies.{Copy, without_copy}
use Rattle.pgq_copies.proofs.copies.Copies.end.Goals as goal

pub returns : goal.returns
returns c = filter_same _ (λ (x : Copy). not (x.txid == c.args.txid)) _ (λ x b f' called. search rules) _ _ c.retain.ensures.filtered ∙ ap (without_copy c.args.txid) c.self.view_is
