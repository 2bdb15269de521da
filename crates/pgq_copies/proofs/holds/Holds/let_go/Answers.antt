use Rattle.std.proofs.Common.{rules, ◌∙◌, ap, not, ◌==◌}
use Rattle.std.proofs.lemmas.Fn.{filter_same}
use Rattle.sky_model.specs.Copies.{Hold, without_hold}
use Rattle.pgq_copies.proofs.holds.Holds.let_go.Goals as goal

pub returns : goal.returns
returns c = filter_same _ (λ (x : Hold). not (x.number == c.args.number)) _ (λ x b f' called. search rules) _ _ c.retain.ensures.filtered ∙ ap (without_hold c.args.number) c.self.view_is
