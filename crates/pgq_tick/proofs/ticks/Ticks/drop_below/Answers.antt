use Rattle.std.proofs.Common.{rules, ◌≡◌, ◌||◌, ◌==◌, ◌∙◌, sym, ap, filter}
use Rattle.std.proofs.lemmas.Fn.{filter_same}
use Rattle.sky_model.specs.Queues.{newest_tick, id_of, is_above, ticks_above}
use Rattle.pgq_tick.proofs.TickLists.{AreTicks-kept}
use Rattle.pgq_tick.proofs.ticks.Ticks.drop_below.Goals as goal

pub invariant_of-self : goal.invariant_of-self
invariant_of-self c =
    let id = c.id-newest.ensures ∙ sym (ap id_of c.newest.ensures.newest) ∙ sym (ap (λ ts. id_of (newest_tick ts)) c.self.view_is) in
    let filtered = filter_same _ (λ t. is_above c.args.txid t || t.id == c.id-newest.result) _ (λ t b f' called. search rules) _ _ c.retain.ensures.filtered in
    AreTicks-kept c.args.txid _ _ c.self.invariant (filtered ∙ ap (λ n. filter (λ t. is_above c.args.txid t || t.id == n) c.self.inside.ticks.items) id)

pub returns : goal.returns
returns c =
    let id = c.id-newest.ensures ∙ sym (ap id_of c.newest.ensures.newest) in
    let filtered = filter_same _ (λ t. is_above c.args.txid t || t.id == c.id-newest.result) _ (λ t b f' called. search rules) _ _ c.retain.ensures.filtered in
    filtered ∙ (λ i. filter (λ t. is_above c.args.txid t || t.id == id i) (c.self.view_is i))
