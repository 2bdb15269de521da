use Rattle.std.proofs.Common.{◌≡◌, ◌∙◌, ap, sym, ◌<◌, List, [], ◌∷◌, None, length, false, true, refl, arith}
use Rattle.std.specs.Prelude.{option_map, slice_get}
use Rattle.pgq_retry.proofs.Sorting.{sorted, first_place}
use Rattle.pgq_retry.proofs.line.Line.first.Goals as goal

no_first : {K : Type 0} (ks : List K) → (0 < length ks → false ≡ true) → slice_get ks 0 ≡ None
no_first [] none = refl
no_first (k ∷ ks) none = absurd (cc (none (omega arith)))

pub returns-in_err-place : goal.returns-in_err-place
returns-in_err-place c =
    c.from_residual.ensures
    ∙ sym (ap (option_map (λ k. k.1)) (no_first c.self.inside.dues.keys c.in_err-place.ensures.variant.1))
    ∙ first_place c.self.inside.entries.entries c.self.inside.dues c.self.invariant
    ∙ ap (λ es. option_map (λ e. e.0) (slice_get (sorted es) 0)) c.self.view_is

pub returns : goal.returns
returns c =
    sym (ap (option_map (λ k. k.1)) c.in_ok-place.ensures.first)
    ∙ first_place c.self.inside.entries.entries c.self.inside.dues c.self.invariant
    ∙ ap (λ es. option_map (λ e. e.0) (slice_get (sorted es) 0)) c.self.view_is
