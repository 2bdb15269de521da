use Rattle.std.proofs.Common.{◌∙◌, ap, sym, []}
use Rattle.std.specs.Map.{values_of}
use Rattle.pgq_retry.specs.Retries.{count_of}
use Rattle.pgq_retry.proofs.OfSub.{some_of_sub, none_of_sub, count_of_sub}
use Rattle.pgq_retry.proofs.placed.Placed.count.Goals as goal

pub returns-in-Some : goal.returns-in-Some
returns-in-Some c = c.len.ensures.len
    ∙ count_of_sub c.in-Some.places.now.entries c.self.inside.line c.args.sub c.self.invariant.in_order
    (some_of_sub c.self.inside.line c.self.inside.places.by_sub c.args.sub c.in-Some.places.now c.self.invariant (sym c.in-Some.ensures) c.len.ensures.ordered)
    ∙ ap (λ es. count_of c.args.sub (values_of es)) c.self.view_is

pub returns-in-None : goal.returns-in-None
returns-in-None c =
    count_of_sub [] c.self.inside.line c.args.sub c.self.invariant.in_order
    (none_of_sub c.self.inside.line c.self.inside.places.by_sub c.args.sub c.self.invariant (sym c.in-None.ensures))
    ∙ ap (λ es. count_of c.args.sub (values_of es)) c.self.view_is
