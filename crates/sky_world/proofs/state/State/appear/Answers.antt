use Rattle.std.proofs.Common.{ℕ, Option, ◌∷◌, [], ap, length, length-append, option_and_then, slice_get, subst, sym, arith, ◌∙◌}
use Rattle.sky_names.specs.Places.{place_of}
use Rattle.sky_names.specs.Named.{NamedView}
use Rattle.sky_world.specs.Views.{StateView}
use Rattle.sky_world.specs.Whole.{IsWhole}
use Rattle.sky_world.proofs.Whole.{whole-more}
use Rattle.sky_world.proofs.Worlds.{homes-push, appeared-as}
use Rattle.sky_world.proofs.state.State.appear.Goals as goal

pub add-requires-clause-new : goal.add-requires-clause-new
add-requires-clause-new g c =
    ap (option_and_then (slice_get c.self.inside.sessions.values))
    (ap (λ name. place_of name c.self.inside.sessions.names) c.in_ok-copied.ensures ∙ ap (λ (v : StateView g.row.D.Denot). place_of c.args.name.now v.sessions.names) c.self.view_is ∙ c.requires.new)

pub invariant_of-self-2 : goal.invariant_of-self-2
invariant_of-self-2 g c = record {
  time = c.self.invariant.time;
  homes_within = homes-push _ c.self.inside.sessions.values _ (ap (λ (n : NamedView (Option ℕ)). n.values) c.in_ok-add.ensures.added) c.self.invariant.homes_within;
  started = c.self.invariant.started;
  nodes_within = c.self.invariant.nodes_within;
}

pub returns-clause-fact : goal.returns-clause-fact
returns-clause-fact g c = appeared-as g.D.Store.seen _ _ _ c.args.name.now _ c.self.view_is c.in_ok-add.ensures.added c.in_ok-copied.ensures

pub returns-clause-whole : goal.returns-clause-whole
returns-clause-whole g c =
    whole-more _ _ _ (omega (arith, ap (λ (n : NamedView (Option ℕ)). length n.names) c.in_ok-add.ensures.added, length-append c.self.inside.sessions.names (c.in_ok-copied.copied ∷ [])))
    (subst (IsWhole g.D.Store.seen) (sym c.self.view_is) c.requires.whole)
