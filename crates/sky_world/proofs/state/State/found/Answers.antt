use Rattle.std.proofs.Common.{◌≤◌, ◌∷◌, [], ap, length, length-append, subst, sym, arith, ◌∙◌}
use Rattle.sky_names.specs.Places.{place_of}
use Rattle.sky_names.specs.Named.{NamedView}
use Rattle.sky_world.specs.Views.{StateView}
use Rattle.sky_world.specs.Whole.{IsWhole}
use Rattle.sky_world.proofs.Whole.{whole-founded}
use Rattle.sky_world.proofs.Worlds.{homes-more, nodes-more, founded-as}
use Rattle.sky_world.proofs.state.State.found.Goals as goal

pub add-requires-clause-new : goal.add-requires-clause-new
add-requires-clause-new g c =
    ap (λ name. place_of name c.self.inside.databases.names) c.in_ok-copied.ensures ∙ ap (λ (v : StateView g.row.D.Denot). place_of c.args.name.now v.databases.names) c.self.view_is ∙ c.requires.new

pub invariant_of-self-2 : goal.invariant_of-self-2
invariant_of-self-2 g c =
    let longer = c.in_ok-add.ensures.added in
    let more : length c.self.inside.databases.names ≤ length c.add.new.self.names = omega (arith, ap (λ (n : NamedView g.row.D.Denot). length n.names) longer, length-append c.self.inside.databases.names (c.in_ok-copied.copied ∷ [])) in record {
      time = c.self.invariant.time;
      homes_within = homes-more _ _ c.self.inside.sessions.values more c.self.invariant.homes_within;
      started = c.self.invariant.started;
      nodes_within = nodes-more _ _ c.self.inside.nodes.items more c.self.invariant.nodes_within;
    }

pub returns-clause-fact : goal.returns-clause-fact
returns-clause-fact g c = founded-as g.D.Store.seen _ _ _ c.new.result c.args.name.now _ c.self.view_is c.in_ok-add.ensures.added c.in_ok-copied.ensures c.new.ensures

pub returns-clause-whole : goal.returns-clause-whole
returns-clause-whole g c =
    whole-founded _ c.self.inside.databases.values _ c.new.result (ap (λ (n : NamedView g.row.D.Denot). n.values) c.in_ok-add.ensures.added) c.new.ensures
    (subst (IsWhole g.D.Store.seen) (sym c.self.view_is) c.requires.whole)
