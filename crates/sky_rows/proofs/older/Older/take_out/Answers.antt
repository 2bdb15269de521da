use Rattle.std.proofs.Common.{set, None, refl, subst, sym}
use Rattle.sky_chain.specs.Chains.{IsLinked}
use Rattle.sky_rows.specs.Older.{OlderView, IsTakenOut}
use Rattle.sky_rows.proofs.OlderLemmas.{taken_out, taken_out_filled}
use Rattle.sky_rows.proofs.older.Older.take_out.Goals as goal

pub invariant_of-self : goal.invariant_of-self
invariant_of-self c =
    let old : OlderView = record { chains = c.self.inside.chains; nodes = c.self.inside.nodes.items } in
    let new : OlderView = record { chains = c.unlink.new.self; nodes = set c.self.inside.nodes.items c.args.node None } in
    taken_out_filled old new c.args.node c.size-size.ensures.apart c.unlink.ensures.lists refl
    (subst (λ (o : OlderView). IsLinked o.chains c.args.node) (sym c.self.view_is) c.requires) c.unlink.ensures.size c.self.invariant

pub returns-clause-lists : goal.returns-clause-lists
returns-clause-lists c =
    let old : OlderView = record { chains = c.self.inside.chains; nodes = c.self.inside.nodes.items } in
    let new : OlderView = record { chains = c.unlink.new.self; nodes = set c.self.inside.nodes.items c.args.node None } in
    subst (λ o. IsTakenOut o c.args.node new) c.self.view_is (taken_out old new c.args.node c.size-size.ensures.apart c.unlink.ensures.lists refl)
