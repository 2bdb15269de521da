use Rattle.std.proofs.Common.{set, Some, sym, subst, refl, arith, rules}
use Rattle.std.specs.Prelude.{◌==◌}
use Rattle.sky_keys.specs.Versions.{with_version}
use Rattle.sky_rows.specs.Versions.{IsOneOfEach}
use Rattle.sky_rows.specs.Older.{OlderView, older_in, IsFound, Changes}
use Rattle.sky_rows.proofs.Walk.{own_none, replaced_here, replaced_here_filled, found_within, own_some}
use Rattle.sky_rows.proofs.older.Older.replace.Goals as goal

pub returns-in_default-clause-none : goal.returns-in_default-clause-none
returns-in_default-clause-none c = own_none c.args.version.txid c.args.self.now c.args.list (c.in_default.ensures (λ u. u == c.args.version.txid) (λ t b fits post. grind (arith, post)))

pub index_mut-requires : goal.index_mut-requires
index_mut-requires c =
    let old : OlderView = record { chains = c.self.inside.chains; nodes = c.self.inside.nodes.items } in
    let within = found_within (λ u. u == c.args.version.txid) old c.args.list c.in-Some.node c.size-size.ensures.apart c.self.invariant
    (subst (λ o. IsFound (λ u. u == c.args.version.txid) o c.args.list (Some c.in-Some.node)) (sym c.self.view_is) (c.in-Some.ensures (λ u. u == c.args.version.txid) (λ t b fits post. grind (arith, post)))) in
    search (rules, within)

pub invariant_of-self : goal.invariant_of-self
invariant_of-self c =
    let old : OlderView = record { chains = c.self.inside.chains; nodes = c.self.inside.nodes.items } in
    let new : OlderView = record { chains = c.self.inside.chains; nodes = set c.self.inside.nodes.items c.in-Some.node (Some c.args.version) } in
    replaced_here_filled c.args.version.txid c.args.version.row old new c.args.list c.in-Some.node c.size-size.ensures.apart
    (subst (λ o. IsFound (λ u. u == c.args.version.txid) o c.args.list (Some c.in-Some.node)) (sym c.self.view_is) (c.in-Some.ensures (λ u. u == c.args.version.txid) (λ t b fits post. grind (arith, post))))
    refl refl c.self.invariant

pub returns-clause-ok : goal.returns-clause-ok
returns-clause-ok c =
    let old : OlderView = record { chains = c.self.inside.chains; nodes = c.self.inside.nodes.items } in
    let new : OlderView = record { chains = c.self.inside.chains; nodes = set c.self.inside.nodes.items c.in-Some.node (Some c.args.version) } in
    subst (λ o. Changes o c.args.list (Some (with_version c.args.version.txid c.args.version.row (older_in o c.args.list))) new) c.self.view_is
    (replaced_here c.args.version.txid c.args.version.row old new c.args.list c.in-Some.node c.size-size.ensures.apart
    (subst (λ o. IsFound (λ u. u == c.args.version.txid) o c.args.list (Some c.in-Some.node)) (sym c.self.view_is) (c.in-Some.ensures (λ u. u == c.args.version.txid) (λ t b fits post. grind (arith, post))))
    refl refl c.self.invariant (subst (λ o. IsOneOfEach (older_in o c.args.list)) (sym c.self.view_is) c.requires.one))

pub returns-clause-had : goal.returns-clause-had
returns-clause-had c = own_some c.args.version.txid c.args.self.now c.args.list c.in-Some.node c.requires.one (c.in-Some.ensures (λ u. u == c.args.version.txid) (λ t b fits post. grind (arith, post)))
