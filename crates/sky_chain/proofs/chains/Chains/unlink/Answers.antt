use Rattle.std.proofs.Common.{◌∙◌, ap, length, arith, add-one}
use Rattle.sky_chain.proofs.Reading.{linked_within, shown_as, changed}
use Rattle.sky_chain.proofs.Removing.{unlink_fits, unlink_within, unlinked_kept}
use Rattle.sky_chain.proofs.chains.Chains.unlink.Goals as goal

pub index-requires : goal.index-requires
index-requires c = omega (arith, c.self.inside.links.ok.0, linked_within c.self.invariant.2 _ c.self.view_is _ c.requires)

pub index_mut-requires : goal.index_mut-requires
index_mut-requires c = omega (arith, c.self.inside.lists.ok.0, (unlink_within c.self.invariant.2 _ c.self.view_is c.requires.0 _ c.requires.1 c.requires.2 c.requires.3 _ c.index.ensures).2)

pub join-requires-clause-before : goal.join-requires-clause-before
join-requires-clause-before c = rw c.deref_mut.ensures.value (unlink_within c.self.invariant.2 _ c.self.view_is c.requires.0 _ c.requires.1 c.requires.2 c.requires.3 _ c.index.ensures).0

pub join-requires-clause-after : goal.join-requires-clause-after
join-requires-clause-after c = rw c.deref_mut.ensures.value (unlink_within c.self.invariant.2 _ c.self.view_is c.requires.0 _ c.requires.1 c.requires.2 c.requires.3 _ c.index.ensures).1

pub index_mut-requires-2 : goal.index_mut-requires-2
index_mut-requires-2 c = omega (arith, c.self.inside.links.ok.0, linked_within c.self.invariant.2 _ c.self.view_is _ c.requires)

pub overflow_add-self : goal.overflow_add-self
overflow_add-self c = omega (arith, unlink_fits c.self.invariant.2 _ c.self.view_is c.requires.0 _ c.requires.1 c.requires.2 c.requires.3, c.self.invariant.2.room, c.self.invariant.2.small)

pub invariant_of-self : goal.invariant_of-self
invariant_of-self c =
    let k = unlinked_kept c.self.invariant.2 _ c.self.view_is c.requires.0 _ c.requires.1 c.requires.2 c.requires.3 _ c.index.ensures _ _ c.self.inside.links.len c.join.new.links c.index_mut.ensures.value c.join.ensures.ends (rw c.deref_mut.ensures.value at c.join.ensures.links) (c.join.auto.links ∙ ap length c.deref_mut.ensures.value) c.self.inside.links.ok.0 in
    rw (c.spare.ensures, add-one) (_, _, k)

pub returns-clause-lists : goal.returns-clause-lists
returns-clause-lists c list front back between l =
    let k = unlinked_kept c.self.invariant.2 _ c.self.view_is list _ front back between _ c.index.ensures _ _ c.self.inside.links.len c.join.new.links c.index_mut.ensures.value c.join.ensures.ends (rw c.deref_mut.ensures.value at c.join.ensures.links) (c.join.auto.links ∙ ap length c.deref_mut.ensures.value) c.self.inside.links.ok.0 in
    rw c.spare.ensures (shown_as k l) ∙ changed c.self.invariant.2 _ c.self.view_is _ _ l
