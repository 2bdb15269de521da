use Rattle.std.proofs.Common.{◌∙◌, ap, length}
use Rattle.sky_chain.proofs.Reading.{shown_as, changed}
use Rattle.sky_chain.proofs.Pushing.{push_within, pushed_kept, push_unlinked}
use Rattle.sky_chain.proofs.chains.Chains.push.Goals as goal

pub insert-requires-clause-before : goal.insert-requires-clause-before
insert-requires-clause-before c =
    rw c.deref_mut.ensures.value (push_within c.self.invariant.2 _ c.self.view_is c.requires.spare _ _ c.take_spare-node.ensures.links c.take_spare-node.ensures.node _ _ _ c.requires.place.0 c.requires.place.1 c.requires.place.2).0

pub insert-requires-clause-after : goal.insert-requires-clause-after
insert-requires-clause-after c =
    rw c.deref_mut.ensures.value (push_within c.self.invariant.2 _ c.self.view_is c.requires.spare _ _ c.take_spare-node.ensures.links c.take_spare-node.ensures.node _ _ _ c.requires.place.0 c.requires.place.1 c.requires.place.2).1

pub invariant_of-self : goal.invariant_of-self
invariant_of-self c =
    let k = pushed_kept c.self.invariant.2 _ c.self.view_is c.requires.spare _ _ c.take_spare-node.ensures.links c.take_spare-node.ensures.node _ _ _ c.requires.place.0 c.requires.place.1 c.requires.place.2
    c.index_mut-ends.result.now c.insert.new.ends c.take_spare-node.new.free c.take_spare-node.new.links.len c.insert.new.links c.index_mut-ends.ensures.value c.take_spare-node.ensures.free
    (rw c.deref_mut.ensures.value at c.insert.ensures.links) c.insert.ensures.ends (c.insert.auto.links ∙ ap length c.deref_mut.ensures.value) c.take_spare-node.new.links.ok.0 in
    rw c.take_spare-node.ensures.capacity (_, k.0, k.1)

pub returns-clause-lists : goal.returns-clause-lists
returns-clause-lists c front back place l =
    let k = pushed_kept c.self.invariant.2 _ c.self.view_is c.requires.spare _ _ c.take_spare-node.ensures.links c.take_spare-node.ensures.node _ _ _ front back place
    c.index_mut-ends.result.now c.insert.new.ends c.take_spare-node.new.free c.take_spare-node.new.links.len c.insert.new.links c.index_mut-ends.ensures.value c.take_spare-node.ensures.free
    (rw c.deref_mut.ensures.value at c.insert.ensures.links) c.insert.ensures.ends (c.insert.auto.links ∙ ap length c.deref_mut.ensures.value) c.take_spare-node.new.links.ok.0 in
    shown_as {spares = k.0} k.1 l ∙ changed c.self.invariant.2 _ c.self.view_is _ _ l

pub returns-clause-unlinked : goal.returns-clause-unlinked
returns-clause-unlinked c =
    (push_unlinked c.self.invariant.2 _ c.self.view_is c.requires.spare _ _ c.take_spare-node.ensures.links c.take_spare-node.ensures.node _ _ _ c.requires.place.0 c.requires.place.1 c.requires.place.2).0

pub returns-clause-within : goal.returns-clause-within
returns-clause-within c =
    (push_unlinked c.self.invariant.2 _ c.self.view_is c.requires.spare _ _ c.take_spare-node.ensures.links c.take_spare-node.ensures.node _ _ _ c.requires.place.0 c.requires.place.1 c.requires.place.2).1
