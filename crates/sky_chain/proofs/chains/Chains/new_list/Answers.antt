use Rattle.std.proofs.Common.{◌≡◌, [], ◌∷◌, ◌++◌, ap, ◌∙◌, arith}
use Rattle.sky_chain.specs.Links.{empty_ends}
use Rattle.sky_chain.proofs.Reading.{seen, shown_as, changed}
use Rattle.sky_chain.proofs.Numbers.{added_kept, reused_kept, free_number_within}
use Rattle.sky_chain.proofs.chains.Chains.new_list.Goals as goal

pub invariant_of-self-then-list : goal.invariant_of-self-then-list
invariant_of-self-then-list c =
    let is : c.push.new.self.items ≡ c.self.inside.lists.items ++ empty_ends ∷ [] = c.in_ok-push.ensures.items ∙ ap (λ e. c.self.inside.lists.items ++ e ∷ []) c.empty.ensures in
    let k = added_kept c.self.invariant.2 _ is (omega (arith, c.push.new.self.ok.0, c.push.new.self.ok.1, c.push.new.self.small)) in
    (_, _, k)

pub returns-then-list-clause-lists : goal.returns-then-list-clause-lists
returns-then-list-clause-lists c l =
    let is : c.push.new.self.items ≡ c.self.inside.lists.items ++ empty_ends ∷ [] = c.in_ok-push.ensures.items ∙ ap (λ e. c.self.inside.lists.items ++ e ∷ []) c.empty.ensures in
    let k = added_kept c.self.invariant.2 _ is (omega (arith, c.push.new.self.ok.0, c.push.new.self.ok.1, c.push.new.self.small)) in
    rw (c.len-list.ensures, c.self.inside.lists.ok.0) (shown_as k l ∙ changed c.self.invariant.2 _ c.self.view_is _ _ l)

pub index-requires : goal.index-requires
index-requires c = omega (arith, c.self.inside.lists.ok.0, free_number_within c.self.invariant.2 c.if-list.false)

pub index_mut-requires : goal.index_mut-requires
index_mut-requires c = omega (arith, c.self.inside.lists.ok.0, free_number_within c.self.invariant.2 c.if-list.false)

pub invariant_of-self-2 : goal.invariant_of-self-2
invariant_of-self-2 c =
    let k = reused_kept c.self.invariant.2 _ c.index.ensures c.if-list.false in
    rw c.empty-2.ensures (_, _, k.1)

pub returns-clause-new : goal.returns-clause-new
returns-clause-new c = seen c.self.invariant.2 _ c.self.view_is _ ∙ (reused_kept c.self.invariant.2 _ c.index.ensures c.if-list.false).0

pub returns-clause-lists : goal.returns-clause-lists
returns-clause-lists c l =
    let k = reused_kept c.self.invariant.2 _ c.index.ensures c.if-list.false in
    rw c.empty-2.ensures (shown_as k.1 l) ∙ changed c.self.invariant.2 _ c.self.view_is _ _ l
