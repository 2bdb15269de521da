use Rattle.std.proofs.Common.{◌∙◌, sym}
use Rattle.sky_chain.proofs.Reading.{seen, shown_as, changed}
use Rattle.sky_chain.proofs.Numbers.{freed_kept}
use Rattle.sky_chain.proofs.chains.Chains.free_list.Goals as goal

pub invariant_of-self : goal.invariant_of-self
invariant_of-self c =
    let k = freed_kept c.self.invariant.2 _ (sym (seen c.self.invariant.2 _ c.self.view_is _) ∙ c.requires) in
    rw c.freed.ensures (_, _, k)

pub returns-clause-lists : goal.returns-clause-lists
returns-clause-lists c l =
    let k = freed_kept c.self.invariant.2 _ (sym (seen c.self.invariant.2 _ c.self.view_is _) ∙ c.requires) in
    rw c.freed.ensures (shown_as k l) ∙ changed c.self.invariant.2 _ c.self.view_is _ _ l
