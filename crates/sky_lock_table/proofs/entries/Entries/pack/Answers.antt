use Rattle.std.proofs.Common.{◌∙◌, ap, sym, is_some, rules, length}
use Rattle.std.proofs.lemmas.Fn.{filter_same}
use Rattle.sky_lock_table.specs.Waiters.{waiting_in, packed}
use Rattle.sky_lock_table.proofs.EntryLemmas.{waiting-packed}
use Rattle.sky_lock_table.proofs.entries.Entries.pack.Goals as goal

pub invariant_of-self : goal.invariant_of-self
invariant_of-self c =
    let kept = filter_same _ (λ e. is_some e) _ (λ x b f' t. search rules) _ _ c.retain.ensures.filtered in
    c.self.invariant ∙ sym (ap length (ap waiting_in kept ∙ waiting-packed c.self.inside.items.items))

pub returns : goal.returns
returns c =
    let kept = filter_same _ (λ e. is_some e) _ (λ x b f' t. search rules) _ _ c.retain.ensures.filtered in
    kept ∙ ap packed c.self.view_is
