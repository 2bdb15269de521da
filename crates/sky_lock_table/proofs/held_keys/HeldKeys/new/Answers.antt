use Rattle.std.proofs.Common.{sym, subst}
use Rattle.sky_lock_table.specs.Sessions.{KeysBySession, keys_of}
use Rattle.sky_lock_table.proofs.HeldLemmas.{AreOnce, none_once}
use Rattle.sky_lock_table.proofs.held_keys.HeldKeys.new.Goals as goal

pub invariant_of-result : goal.invariant_of-result
invariant_of-result c = λ s. subst (λ (ks : KeysBySession). AreOnce (keys_of ks s)) (sym c.new.ensures.items) none_once
