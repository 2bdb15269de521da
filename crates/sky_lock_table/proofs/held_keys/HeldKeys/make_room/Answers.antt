use Rattle.std.proofs.Common.{◌∙◌, ap}
use Rattle.sky_lock_table.specs.Sessions.{KeysBySession, keys_of}
use Rattle.sky_lock_table.proofs.HeldLemmas.{keys-padded}
use Rattle.sky_lock_table.proofs.held_keys.HeldKeys.make_room.Goals as goal

pub loop-alloc-preserved : goal.loop-alloc-preserved
loop-alloc-preserved c = λ s. ap (λ (ks : KeysBySession). keys_of ks s) c.in_ok-push.ensures.items ∙ keys-padded _ _ c.new.ensures.items s ∙ c.loop-alloc.invariant s
