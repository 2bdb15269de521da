use Rattle.std.proofs.Common.{◌≡◌, false, take}
use Rattle.std.specs.List.{list_any}
use Rattle.sky_model.specs.StepTrigger.{has_name}
use Rattle.pgq_queues.proofs.traced.Traced.has.Given as goal

-- none of the first triggers has the name
abbrev pub invariant-loop-n : goal.invariant-loop-n
invariant-loop-n l = list_any (λ t. has_name l.name t.name) (take l.n l.self.triggers) ≡ false
