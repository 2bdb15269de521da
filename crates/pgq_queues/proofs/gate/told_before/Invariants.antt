use Rattle.std.proofs.Common.{◌≡◌, ◌≤◌, option_copied}
use Rattle.pgq_queues.specs.EventRule.{count_of}
use Rattle.pgq_queues.proofs.Telling.{upto}
use Rattle.pgq_queues.proofs.gate.told_before.Given as goal

-- those of the first triggers are counted
abbrev pub invariant-loop-earlier : goal.invariant-loop-earlier
invariant-loop-earlier l = record {
  counted : l.count ≡ count_of l.queue (upto l.traced (option_copied l.old) (option_copied l.new) l.earlier);
  few : l.count ≤ l.earlier;
}
