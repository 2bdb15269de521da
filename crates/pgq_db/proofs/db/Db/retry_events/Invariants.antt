use Rattle.std.proofs.Common.{length}
use Rattle.pgq_parts.specs.Seen.{seen_database}
use Rattle.pgq_parts.proofs.Daemons.{IsRetrying}
use Rattle.pgq_db.proofs.db.Db.retry_events.Given as goal

-- fewer wait after each call that lets another one follow
abbrev pub decreases-loop : goal.decreases-loop
decreases-loop g l = length (seen_database l.self).retries

abbrev pub invariant-loop : goal.invariant-loop
invariant-loop g l = IsRetrying (seen_database l.fn.self) (seen_database l.self) l.fn.now
