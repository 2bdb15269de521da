use Rattle.pgq_parts.specs.Seen.{seen_database}
use Rattle.pgq_parts.proofs.Daemons.{IsLeft, steps_end}
use Rattle.pgq_db.proofs.db.Db.begin_switches.Given as goal

abbrev pub invariant-loop-place : goal.invariant-loop-place
invariant-loop-place g l = IsLeft (steps_end l.fn.now) (seen_database l.fn.self) (seen_database l.self) l.place
