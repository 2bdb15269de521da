use Rattle.std.proofs.Common.{ℕ, List, Option, ◌≤◌, ◌-◌}
use Rattle.sky_model.specs.Transcript.{most_in_script}
use Rattle.sky_loop.specs.Goes.{Counts, Goes}
use Rattle.sky_loop.proofs.run.Run.finish.Given as goal

abbrev pub invariant-lines : goal.invariant-lines
invariant-lines g l = record {
  goes : (first : Option (List ℕ)) (bytes : List ℕ) → Goes g.D.Store.seen l.initial.self (g.S.Source.left l.initial.src) first (g.O.Sink.held l.initial.out) bytes
      → Goes g.D.Store.seen l.self (g.S.Source.left l.src) first (g.O.Sink.held l.out) bytes;
  counts : Counts l.self;
  src_kept : g.S.Source.faults l.initial.src ≤ g.S.Source.faults l.src;
  out_kept : g.O.Sink.faults l.initial.out ≤ g.O.Sink.faults l.out;
  src_stays : g.S.Source.reliable l.initial.src → g.S.Source.reliable l.src;
  out_stays : g.O.Sink.reliable l.initial.out → g.O.Sink.reliable l.out;
}

abbrev pub decreases-lines : goal.decreases-lines
decreases-lines g l = most_in_script - l.self.reader.taken
