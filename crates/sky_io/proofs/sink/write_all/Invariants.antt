use Rattle.std.proofs.Common.{◌≡◌, ◌-◌, ◌≤◌, length, take}
use Rattle.std.specs.Io.KnownBytes.{Appends}
use Rattle.sky_io.proofs.sink.write_all.Given as goal

abbrev pub invariant-loop-written : goal.invariant-loop-written
invariant-loop-written g l = record {
  in_range : l.written ≤ length l.piece;
  appends : Appends (g.S.Sink.held l.initial.sink) (g.S.Sink.held l.sink) (take l.written l.piece);
  never_falls : g.S.Sink.faults l.initial.sink ≤ g.S.Sink.faults l.sink;
  stays : g.S.Sink.reliable l.initial.sink → g.S.Sink.reliable l.sink;
  untouched : l.written ≡ 0 → l.sink ≡ l.initial.sink;
}

abbrev pub decreases-loop-written : goal.decreases-loop-written
decreases-loop-written g l = length l.piece - l.written
