use Rattle.std.proofs.Common.{◌≡◌, ◌+◌, ◌-◌, ◌≤◌, true, length}
use Rattle.sky_model.specs.Transcript.{most_in_line}
use Rattle.sky_lines.specs.Feeds.{is_settled, Grows}
use Rattle.sky_lines.proofs.buffer.Buffer.gather.Given as goal

abbrev pub invariant-reads : goal.invariant-reads
invariant-reads g l = record {
  grows : Grows l.initial.self.pending l.self.pending (g.S.Source.left l.initial.src) (g.S.Source.left l.src);
  never_falls : g.S.Source.faults l.initial.src ≤ g.S.Source.faults l.src;
  stays : g.S.Source.reliable l.initial.src → g.S.Source.reliable l.src;
  settled : is_settled l.initial.self.pending ≡ true → (l.self ≡ l.initial.self) × (l.src ≡ l.initial.src);
}

abbrev pub decreases-reads : goal.decreases-reads
decreases-reads g l = most_in_line + 1 - length l.self.pending
