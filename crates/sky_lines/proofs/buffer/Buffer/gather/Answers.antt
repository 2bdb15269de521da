use Rattle.std.proofs.Common.{◌≡◌, false, ap, ◌∙◌}
use Rattle.sky_lines.specs.Feeds.{is_settled}
use Rattle.sky_lines.proofs.GrowsLemmas.{Grows-both, OnErr-always, at_most-both, never_settled}
use Rattle.sky_lines.proofs.buffer.Buffer.gather.Goals as goal

pub reads-preserved : goal.reads-preserved
reads-preserved g c =
    let before = c.reads.invariant in
    let unsure : is_settled c.reads.self.pending ≡ false = cc in
    record {
      grows = Grows-both _ _ _ _ _ _ before.grows c.fill.ensures.grows;
      never_falls = at_most-both _ _ _ before.never_falls c.fill.ensures.never_falls;
      stays = λ reliable. c.fill.ensures.stays (before.stays reliable);
      settled = λ was. absurd (never_settled _ _ unsure was (before.settled was).0);
    }

pub returns-in_err-fill-clause-grows : goal.returns-in_err-fill-clause-grows
returns-in_err-fill-clause-grows g c = Grows-both _ _ _ _ _ _ c.reads.invariant.grows c.fill.ensures.grows

pub returns-in_err-fill-clause-err : goal.returns-in_err-fill-clause-err
returns-in_err-fill-clause-err g c =
    let unsure : is_settled c.reads.self.pending ≡ false = cc in
    OnErr-always c.from_residual.result (ap is_settled c.in_err-fill.ensures.err ∙ unsure)

pub returns-in_err-fill-clause-relied : goal.returns-in_err-fill-clause-relied
returns-in_err-fill-clause-relied g c = OnErr-always c.from_residual.result (λ reliable. c.in_err-fill.ensures.relied (c.reads.invariant.stays reliable))

pub returns-in_err-fill-clause-settled : goal.returns-in_err-fill-clause-settled
returns-in_err-fill-clause-settled g c = λ was.
    let unsure : is_settled c.reads.self.pending ≡ false = cc in
    absurd (never_settled _ _ unsure was (c.reads.invariant.settled was).0)

pub returns-then-branch-eq0-clause-grows : goal.returns-then-branch-eq0-clause-grows
returns-then-branch-eq0-clause-grows g c = Grows-both _ _ _ _ _ _ c.reads.invariant.grows c.fill.ensures.grows

pub returns-then-branch-eq0-clause-settled : goal.returns-then-branch-eq0-clause-settled
returns-then-branch-eq0-clause-settled g c = λ was.
    let unsure : is_settled c.reads.self.pending ≡ false = cc in
    absurd (never_settled _ _ unsure was (c.reads.invariant.settled was).0)
