use Rattle.std.proofs.Common.{◌<◌, length, sym, ap, ◌∙◌, subst}
use Rattle.sky_keys.specs.Waits.{is_waiting}
use Rattle.sky_locks.specs.Locks.{entry}
use Rattle.sky_model.specs.State.{RowPart}
use Rattle.sky_model.specs.ShownRows.{rows_by}
use Rattle.sky_model.specs.StepRows.{attempts}
use Rattle.sky_model.specs.Reader.{part_by_itself}
use Rattle.sky_model.specs.Gates.{gated, by_gate}
use Rattle.sky_model.specs.Settling.{turn_of, attempted}
use Rattle.sky_row_store.specs.Gives.{Adds}
use Rattle.sky_state.specs.Seen.{seen}
use Rattle.sky_keys.proofs.WaitLemmas.{is_waiting-without}
use Rattle.sky_session.proofs.LockLemmas.{adds-resumed}
use Rattle.sky_session.proofs.settling.resume.Goals as goal

pub attempt_key-ran-requires-clause-within : goal.attempt_key-ran-requires-clause-within
attempt_key-ran-requires-clause-within g c = subst (λ (p : RowPart). c.args.key.table < length p.tables) (sym c.waited-attempt.ensures.mark) c.requires.within

pub attempt_key-ran-requires-clause-awake : goal.attempt_key-ran-requires-clause-awake
attempt_key-ran-requires-clause-awake g c = ap (λ (p : RowPart). is_waiting c.args.who p.waiting) c.waited-attempt.ensures.mark ∙ is_waiting-without c.args.who (seen c.args.state.now).waiting

pub returns : goal.returns
returns g c =
    let gate = g.G.WriteGate.rule in
    let old = c.waited-attempt.new.self in
    let mid = seen old in
    let key = c.args.key in
    let checked = attempts mid ((rows_by mid).key c.args.who key.table key.key) c.args.who key.table key.key c.waited-attempt.result in
    adds-resumed gate c.args.gate.now (seen c.args.state.now) mid (seen c.or_refuse.new.state, c.or_refuse.new.gate) c.args.step.now c.or_refuse.new.step (entry c.args.who key) c.waited-attempt.ensures.mark
    (subst (λ attempt. Adds gate (mid, c.args.gate.now) (seen c.or_refuse.new.state, c.or_refuse.new.gate) c.args.step.now c.or_refuse.new.step (turn_of c.args.who (attempted (by_gate gate part_by_itself) (entry c.args.who key) attempt (mid, c.args.gate.now))))
    c.waited-attempt.ensures.taken
    (c.in_ok-or_refuse.ensures (old, c.args.gate.now) c.args.step.now (gated gate c.args.gate.now checked) c.attempt_key-ran.ensures))
