use Rattle.std.proofs.Common.{sym, ◌∙◌}
use Rattle.std.specs.Option.{option_copied}
use Rattle.sky_fits.proofs.ValueLemmas.{handed}
use Rattle.sky_model.specs.declared.stop.Stop.TheVariants.{Refused}
use Rattle.sky_model.specs.Gates.{gated}
use Rattle.sky_model.specs.StepRows.{writes_key}
use Rattle.sky_state.specs.Seen.{seen}
use Rattle.sky_row_writes.proofs.WrittenLemmas.{gated-has_room, gated-no_room, gated-no_id}
use Rattle.sky_row_writes.proofs.row_writes.tell_write.Goals as goal

pub returns-in_err-txid-clause-err : goal.returns-in_err-txid-clause-err
returns-in_err-txid-clause-err g c =
    let old = option_copied c.args.old in
    let new = option_copied c.args.new in
    handed c.from_residual.result (Refused c.in_err-txid.field-0.0) (gated g.G.WriteGate.rule c.args.gate.now (writes_key (seen c.args.state.now) c.args.who c.args.key.now.table c.args.key.now.key old new))
    c.from_residual.ensures.1 (gated-no_id g.G.WriteGate.rule c.args.gate.now (seen c.args.state.now) c.args.who c.args.key.now.table c.args.key.now.key old new c.in_err-txid.field-0.0 c.in_err-txid.ensures.err)

pub returns-then-not-room-clause-err : goal.returns-then-not-room-clause-err
returns-then-not-room-clause-err g c =
    gated-no_room g.G.WriteGate.rule c.args.gate.now (seen c.args.state.now) c.args.who c.in_ok-txid.txid c.args.key.now.table c.args.key.now.key (option_copied c.args.old) (option_copied c.args.new)
    c.in_ok-txid.ensures.ok (sym c.room.ensures ∙ c.if-not-room.true)

pub returns-clause-does : goal.returns-clause-does
returns-clause-does g c =
    gated-has_room g.G.WriteGate.rule c.args.gate.now (seen c.args.state.now) c.args.who c.in_ok-txid.txid c.args.key.now.table c.args.key.now.key (option_copied c.args.old) (option_copied c.args.new)
    c.in_ok-txid.ensures.ok (sym c.room.ensures ∙ c.if-not-room.false)
