use Rattle.std.proofs.Common.{◌+◌, ◌<◌, length, drop, filter, refl, sym, ap, ◌∙◌, subst, Some, arith}
use Rattle.sky_val.specs.declared.event.Event.{Event}
use Rattle.sky_model.specs.StepApply.{picks}
use Rattle.sky_state.specs.Seen.{seen}
use Rattle.londiste_calls.specs.Picks.{pick_of}
use Rattle.londiste_apply.specs.Applying.{Works}
use Rattle.londiste_apply.proofs.Steps.{IsBetween, between-first, IsAfter, between-next, between-bad, between-done, head-may, made-as, marked-none, marked-same, marked-unmade, picked-here, picked-later, picked-few, none-left}
use Rattle.londiste_apply.proofs.apply.apply_all.Goals as goal

pub loop-event-init : goal.loop-event-init
loop-event-init g c = record { between = between-first (seen (g.R.RowStore.state c.args.rows.now)) c.args.txid _ c.requires.runs c.requires.may; present = refl }

-- one that isn't picked is passed over
pub loop-event-preserved-then-not-picks : goal.loop-event-preserved-then-not-picks
loop-event-preserved-then-not-picks g c =
    let p = picks c.args.leaf.now (pick_of c.args.pick.now) in
    let events = c.args.events.now in
    let within : c.loop-event.event-index < length events = omega arith in
    record {
      between = subst (λ rest. IsBetween (seen (g.R.RowStore.state c.args.rows.now)) (seen (g.R.RowStore.state c.loop-event.rows)) c.args.txid (filter p events) rest c.loop-event.many)
          (picked-later p events c.loop-event.event-index c.event-item.result within c.event-item.is (sym c.picks.ensures ∙ c.if-not-picks.true)) c.loop-event.invariant.between;
      present = c.loop-event.invariant.present;
    }

pub apply_event-requires-clause-may : goal.apply_event-requires-clause-may
apply_event-requires-clause-may g c =
    let p = picks c.args.leaf.now (pick_of c.args.pick.now) in
    let events = c.args.events.now in
    let within : c.loop-event.event-index < length events = omega arith in
    head-may (seen (g.R.RowStore.state c.loop-event.rows)) c.args.txid c.event-item.result _ _
    (picked-here p events c.loop-event.event-index c.event-item.result within c.event-item.is (sym c.picks.ensures ∙ c.if-not-picks.false)) c.loop-event.invariant.between.may

pub apply_event-requires-clause-present : goal.apply_event-requires-clause-present
apply_event-requires-clause-present g c = c.in_ok-snapshot.ensures ∙ c.loop-event.invariant.present

pub overflow_add-many : goal.overflow_add-many
overflow_add-many g c =
    let p = picks c.args.leaf.now (pick_of c.args.pick.now) in
    let events = c.args.events.now in
    let within : c.loop-event.event-index < length events = omega arith in
    let few : c.loop-event.many < length events
    = picked-few p events c.loop-event.many c.event-item.result _ _ c.loop-event.invariant.between.count
    (picked-here p events c.loop-event.event-index c.event-item.result within c.event-item.is (sym c.picks.ensures ∙ c.if-not-picks.false)) in
    omega arith

pub loop-event-preserved : goal.loop-event-preserved
loop-event-preserved g c =
    let p = picks c.args.leaf.now (pick_of c.args.pick.now) in
    let events = c.args.events.now in
    let within : c.loop-event.event-index < length events = omega arith in
    let after : IsAfter (seen (g.R.RowStore.state c.args.rows.now)) (seen (g.R.RowStore.state c.loop-event.rows)) (seen (g.R.RowStore.state c.apply_event.new.rows)) c.args.txid (filter p events) (filter p (drop (c.loop-event.event-index + 1) events)) c.loop-event.many
    = between-next (seen (g.R.RowStore.state c.args.rows.now)) (seen (g.R.RowStore.state c.loop-event.rows)) c.args.txid (filter p events) c.event-item.result (filter p (drop (c.loop-event.event-index + 1) events)) c.loop-event.many
    (subst (λ rest. IsBetween (seen (g.R.RowStore.state c.args.rows.now)) (seen (g.R.RowStore.state c.loop-event.rows)) c.args.txid (filter p events) rest c.loop-event.many)
    (picked-here p events c.loop-event.event-index c.event-item.result within c.event-item.is (sym c.picks.ensures ∙ c.if-not-picks.false)) c.loop-event.invariant.between)
    (seen (g.R.RowStore.state c.apply_event.new.rows)) (made-as _ _ (seen (g.R.RowStore.state c.loop-event.rows)) (seen (g.R.RowStore.state c.apply_event.new.rows)) _ c.if-not-is_made.false c.in_ok-is_made.ensures.made) in
    record { between = after.between; present = c.loop-event.invariant.present ∙ sym after.present }

-- one can't be applied
pub returns-then-not-is_made-clause-work : goal.returns-then-not-is_made-clause-work
returns-then-not-is_made-clause-work g c =
    let p = picks c.args.leaf.now (pick_of c.args.pick.now) in
    let events = c.args.events.now in
    let within : c.loop-event.event-index < length events = omega arith in
    subst (λ id. Works (record { many = c.loop-event.many; bad = Some id }) (seen (g.R.RowStore.state c.args.rows.now)) (seen (g.R.RowStore.state c.apply_event.new.rows)) c.args.txid (filter p events)) (sym (ap Event.ev_id c.event.view_is))
    (between-bad (seen (g.R.RowStore.state c.args.rows.now)) (seen (g.R.RowStore.state c.loop-event.rows)) c.args.txid (filter p events) c.event-item.result (filter p (drop (c.loop-event.event-index + 1) events)) c.loop-event.many
    (subst (λ rest. IsBetween (seen (g.R.RowStore.state c.args.rows.now)) (seen (g.R.RowStore.state c.loop-event.rows)) c.args.txid (filter p events) rest c.loop-event.many)
    (picked-here p events c.loop-event.event-index c.event-item.result within c.event-item.is (sym c.picks.ensures ∙ c.if-not-picks.false)) c.loop-event.invariant.between)
    (seen (g.R.RowStore.state c.apply_event.new.rows)) (made-as _ _ (seen (g.R.RowStore.state c.loop-event.rows)) (seen (g.R.RowStore.state c.apply_event.new.rows)) _ c.if-not-is_made.true c.in_ok-is_made.ensures.made))

pub returns-then-not-is_made-clause-marked : goal.returns-then-not-is_made-clause-marked
returns-then-not-is_made-clause-marked g c =
    marked-unmade (seen (g.R.RowStore.state c.args.rows.now)) (seen (g.R.RowStore.state c.loop-event.rows)) (seen (g.R.RowStore.state c.apply_event.new.rows)) _ (made-as _ _ (seen (g.R.RowStore.state c.loop-event.rows)) (seen (g.R.RowStore.state c.apply_event.new.rows)) _ c.if-not-is_made.true c.in_ok-is_made.ensures.made) c.loop-event.invariant.between.marked

pub returns-in_err-is_made-clause-marked : goal.returns-in_err-is_made-clause-marked
returns-in_err-is_made-clause-marked g c = marked-same (seen (g.R.RowStore.state c.args.rows.now)) (seen (g.R.RowStore.state c.loop-event.rows)) (seen (g.R.RowStore.state c.apply_event.new.rows)) c.loop-event.invariant.between.marked c.in_err-is_made.ensures.err

pub returns-in_err-snapshot-clause-marked : goal.returns-in_err-snapshot-clause-marked
returns-in_err-snapshot-clause-marked g c = marked-none (seen (g.R.RowStore.state c.args.rows.now))

-- all were looked at
pub returns-clause-work : goal.returns-clause-work
returns-clause-work g c =
    between-done (seen (g.R.RowStore.state c.args.rows.now)) (seen (g.R.RowStore.state c.loop-event.rows)) c.args.txid _ _ c.loop-event.many c.loop-event.invariant.between
    (none-left (picks c.args.leaf.now (pick_of c.args.pick.now)) c.args.events.now c.loop-event.event-index (omega arith))

pub returns-clause-marked : goal.returns-clause-marked
returns-clause-marked g c = c.loop-event.invariant.between.marked
