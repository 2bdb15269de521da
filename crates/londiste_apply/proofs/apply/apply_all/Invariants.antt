use Rattle.std.proofs.Common.{◌≡◌, drop, filter}
use Rattle.sky_model.specs.ShownRows.{snapshot_now}
use Rattle.sky_model.specs.StepApply.{picks}
use Rattle.sky_state.specs.Seen.{seen}
use Rattle.londiste_calls.specs.Picks.{pick_of}
use Rattle.londiste_apply.proofs.Steps.{IsBetween}
use Rattle.londiste_apply.proofs.apply.apply_all.Given as goal

-- the events that are left; the snapshot by which they are applied stays the same
abbrev pub invariant-loop-event : goal.invariant-loop-event
invariant-loop-event g l =
    let p = picks l.leaf (pick_of l.pick) in
    record {
      between : IsBetween (seen (g.R.RowStore.state l.fn.rows)) (seen (g.R.RowStore.state l.rows)) l.txid (filter p l.events) (filter p (drop l.event-index l.events)) l.many;
      present : snapshot_now (seen (g.R.RowStore.state l.fn.rows)) ≡ snapshot_now (seen (g.R.RowStore.state l.rows));
    }
