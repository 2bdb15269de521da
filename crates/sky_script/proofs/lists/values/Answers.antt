use Rattle.std.proofs.Common.{rules}
use Rattle.sky_script.proofs.ListLemmas.{last_more, last_ends, last_stops, last_memory}
use Rattle.sky_script.proofs.lists.values.Goals as goal

pub returns-in_err-value : goal.returns-in_err-value
returns-in_err-value c =
    let stops = last_stops _ _ _ _ _ c.loop-values.invariant c.in_err-value.ensures in
    search (rules, stops)

pub returns-in_err-push : goal.returns-in_err-push
returns-in_err-push c = search (rules, last_memory)

pub returns-then-at_end : goal.returns-then-at_end
returns-then-at_end c =
    rw c.in_ok-push.ensures.items (last_ends _ _ _ _ _ _ c.loop-values.invariant c.in_ok-value.ensures (c.at_end.ensures.none c.if-at_end.true))

pub loop-values-preserved : goal.loop-values-preserved
loop-values-preserved c =
    rw c.in_ok-push.ensures.items (last_more _ _ _ _ _ _ c.loop-values.invariant c.in_ok-value.ensures (c.at_end.ensures.some c.if-at_end.false))
