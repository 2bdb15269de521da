use Rattle.std.proofs.Common.{rules}
use Rattle.sky_model.specs.Kinds.{Set}
use Rattle.sky_model.specs.Grammar.{stop}
use Rattle.sky_script.proofs.ListLemmas.{so_far_none, last_more, last_ends, last_stops, last_memory}
use Rattle.sky_script.proofs.lists.sets.Goals as goal

pub returns-then-at_end : goal.returns-then-at_end
returns-then-at_end c =
    rw c.one.ensures (last_ends _ _ _ _ _ _ (so_far_none stop Set c.args.words.now) c.in_ok-first.ensures (c.at_end.ensures.none c.if-at_end.true))

pub returns-in_err-push : goal.returns-in_err-push
returns-in_err-push c = search (rules, last_memory)

pub loop-sets-init : goal.loop-sets-init
loop-sets-init c =
    rw (c.in_ok-push.ensures.items, c.new-sets.ensures.items)
    (last_more _ _ _ _ _ _ (so_far_none stop Set c.args.words.now) c.in_ok-first.ensures (c.at_end.ensures.some c.if-at_end.false))

pub returns-in_err-set : goal.returns-in_err-set
returns-in_err-set c =
    let stops = last_stops _ _ _ _ _ c.loop-sets.invariant c.in_err-set.ensures in
    search (rules, stops)

pub returns-in_err-push-2 : goal.returns-in_err-push-2
returns-in_err-push-2 c = search (rules, last_memory)

pub returns-then-at_end-2 : goal.returns-then-at_end-2
returns-then-at_end-2 c =
    rw (c.new.ensures, c.in_ok-push-2.ensures.items) (last_ends _ _ _ _ _ _ c.loop-sets.invariant c.in_ok-set.ensures (c.at_end-in-loop-sets.ensures.none c.if-at_end-2.true))

pub loop-sets-preserved : goal.loop-sets-preserved
loop-sets-preserved c =
    rw c.in_ok-push-2.ensures.items (last_more _ _ _ _ _ _ c.loop-sets.invariant c.in_ok-set.ensures (c.at_end-in-loop-sets.ensures.some c.if-at_end-2.false))
