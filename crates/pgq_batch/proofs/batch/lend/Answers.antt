use Rattle.std.proofs.Common.{◌≡◌, ◌+◌, ◌≤◌, ◌++◌, ◌∷◌, ℕ, List, [], length, filter, map, drop, slice_index_or, ap, sym, append_assoc, ◌∙◌, arith, rules}
use Rattle.std.proofs.lemmas.List.{length_push, length-append}
use Rattle.pgq_tables.specs.Tables.{Stored}
use Rattle.pgq_tables.specs.ById.{by_id}
use Rattle.pgq_tables.specs.Listed.{is_listed}
use Rattle.pgq_tables.specs.Views.{LookedView}
use Rattle.pgq_batch.specs.Placed.{by_place}
use Rattle.pgq_batch.specs.Looked.{ages, lent_events}
use Rattle.pgq_batch.proofs.Ages.{passing_of, length-ages, sorted_out, one_more_table, all_tables}
use Rattle.pgq_batch.proofs.Lent.{next-left, some-left, next-looked}
use Rattle.pgq_batch.proofs.batch.lend.Goals as goal

pub loop-looked-init : goal.loop-looked-init
loop-looked-init c = search rules

pub collect-requires-clause-table : goal.collect-requires-clause-table
collect-requires-clause-table c =
    (c.requires.each (length c.loop-looked.yielded) c.in-Some.looked (next-left c.args.prev.now c.args.cur.now c.args.tables.now.tables c.args.looks.items c.loop-looked.yielded _ _ c.in-Some.looked c.requires c.loop-looked.invariant.0 c.in-Some.ensures.steps.0)).within

pub collect-requires-clause-sound : goal.collect-requires-clause-sound
collect-requires-clause-sound c =
    (c.requires.each (length c.loop-looked.yielded) c.in-Some.looked (next-left c.args.prev.now c.args.cur.now c.args.tables.now.tables c.args.looks.items c.loop-looked.yielded _ _ c.in-Some.looked c.requires c.loop-looked.invariant.0 c.in-Some.ensures.steps.0)).sound

pub collect-requires-clause-ends : goal.collect-requires-clause-ends
collect-requires-clause-ends c =
    (c.requires.each (length c.loop-looked.yielded) c.in-Some.looked (next-left c.args.prev.now c.args.cur.now c.args.tables.now.tables c.args.looks.items c.loop-looked.yielded _ _ c.in-Some.looked c.requires c.loop-looked.invariant.0 c.in-Some.ensures.steps.0)).ends

pub loop-looked-preserved : goal.loop-looked-preserved
loop-looked-preserved c =
    let ts = c.args.tables.now.tables in
    let lent : List LookedView = c.loop-looked.yielded in
    let looked : LookedView = c.in-Some.looked in
    let list = slice_index_or ts.lists looked.table [] in
    let q = is_listed c.args.prev.now c.args.cur.now c.args.sub in
    let turn : ℕ = length lent in
    let inv = c.loop-looked.invariant in
    let there = next-left c.args.prev.now c.args.cur.now ts c.args.looks.items lent _ _ looked c.requires inv.0 c.in-Some.ensures.steps.0 in
    let next : drop turn (ages ts) ≡ list ∷ drop (turn + 1) (ages ts) = next-looked c.args.prev.now c.args.cur.now ts c.args.looks.items turn looked c.requires there (some-left c.args.looks.items lent _ _ looked inv.0 c.in-Some.ensures.steps.0) in
    let events : lent_events c.move_to.new.events.items ≡ lent_events c.loop-looked.events.items ++ map Stored.event (filter q list) =
    c.in_ok-move_to.ensures
    ∙ ap (λ xs. lent_events c.loop-looked.events.items ++ map (λ x. x.1) xs) (c.in_ok-sort_by_place.ensures ∙ ap by_place c.in_ok-found.ensures)
    ∙ ap (λ xs. lent_events c.loop-looked.events.items ++ xs) (sorted_out q list) in (
      inv.0 ∙ ap (λ xs. lent ++ xs) c.in-Some.ensures.steps.0 ∙ sym (append_assoc lent (looked ∷ []) c.next.new.self.rest.items),
      ap (λ n. lent_events c.move_to.new.events.items ++ passing_of q (drop n (ages ts))) (length_push lent looked)
          ∙ one_more_table q list (drop turn (ages ts)) (drop (turn + 1) (ages ts)) _ _ (passing_of q (ages ts)) next events inv.1,
    )

pub returns : goal.returns
returns c =
    let ts = c.args.tables.now.tables in
    let q = is_listed c.args.prev.now c.args.cur.now c.args.sub in
    let lent : List LookedView = c.loop-looked.yielded in
    let none : length c.loop-looked.looked-iterator.rest.items ≡ 0 = search rules in
    let all = ap length c.loop-looked.invariant.0 ∙ length-append lent c.loop-looked.looked-iterator.rest.items in
    let past : length (ages ts) ≤ length lent = let count = c.requires.count in let aged = length-ages ts in omega arith in
    c.in_ok-sort_by_id.ensures ∙ ap by_id (all_tables q (ages ts) (length lent) (lent_events c.loop-looked.events.items) past c.loop-looked.invariant.1)
