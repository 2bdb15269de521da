use Rattle.std.proofs.Common.{◌≡◌, ◌+◌, ◌<◌, ◌≤◌, ◌∷◌, ◌==◌, ℕ, [], Some, None, length, filter, map, drop, slice_index_or, refl, ap, sym, subst, ◌∙◌, arith}
use Rattle.std.specs.Prelude.{find}
use Rattle.sky_val.specs.declared.event.Event.{Event}
use Rattle.pgq_tables.specs.Tables.{Stored, Tables}
use Rattle.pgq_tables.specs.Listed.{is_listed, listed_in}
use Rattle.pgq_batch.specs.Bound.{is_between, looks_for_ends}
use Rattle.pgq_batch.specs.Looked.{ages}
use Rattle.pgq_batch.proofs.Ages.{next_is, length-ages, looks-next, looks-all, found_here, found_later, found_nowhere, find-by_id}
use Rattle.pgq_batch.proofs.batch.find.Goals as goal

pub returns-in-Some-clause-found : goal.returns-in-Some-clause-found
returns-in-Some-clause-found c =
    let ts = c.args.tables.now.tables in
    let now : Tables = c.loop-turn.tables.tables in
    let table : ℕ = c.table_by_age-table.result in
    let list = slice_index_or ts.lists table [] in
    let q = is_listed c.args.prev.now c.args.cur.now c.args.sub in
    let p = λ (e : Event). e.ev_id == c.args.id in
    let inv = c.loop-turn.invariant in
    let turn : ℕ = c.loop-turn.turn in
    let within : turn < length (ages ts) = let test = c.loop-turn-test.true in let count = c.len-turn-end.ensures.value in let aged = length-ages ts in omega arith in
    let next : drop turn (ages ts) ≡ list ∷ drop (turn + 1) (ages ts) = next_is ts now turn table inv.0 within c.table_by_age-table.ensures.table in
    let found : Some c.in-Some.event ≡ find p (map Stored.event (filter q list)) =
    sym c.in-Some.is ∙ c.in_ok-event.ensures.found ∙ ap (λ (t : Tables). find p (map Stored.event (filter q (slice_index_or t.lists table [])))) inv.0 in
    found_here p q list (drop turn (ages ts)) (drop (turn + 1) (ages ts)) (Some c.in-Some.event) _ next found refl inv.1 ∙ sym (find-by_id c.args.id (listed_in c.args.prev.now c.args.cur.now c.args.sub ts))

pub returns-in-Some-clause-upper : goal.returns-in-Some-clause-upper
returns-in-Some-clause-upper c =
    let ts = c.args.tables.now.tables in
    let now : Tables = c.loop-turn.tables.tables in
    let table : ℕ = c.table_by_age-table.result in
    let list = slice_index_or ts.lists table [] in
    let inv = c.loop-turn.invariant in
    let turn : ℕ = c.loop-turn.turn in
    let within : turn < length (ages ts) = let test = c.loop-turn-test.true in let count = c.len-turn-end.ensures.value in let aged = length-ages ts in omega arith in
    let next : drop turn (ages ts) ≡ list ∷ drop (turn + 1) (ages ts) = next_is ts now turn table inv.0 within c.table_by_age-table.ensures.table in
    let spent : c.first_with_id.new.tables.reads ≤ c.loop-turn.tables.reads + (length (filter (is_between c.args.prev.now c.args.cur.now) list) + looks_for_ends list) =
    subst (λ (t : Tables). c.first_with_id.new.tables.reads ≤ c.loop-turn.tables.reads + (length (filter (is_between c.args.prev.now c.args.cur.now) (slice_index_or t.lists table [])) + looks_for_ends (slice_index_or t.lists table []))) inv.0 c.in_ok-event.ensures.upper in
    let left = looks-next c.args.prev.now c.args.cur.now list (drop turn (ages ts)) (drop (turn + 1) (ages ts)) next in
    let before = inv.2 in
    let all = looks-all c.args.prev.now c.args.cur.now ts in
    omega arith

pub loop-turn-preserved : goal.loop-turn-preserved
loop-turn-preserved c =
    let ts = c.args.tables.now.tables in
    let now : Tables = c.loop-turn.tables.tables in
    let table : ℕ = c.table_by_age-table.result in
    let list = slice_index_or ts.lists table [] in
    let q = is_listed c.args.prev.now c.args.cur.now c.args.sub in
    let p = λ (e : Event). e.ev_id == c.args.id in
    let inv = c.loop-turn.invariant in
    let turn : ℕ = c.loop-turn.turn in
    let within : turn < length (ages ts) = let test = c.loop-turn-test.true in let count = c.len-turn-end.ensures.value in let aged = length-ages ts in omega arith in
    let next : drop turn (ages ts) ≡ list ∷ drop (turn + 1) (ages ts) = next_is ts now turn table inv.0 within c.table_by_age-table.ensures.table in
    let found : None ≡ find p (map Stored.event (filter q list)) =
    sym c.in_default.is ∙ c.in_ok-event.ensures.found ∙ ap (λ (t : Tables). find p (map Stored.event (filter q (slice_index_or t.lists table [])))) inv.0 in
    let spent : c.first_with_id.new.tables.reads ≤ c.loop-turn.tables.reads + (length (filter (is_between c.args.prev.now c.args.cur.now) list) + looks_for_ends list) =
    subst (λ (t : Tables). c.first_with_id.new.tables.reads ≤ c.loop-turn.tables.reads + (length (filter (is_between c.args.prev.now c.args.cur.now) (slice_index_or t.lists table [])) + looks_for_ends (slice_index_or t.lists table []))) inv.0 c.in_ok-event.ensures.upper in
    let left = looks-next c.args.prev.now c.args.cur.now list (drop turn (ages ts)) (drop (turn + 1) (ages ts)) next in
    let before = inv.2 in (
      c.first_with_id.ensures.same ∙ inv.0,
      found_later p q list (drop turn (ages ts)) (drop (turn + 1) (ages ts)) None _ next found refl inv.1,
      (omega arith),
    )

pub returns-clause-found : goal.returns-clause-found
returns-clause-found c =
    let ts = c.args.tables.now.tables in
    let q = is_listed c.args.prev.now c.args.cur.now c.args.sub in
    let inv = c.loop-turn.invariant in
    let past : length (ages ts) ≤ c.loop-turn.turn = let count = c.len-turn-end.ensures.value in let aged = length-ages ts in let test = c.loop-turn-test.false in omega arith in
    found_nowhere (λ e. e.ev_id == c.args.id) q (ages ts) c.loop-turn.turn _ past inv.1 ∙ sym (find-by_id c.args.id (listed_in c.args.prev.now c.args.cur.now c.args.sub ts))

pub returns-clause-upper : goal.returns-clause-upper
returns-clause-upper c =
    let spent = c.loop-turn.invariant.2 in
    let all = looks-all c.args.prev.now c.args.cur.now c.args.tables.now.tables in
    omega arith
