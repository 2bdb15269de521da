use Rattle.std.proofs.Common.{◌≡◌, ◌+◌, ◌-◌, ◌^◌, ◌<◌, ◌≤◌, ◌∷◌, ℕ, [], length, drop, slice_index_or, ap, sym, subst, ◌∙◌, arith}
use Rattle.pgq_tables.specs.Tables.{Tables}
use Rattle.pgq_tables.specs.Listed.{is_listed, listed_in}
use Rattle.pgq_tables.specs.Views.{TablesView, so_many_more}
use Rattle.pgq_tables.specs.Views.{LookedView}
use Rattle.pgq_batch.specs.Bound.{digits, looks_for_ends}
use Rattle.pgq_batch.specs.Looked.{ages, looked_in, IsLookedAt, count_below}
use Rattle.pgq_batch.proofs.Ages.{next_is, length-ages, length-by_id, looks-next, looks-all}
use Rattle.pgq_batch.proofs.Between.{below_len, count_between, listed_between}
use Rattle.pgq_batch.proofs.Lent.{pass_between, looked-push, length-next, none-left}
use Rattle.pgq_batch.proofs.Looks.{so_many-upper, so_many-counts}
use Rattle.pgq_batch.proofs.batch.look.Goals as goal

pub look-requires-clause-end : goal.look-requires-clause-end
look-requires-clause-end c =
    let both = c.ends_between-first.ensures in
    let table : ℕ = c.table_by_age-table.result in
    let list = slice_index_or c.loop-turn.tables.tables.lists table [] in
    subst (λ (ts : Tables). c.ends_between-first.result.1 ≤ length (slice_index_or ts.lists table [])) (sym both.same)
    (let most = below_len c.args.cur.now.xmax list in let end = both.end in omega arith)

pub loop-turn-preserved : goal.loop-turn-preserved
loop-turn-preserved c =
    let ts = c.args.tables.now.tables in
    let now : Tables = c.loop-turn.tables.tables in
    let table : ℕ = c.table_by_age-table.result in
    let list = slice_index_or ts.lists table [] in
    let from = c.args.prev.now in
    let to = c.args.cur.now in
    let inv = c.loop-turn.invariant in
    let both = c.ends_between-first.ensures in
    let turn : ℕ = c.loop-turn.turn in
    let within : turn < length (ages ts) = let test = c.loop-turn-test.true in let count = c.len-turn-end.ensures.value in let aged = length-ages ts in omega arith in
    let next : drop turn (ages ts) ≡ list ∷ drop (turn + 1) (ages ts) = next_is ts now turn table inv.0 within c.table_by_age-table.ensures.table in
    let first : c.ends_between-first.result.0 ≡ count_below from.xmin list = both.first ∙ ap (λ (t : Tables). count_below from.xmin (slice_index_or t.lists table [])) inv.0 in
    let end : c.ends_between-first.result.1 ≡ count_below to.xmax list = both.end ∙ ap (λ (t : Tables). count_below to.xmax (slice_index_or t.lists table [])) inv.0 in
    let many : ℕ = c.ends_between-first.result.1 - c.ends_between-first.result.0 in
    let reads : c.look.new.self.reads ≡ so_many_more many c.ends_between-first.new.tables.reads = ap TablesView.reads c.look.ensures.counted in
    let up = so_many-upper many c.ends_between-first.new.tables.reads in
    let spent : c.ends_between-first.new.tables.reads ≤ c.loop-turn.tables.reads + looks_for_ends list = let ends = both.upper in let same = ap (λ (t : Tables). length (slice_index_or t.lists table [])) inv.0 in let digits_same = ap (λ (t : Tables). digits (length (slice_index_or t.lists table []))) inv.0 in omega arith in
    let most = count_between from to list in
    let left = looks-next from to list (drop turn (ages ts)) (drop (turn + 1) (ages ts)) next in
    let before = inv.2 in
    let at : c.look.result.table ≡ table = ap LookedView.table c.look.ensures.looked in
    let here : slice_index_or (ages ts) turn [] ≡ list = sym (ap (λ (t : Tables). slice_index_or (ages t) turn []) inv.0) ∙ c.table_by_age-table.ensures.table ∙ ap (λ (t : Tables). slice_index_or t.lists table []) inv.0 in
    let is : IsLookedAt from to ts turn c.look.result = record {
      within = subst (λ n. n < length ts.lists) (sym at) (subst (λ (t : Tables). table < length t.lists) inv.0 c.table_by_age-table.ensures.within);
      table = here ∙ ap (λ n. slice_index_or ts.lists n []) (sym at);
      ends = c.look.ensures.looked ∙ (λ i. record { table = table; first = first i; end = end i }) ∙ ap (λ n. looked_in from to n (slice_index_or ts.lists n [])) (sym at);
      sound = both.sound;
    } in (
      ap TablesView.tables c.look.ensures.counted ∙ both.same ∙ inv.0,
      looked-push from to ts turn c.loop-turn.looks.items _ c.look.result inv.1 is c.in_ok-push.ensures.items,
      (omega arith),
      (λ sub less.
          let counted = so_many-counts many c.ends_between-first.new.tables.reads (subst (λ n. n < 2 ^ 64 - 1) reads less) in
          let some = both.lower in
          let so_far = inv.3 sub (omega arith) in
          let passing = length-next (is_listed from to sub) list (drop turn (ages ts)) (drop (turn + 1) (ages ts)) next in
          let fewer = pass_between from to (is_listed from to sub) (listed_between from to sub both.sound) list in
          omega arith),
    )

pub returns-clause-lower : goal.returns-clause-lower
returns-clause-lower c = λ sub less.
    let ts = c.args.tables.now.tables in
    let past : length (ages ts) ≤ c.loop-turn.turn = let count = c.len-turn-end.ensures.value in let aged = length-ages ts in let test = c.loop-turn-test.false in omega arith in
    let all = c.loop-turn.invariant.3 sub less in
    let none = none-left (is_listed c.args.prev.now c.args.cur.now sub) (ages ts) c.loop-turn.turn past in
    let as_many = length-by_id (listed_in c.args.prev.now c.args.cur.now sub ts) in
    omega arith

pub returns-clause-upper : goal.returns-clause-upper
returns-clause-upper c =
    let spent = c.loop-turn.invariant.2 in
    let all = looks-all c.args.prev.now c.args.cur.now c.args.tables.now.tables in
    omega arith
