-- All tables, one after another: what a batch lists of them, and how many looks it takes.
use Rattle.std.proofs.Common.{◌≡◌, ℕ, ◌+◌, ◌<◌, ◌≤◌, Bool, true, false, ◌==◌, List, [], ◌∷◌, ◌++◌, append-nil, append_assoc, Option, Some, None, is_some, length, filter, map, take, drop, slice_index_or, refl, sym, ap, ◌∙◌, arith, if◌then◌else◌}
use Rattle.std.specs.Prelude.{find}
use Rattle.std.specs.List.{flat_map, sum_by}
use Rattle.std.proofs.lemmas.List.{map-append, length-append, length-map, drop_more, drop_all, take-append-drop}
use Rattle.std.proofs.lemmas.List.Elements.{filter-append}
use Rattle.std.proofs.lemmas.List.Sums.{sum_by-cons, sum_by-append, sum_by-take-drop}
use Rattle.sky_val.specs.declared.event.Event.{Event}
use Rattle.sky_txid.specs.Snapshot.{SnapshotView}
use Rattle.pgq_tables.specs.Tables.{Stored, Tables, by_age}
use Rattle.pgq_tables.specs.Order.{by_txid}
use Rattle.pgq_tables.specs.ById.{by_id}
use Rattle.pgq_batch.specs.Bound.{is_between, looks_for_ends, most_looks}
use Rattle.pgq_batch.specs.Placed.{with_place, by_place}
use Rattle.pgq_batch.specs.Looked.{ages}
use Rattle.pgq_batch.proofs.Keyed.{length-in_order_by}
use Rattle.pgq_batch.proofs.ByTxid.{passing-by_txid, placed-in_order, without_places}
use Rattle.pgq_batch.proofs.Sorted.{by_id-is, by_place-is, equal_ids_stay}

-- those events of tables that pass a test
abbrev pub passing_of : (Stored → Bool) → List (List Stored) → List Event
passing_of q lists = map Stored.event (filter q (flat_map (λ list. list) lists))

pub passing_of-more : (q : Stored → Bool) (list : List Stored) (rest : List (List Stored)) → passing_of q (list ∷ rest) ≡ map Stored.event (filter q list) ++ passing_of q rest
passing_of-more q list rest =
    ap (map Stored.event) (filter-append q list (flat_map (λ list. list) rest)) ∙ map-append Stored.event (filter q list) (filter q (flat_map (λ list. list) rest))

-- the looks that they take
abbrev pub looks : (from to : SnapshotView) → List (List Stored) → ℕ
looks from to [] = 0
looks from to (list ∷ rest) = (length (filter (is_between from to) list) + looks_for_ends list) + looks from to rest

-- a table is the next one
pub next_is : (ts now : Tables) (turn table : ℕ) → now ≡ ts → turn < length (ages ts) → slice_index_or (ages now) turn [] ≡ slice_index_or now.lists table []
    → drop turn (ages ts) ≡ slice_index_or ts.lists table [] ∷ drop (turn + 1) (ages ts)
next_is ts now turn table same within is =
    drop_more (ages ts) turn [] within
    ∙ ap (λ list. list ∷ drop (turn + 1) (ages ts)) (sym (ap (λ (t : Tables). slice_index_or (ages t) turn []) same) ∙ is ∙ ap (λ (t : Tables). slice_index_or t.lists table []) same)

pub length-ages : (ts : Tables) → length (ages ts) ≡ length ts.lists
length-ages ts =
    let parts = ap length (take-append-drop (ts.current + 1) ts.lists) in
    let turned = length-append (drop (ts.current + 1) ts.lists) (take (ts.current + 1) ts.lists) in
    let straight = length-append (take (ts.current + 1) ts.lists) (drop (ts.current + 1) ts.lists) in
    omega arith

-- ---- events are collected

-- a table's events, once they are in order of their places and without these
pub sorted_out : (q : Stored → Bool) (list : List Stored) → map (λ x. x.1) (by_place (map with_place (filter (λ x. q x.1) (by_txid list)))) ≡ map Stored.event (filter q list)
sorted_out q list =
    ap (map (λ x. x.1)) (by_place-is (map with_place (filter (λ x. q x.1) (by_txid list))) ∙ placed-in_order Stored.event q list) ∙ without_places Stored.event q 0 list

pub one_more_table : (q : Stored → Bool) (list : List Stored) (left rest : List (List Stored)) (before now all : List Event) → left ≡ list ∷ rest → now ≡ before ++ map Stored.event (filter q list)
    → before ++ passing_of q left ≡ all → now ++ passing_of q rest ≡ all
one_more_table q list left rest before now all next is so_far =
    ap (λ es. es ++ passing_of q rest) is
    ∙ append_assoc before (map Stored.event (filter q list)) (passing_of q rest)
    ∙ ap (λ es. before ++ es) (sym (ap (passing_of q) next ∙ passing_of-more q list rest))
    ∙ so_far

pub all_tables : (q : Stored → Bool) (lists : List (List Stored)) (turn : ℕ) (now : List Event) → length lists ≤ turn → now ++ passing_of q (drop turn lists) ≡ passing_of q lists → now ≡ passing_of q lists
all_tables q lists turn now past all = sym (append-nil now) ∙ ap (λ ls. now ++ passing_of q ls) (sym (drop_all turn lists past)) ∙ all

pub as_many : (q : Stored → Bool) (list : List Stored) → length (map with_place (filter (λ x. q x.1) (by_txid list))) ≡ length (map Stored.event (filter q list))
as_many q list = length-map (filter (λ x. q x.1) (by_txid list)) with_place ∙ passing-by_txid q list ∙ sym (length-map (filter q list) Stored.event)

pub length-by_id : (es : List Event) → length (by_id es) ≡ length es
length-by_id es = ap length (by_id-is es) ∙ length-in_order_by Event.ev_id es

-- ---- the looks

pub looks-next : (from to : SnapshotView) (list : List Stored) (left rest : List (List Stored)) → left ≡ list ∷ rest → looks from to left ≡ (length (filter (is_between from to) list) + looks_for_ends list) + looks from to rest
looks-next from to list left rest next = ap (looks from to) next

looks-are : (from to : SnapshotView) (lists : List (List Stored)) → looks from to lists ≡ length (filter (is_between from to) (flat_map (λ list. list) lists)) + sum_by looks_for_ends lists
looks-are from to [] = refl
looks-are from to (list ∷ rest) =
    let ih = looks-are from to rest in
    let ends = sum_by-cons looks_for_ends list rest in
    let whole = ap length (filter-append (is_between from to) list (flat_map (λ l. l) rest)) ∙ length-append (filter (is_between from to) list) (filter (is_between from to) (flat_map (λ l. l) rest)) in
    omega arith

-- for all tables they are as many as are stated
pub looks-all : (from to : SnapshotView) (ts : Tables) → looks from to (ages ts) ≡ most_looks from to ts
looks-all from to ts =
    let turned = sum_by-append looks_for_ends (drop (ts.current + 1) ts.lists) (take (ts.current + 1) ts.lists) in
    let straight = sum_by-take-drop looks_for_ends ts.lists (ts.current + 1) in
    looks-are from to (ages ts) ∙ ap (λ n. length (filter (is_between from to) (by_age ts)) + n) (omega arith)

-- ---- an event is found

first : List Event → Option Event
first [] = None
first (e ∷ es) = Some e

find-first : (p : Event → Bool) (es : List Event) → find p es ≡ first (filter p es)
unfolding first
find-first p [] = refl
find-first p (e ∷ es) = elim (p e) as (λ b. (if b then Some e else find p es) ≡ first (if b then e ∷ filter p es else filter p es)) [ true ↦ refl | false ↦ find-first p es ]

-- of events by id the first with an id is the first one with it as they are
pub find-by_id : (id : ℕ) (es : List Event) → find (λ e. e.ev_id == id) (by_id es) ≡ find (λ e. e.ev_id == id) es
find-by_id id es = find-first (λ e. e.ev_id == id) (by_id es) ∙ ap first (equal_ids_stay es id) ∙ sym (find-first (λ e. e.ev_id == id) es)

or_else : Option Event → Option Event → Option Event
or_else None later = later
or_else (Some e) later = Some e

find-append : (p : Event → Bool) (xs ys : List Event) → find p (xs ++ ys) ≡ or_else (find p xs) (find p ys)
unfolding or_else
find-append p [] ys = refl
find-append p (x ∷ xs) ys = elim (p x) as (λ b. (if b then Some x else find p (xs ++ ys)) ≡ or_else (if b then Some x else find p xs) (find p ys)) [ true ↦ refl | false ↦ find-append p xs ys ]

-- a table that has one has the first, and else the first is in a later one
pub found_here : (p : Event → Bool) (q : Stored → Bool) (list : List Stored) (left rest : List (List Stored)) (found all : Option Event) → left ≡ list ∷ rest → found ≡ find p (map Stored.event (filter q list)) → is_some found ≡ true
    → find p (passing_of q left) ≡ all → found ≡ all
unfolding or_else
found_here p q list left rest found all next is some so_far =
    by found some is ∙ so_far
  where
    by : (o : Option Event) → is_some o ≡ true → o ≡ find p (map Stored.event (filter q list)) → o ≡ find p (passing_of q left)
    by None none same = let clash = none in cc
    by (Some e) one same =
        sym (ap (λ ls. find p (passing_of q ls)) next ∙ ap (find p) (passing_of-more q list rest) ∙ find-append p (map Stored.event (filter q list)) (passing_of q rest) ∙ ap (λ o. or_else o (find p (passing_of q rest))) (sym same))

pub found_later : (p : Event → Bool) (q : Stored → Bool) (list : List Stored) (left rest : List (List Stored)) (found all : Option Event) → left ≡ list ∷ rest → found ≡ find p (map Stored.event (filter q list)) → is_some found ≡ false
    → find p (passing_of q left) ≡ all → find p (passing_of q rest) ≡ all
unfolding or_else
found_later p q list left rest found all next is none so_far =
    by found none is ∙ so_far
  where
    by : (o : Option Event) → is_some o ≡ false → o ≡ find p (map Stored.event (filter q list)) → find p (passing_of q rest) ≡ find p (passing_of q left)
    by (Some e) one same = let clash = one in cc
    by None none_there same =
        sym (ap (λ ls. find p (passing_of q ls)) next ∙ ap (find p) (passing_of-more q list rest) ∙ find-append p (map Stored.event (filter q list)) (passing_of q rest) ∙ ap (λ o. or_else o (find p (passing_of q rest))) (sym same))

pub found_nowhere : (p : Event → Bool) (q : Stored → Bool) (lists : List (List Stored)) (turn : ℕ) (all : Option Event) → length lists ≤ turn → find p (passing_of q (drop turn lists)) ≡ all → None ≡ all
found_nowhere p q lists turn all past so_far = ap (λ ls. find p (passing_of q ls)) (sym (drop_all turn lists past)) ∙ so_far
