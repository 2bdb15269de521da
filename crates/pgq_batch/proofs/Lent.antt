-- What is lent of what was looked at.
use Rattle.std.proofs.Common.{◌≡◌, ℕ, zero, suc, ◌+◌, ◌-◌, ◌<◌, ◌≤◌, Bool, true, false, List, [], ◌∷◌, ◌++◌, Some, length, filter, map, drop, nat_lt, slice_get, slice_index_or, refl, sym, ap, subst, ◌∙◌, arith, inl, inr, Bor, ◌⊎◌}
use Rattle.std.proofs.lemmas.Bool.{cases_Bool, cond-false, ltb-true, ltb-false}
use Rattle.std.proofs.lemmas.List.{length_push, length-append, length-map, map-append, drop_more, drop_all}
use Rattle.sky_txid.specs.Snapshot.{SnapshotView}
use Rattle.pgq_tables.specs.Tables.{Stored, Tables}
use Rattle.pgq_tables.specs.Views.{LookedView}
use Rattle.pgq_batch.specs.Looked.{ages, count_below, IsLookedAt, AreLookedAt, placed_events}
use Rattle.pgq_batch.proofs.Keyed.{passing-cons, one_if}
use Rattle.pgq_batch.proofs.Between.{Between}
use Rattle.pgq_batch.proofs.Ages.{passing_of, passing_of-more, length-ages}

-- ---- no more pass than lie between two counts

module _ (from to : SnapshotView) (q : Stored → Bool) (between : Between from to q) where
  none_pass : to.xmax < from.xmin → (list : List Stored) → filter q list ≡ []
  none_pass over [] = refl
  none_pass over (s ∷ ss) = cond-false (q s) (s ∷ filter q ss) (filter q ss) fails ∙ none_pass over ss
    where
      fails : q s ≡ false
      fails = elim (cases_Bool (nat_lt s.event.ev_txid from.xmin)) [
        | inl less ↦ between.0 s (ltb-true s.event.ev_txid from.xmin less)
        | inr past ↦ between.1 s (let above = ltb-false s.event.ev_txid from.xmin past in omega arith)
      ]

  pass_below : from.xmin ≤ to.xmax → (list : List Stored) → length (filter q list) + count_below from.xmin list ≤ count_below to.xmax list
  pass_below le [] = omega arith
  pass_below le (s ∷ ss) =
      let ih = pass_below le ss in
      let all = passing-cons q s ss in
      let low = passing-cons (λ x. nat_lt x.event.ev_txid from.xmin) s ss in
      let high = passing-cons (λ x. nat_lt x.event.ev_txid to.xmax) s ss in
      let here = one (nat_lt s.event.ev_txid from.xmin) refl (nat_lt s.event.ev_txid to.xmax) refl (q s) refl in
      omega arith
    where
      one : (a : Bool) → nat_lt s.event.ev_txid from.xmin ≡ a → (b : Bool) → nat_lt s.event.ev_txid to.xmax ≡ b → (c : Bool) → q s ≡ c → one_if c + one_if a ≤ one_if b
      one true low b high true is = let none = between.0 s (ltb-true s.event.ev_txid from.xmin low) in absurd (cc)
      one true low false high false is = let less = ltb-true s.event.ev_txid from.xmin low in let above = ltb-false s.event.ev_txid to.xmax high in absurd (omega arith)
      one true low true high false is = omega arith
      one false low false high true is = let none = between.1 s (ltb-false s.event.ev_txid to.xmax high) in absurd (cc)
      one false low true high true is = omega arith
      one false low b high false is = omega arith

  pub pass_between : (list : List Stored) → length (filter q list) ≤ count_below to.xmax list - count_below from.xmin list
  pass_between list = elim (cases_Bool (nat_lt to.xmax from.xmin)) [
    | inl over ↦ let none = ap length (none_pass (ltb-true to.xmax from.xmin over) list) in omega arith
    | inr fits ↦ let most = pass_below (ltb-false to.xmax from.xmin fits) list in omega arith
  ]

-- ---- one more is looked at

at_push : {X : Type 0} (xs : List X) (x y : X) (k : ℕ) → slice_get (xs ++ x ∷ []) k ≡ Some y → ((k < length xs) × (slice_get xs k ≡ Some y)) ⊎ ((k ≡ length xs) × (x ≡ y))
at_push [] x y zero is = inr (refl, cc)
at_push [] x y (suc k) is = absurd (cc)
at_push (z ∷ zs) x y zero is = inl ((omega arith), is)
at_push (z ∷ zs) x y (suc k) is = elim (at_push zs x y k is) [
  | inl before ↦ inl ((let less = before.0 in omega arith), before.1)
  | inr last ↦ inr (ap suc last.0, last.1)
]

-- there are looks at the oldest so many tables
pub record AreLookedAtUpTo (from to : SnapshotView) (ts : Tables) (many : ℕ) (looks : List LookedView) : Type 0 where
  pub count : length looks ≡ many
  pub each : (turn : ℕ) (l : LookedView) → slice_get looks turn ≡ Some l → IsLookedAt from to ts turn l

pub looked-push : (from to : SnapshotView) (ts : Tables) (many : ℕ) (looks next : List LookedView) (l : LookedView) → AreLookedAtUpTo from to ts many looks → IsLookedAt from to ts many l → next ≡ looks ++ l ∷ [] → AreLookedAtUpTo from to ts (many + 1) next
looked-push from to ts many looks next l are is pushed = subst (AreLookedAtUpTo from to ts (many + 1)) (sym pushed) (record {
  count = length_push looks l ∙ (let count = are.count in omega arith);
  each = λ turn k there. elim (at_push looks l k turn there) [
    | inl before ↦ are.each turn k before.1
    | inr last ↦ subst (λ n. IsLookedAt from to ts n k) (sym (last.0 ∙ are.count)) (subst (IsLookedAt from to ts many) last.1 is)
  ];
})

-- ---- what passes of a table, and of those that are left

pub length-next : (q : Stored → Bool) (list : List Stored) (left rest : List (List Stored)) → left ≡ list ∷ rest → length (passing_of q left) ≡ length (filter q list) + length (passing_of q rest)
length-next q list left rest next =
    ap (λ lists. length (passing_of q lists)) next ∙ ap length (passing_of-more q list rest) ∙ length-append (map Stored.event (filter q list)) (passing_of q rest)
    ∙ ap (λ n. n + length (passing_of q rest)) (length-map (filter q list) Stored.event)

-- past the last table none is left
pub none-left : (q : Stored → Bool) (lists : List (List Stored)) (turn : ℕ) → length lists ≤ turn → length (passing_of q (drop turn lists)) ≡ 0
none-left q lists turn past = ap (λ left. length (passing_of q left)) (drop_all turn lists past)

-- a table of those that were looked at is the next one
pub next-looked : (from to : SnapshotView) (ts : Tables) (looks : List LookedView) (turn : ℕ) (l : LookedView) → AreLookedAt from to ts looks → slice_get looks turn ≡ Some l → turn < length looks
    → drop turn (ages ts) ≡ slice_index_or ts.lists l.table [] ∷ drop (turn + 1) (ages ts)
next-looked from to ts looks turn l are there within =
    let count = are.count in
    let aged = length-ages ts in
    drop_more (ages ts) turn [] (omega arith) ∙ ap (λ list. list ∷ drop (turn + 1) (ages ts)) (are.each turn l there).table

at_behind : {X : Type 0} (xs ys : List X) (x : X) → slice_get (xs ++ x ∷ ys) (length xs) ≡ Some x
at_behind [] ys x = refl
at_behind (z ∷ zs) ys x = at_behind zs ys x

-- those of which some are lent, with the next one of those that are left
pub next-left : (from to : SnapshotView) (ts : Tables) (looks lent left rest : List LookedView) (l : LookedView) → AreLookedAt from to ts looks → looks ≡ lent ++ left → left ≡ l ∷ rest → slice_get looks (length lent) ≡ Some l
next-left from to ts looks lent left rest l are whole next = ap (λ xs. slice_get xs (length lent)) (whole ∙ ap (λ xs. lent ++ xs) next) ∙ at_behind lent rest l

pub some-left : (looks lent left rest : List LookedView) (l : LookedView) → looks ≡ lent ++ left → left ≡ l ∷ rest → length lent < length looks
some-left looks lent left rest l whole next =
    let all = ap length (whole ∙ ap (λ xs. lent ++ xs) next) ∙ length-append lent (l ∷ rest) in
    omega arith

pub placed-push : (found : List (ℕ × Bor Stored)) (x : ℕ × Bor Stored) → placed_events (found ++ x ∷ []) ≡ placed_events found ++ (x.0, x.1.now.event) ∷ []
placed-push found x = map-append (λ (y : ℕ × Bor Stored). (y.0, y.1.now.event)) found (x ∷ [])
