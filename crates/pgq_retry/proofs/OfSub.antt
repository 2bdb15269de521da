-- The places of a subscription's events: how many wait, and what is left without them.
use Rattle.std.proofs.Common.{◌≡◌, ℕ, ◌<◌, Bool, true, false, cond, not, List, [], ◌∷◌, Some, None, length, suc, refl, sym, subst, ◌∙◌, ap, arith}
use Rattle.std.specs.Prelude.{◌||◌, ◌==◌, filter}
use Rattle.std.specs.declared.cmp.Ordering.TheVariants.{Less}
use Rattle.std.specs.List.{AllByRecursion, list_any}
use Rattle.std.specs.List.Sorted.{IsStrictlySortedBy}
use Rattle.std.specs.Ordering.{nat_cmp, eq_by_cmp}
use Rattle.std.specs.Map.{keys_of, values_of, remove_entry}
use Rattle.std.specs.BTreeMap.{BTreeMap, is_at, get, IsOrdered}
use Rattle.std.proofs.lemmas.Bool.{eqb-true, eq-eqb}
use Rattle.std.proofs.lemmas.Bool.Decides.{nat_tests}
use Rattle.std.proofs.lemmas.Map.Keys.{sorted_head, sorted_tail}
use Rattle.std.proofs.lemmas.List.{length-map}
use Rattle.std.proofs.Math.Bool.{or-true}
use Rattle.pgq_retry.specs.declared.retry.Retry.{Retry}
use Rattle.pgq_retry.specs.Retries.{is_of, count_of, without_sub}
use Rattle.pgq_retry.specs.Kept.{Entries, InOrder, at, PlacesBySub, place_in, place_of, IsAt, IsPlaced}
use Rattle.pgq_retry.proofs.Lists.{filter-map}
use Rattle.pgq_retry.proofs.Orders.{tie_is, less_is}
use Rattle.pgq_retry.proofs.Entries.{stands, Rise, found_first, found_later, found_rest, above_found, each_entry, filter-same, stands-removed, stands-remove, stands-filtered, stands-filter, ties_itself}

-- the places by event id, as the index has them of one subscription
pub record IsOfSub (es : Entries) (sub : ℕ) (ids : List (ℕ × ℕ)) : Type 0 where
  pub in_order : Rise ids
  pub kept : (a : ℕ) (w : Retry) → at a es ≡ Some w → w.sub ≡ sub → stands ids w.event.ev_id ≡ Some a
  pub told : (i a : ℕ) → stands ids i ≡ Some a → IsAt es sub i a

no_rise : Rise {W = ℕ} []
unfolding IsStrictlySortedBy
no_rise = tt

pub some_of_sub : (es : Entries) (places : PlacesBySub) (sub : ℕ) (ids : BTreeMap ℕ ℕ) → IsPlaced es places → get nat_cmp places sub ≡ Some ids → IsOrdered nat_cmp ids → IsOfSub es sub ids.entries
some_of_sub es places sub ids placed is in_order = record {
  in_order = in_order;
  kept = λ a w found for_sub. sym (ap (λ o. place_in o w.event.ev_id) (ap (get nat_cmp places) for_sub ∙ is)) ∙ placed.kept a w found;
  told = λ i a there. placed.told sub i a (ap (λ o. place_in o i) is ∙ there);
}

pub none_of_sub : (es : Entries) (places : PlacesBySub) (sub : ℕ) → IsPlaced es places → get nat_cmp places sub ≡ None → IsOfSub es sub []
none_of_sub es places sub placed is = record {
  in_order = no_rise;
  kept = λ a w found for_sub. absurd (cc (sym (ap (λ o. place_in o w.event.ev_id) (ap (get nat_cmp places) for_sub ∙ is)) ∙ placed.kept a w found));
  told = λ i a there. absurd (cc there);
}

-- ---- one id less

all-removed : (P : ℕ → Type 0) (k : ℕ) (ids : List (ℕ × ℕ)) → AllByRecursion P (keys_of ids) → AllByRecursion P (keys_of (remove_entry (is_at (nat_cmp k)) ids))
all-removed P k [] all = tt
all-removed P k (x ∷ ids) all = elim (eq_by_cmp nat_cmp k x.0) as (λ t. AllByRecursion P (keys_of (cond t ids (x ∷ remove_entry (is_at (nat_cmp k)) ids)))) [
  | true ↦ all.1
  | false ↦ (all.0, all-removed P k ids all.1)
]

rise_more : (x : ℕ × ℕ) (ids : List (ℕ × ℕ)) → AllByRecursion (λ y. nat_cmp x.0 y ≡ Less) (keys_of ids) → Rise ids → Rise (x ∷ ids)
unfolding IsStrictlySortedBy
rise_more x ids above rise = (above, rise)

rise-removed : (k : ℕ) (ids : List (ℕ × ℕ)) → Rise ids → Rise (remove_entry (is_at (nat_cmp k)) ids)
rise-removed k [] rise = rise
rise-removed k (x ∷ ids) rise = elim (eq_by_cmp nat_cmp k x.0) as (λ t. Rise (cond t ids (x ∷ remove_entry (is_at (nat_cmp k)) ids))) [
  | true ↦ sorted_tail nat_cmp x.0 (keys_of ids) rise
  | false ↦ rise_more x (remove_entry (is_at (nat_cmp k)) ids) (all-removed (λ y. nat_cmp x.0 y ≡ Less) k ids (sorted_head nat_cmp x.0 (keys_of ids) rise)) (rise-removed k ids (sorted_tail nat_cmp x.0 (keys_of ids) rise))
]

length-removed : (k a : ℕ) (ids : List (ℕ × ℕ)) → stands ids k ≡ Some a → length ids ≡ suc (length (remove_entry (is_at (nat_cmp k)) ids))
length-removed k a [] there = absurd (cc there)
length-removed k a (x ∷ ids) there = elim (eq_by_cmp nat_cmp k x.0) as (λ t. cond t (Some x.1) (stands ids k) ≡ Some a → suc (length ids) ≡ suc (length (cond t ids (x ∷ remove_entry (is_at (nat_cmp k)) ids)))) [
  | true ↦ λ _. refl
  | false ↦ λ later. ap suc (length-removed k a ids later)
] there

-- ---- how many

-- the first entry is another subscription's
not_first : (e : ℕ × Retry) (es : Entries) (sub : ℕ) (ids : List (ℕ × ℕ)) → InOrder (e ∷ es) → (e.1.sub == sub) ≡ false → IsOfSub (e ∷ es) sub ids → IsOfSub es sub ids
not_first e es sub ids order other of = record {
  in_order = of.in_order;
  kept = λ a w found for_sub. of.kept a w (found_later e es order a w found) for_sub;
  told = λ i a there.
      let was = of.told i a there in
      record {
        waiting = was.waiting;
        found = found_rest e es a was.waiting (λ is.
            let same : e.1 ≡ was.waiting = cc (sym (found_first e es) ∙ subst (λ b. at b (e ∷ es) ≡ Some was.waiting) is was.found) in
            cc (sym other ∙ eq-eqb e.1.sub sub (ap (λ (w : Retry). w.sub) same ∙ was.sub_is))) was.found;
        sub_is = was.sub_is;
        ev_id_is = was.ev_id_is;
      };
}

-- the first entry is the subscription's
first_gone : (e : ℕ × Retry) (es : Entries) (sub : ℕ) (ids : List (ℕ × ℕ)) → InOrder (e ∷ es) → stands ids e.1.event.ev_id ≡ Some e.0 → IsOfSub (e ∷ es) sub ids
    → IsOfSub es sub (remove_entry (is_at (nat_cmp e.1.event.ev_id)) ids)
first_gone e es sub ids order here of =
    let id : ℕ = e.1.event.ev_id in
    record {
      in_order = rise-removed id ids of.in_order;
      kept = λ a w found for_sub.
          let was = of.kept a w (found_later e es order a w found) for_sub in
          elim (eq_by_cmp nat_cmp w.event.ev_id id) as (λ t. eq_by_cmp nat_cmp w.event.ev_id id ≡ t → stands (remove_entry (is_at (nat_cmp id)) ids) w.event.ev_id ≡ Some a) [
            | true ↦ λ tie.
                let same : a ≡ e.0 = cc (sym was ∙ ap (stands ids) (tie_is w.event.ev_id id tie) ∙ here) in
                let above = above_found e.0 a w es (sorted_head nat_cmp e.0 (keys_of es) order) found in
                absurd (omega arith)
            | false ↦ λ apart. stands-remove ids id w.event.ev_id apart ∙ was
          ] refl;
      told = λ i a there. elim (eq_by_cmp nat_cmp i id) as (λ t. eq_by_cmp nat_cmp i id ≡ t → IsAt es sub i a) [
        | true ↦ λ tie. absurd (cc (sym (stands-removed ids id of.in_order) ∙ subst (λ j. stands (remove_entry (is_at (nat_cmp id)) ids) j ≡ Some a) (tie_is i id tie) there))
        | false ↦ λ apart.
            let was = of.told i a (sym (stands-remove ids id i apart) ∙ there) in
            record {
              waiting = was.waiting;
              found = found_rest e es a was.waiting (λ is.
                  let same : e.1 ≡ was.waiting = cc (sym (found_first e es) ∙ subst (λ b. at b (e ∷ es) ≡ Some was.waiting) is was.found) in
                  cc (sym apart ∙ ap (λ j. eq_by_cmp nat_cmp j id) (sym was.ev_id_is ∙ sym (ap (λ (w : Retry). w.event.ev_id) same)) ∙ ties_itself id)) was.found;
              sub_is = was.sub_is;
              ev_id_is = was.ev_id_is;
            }
      ] refl;
    }

count_entries : (ids : List (ℕ × ℕ)) (es : Entries) (sub : ℕ) → InOrder es → IsOfSub es sub ids → length ids ≡ length (filter (λ e. is_of sub e.1) es)
count_entries [] [] sub order of = refl
count_entries (x ∷ ids) [] sub order of = let gone = of.told x.0 x.1 (found_first x ids) in absurd (cc gone.found)
count_entries ids (e ∷ es) sub order of = elim (e.1.sub == sub) as (λ t. (e.1.sub == sub) ≡ t → length ids ≡ length (cond t (e ∷ filter (λ e. is_of sub e.1) es) (filter (λ e. is_of sub e.1) es))) [
  | true ↦ λ is.
      let here = of.kept e.0 e.1 (found_first e es) (eqb-true e.1.sub sub is) in
      length-removed e.1.event.ev_id e.0 ids here
      ∙ ap suc (count_entries (remove_entry (is_at (nat_cmp e.1.event.ev_id)) ids) es sub (sorted_tail nat_cmp e.0 (keys_of es) order) (first_gone e es sub ids order here of))
  | false ↦ λ other. count_entries ids es sub (sorted_tail nat_cmp e.0 (keys_of es) order) (not_first e es sub ids order other of)
] refl

pub count_of_sub : (ids : List (ℕ × ℕ)) (es : Entries) (sub : ℕ) → InOrder es → IsOfSub es sub ids → length ids ≡ count_of sub (values_of es)
count_of_sub ids es sub order of =
    count_entries ids es sub order of
    ∙ sym (length-map (filter (λ e. is_of sub e.1) es) (λ e. e.1))
    ∙ sym (ap length (filter-map (λ e. e.1) (is_of sub) es))

-- ---- what is left

-- the entries at none of these places
abbrev pub outside : List ℕ → Entries → Entries
outside ps es = filter (λ e. not (list_any (λ p. e.0 == p) ps)) es

pub outside-none : (es : Entries) → outside [] es ≡ es
outside-none [] = refl
outside-none (e ∷ es) = ap (λ rest. e ∷ rest) (outside-none es)

above-apart : (p a : ℕ) → p < a → (a == p) ≡ false
above-apart p a above = grind (arith, nat_tests)

tie-same : (p a : ℕ) → eq_by_cmp nat_cmp p a ≡ true → (a == p) ≡ true
tie-same p a tie = eq-eqb a p (sym (tie_is p a tie))

tie-apart : (p a : ℕ) → eq_by_cmp nat_cmp p a ≡ false → (a == p) ≡ false
tie-apart p a apart = elim (a == p) as (λ t. (a == p) ≡ t → t ≡ false) [
  | true ↦ λ is. absurd (cc (sym apart ∙ ap (eq_by_cmp nat_cmp p) (eqb-true a p is) ∙ ties_itself p))
  | false ↦ λ _. refl
] refl

outside-above : (p : ℕ) (ps : List ℕ) (es : Entries) → AllByRecursion (λ y. nat_cmp p y ≡ Less) (keys_of es) → outside ps es ≡ outside (p ∷ ps) es
outside-above p ps [] above = refl
outside-above p ps (e ∷ es) above =
    ap (λ rest. cond (not (list_any (λ p. e.0 == p) ps)) (e ∷ rest) rest) (outside-above p ps es above.1)
    ∙ ap (λ b. cond (not (b || list_any (λ p. e.0 == p) ps)) (e ∷ outside (p ∷ ps) es) (outside (p ∷ ps) es)) (sym (above-apart p e.0 (less_is p e.0 above.0)))

pub outside-step : (p : ℕ) (ps : List ℕ) (es : Entries) → InOrder es → outside ps (remove_entry (is_at (nat_cmp p)) es) ≡ outside (p ∷ ps) es
outside-step p ps [] order = refl
outside-step p ps (e ∷ es) order = elim (eq_by_cmp nat_cmp p e.0) as (λ t. eq_by_cmp nat_cmp p e.0 ≡ t → outside ps (cond t es (e ∷ remove_entry (is_at (nat_cmp p)) es)) ≡ outside (p ∷ ps) (e ∷ es)) [
  | true ↦ λ tie.
      outside-above p ps es (subst (λ k. AllByRecursion (λ y. nat_cmp k y ≡ Less) (keys_of es)) (sym (tie_is p e.0 tie)) (sorted_head nat_cmp e.0 (keys_of es) order))
      ∙ ap (λ b. cond (not (b || list_any (λ p. e.0 == p) ps)) (e ∷ outside (p ∷ ps) es) (outside (p ∷ ps) es)) (sym (tie-same p e.0 tie))
  | false ↦ λ apart.
      ap (λ rest. cond (not (list_any (λ p. e.0 == p) ps)) (e ∷ rest) rest) (outside-step p ps es (sorted_tail nat_cmp e.0 (keys_of es) order))
      ∙ ap (λ b. cond (not (b || list_any (λ p. e.0 == p) ps)) (e ∷ outside (p ∷ ps) es) (outside (p ∷ ps) es)) (sym (tie-apart p e.0 apart))
] refl

-- ---- which places are the subscription's

value_in : (ids : List (ℕ × ℕ)) (i a : ℕ) → stands ids i ≡ Some a → list_any (λ p. a == p) (values_of ids) ≡ true
value_in [] i a there = absurd (cc there)
value_in (x ∷ ids) i a there = elim (eq_by_cmp nat_cmp i x.0) as (λ t. cond t (Some x.1) (stands ids i) ≡ Some a → ((a == x.1) || list_any (λ p. a == p) (values_of ids)) ≡ true) [
  | true ↦ λ here. let same : x.1 ≡ a = cc here in ap (λ b. b || list_any (λ p. a == p) (values_of ids)) (eq-eqb a x.1 (sym same))
  | false ↦ λ later. ap (λ b. (a == x.1) || b) (value_in ids i a later) ∙ or-true (a == x.1)
] there

value_key : (ids : List (ℕ × ℕ)) (a : ℕ) → Rise ids → list_any (λ p. a == p) (values_of ids) ≡ true → (i : ℕ) × (stands ids i ≡ Some a)
value_key [] a rise there = absurd (cc there)
value_key (x ∷ ids) a rise there = elim (a == x.1) as (λ t. (a == x.1) ≡ t → (t || list_any (λ p. a == p) (values_of ids)) ≡ true → (i : ℕ) × (stands (x ∷ ids) i ≡ Some a)) [
  | true ↦ λ is _. (x.0, found_first x ids ∙ ap Some (sym (eqb-true a x.1 is)))
  | false ↦ λ _ later. let rest = value_key ids a (sorted_tail nat_cmp x.0 (keys_of ids) rise) later in (rest.0, found_later x ids rise rest.0 a rest.1)
] refl there

-- the places are those of the subscription's entries
places_are : (ids : List (ℕ × ℕ)) (es : Entries) (sub : ℕ) → IsOfSub es sub ids → (a : ℕ) (w : Retry) → at a es ≡ Some w → list_any (λ p. a == p) (values_of ids) ≡ is_of sub w
places_are ids es sub of a w found = elim (w.sub == sub) as (λ t. (w.sub == sub) ≡ t → list_any (λ p. a == p) (values_of ids) ≡ t) [
  | true ↦ λ is. value_in ids w.event.ev_id a (of.kept a w found (eqb-true w.sub sub is))
  | false ↦ λ other. elim (list_any (λ p. a == p) (values_of ids)) as (λ t. list_any (λ p. a == p) (values_of ids) ≡ t → t ≡ false) [
    | true ↦ λ there.
        let key = value_key ids a of.in_order there in
        let is = of.told key.0 a key.1 in
        let same : w ≡ is.waiting = cc (sym found ∙ is.found) in
        absurd (cc (sym other ∙ eq-eqb w.sub sub (ap (λ (v : Retry). v.sub) same ∙ is.sub_is)))
    | false ↦ λ _. refl
  ] refl
] refl

-- the entries of all other subscriptions
abbrev pub entries_without : ℕ → Entries → Entries
entries_without sub es = filter (λ e. not (is_of sub e.1)) es

pub outside_is : (ids : List (ℕ × ℕ)) (es : Entries) (sub : ℕ) → InOrder es → IsOfSub es sub ids → outside (values_of ids) es ≡ entries_without sub es
outside_is ids es sub order of = filter-same (λ e. not (list_any (λ p. e.0 == p) (values_of ids))) (λ e. not (is_of sub e.1)) es
    (each_entry (λ a w. not (list_any (λ p. a == p) (values_of ids)) ≡ not (is_of sub w)) es order (λ a w found. ap not (places_are ids es sub of a w found)))

pub values_without : (sub : ℕ) (es : Entries) → values_of (entries_without sub es) ≡ without_sub sub (values_of es)
values_without sub es = sym (filter-map (λ e. e.1) (λ w. not (is_of sub w)) es)

-- without the subscription's entries the index is without its places
pub placed_without : (es : Entries) (places fewer : PlacesBySub) (sub : ℕ) → IsPlaced es places
    → ((s i : ℕ) → place_of fewer s i ≡ cond (s == sub) None (place_of places s i)) → InOrder (entries_without sub es) → IsPlaced (entries_without sub es) fewer
placed_without es places fewer sub placed others order = record {
  in_order = order;
  kept = λ a w found.
      let was = stands-filtered (λ e. not (is_of sub e.1)) es a w placed.in_order found in
      others w.sub w.event.ev_id
      ∙ ap (λ b. cond b None (place_of places w.sub w.event.ev_id)) (not_so (w.sub == sub) was.1)
      ∙ placed.kept a w was.0;
  told = λ s i a there. elim (s == sub) as (λ t. (s == sub) ≡ t → cond t None (place_of places s i) ≡ Some a → IsAt (entries_without sub es) s i a) [
    | true ↦ λ _ none. absurd (cc none)
    | false ↦ λ other old.
        let was = placed.told s i a old in
        record {
          waiting = was.waiting;
          found = stands-filter (λ e. not (is_of sub e.1)) es a was.waiting was.found (ap not (ap (λ t. t == sub) was.sub_is ∙ other));
          sub_is = was.sub_is;
          ev_id_is = was.ev_id_is;
        }
  ] refl (sym (others s i) ∙ there);
}
  where
    not_so : (b : Bool) → not b ≡ true → b ≡ false
    not_so true is = absurd (cc is)
    not_so false is = refl

-- one place of the subscription less to remove
pub one_outside : (sub place : ℕ) (places rest : List ℕ) (first old new : Entries) → places ≡ place ∷ rest → new ≡ remove_entry (is_at (nat_cmp place)) old → InOrder new
    → (outside places old ≡ entries_without sub first) × InOrder old → (outside rest new ≡ entries_without sub first) × InOrder new
one_outside sub place places rest first old new is taken order was = (
  ap (outside rest) taken ∙ outside-step place rest old was.1 ∙ ap (λ ps. outside ps old) (sym is) ∙ was.0,
  order,
)
