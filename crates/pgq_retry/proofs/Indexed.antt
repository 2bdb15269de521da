-- The index by subscription and event id: who waits, and one more or one less.
use Rattle.std.proofs.Common.{◌≡◌, ℕ, true, false, cond, not, [], ◌∷◌, ◌++◌, Some, None, is_some, refl, sym, subst, ◌∙◌, ap}
use Rattle.std.specs.Prelude.{◌==◌, ◌&&◌}
use Rattle.std.specs.List.{list_any}
use Rattle.std.specs.Ordering.{nat_cmp, eq_by_cmp}
use Rattle.std.specs.Map.{values_of, remove_entry}
use Rattle.std.specs.BTreeMap.{is_at}
use Rattle.std.proofs.lemmas.Bool.{and_parts, eqb-true, eq-eqb}
use Rattle.pgq_retry.specs.declared.retry.Retry.{Retry}
use Rattle.pgq_retry.specs.Retries.{is_event, is_asked, without}
use Rattle.pgq_retry.specs.Kept.{Entries, InOrder, AreBelow, at, PlacesBySub, place_of, IsAt, IsPlaced}
use Rattle.pgq_retry.proofs.Lists.{any-map, filter-map}
use Rattle.pgq_retry.proofs.Orders.{tie_is}
use Rattle.pgq_retry.proofs.DueIndex.{below_is_other}
use Rattle.pgq_retry.proofs.Entries.{below_found, each_entry, any-found, any-none, stands-pushed, stands-push, stands-removed, stands-remove, filter-one, ties_itself}

-- ---- which event it is

pub event_is : (sub ev_id : ℕ) (w : Retry) → is_event sub ev_id w ≡ true → (w.sub ≡ sub) × (w.event.ev_id ≡ ev_id)
event_is sub ev_id w is =
    let parts = and_parts (w.sub == sub) (w.event.ev_id == ev_id) is in
    (eqb-true w.sub sub parts.0, eqb-true w.event.ev_id ev_id parts.1)

pub is_its_event : (sub ev_id : ℕ) (w : Retry) → w.sub ≡ sub → w.event.ev_id ≡ ev_id → is_event sub ev_id w ≡ true
is_its_event sub ev_id w sub_is ev_id_is = ap (λ b. b && w.event.ev_id == ev_id) (eq-eqb w.sub sub sub_is) ∙ eq-eqb w.event.ev_id ev_id ev_id_is

-- ---- who waits

module _ (es : Entries) (places : PlacesBySub) (placed : IsPlaced es places) (sub ev_id : ℕ) where
  none_waits : place_of places sub ev_id ≡ None → list_any (λ e. is_event sub ev_id e.1) es ≡ false
  none_waits none = any-none (λ e. is_event sub ev_id e.1) es (each_entry (λ a w. is_event sub ev_id w ≡ false) es placed.in_order (λ a w found.
      elim (is_event sub ev_id w) as (λ t. is_event sub ev_id w ≡ t → t ≡ false) [
        | true ↦ λ is.
            let same = event_is sub ev_id w is in
            let there : place_of places sub ev_id ≡ Some a = subst (λ s. place_of places s ev_id ≡ Some a) same.0 (subst (λ i. place_of places w.sub i ≡ Some a) same.1 (placed.kept a w found)) in
            absurd (cc (sym none ∙ there))
        | false ↦ λ _. refl
      ] refl))

  one_waits : (a : ℕ) → place_of places sub ev_id ≡ Some a → list_any (λ e. is_event sub ev_id e.1) es ≡ true
  one_waits a there =
      let here = placed.told sub ev_id a there in
      any-found (λ e. is_event sub ev_id e.1) es a here.waiting here.found (is_its_event sub ev_id here.waiting here.sub_is here.ev_id_is)

  pub has_place : is_some (place_of places sub ev_id) ≡ is_asked sub ev_id (values_of es)
  has_place = elim (place_of places sub ev_id) as (λ o. place_of places sub ev_id ≡ o → is_some o ≡ is_asked sub ev_id (values_of es)) [
    | None ↦ λ none. sym (any-map (λ e. e.1) (is_event sub ev_id) es ∙ none_waits none)
    | Some a ↦ λ there. sym (any-map (λ e. e.1) (is_event sub ev_id) es ∙ one_waits a there)
  ] refl

  pub has_none : is_asked sub ev_id (values_of es) ≡ false → place_of places sub ev_id ≡ None
  has_none fresh = elim (place_of places sub ev_id) as (λ o. place_of places sub ev_id ≡ o → o ≡ None) [
    | None ↦ λ _. refl
    | Some a ↦ λ there. absurd (cc (sym fresh ∙ sym has_place ∙ ap is_some there))
  ] refl

-- ---- one more

module _ (es : Entries) (places more : PlacesBySub) (place : ℕ) (w : Retry) (placed : IsPlaced es places) (below : AreBelow place es)
    (fresh : place_of places w.sub w.event.ev_id ≡ None)
    (added : (s i : ℕ) → place_of more s i ≡ cond (s == w.sub && i == w.event.ev_id) (Some place) (place_of places s i)) where
  more_kept : (a : ℕ) (v : Retry) → at a (es ++ (place, w) ∷ []) ≡ Some v → place_of more v.sub v.event.ev_id ≡ Some a
  more_kept a v found = added v.sub v.event.ev_id ∙ elim (eq_by_cmp nat_cmp a place) as (λ t. eq_by_cmp nat_cmp a place ≡ t → cond (is_event w.sub w.event.ev_id v) (Some place) (place_of places v.sub v.event.ev_id) ≡ Some a) [
    | true ↦ λ tie.
        let same : a ≡ place = tie_is a place tie in
        let is : w ≡ v = cc (sym (stands-pushed es place w below) ∙ subst (λ b. at b (es ++ (place, w) ∷ []) ≡ Some v) same found) in
        ap (λ b. cond b (Some place) (place_of places v.sub v.event.ev_id)) (is_its_event w.sub w.event.ev_id v (ap (λ (u : Retry). u.sub) (sym is)) (ap (λ (u : Retry). u.event.ev_id) (sym is))) ∙ ap Some (sym same)
    | false ↦ λ apart.
        let there = placed.kept a v (sym (stands-push es place w a apart) ∙ found) in
        elim (is_event w.sub w.event.ev_id v) as (λ t. is_event w.sub w.event.ev_id v ≡ t → cond t (Some place) (place_of places v.sub v.event.ev_id) ≡ Some a) [
          | true ↦ λ is.
              let same = event_is w.sub w.event.ev_id v is in
              let twice : place_of places w.sub w.event.ev_id ≡ Some a = subst (λ s. place_of places s w.event.ev_id ≡ Some a) same.0 (subst (λ i. place_of places v.sub i ≡ Some a) same.1 there) in
              absurd (cc (sym fresh ∙ twice))
          | false ↦ λ _. there
        ] refl
  ] refl

  more_told : (s i a : ℕ) → place_of more s i ≡ Some a → IsAt (es ++ (place, w) ∷ []) s i a
  more_told s i a there = elim (s == w.sub && i == w.event.ev_id) as (λ t. (s == w.sub && i == w.event.ev_id) ≡ t → cond t (Some place) (place_of places s i) ≡ Some a → IsAt (es ++ (place, w) ∷ []) s i a) [
    | true ↦ λ is here.
        let parts = and_parts (s == w.sub) (i == w.event.ev_id) is in
        let same : place ≡ a = cc here in
        record {
          waiting = w;
          found = subst (λ b. at b (es ++ (place, w) ∷ []) ≡ Some w) same (stands-pushed es place w below);
          sub_is = sym (eqb-true s w.sub parts.0);
          ev_id_is = sym (eqb-true i w.event.ev_id parts.1);
        }
    | false ↦ λ _ old.
        let was = placed.told s i a old in
        let apart : eq_by_cmp nat_cmp a place ≡ false = below_is_other a place (below_found place a was.waiting es below was.found) in
        record { waiting = was.waiting; found = stands-push es place w a apart ∙ was.found; sub_is = was.sub_is; ev_id_is = was.ev_id_is }
  ] refl (sym (added s i) ∙ there)

  pub placed_more : InOrder (es ++ (place, w) ∷ []) → IsPlaced (es ++ (place, w) ∷ []) more
  placed_more in_order = record { in_order = in_order; kept = more_kept; told = more_told }

-- ---- one less

module _ (es : Entries) (places fewer : PlacesBySub) (place : ℕ) (w : Retry) (placed : IsPlaced es places) (found_w : at place es ≡ Some w)
    (taken : (s i : ℕ) → place_of fewer s i ≡ cond (s == w.sub && i == w.event.ev_id) None (place_of places s i)) where
  abbrev left : Entries
  left = remove_entry (is_at (nat_cmp place)) es

  -- its event id is at no other place
  own_place : (a : ℕ) (v : Retry) → at a es ≡ Some v → is_event w.sub w.event.ev_id v ≡ true → a ≡ place
  own_place a v found is =
      let same = event_is w.sub w.event.ev_id v is in
      let one : place_of places w.sub w.event.ev_id ≡ Some a = subst (λ s. place_of places s w.event.ev_id ≡ Some a) same.0 (subst (λ i. place_of places v.sub i ≡ Some a) same.1 (placed.kept a v found)) in
      cc (sym one ∙ placed.kept place w found_w)

  less_kept : (a : ℕ) (v : Retry) → at a left ≡ Some v → place_of fewer v.sub v.event.ev_id ≡ Some a
  less_kept a v found = elim (eq_by_cmp nat_cmp a place) as (λ t. eq_by_cmp nat_cmp a place ≡ t → place_of fewer v.sub v.event.ev_id ≡ Some a) [
    | true ↦ λ tie. absurd (cc (sym (stands-removed es place placed.in_order) ∙ subst (λ b. at b left ≡ Some v) (tie_is a place tie) found))
    | false ↦ λ apart.
        let was : at a es ≡ Some v = sym (stands-remove es place a apart) ∙ found in
        taken v.sub v.event.ev_id ∙ elim (is_event w.sub w.event.ev_id v) as (λ t. is_event w.sub w.event.ev_id v ≡ t → cond t None (place_of places v.sub v.event.ev_id) ≡ Some a) [
          | true ↦ λ is. absurd (cc (sym apart ∙ ap (λ b. eq_by_cmp nat_cmp b place) (own_place a v was is) ∙ ties_itself place))
          | false ↦ λ _. placed.kept a v was
        ] refl
  ] refl

  less_told : (s i a : ℕ) → place_of fewer s i ≡ Some a → IsAt left s i a
  less_told s i a there = elim (s == w.sub && i == w.event.ev_id) as (λ t. (s == w.sub && i == w.event.ev_id) ≡ t → cond t None (place_of places s i) ≡ Some a → IsAt left s i a) [
    | true ↦ λ _ none. absurd (cc none)
    | false ↦ λ other old.
        let was = placed.told s i a old in
        elim (eq_by_cmp nat_cmp a place) as (λ t. eq_by_cmp nat_cmp a place ≡ t → IsAt left s i a) [
          | true ↦ λ tie.
              let is : w ≡ was.waiting = cc (sym found_w ∙ subst (λ b. at b es ≡ Some was.waiting) (tie_is a place tie) was.found) in
              let sub_is : s ≡ w.sub = sym was.sub_is ∙ ap (λ (u : Retry). u.sub) (sym is) in
              let ev_id_is : i ≡ w.event.ev_id = sym was.ev_id_is ∙ ap (λ (u : Retry). u.event.ev_id) (sym is) in
              absurd (cc (sym other ∙ ap (λ b. b && i == w.event.ev_id) (eq-eqb s w.sub sub_is) ∙ eq-eqb i w.event.ev_id ev_id_is))
          | false ↦ λ apart.
              record { waiting = was.waiting; found = stands-remove es place a apart ∙ was.found; sub_is = was.sub_is; ev_id_is = was.ev_id_is }
        ] refl
  ] refl (sym (taken s i) ∙ there)

  pub placed_less : InOrder left → IsPlaced left fewer
  placed_less in_order = record { in_order = in_order; kept = less_kept; told = less_told }

  pub without_is : values_of left ≡ without w.sub w.event.ev_id (values_of es)
  without_is = sym (
      filter-map (λ e. e.1) (λ v. not (is_event w.sub w.event.ev_id v)) es
      ∙ ap values_of (filter-one (λ e. is_event w.sub w.event.ev_id e.1) es place w placed.in_order found_w (is_its_event w.sub w.event.ev_id w refl refl)
      (each_entry (λ a v. eq_by_cmp nat_cmp place a ≡ false → is_event w.sub w.event.ev_id v ≡ false) es placed.in_order (λ a v found apart.
      elim (is_event w.sub w.event.ev_id v) as (λ t. is_event w.sub w.event.ev_id v ≡ t → t ≡ false) [
        | true ↦ λ is. absurd (cc (sym apart ∙ ap (eq_by_cmp nat_cmp place) (own_place a v found is) ∙ ties_itself place))
        | false ↦ λ _. refl
      ] refl))))

pub placed_same : (es : Entries) (places same : PlacesBySub) → IsPlaced es places → ((s i : ℕ) → place_of same s i ≡ place_of places s i) → IsPlaced es same
placed_same es places same placed is = record {
  in_order = placed.in_order;
  kept = λ a w found. is w.sub w.event.ev_id ∙ placed.kept a w found;
  told = λ s i a there. placed.told s i a (sym (is s i) ∙ there);
}
