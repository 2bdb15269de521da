-- Those that wait, put one after another at new places.
use Rattle.std.proofs.Common.{◌≡◌, ℕ, ◌<◌, ◌+◌, true, false, List, [], ◌∷◌, ◌++◌, Option, Some, refl, sym, subst, ◌∙◌, ap, arith}
use Rattle.std.specs.Prelude.{◌||◌}
use Rattle.std.specs.Ordering.{nat_cmp}
use Rattle.std.specs.Map.{keys_of, values_of}
use Rattle.std.proofs.lemmas.Map.Keys.{sorted_head, sorted_tail}
use Rattle.pgq_retry.specs.declared.retry.Retry.{Retry}
use Rattle.pgq_retry.specs.Retries.{is_event, is_asked}
use Rattle.pgq_retry.specs.Kept.{Entries, InOrder, AreBelow, at, PlacesBySub, place_of, IsPlaced}
use Rattle.pgq_retry.proofs.Entries.{found_first, found_later, above_found}
use Rattle.pgq_retry.proofs.Indexed.{event_is}

somewhere : (es : Entries) (front : List Retry) (w : Retry) (back : List Retry) → InOrder es → values_of es ≡ front ++ w ∷ back → (a : ℕ) × (at a es ≡ Some w)
somewhere [] [] w back order is = absurd (cc is)
somewhere [] (x ∷ front) w back order is = absurd (cc is)
somewhere (e ∷ es) [] w back order is = let same : e.1 ≡ w = cc is in (e.0, found_first e es ∙ ap Some same)
somewhere (e ∷ es) (x ∷ front) w back order is =
    let rest : values_of es ≡ front ++ w ∷ back = cc is in
    let there = somewhere es front w back (sorted_tail nat_cmp e.0 (keys_of es) order) rest in
    (there.0, found_later e es order there.0 w there.1)

-- an index has the place of each
abbrev Tells : Entries → (ℕ → ℕ → Option ℕ) → Type 0
Tells es place = (a : ℕ) (w : Retry) → at a es ≡ Some w → place w.sub w.event.ev_id ≡ Some a

new_behind : (es : Entries) (place : ℕ → ℕ → Option ℕ) (front : List Retry) (w : Retry) (back : List Retry) → InOrder es → Tells es place → values_of es ≡ front ++ w ∷ back
    → is_asked w.sub w.event.ev_id front ≡ false
new_behind es place [] w back order tells is = refl
new_behind [] place (x ∷ front) w back order tells is = absurd (cc is)
new_behind (e ∷ es) place (x ∷ front) w back order tells is =
    let same : e.1 ≡ x = cc is in
    let rest : values_of es ≡ front ++ w ∷ back = cc is in
    let tail = sorted_tail nat_cmp e.0 (keys_of es) order in
    let other : is_event w.sub w.event.ev_id x ≡ false = elim (is_event w.sub w.event.ev_id x) as (λ t. is_event w.sub w.event.ev_id x ≡ t → t ≡ false) [
      | true ↦ λ twice.
          let both = event_is w.sub w.event.ev_id x twice in
          let there = somewhere es front w back tail rest in
          let one : place w.sub w.event.ev_id ≡ Some there.0 = tells there.0 w (found_later e es order there.0 w there.1) in
          let two : place x.sub x.event.ev_id ≡ Some e.0 = subst (λ (v : Retry). place v.sub v.event.ev_id ≡ Some e.0) same (tells e.0 e.1 (found_first e es)) in
          let again : place w.sub w.event.ev_id ≡ Some e.0 = subst (λ s. place s w.event.ev_id ≡ Some e.0) both.0 (subst (λ i. place x.sub i ≡ Some e.0) both.1 two) in
          let here : there.0 ≡ e.0 = cc (sym one ∙ again) in
          let above = above_found e.0 there.0 w es (sorted_head nat_cmp e.0 (keys_of es) order) there.1 in
          absurd (omega arith)
      | false ↦ λ _. refl
    ] refl in
    ap (λ b. b || is_asked w.sub w.event.ev_id front) other
    ∙ new_behind es place front w back tail (λ a w found. tells a w (found_later e es order a w found)) rest

-- none of those before one is the same subscription's event of its id
pub new_one : (es : Entries) (places : PlacesBySub) (front : List Retry) (w : Retry) (back : List Retry) → IsPlaced es places → values_of es ≡ front ++ w ∷ back
    → is_asked w.sub w.event.ev_id front ≡ false
new_one es places front w back placed is = new_behind es (place_of places) front w back placed.in_order placed.kept is

-- the next place is above one more
pub below_more : (es : Entries) (place : ℕ) (w : Retry) → AreBelow place es → AreBelow (place + 1) (es ++ (place, w) ∷ [])
below_more [] place w below = (omega arith, tt)
below_more (e ∷ es) place w below = let first : e.0 < place = below.0 in (omega arith, below_more es place w below.1)
