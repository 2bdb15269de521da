-- The first by due moment, and what is left without it.
use Rattle.std.proofs.Common.{◌≡◌, ℕ, true, false, cond, [], ◌∷◌, Option, Some, None, refl, sym, subst, ◌∙◌, ap}
use Rattle.std.specs.Prelude.{int_le, option_map, slice_get}
use Rattle.std.specs.Ordering.{nat_cmp}
use Rattle.std.specs.Map.{keys_of, remove_entry}
use Rattle.std.specs.BTreeMap.{is_at}
use Rattle.std.proofs.lemmas.Map.Keys.{sorted_head, sorted_tail}
use Rattle.pgq_retry.specs.declared.retry.Retry.{Retry}
use Rattle.pgq_retry.specs.Retries.{put_by}
use Rattle.pgq_retry.specs.Kept.{Entries, InOrder, at}
use Rattle.pgq_retry.proofs.DueIndex.{above_is_other}
use Rattle.pgq_retry.proofs.Entries.{above_found, found_first, found_later, ties_itself}
use Rattle.pgq_retry.proofs.Sorting.{sorted}

-- the entry at this place is the first of the sorted ones, and without it the others are left as they are sorted
pub record IsFirst (es : Entries) (place : ℕ) : Type 0 where
  pub waiting : Retry
  pub found : at place es ≡ Some waiting
  pub rest : Entries
  pub sorted_is : sorted es ≡ (place, waiting) ∷ rest
  pub left_is : sorted (remove_entry (is_at (nat_cmp place)) es) ≡ rest

-- the place of the first of a list
abbrev pub place_first : Entries → Option ℕ
place_first es = option_map (λ e. e.0) (slice_get es 0)

abbrev put : ℕ × Retry → Entries → Entries
put e es = put_by (λ e. e.1.due) e es

-- the first is the one at the head
in_front : (e : ℕ × Retry) (es : Entries) (place : ℕ) → e.0 ≡ place → sorted (e ∷ es) ≡ e ∷ sorted es → IsFirst (e ∷ es) place
in_front e es place is in_order = subst (IsFirst (e ∷ es)) is (record {
  waiting = e.1;
  found = found_first e es;
  rest = sorted es;
  sorted_is = in_order;
  left_is = ap (λ t. sorted (cond t es (e ∷ remove_entry (is_at (nat_cmp e.0)) es))) (ties_itself e.0);
})

-- it is after the head, and the head is put into its place after that one is taken
behind : (e : ℕ × Retry) (es : Entries) (place : ℕ) (y : ℕ × Retry) (s : Entries) → InOrder (e ∷ es) → sorted es ≡ y ∷ s → int_le e.1.due y.1.due ≡ false → IsFirst es place → IsFirst (e ∷ es) place
behind e es place y s order same after first =
    let heads : ◌≡◌ {A = ℕ × Retry} (place, first.waiting) y = cc (sym first.sorted_is ∙ same) in
    let later : int_le e.1.due first.waiting.due ≡ false = ap (λ (h : ℕ × Retry). int_le e.1.due h.1.due) heads ∙ after in
    let apart = above_is_other place e.0 (above_found e.0 place first.waiting es (sorted_head nat_cmp e.0 (keys_of es) order) first.found) in
    record {
      waiting = first.waiting;
      found = found_later e es order place first.waiting first.found;
      rest = put e first.rest;
      sorted_is = ap (put e) first.sorted_is ∙ ap (λ t. cond t (e ∷ (place, first.waiting) ∷ first.rest) ((place, first.waiting) ∷ put e first.rest)) later;
      left_is = ap (λ t. sorted (cond t es (e ∷ remove_entry (is_at (nat_cmp place)) es))) apart ∙ ap (put e) first.left_is;
    }

pub first_taken : (es : Entries) (place : ℕ) → InOrder es → place_first (sorted es) ≡ Some place → IsFirst es place
first_taken [] place order is = absurd (cc is)
first_taken (e ∷ es) place order is = elim (sorted es) as (λ s. sorted es ≡ s → place_first (put e s) ≡ Some place → IsFirst (e ∷ es) place) [
  | [] ↦ λ none is. in_front e es place (cc is) (ap (put e) none ∙ sym (ap (λ s. e ∷ s) none))
  | y ∷ s ↦ λ same is. elim (int_le e.1.due y.1.due) as (λ t. int_le e.1.due y.1.due ≡ t → place_first (cond t (e ∷ y ∷ s) (y ∷ put e s)) ≡ Some place → IsFirst (e ∷ es) place) [
    | true ↦ λ le is. in_front e es place (cc is) (ap (put e) same ∙ ap (λ t. cond t (e ∷ y ∷ s) (y ∷ put e s)) le ∙ sym (ap (λ s. e ∷ s) same))
    | false ↦ λ after is. behind e es place y s order same after (first_taken es place (sorted_tail nat_cmp e.0 (keys_of es) order) (ap place_first same ∙ is))
  ] refl is
] refl is

-- if the sorted entries have no first, there is none
pub nothing_sorted : (es : Entries) → place_first (sorted es) ≡ None → es ≡ []
nothing_sorted [] none = refl
nothing_sorted (e ∷ es) none = elim (sorted es) as (λ s. place_first (put e s) ≡ None → e ∷ es ≡ []) [
  | [] ↦ λ none. absurd (cc none)
  | y ∷ s ↦ λ none. elim (int_le e.1.due y.1.due) as (λ t. place_first (cond t (e ∷ y ∷ s) (y ∷ put e s)) ≡ None → e ∷ es ≡ []) [
    | true ↦ λ none. absurd (cc none)
    | false ↦ λ none. absurd (cc none)
  ] none
] none
