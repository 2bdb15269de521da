-- What is kept after a list was made, or its number freed.
use Rattle.std.proofs.Common.{◌≡◌, ◌≢◌, ℕ, zero, suc, ◌<◌, ◌^◌, Bool, true, false, List, [], ◌∷◌, ◌++◌, length, set, Option, Some, None, slice_get, get_or, length-set, refl, ap, ◌∙◌, arith}
use Rattle.std.specs.Prelude.{◌==◌, if◌then◌else◌}
use Rattle.std.proofs.lemmas.Bool.Decides.{nat_tests}
use Rattle.std.proofs.lemmas.Option.{slice_get_within, get_or_from_slice_get}
use Rattle.sky_chain.specs.declared.links.Link.{Link}
use Rattle.sky_chain.specs.declared.links.Ends.{Ends}
use Rattle.sky_chain.specs.Chains.{Lacks}
use Rattle.sky_chain.specs.Links.{nowhere, freed, first_or, Links, empty_ends, freed_ends, Freed, Keeps, KeepsAt, AreKept}
use Rattle.sky_chain.proofs.Reading.{small_links, Keeps-in_use, found}
use Rattle.sky_chain.proofs.Keeping.{slice_get-set_same, slice_get-set_other, slice_get-append, slice_get-push, Freed-same, freed_lack, keeps_with}

slice_get-push_other : {X : Type 0} (xs : List X) (x : X) (i : ℕ) → i ≢ length xs → slice_get (xs ++ x ∷ []) i ≡ slice_get xs i
slice_get-push_other [] x zero other = absurd (other refl)
slice_get-push_other [] x (suc i) other = refl
slice_get-push_other (z ∷ xs) x zero other = refl
slice_get-push_other (z ∷ xs) x (suc i) other = slice_get-push_other xs x i (λ same. other (ap suc same))

Freed-append : (ends more : List Ends) (xs : List ℕ) → Freed (slice_get ends) xs → Freed (slice_get (ends ++ more)) xs
Freed-append ends more [] numbers = tt
Freed-append ends more (x ∷ xs) numbers = (slice_get-append ends more x _ numbers.0, numbers.1, Freed-append ends more xs numbers.2)

empty_keeps : (links : Links) (list : ℕ) → Keeps links list empty_ends []
empty_keeps links list = record { first = refl; last = refl; chain = tt }

module _ {links : List Link} {ends : List Ends} {free free_number spare size capacity : ℕ} {lists : ℕ → Option (List ℕ)} {spares : List ℕ}
    (kept : AreKept links ends free free_number spare size capacity lists spares) where
  -- a list is made with a new number
  pub added_kept : (new : List Ends) → new ≡ ends ++ empty_ends ∷ [] → length new < 2 ^ 63
      → AreKept links new free free_number spare size capacity (λ l. if l == length ends then Some [] else lists l) spares
  added_kept new is few = rw is (record {
    keeps = λ l. at_list l (l == length ends) (grind (arith, nat_tests)) (grind (arith, nat_tests));
    spares_are = kept.spares_are;
    free_node_is = kept.free_node_is;
    numbers = kept.numbers;
    numbers_are = Freed-append ends (empty_ends ∷ []) kept.numbers kept.numbers_are;
    free_number_is = kept.free_number_is;
    spare_is = kept.spare_is;
    made = kept.made;
    room = kept.room;
    small = kept.small;
    few = rw is at few;
  })
    where
      at_list : (l : ℕ) (b : Bool) → (b ≡ true → l ≡ length ends) → (b ≡ false → l ≢ length ends)
          → KeepsAt (slice_get links) l (slice_get (ends ++ empty_ends ∷ []) l) (if b then Some [] else lists l)
      at_list l true same other = rw (same refl, slice_get-push ends empty_ends) (empty_keeps (slice_get links) (length ends))
      at_list l false same other = rw (slice_get-push_other ends empty_ends l (other refl)) (kept.keeps l)

  -- a freed number is no list's
  freed_is_none : (list : ℕ) (e : Ends) → slice_get ends list ≡ Some e → e.last ≡ freed → lists list ≡ None
  freed_is_none list e there is = at_list (lists list) refl
    where
      at_list : (v : Option (List ℕ)) → lists list ≡ v → v ≡ None
      at_list None same = refl
      at_list (Some nodes) same = absurd (Keeps-in_use links list e nodes (small_links kept) (rw (there, same) at (kept.keeps list)) is)

  -- a list is made with a freed number
  pub reused_kept : (e : Ends) → e ≡ get_or ends free_number e → free_number ≢ nowhere
      → (lists free_number ≡ None) × AreKept links (set ends free_number empty_ends) free e.first spare size capacity (λ l. if l == free_number then Some [] else lists l) spares
  reused_kept e read some = at_numbers kept.numbers kept.numbers_are kept.free_number_is
    where
      at_numbers : (numbers : List ℕ) → Freed (slice_get ends) numbers → free_number ≡ first_or numbers nowhere
          → (lists free_number ≡ None) × AreKept links (set ends free_number empty_ends) free e.first spare size capacity (λ l. if l == free_number then Some [] else lists l) spares
      at_numbers [] numbers is = absurd (some is)
      at_numbers (n ∷ rest) numbers is =
          let there : slice_get ends free_number ≡ Some (freed_ends (first_or rest nowhere)) = ap (slice_get ends) is ∙ numbers.0 in (
            freed_is_none free_number _ there refl,
            record {
              keeps = keeps_with (slice_get links) ends free_number empty_ends _ (Some []) lists there (empty_keeps (slice_get links) free_number) (λ l other. kept.keeps l);
              spares_are = kept.spares_are;
              free_node_is = kept.free_node_is;
              numbers = rest;
              numbers_are = Freed-same (slice_get ends) (slice_get (set ends free_number empty_ends)) free_number rest (λ z other. slice_get-set_other ends free_number z empty_ends other) (rw is numbers.1) numbers.2;
              free_number_is = ap (λ (k : Ends). k.first) (read ∙ get_or_from_slice_get ends free_number _ e there);
              spare_is = kept.spare_is;
              made = kept.made;
              room = kept.room;
              small = kept.small;
              few = omega (arith, kept.few, length-set ends free_number empty_ends);
            },
          )

  pub free_number_within : free_number ≢ nowhere → free_number < length ends
  free_number_within some = at_numbers kept.numbers kept.numbers_are kept.free_number_is
    where
      at_numbers : (numbers : List ℕ) → Freed (slice_get ends) numbers → free_number ≡ first_or numbers nowhere → free_number < length ends
      at_numbers [] numbers is = absurd (some is)
      at_numbers (n ∷ rest) numbers is = slice_get_within ends free_number _ (ap (slice_get ends) is ∙ numbers.0)

  -- a list's number is freed
  pub freed_kept : (list : ℕ) → lists list ≡ Some [] → AreKept links (set ends list (freed_ends free_number)) free list spare size capacity (λ l. if l == list then None else lists l) spares
  freed_kept list empty =
      let there = found kept list [] empty in
      record {
        keeps = keeps_with (slice_get links) ends list (freed_ends free_number) there.0 None lists there.1 refl (λ l other. kept.keeps l);
        spares_are = kept.spares_are;
        free_node_is = kept.free_node_is;
        numbers = list ∷ kept.numbers;
        numbers_are = (
          slice_get-set_same ends list (freed_ends free_number) there.0 there.1 ∙ ap (λ z. Some (freed_ends z)) kept.free_number_is,
          lacked there,
          Freed-same (slice_get ends) (slice_get (set ends list (freed_ends free_number))) list kept.numbers (λ z other. slice_get-set_other ends list z (freed_ends free_number) other) (lacked there) kept.numbers_are,
        );
        free_number_is = refl;
        spare_is = kept.spare_is;
        made = kept.made;
        room = kept.room;
        small = kept.small;
        few = omega (arith, kept.few, length-set ends list (freed_ends free_number));
      }
    where
      lacked : (e : Ends) × (slice_get ends list ≡ Some e) × Keeps (slice_get links) list e [] → Lacks list kept.numbers
      lacked there = freed_lack (slice_get ends) list there.0 kept.numbers there.1 (Keeps-in_use links list there.0 [] (small_links kept) there.2) kept.numbers_are
