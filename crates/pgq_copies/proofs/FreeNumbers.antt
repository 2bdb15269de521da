-- The least number that no hold has.
use Rattle.std.proofs.Common.{◌≡◌, ℕ, zero, suc, ◌+◌, ◌<◌, ◌≤◌, ◌==◌, ◌||◌, nat_lt, List, [], ◌∷◌, Bool, true, false, Option, Some, None, Bor, is_some, find, option_map, option_copied, map, length, refl, sym, ◌∙◌, ap, subst, arith, if◌then◌else◌}
use Rattle.std.proofs.lemmas.Bool.Decides.{nat_tests}
use Rattle.sky_txid.specs.Snapshot.{SnapshotView}
use Rattle.std.proofs.lemmas.List.{length-map}
use Rattle.sky_txid.specs.Ids.{contains}
use Rattle.sky_model.specs.Copies.{Hold, first_free, least_free}
use Rattle.sky_model.specs.LawsOfCopies.{IsLeastFree}
use Rattle.sky_model.proofs.LeastNumbers.{least-free}

-- it is at most as large as there are holds
at-most : (most n : ℕ) (ns : List ℕ) → first_free most n ns ≤ n + most
at-most zero n ns = omega arith
at-most (suc most) n ns = by (contains n ns) (at-most most (n + 1) ns)
  where
    by : (b : Bool) → first_free most (n + 1) ns ≤ n + 1 + most → (if b then first_free most (n + 1) ns else n) ≤ n + suc most
    by true later = omega (arith, later)
    by false later = omega arith

pub few : (holds : List Hold) → least_free (map Hold.number holds) ≤ length holds
few holds = let bound = at-most (length (map Hold.number holds)) 0 (map Hold.number holds) in let same = length-map holds Hold.number in omega (arith, bound, same)

-- a number that a hold has is below it, if none after it is
pub further : (ns : List ℕ) (n : ℕ) → n ≤ least_free ns → contains n ns ≡ true → n + 1 ≤ least_free ns
further ns n low there = by (n == least_free ns) refl
  where
    by : (b : Bool) → (n == least_free ns) ≡ b → n + 1 ≤ least_free ns
    by true is = let same : n ≡ least_free ns = grind (arith, nat_tests) in let free = (least-free ns).0 in absurd (cc (sym free ∙ sym (ap (λ m. contains m ns) same) ∙ there))
    by false is = let other : (n == least_free ns) ≡ false = is in grind (arith, nat_tests)

-- and one that no hold has is it
pub found : (ns : List ℕ) (n : ℕ) → n ≤ least_free ns → contains n ns ≡ false → n ≡ least_free ns
found ns n low free = by (nat_lt n (least_free ns)) refl
  where
    by : (b : Bool) → nat_lt n (least_free ns) ≡ b → n ≡ least_free ns
    by true is = let below : n < least_free ns = grind (arith, nat_tests) in absurd (cc (sym free ∙ (least-free ns).1 n below))
    by false is = grind (arith, nat_tests)

-- whether a hold has it
found-held : (n : ℕ) (holds : List Hold) → is_some (option_map Hold.snapshot (find (λ (x : Hold). x.number == n) holds)) ≡ contains n (map Hold.number holds)
found-held n [] = refl
found-held n (x ∷ holds) = by (x.number == n) refl (found-held n holds)
  where
    by : (b : Bool) → (x.number == n) ≡ b → is_some (option_map Hold.snapshot (find (λ (y : Hold). y.number == n) holds)) ≡ contains n (map Hold.number holds)
        → is_some (option_map Hold.snapshot (if b then Some x else find (λ (y : Hold). y.number == n) holds)) ≡ ((n == x.number) || contains n (map Hold.number holds))
    by true is rest = grind (arith, nat_tests, is)
    by false is rest = grind (arith, nat_tests, is, rest)

pub lent : (n : ℕ) (holds : List Hold) (o : Option (Bor SnapshotView)) (b : Bool) → option_copied o ≡ option_map Hold.snapshot (find (λ (x : Hold). x.number == n) holds) → is_some o ≡ b → contains n (map Hold.number holds) ≡ b
lent n holds None b is some = sym (ap is_some is ∙ found-held n holds) ∙ some
lent n holds (Some x) b is some = sym (ap is_some is ∙ found-held n holds) ∙ some
