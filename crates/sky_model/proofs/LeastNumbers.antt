-- The least number that isn't among some.
use Rattle.std.proofs.Common.{◌≡◌, ℕ, zero, suc, ◌+◌, ◌<◌, ◌≤◌, ◌==◌, nat_le, List, [], ◌∷◌, true, false, filter, length, refl, ◌∙◌, ap, arith, if◌then◌else◌}
use Rattle.std.proofs.lemmas.Bool.Decides.{nat_tests}
use Rattle.sky_txid.specs.Ids.{contains}
use Rattle.sky_model.specs.Copies.{first_free, least_free}
use Rattle.sky_model.specs.LawsOfCopies.{IsLeastFree}
use Rattle.sky_model.proofs.Cases.{by_test}

-- how many are a number at least
abbrev from : ℕ → List ℕ → ℕ
from n ns = length (filter (λ m. nat_le n m) ns)

from-fewer : (n : ℕ) (ns : List ℕ) → from (n + 1) ns ≤ from n ns
from-fewer n [] = omega arith
from-fewer n (m ∷ ns) = grind (arith, nat_tests, from-fewer n ns)

from-less : (n : ℕ) (ns : List ℕ) → contains n ns ≡ true → from (n + 1) ns + 1 ≤ from n ns
from-less n [] there = absurd (cc)
from-less n (m ∷ ns) there = grind (arith, nat_tests, from-fewer n ns, from-less n ns)

from-none : (n : ℕ) (ns : List ℕ) → from n ns ≤ 0 → contains n ns ≡ false
from-none n [] none = refl
from-none n (m ∷ ns) none = grind (arith, nat_tests, from-none n ns)

from-all : (ns : List ℕ) → from 0 ns ≤ length ns
from-all [] = omega arith
from-all (m ∷ ns) = grind (arith, nat_tests, from-all ns)

first-free : (most n : ℕ) (ns : List ℕ) → from n ns ≤ most → ((m : ℕ) → m < n → contains m ns ≡ true) → IsLeastFree (first_free most n ns) ns
first-free zero n ns few below = (from-none n ns few, below)
first-free (suc most) n ns few below =
    by_test (λ b. contains n ns ≡ b → IsLeastFree (if b then first_free most (n + 1) ns else n) ns) (contains n ns)
    (λ _ there. first-free most (n + 1) ns (let less = from-less n ns there in omega (arith, few, less)) (next there)) (λ _ free. (free, below)) refl
  where
    next : contains n ns ≡ true → (m : ℕ) → m < n + 1 → contains m ns ≡ true
    next there m less =
        by_test (λ b. (m == n) ≡ b → contains m ns ≡ true) (m == n) (λ _ same. let one : m ≡ n = grind (arith, nat_tests, same) in ap (λ k. contains k ns) one ∙ there)
        (λ _ other. below m (grind (arith, nat_tests, other, less))) refl

pub least-free : (ns : List ℕ) → IsLeastFree (least_free ns) ns
least-free ns = first-free (length ns) 0 ns (from-all ns) (λ m less. absurd (omega (arith, less)))
