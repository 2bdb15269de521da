-- What the workers have in hand, after what one of them has in hand has changed.
use Rattle.std.proofs.Common.{arith, ◌≡◌, ℕ, ◌==◌, List, [], ◌∷◌, Bool, true, ◌&&◌, Option, map, bytes_eq, refl, sym, ap, ◌∙◌, if◌then◌else◌}
use Rattle.std.proofs.lemmas.Bool.Decides.{nat_tests}
use Rattle.std.proofs.lemmas.Bool.{and_parts, eqb-true}
use Rattle.sky_names.proofs.PlaceLemmas.{bytes_eq_refl, same_name}
use Rattle.sky_model.specs.Hands.{Hand, copy_in}
use Rattle.sky_model.specs.History.{Mark, within, in_hand, Past}
use Rattle.sky_model.specs.World.{hands, on_top}
use Rattle.sky_model.proofs.Cases.{by_test}
use Rattle.sky_laws_replicas.specs.LawsOfReplicas.{copy_in_hand}

-- whether a table of a database is this one
abbrev pub is_at : (d : ℕ) → (name : List ℕ) → (e : ℕ) → (other : List ℕ) → Bool
is_at d name e other = d == e && bytes_eq other name

pub at-itself : (d : ℕ) (name : List ℕ) → is_at d name d name ≡ true
at-itself d name = grind (arith, nat_tests, bytes_eq_refl name)

-- two that are one
pub record AreOne (d : ℕ) (name : List ℕ) (e : ℕ) (other : List ℕ) : Type 0 where
  pub database : d ≡ e
  pub table : name ≡ other

pub one-at : (d : ℕ) (name : List ℕ) (e : ℕ) (other : List ℕ) → is_at d name e other ≡ true → AreOne d name e other
one-at d name e other is = let both = and_parts (d == e) (bytes_eq other name) is in record { database = eqb-true d e both.0; table = sym (same_name other name both.1) }

-- it has this in hand, and each other one what it had
pub hands-are : (past : Past) (d : ℕ) (name : List ℕ) (hand : Option Hand) (e : ℕ) (other : List ℕ) → hands (in_hand d name hand ∷ past) e other ≡ (if is_at d name e other then hand else hands past e other)
hands-are past d name hand e other = by_test (λ b. hands (in_hand d name hand ∷ past) e other ≡ (if is_at d name e other then hand else hands past e other)) (d == e) (λ _. grind arith) (λ _. grind arith)

-- so it has a copy
pub hand-is : (past : Past) (d : ℕ) (name : List ℕ) (hand : Option Hand) (e : ℕ) (other : List ℕ)
    → copy_in_hand (in_hand d name hand ∷ past) e other ≡ (if is_at d name e other then copy_in hand else copy_in_hand past e other)
hand-is past d name hand e other =
    ap copy_in (hands-are past d name hand e other)
    ∙ by_test (λ b. copy_in (if b then hand else hands past e other) ≡ (if b then copy_in hand else copy_in_hand past e other)) (is_at d name e other) (λ _. refl) (λ _. refl)

-- marks change nothing of it
pub hands-marks : (past : Past) (e : ℕ) (marks : List Mark) → hands (on_top past (map (within e) marks)) ≡ hands past
hands-marks past e [] = refl
hands-marks past e (mark ∷ marks) = hands-marks (within e mark ∷ past) e marks
