-- The version that is found from the newest on, if each transaction has at most one.
use Rattle.std.proofs.Common.{arith, ◌≡◌, ℕ, Bool, true, false, cond, List, [], ◌∷◌, ◌++◌, Option, Some, None, refl, sym, ap, ◌∙◌}
use Rattle.std.specs.Prelude.{◌==◌}
use Rattle.std.proofs.lemmas.Bool.{eqb-true}
use Rattle.std.proofs.lemmas.Bool.Decides.{nat_tests}
use Rattle.sky_val.specs.declared.val.Val.{Val}
use Rattle.sky_keys.specs.declared.version.Version.{Version}
use Rattle.sky_keys.specs.Versions.{with_version, without, version_of, newest_from, newest_by}
use Rattle.sky_keys.proofs.VersionLemmas.{left, version_of-with, version_of-without, without-none}
use Rattle.sky_rows.specs.Versions.{IsOneOfEach}

-- if none of the later versions passes, the newest is among the earlier ones
newest_from-append : (p : ℕ → Bool) (newest : Option Version) (vs ws : List Version) → newest_from p newest (vs ++ ws) ≡ newest_from p (newest_from p newest vs) ws
newest_from-append p newest [] ws = refl
newest_from-append p newest (v ∷ vs) ws = newest_from-append p (cond (p v.txid) (Some v) newest) vs ws

newest_from-some : (p : ℕ → Bool) (v : Version) (ws : List Version) → newest_from p (Some v) ws ≡ None → ⊥
newest_from-some p v [] none = cc none
newest_from-some p v (w ∷ ws) none = elim (p w.txid) as (λ b. newest_from p (cond b (Some w) (Some v)) ws ≡ None → ⊥) [
  | true ↦ λ none. newest_from-some p w ws none
  | false ↦ λ none. newest_from-some p v ws none
] none

newest_from-none : (p : ℕ → Bool) (newest : Option Version) (ws : List Version) → newest_by p ws ≡ None → newest_from p newest ws ≡ newest
newest_from-none p newest [] none = refl
newest_from-none p newest (w ∷ ws) none = elim (p w.txid) as (λ b. newest_from p (cond b (Some w) None) ws ≡ None → newest_from p (cond b (Some w) newest) ws ≡ newest) [
  | true ↦ λ none. absurd (newest_from-some p w ws none)
  | false ↦ λ none. newest_from-none p newest ws none
] none

pub newest_by-middle : (p : ℕ → Bool) (vs : List Version) (v : Version) (ws : List Version) → p v.txid ≡ true → newest_by p ws ≡ None → newest_by p (vs ++ v ∷ ws) ≡ Some v
newest_by-middle p vs v ws passes none =
    newest_from-append p None vs (v ∷ ws) ∙ ap (λ b. newest_from p (cond b (Some v) (newest_by p vs)) ws) passes ∙ newest_from-none p (Some v) ws none

pub newest_by-rest : (p : ℕ → Bool) (v : Version) (ws : List Version) → p v.txid ≡ false → newest_by p ws ≡ None → newest_by p (v ∷ ws) ≡ None
newest_by-rest p v ws passes none = ap (λ b. newest_from p (cond b (Some v) None) ws) passes ∙ none

-- no version passes a test for a transaction that has none
pub no_version : (t : ℕ) (p : ℕ → Bool) (vs : List Version) → ((u : ℕ) → p u ≡ (t == u)) → newest_by p vs ≡ None → version_of t vs ≡ None
no_version t p [] test none = refl
no_version t p (v ∷ vs) test none = elim (t == v.txid) as (λ b. p v.txid ≡ b → newest_from p (cond (p v.txid) (Some v) None) vs ≡ None → cond b (Some v) (version_of t vs) ≡ None) [
  | true ↦ λ is none. absurd (newest_from-some p v vs (ap (λ b. newest_from p (cond b (Some v) None) vs) (sym is) ∙ none))
  | false ↦ λ is none. no_version t p vs test (ap (λ b. newest_from p (cond b (Some v) None) vs) (sym is) ∙ none)
] (test v.txid) none

-- ---- a transaction's version in the middle

one_front : (vs : List Version) (v : Version) (ws : List Version) → IsOneOfEach (vs ++ v ∷ ws) → version_of v.txid vs ≡ None
one_front [] v ws one = refl
one_front (u ∷ vs) v ws one = grind (arith, nat_tests, none_among u.txid vs v ws one.0, one_front vs v ws one.1)
  where
    none_among : (t : ℕ) (vs : List Version) (v : Version) (ws : List Version) → version_of t (vs ++ v ∷ ws) ≡ None → (v.txid == t) ≡ false
    none_among t [] v ws none = grind (arith, nat_tests, none)
    none_among t (u ∷ vs) v ws none = none_among t vs v ws (grind (arith, none))

one_back : (vs : List Version) (v : Version) (ws : List Version) → IsOneOfEach (vs ++ v ∷ ws) → version_of v.txid ws ≡ None
one_back [] v ws one = one.0
one_back (u ∷ vs) v ws one = one_back vs v ws one.1

version_of-after : (t : ℕ) (vs : List Version) (v : Version) (ws : List Version) → version_of t vs ≡ None → (t == v.txid) ≡ true → version_of t (vs ++ v ∷ ws) ≡ Some v
version_of-after t [] v ws none is = grind (arith, is)
version_of-after t (u ∷ vs) v ws none is = grind (arith, none, version_of-after t vs v ws)

with_version-after : (t : ℕ) (row : Option (List Val)) (vs : List Version) (v : Version) (ws : List Version) → version_of t vs ≡ None → (t == v.txid) ≡ true → with_version t row (vs ++ v ∷ ws) ≡ vs ++ left t row ∷ ws
with_version-after t row [] v ws none is = grind (arith, is)
with_version-after t row (u ∷ vs) v ws none is = grind (arith, none, with_version-after t row vs v ws)

without-after : (t : ℕ) (vs : List Version) (v : Version) (ws : List Version) → version_of t vs ≡ None → (t == v.txid) ≡ true → version_of t ws ≡ None → without t (vs ++ v ∷ ws) ≡ vs ++ ws
without-after t [] v ws none is after = grind (arith, is, without-none t ws after)
without-after t (u ∷ vs) v ws none is after = grind (arith, none, without-after t vs v ws)

same_txid : (t : ℕ) (v : Version) → (t == v.txid) ≡ true → v.txid ≡ t
same_txid t v is = grind (arith, nat_tests, is)

pub version_of-middle : (t : ℕ) (vs : List Version) (v : Version) (ws : List Version) → IsOneOfEach (vs ++ v ∷ ws) → (t == v.txid) ≡ true → version_of t (vs ++ v ∷ ws) ≡ Some v
version_of-middle t vs v ws one is = version_of-after t vs v ws (ap (λ u. version_of u vs) (sym (same_txid t v is)) ∙ one_front vs v ws one) is

pub with_version-middle : (t : ℕ) (row : Option (List Val)) (vs : List Version) (v : Version) (ws : List Version) → IsOneOfEach (vs ++ v ∷ ws) → (t == v.txid) ≡ true → with_version t row (vs ++ v ∷ ws) ≡ vs ++ left t row ∷ ws
with_version-middle t row vs v ws one is = with_version-after t row vs v ws (ap (λ u. version_of u vs) (sym (same_txid t v is)) ∙ one_front vs v ws one) is

pub without-middle : (t : ℕ) (vs : List Version) (v : Version) (ws : List Version) → IsOneOfEach (vs ++ v ∷ ws) → (t == v.txid) ≡ true → without t (vs ++ v ∷ ws) ≡ vs ++ ws
without-middle t vs v ws one is =
    let same = sym (same_txid t v is) in
    without-after t vs v ws (ap (λ u. version_of u vs) same ∙ one_front vs v ws one) is (ap (λ u. version_of u ws) same ∙ one_back vs v ws one)

-- ---- each has at most one after a write, and after versions were removed

pub one-with : (t : ℕ) (row : Option (List Val)) (vs : List Version) → IsOneOfEach vs → IsOneOfEach (with_version t row vs)
one-with t row [] one = (refl, tt)
one-with t row (v ∷ vs) one =
    elim (t == v.txid) as (λ b. (t == v.txid) ≡ b → IsOneOfEach (cond b (left t row ∷ vs) (v ∷ with_version t row vs))) [
      | true ↦ λ e. (ap (λ u. version_of u vs) (eqb-true t v.txid e) ∙ one.0, one.1)
      | false ↦ λ e.
          (grind (arith, nat_tests, e, one.0, version_of-with v.txid t row vs), one-with t row vs one.1)
    ] refl

pub one-without : (t : ℕ) (vs : List Version) → IsOneOfEach vs → IsOneOfEach (without t vs)
one-without t [] one = tt
one-without t (v ∷ vs) one =
    elim (t == v.txid) as (λ b. IsOneOfEach (cond b (without t vs) (v ∷ without t vs))) [
      | true ↦ one-without t vs one.1
      | false ↦ (grind (arith, one.0, version_of-without v.txid t vs), one-without t vs one.1)
    ]
