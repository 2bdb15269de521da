-- What a write and the end of a transaction do to the versions of a key.
use Rattle.std.proofs.Common.{arith, ◌≡◌, ℕ, Bool, true, false, cond, List, [], ◌∷◌, ◌++◌, Option, Some, None, refl, ap, ◌∙◌, ◌⊎◌, inl, inr}
use Rattle.std.specs.Prelude.{◌==◌, ◌||◌}
use Rattle.std.specs.Option.{option_or}
use Rattle.std.proofs.lemmas.Bool.{eqb-true, eqb-false}
use Rattle.std.proofs.lemmas.Bool.Decides.{nat_tests}
use Rattle.sky_val.specs.declared.val.Val.{Val}
use Rattle.sky_keys.specs.declared.version.Version.{Version}
use Rattle.sky_keys.specs.Versions.{with_version, without, version_of, newest_from, newest_by}

-- the version that a write leaves
abbrev pub left : ℕ → Option (List Val) → Version
left t row = record { txid = t; row = row }

-- each version but the last is of a transaction that passes
abbrev pub OnlyLast : (ℕ → Bool) → List Version → Type 0
OnlyLast p [] = Unit {0}
OnlyLast p (v ∷ vs) = ((p v.txid ≡ true) ⊎ (vs ≡ [])) × OnlyLast p vs

-- at the end of the list, and at its front

newest_from-last : (p : ℕ → Bool) (newest : Option Version) (vs : List Version) (v : Version) → newest_from p newest (vs ++ v ∷ []) ≡ cond (p v.txid) (Some v) (newest_from p newest vs)
newest_from-last p newest [] v = refl
newest_from-last p newest (w ∷ vs) v = newest_from-last p (cond (p w.txid) (Some w) newest) vs v

-- the last version is the newest, if its transaction passes
pub newest_by-last : (p : ℕ → Bool) (vs : List Version) (v : Version) → newest_by p (vs ++ v ∷ []) ≡ cond (p v.txid) (Some v) (newest_by p vs)
newest_by-last p vs v = newest_from-last p None vs v

-- a write

newest_from-with : (p : ℕ → Bool) (t : ℕ) (row : Option (List Val)) (newest : Option Version) (vs : List Version) → p t ≡ false → newest_from p newest (with_version t row vs) ≡ newest_from p newest vs
newest_from-with p t row newest [] unseen = grind (arith, unseen)
newest_from-with p t row newest (v ∷ vs) unseen = grind (arith, nat_tests, unseen, newest_from-with p t row newest vs unseen, newest_from-with p t row (Some v) vs unseen)

-- a write of a transaction that doesn't pass leaves the newest version that does
pub newest_with : (p : ℕ → Bool) (t : ℕ) (row : Option (List Val)) (vs : List Version) → p t ≡ false → newest_by p (with_version t row vs) ≡ newest_by p vs
newest_with p t row vs unseen = newest_from-with p t row None vs unseen

-- a write changes the transaction's own version, and no other
pub version_of-with : (u t : ℕ) (row : Option (List Val)) (vs : List Version) → version_of u (with_version t row vs) ≡ cond (u == t) (Some (left t row)) (version_of u vs)
version_of-with u t row [] = refl
version_of-with u t row (v ∷ vs) = grind (arith, nat_tests, version_of-with u t row vs)

-- the first write of a transaction appends its version
pub with_version-new : (t : ℕ) (row : Option (List Val)) (vs : List Version) → version_of t vs ≡ None → with_version t row vs ≡ vs ++ left t row ∷ []
with_version-new t row [] none = refl
with_version-new t row (v ∷ vs) none = grind (arith, none, with_version-new t row vs)

-- a transaction's versions are removed

newest_from-without : (p : ℕ → Bool) (t : ℕ) (newest : Option Version) (vs : List Version) → p t ≡ false → newest_from p newest (without t vs) ≡ newest_from p newest vs
newest_from-without p t newest [] unseen = refl
newest_from-without p t newest (v ∷ vs) unseen = grind (arith, nat_tests, unseen, newest_from-without p t newest vs unseen, newest_from-without p t (Some v) vs unseen)

-- removing the versions of a transaction that doesn't pass leaves the newest version that does
pub newest_without : (p : ℕ → Bool) (t : ℕ) (vs : List Version) → p t ≡ false → newest_by p (without t vs) ≡ newest_by p vs
newest_without p t vs unseen = newest_from-without p t None vs unseen

pub version_of-without : (u t : ℕ) (vs : List Version) → version_of u (without t vs) ≡ cond (u == t) None (version_of u vs)
version_of-without u t [] = grind arith
version_of-without u t (v ∷ vs) = grind (arith, nat_tests, version_of-without u t vs)

-- if a transaction has no version, none is removed
pub without-none : (t : ℕ) (vs : List Version) → version_of t vs ≡ None → without t vs ≡ vs
without-none t [] none = refl
without-none t (v ∷ vs) none = grind (arith, none, without-none t vs)

-- a transaction passes that didn't before

newest_from-more : (p q : ℕ → Bool) (t : ℕ) (newest : Option Version) (vs : List Version) → OnlyLast p vs → p t ≡ false → ((u : ℕ) → q u ≡ ((t == u) || p u))
    → newest_from q newest vs ≡ option_or (version_of t vs) (newest_from p newest vs)
newest_from-more p q t newest [] only unseen more = refl
newest_from-more p q t newest (v ∷ vs) only unseen more = grind (arith, nat_tests, only.0, unseen, more v.txid, newest_from-more p q t newest vs only.1 unseen more, newest_from-more p q t (Some v) vs only.1 unseen more)

-- if only the last version may be of a transaction that doesn't pass, the version of such a transaction is the newest once it passes
pub newest_more : (p q : ℕ → Bool) (t : ℕ) (vs : List Version) → OnlyLast p vs → p t ≡ false → ((u : ℕ) → q u ≡ ((t == u) || p u))
    → newest_by q vs ≡ option_or (version_of t vs) (newest_by p vs)
newest_more p q t vs only unseen more = newest_from-more p q t None vs only unseen more

pub only_more : (p q : ℕ → Bool) (vs : List Version) → ((u : ℕ) → p u ≡ true → q u ≡ true) → OnlyLast p vs → OnlyLast q vs
only_more p q [] more only = tt
only_more p q (v ∷ vs) more only = (of only.0, only_more p q vs more only.1)
  where
    of : ((p v.txid ≡ true) ⊎ (vs ≡ [])) → (q v.txid ≡ true) ⊎ (vs ≡ [])
    of (inl seen) = inl (more v.txid seen)
    of (inr last) = inr last

pub only_without : (p : ℕ → Bool) (t : ℕ) (vs : List Version) → OnlyLast p vs → OnlyLast p (without t vs)
only_without p t [] only = tt
only_without p t (v ∷ vs) only =
    elim (t == v.txid) as (λ b. OnlyLast p (cond b (without t vs) (v ∷ without t vs))) [
      | true ↦ only_without p t vs only.1
      | false ↦ (of only.0, only_without p t vs only.1)
    ]
  where
    of : ((p v.txid ≡ true) ⊎ (vs ≡ [])) → (p v.txid ≡ true) ⊎ (without t vs ≡ [])
    of (inl seen) = inl seen
    of (inr last) = inr (ap (without t) last)

-- the versions of the other transactions pass
abbrev pub OthersPass : (ℕ → Bool) → ℕ → List Version → Type 0
OthersPass p t [] = Unit {0}
OthersPass p t (v ∷ vs) = ((t ≡ v.txid) ⊎ (p v.txid ≡ true)) × OthersPass p t vs

pub only_with : (p : ℕ → Bool) (t : ℕ) (row : Option (List Val)) (vs : List Version) → OthersPass p t vs → OnlyLast p vs → OnlyLast p (with_version t row vs)
only_with p t row [] others only = (inr refl, tt)
only_with p t row (v ∷ vs) others only =
    elim (t == v.txid) as (λ b. (t == v.txid) ≡ b → OnlyLast p (cond b (left t row ∷ vs) (v ∷ with_version t row vs))) [
      | true ↦ λ e. (same (eqb-true t v.txid e) only.0, only.1)
      | false ↦ λ e. (inl (passes (eqb-false t v.txid e) others.0), only_with p t row vs others.1 only.1)
    ] refl
  where
    same : t ≡ v.txid → ((p v.txid ≡ true) ⊎ (vs ≡ [])) → (p t ≡ true) ⊎ (vs ≡ [])
    same e (inl seen) = inl (ap p e ∙ seen)
    same e (inr last) = inr last

    passes : (t ≡ v.txid → ⊥) → ((t ≡ v.txid) ⊎ (p v.txid ≡ true)) → p v.txid ≡ true
    passes apart (inl e) = absurd (apart e)
    passes apart (inr seen) = seen
