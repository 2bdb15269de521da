-- A transaction whose own version of a key is the last, if it has one.
use Rattle.std.proofs.Common.{◌≡◌, ℕ, List, [], ◌∷◌, Bool, true, false, not, ◌==◌, ◌||◌, ◌&&◌, Option, Some, None, IsSome, refl, sym, ◌∙◌, ap, arith, if◌then◌else◌}
use Rattle.std.proofs.lemmas.Bool.Decides.{nat_tests}
use Rattle.sky_val.specs.declared.val.Val.{Val}
use Rattle.sky_keys.specs.declared.version.Version.{Version}
use Rattle.sky_keys.specs.Versions.{with_version, version_of, is_other, newest_from}
use Rattle.londiste_apply.specs.Writing.{is_own_last}

-- a transaction's write leaves it so that only the last version may be the transaction's
pub own-with : (t : ℕ) (row : Option (List Val)) (vs : List Version) → is_own_last t vs ≡ true → is_own_last t (with_version t row vs) ≡ true
own-with t row [] own = grind (arith, nat_tests)
own-with t row (v ∷ vs) own = grind (arith, nat_tests, own, own-with t row vs)

-- then its own version is the newest, if it has one
pub own-newest : (t : ℕ) (vs : List Version) (newest : Option Version) → is_own_last t vs ≡ true → IsSome (version_of t vs) → newest_from (is_other None) newest vs ≡ version_of t vs
own-newest t [] newest own is = absurd (cc)
own-newest t (v ∷ []) newest own is = by (t == v.txid) refl is
  where
    by : (b : Bool) → (t == v.txid) ≡ b → IsSome (if b then Some v else None) → Some v ≡ (if t == v.txid then Some v else None)
    by true same is = ap (λ b. if b then Some v else None) (sym same)
    by false same is = absurd (cc)
own-newest t (v ∷ w ∷ vs) newest own is = by (own-newest t (w ∷ vs) (Some v)) (t == v.txid) refl own is
  where
    by : (is_own_last t (w ∷ vs) ≡ true → IsSome (version_of t (w ∷ vs)) → newest_from (is_other None) (Some v) (w ∷ vs) ≡ version_of t (w ∷ vs)) → (b : Bool) → (t == v.txid) ≡ b → ((not b || false) && is_own_last t (w ∷ vs)) ≡ true → IsSome (if b then Some v else version_of t (w ∷ vs)) → newest_from (is_other None) (Some v) (w ∷ vs) ≡ (if t == v.txid then Some v else version_of t (w ∷ vs))
    by rest true same own is = absurd (cc)
    by rest false same own is = rest own is ∙ ap (λ b. if b then Some v else version_of t (w ∷ vs)) (sym same)

pub own-fresh : (t : ℕ) (vs : List Version) → version_of t vs ≡ None → is_own_last t vs ≡ true
own-fresh t [] none = refl
own-fresh t (v ∷ vs) none = grind (arith, nat_tests, none, own-fresh t vs)
