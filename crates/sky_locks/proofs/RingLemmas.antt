-- One step along those that wait, and what a whole path says of a deadlock cycle.
use Rattle.std.proofs.Common.{◌≡◌, ℕ, zero, suc, Bool, true, false, cond, List, [], ◌∷◌, ◌++◌, append_assoc, Option, Some, None, is_some, refl, sym, ◌∙◌, ap}
use Rattle.std.specs.Prelude.{◌==◌, option_map}
use Rattle.sky_keys.specs.Waits.{along, way_back, LeadsBack}
use Rattle.sky_keys.proofs.WaitLemmas.{leads_back}
use Rattle.sky_lock_table.proofs.Basics.{is_some-mapped}

-- what was passed, and the path that is left
abbrev pub with_rest : (ℕ → Option ℕ) → ℕ → List ℕ → ℕ → ℕ → Option (List ℕ)
with_rest whom who passed most s = option_map (λ way. passed ++ way) (way_back whom who most s)

first_step : (whom : ℕ → Option ℕ) (who : ℕ) (passed : List ℕ) (m n s : ℕ) (o : Option ℕ) → m ≡ suc n → whom s ≡ o → with_rest whom who passed m s ≡ option_map (λ way. passed ++ way) (along who s o (way_back whom who n))
first_step whom who passed m n s o count goes =
    ap (λ k. with_rest whom who passed k s) count ∙ ap (λ o. option_map (λ way. passed ++ way) (along who s o (way_back whom who n))) goes

pub step_ends : (whom : ℕ → Option ℕ) (who : ℕ) (passed : List ℕ) (m n s : ℕ) (out : Option (List ℕ)) → m ≡ suc n → with_rest whom who passed m s ≡ out → whom s ≡ None → None ≡ out
step_ends whom who passed m n s out count is goes = sym (first_step whom who passed m n s None count goes) ∙ is

pub step_closes : (whom : ℕ → Option ℕ) (who : ℕ) (passed : List ℕ) (m n s t : ℕ) (out : Option (List ℕ)) → m ≡ suc n → with_rest whom who passed m s ≡ out → whom s ≡ Some t → (t == who) ≡ true → Some (passed ++ s ∷ []) ≡ out
step_closes whom who passed m n s t out count is goes back =
    ap (λ b. option_map (λ way. passed ++ way) (cond b (Some (s ∷ [])) (option_map (λ rest. s ∷ rest) (way_back whom who n t)))) (sym back)
    ∙ sym (first_step whom who passed m n s (Some t) count goes) ∙ is

behind : (passed : List ℕ) (s : ℕ) (o : Option (List ℕ)) → option_map (λ way. (passed ++ s ∷ []) ++ way) o ≡ option_map (λ way. passed ++ way) (option_map (λ rest. s ∷ rest) o)
behind passed s None = refl
behind passed s (Some way) = ap Some (append_assoc passed (s ∷ []) way)

pub step_goes_on : (whom : ℕ → Option ℕ) (who : ℕ) (passed : List ℕ) (m n s t : ℕ) (out : Option (List ℕ)) → m ≡ suc n → with_rest whom who passed m s ≡ out → whom s ≡ Some t → (t == who) ≡ false → with_rest whom who (passed ++ s ∷ []) n t ≡ out
step_goes_on whom who passed m n s t out count is goes apart =
    behind passed s (way_back whom who n t)
    ∙ ap (λ b. option_map (λ way. passed ++ way) (cond b (Some (s ∷ [])) (option_map (λ rest. s ∷ rest) (way_back whom who n t)))) (sym apart)
    ∙ sym (first_step whom who passed m n s (Some t) count goes) ∙ is

-- no path is left after the last step
pub step_last : (whom : ℕ → Option ℕ) (who : ℕ) (passed : List ℕ) (m s : ℕ) (out : Option (List ℕ)) → m ≡ zero → with_rest whom who passed m s ≡ out → None ≡ out
step_last whom who passed m s out count is = sym (ap (λ k. with_rest whom who passed k s) count) ∙ is

-- if there is a path, a cycle closes
pub ring_closes : (who : ℕ) (way : Option (List ℕ)) → is_some way ≡ true → None ≡ option_map (λ way. who ∷ way) way → ⊥
ring_closes who None there none = absurd (cc there)
ring_closes who (Some way) there none = absurd (cc none)

-- from a session that doesn't wait for `who` itself there is a path if there is one from the next
pub way_goes_on : (whom : ℕ → Option ℕ) (who m n s t : ℕ) (found : Bool) → m ≡ suc n → is_some (way_back whom who m s) ≡ found → whom s ≡ Some t → (t == who) ≡ false → is_some (way_back whom who n t) ≡ found
way_goes_on whom who m n s t found count is goes apart =
    sym (is_some-mapped (λ rest. s ∷ rest) (way_back whom who n t))
    ∙ ap (λ b. is_some (cond b (Some (s ∷ [])) (option_map (λ rest. s ∷ rest) (way_back whom who n t)))) (sym apart)
    ∙ sym (ap (λ k. is_some (way_back whom who k s)) count ∙ ap (λ o. is_some (along who s o (way_back whom who n))) goes) ∙ is

-- a cycle that was found has a path in it
pub ring_way : (whom : ℕ → Option ℕ) (who most other : ℕ) (ring : List ℕ) → Some ring ≡ option_map (λ way. who ∷ way) (way_back whom who most other) → (way : List ℕ) × LeadsBack whom who other way × (ring ≡ who ∷ way)
ring_way whom who most other ring is = of (way_back whom who most other) refl is
  where
    of : (o : Option (List ℕ)) → way_back whom who most other ≡ o → Some ring ≡ option_map (λ way. who ∷ way) o → (way : List ℕ) × LeadsBack whom who other way × (ring ≡ who ∷ way)
    of None found is = absurd (cc is)
    of (Some way) found is = let whole : ring ≡ who ∷ way = cc is in (way, leads_back whom who most other way found, whole)

-- and if none was found, there is no path
pub no_ring : (whom : ℕ → Option ℕ) (who most other : ℕ) → None ≡ option_map (λ way. who ∷ way) (way_back whom who most other) → way_back whom who most other ≡ None
no_ring whom who most other is = of (way_back whom who most other) is
  where
    of : (o : Option (List ℕ)) → None ≡ option_map (λ way. who ∷ way) o → o ≡ None
    of None is = refl
    of (Some way) is = absurd (cc is)
