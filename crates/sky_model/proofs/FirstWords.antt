-- Bytes have a first word.
use Rattle.std.proofs.Common.{◌≡◌, ℕ, false, true, cond, List, [], ◌∷◌, refl}
use Rattle.sky_model.specs.Words.{is_parting, quoted_after, with_first, pieces, words}

-- a first word, and those after it
pub record HasFirst (ws : List (List ℕ)) : Type 0 where
  pub first : List ℕ
  pub others : List (List ℕ)
  pub is : ws ≡ first ∷ others

has_first-with_first : (b : ℕ) (ps : List (List ℕ)) → HasFirst (with_first b ps)
has_first-with_first b [] = record { first = b ∷ []; others = []; is = refl }
has_first-with_first b (w ∷ ws) = record { first = b ∷ w; others = ws; is = refl }

pub has_first : (bytes : List ℕ) → HasFirst (words bytes)
has_first [] = record { first = []; others = []; is = refl }
has_first (b ∷ bs) =
    elim (is_parting false b) as (λ v. HasFirst (cond v ([] ∷ pieces false bs) (with_first b (pieces (quoted_after false b) bs)))) [
      | true ↦ record { first = []; others = pieces false bs; is = refl }
      | false ↦ has_first-with_first b (pieces (quoted_after false b) bs)
    ]
