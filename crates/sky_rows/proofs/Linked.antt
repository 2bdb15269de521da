-- A node that has a version is in a list.
use Rattle.std.proofs.Common.{◌≡◌, ◌≢◌, ℕ, zero, suc, true, false, List, [], ◌∷◌, ◌++◌, get_or, Option, Some, None, refl, sym, ap, ◌∙◌, ◌⊎◌, inl, inr}
use Rattle.std.specs.Prelude.{◌==◌}
use Rattle.std.specs.Option.{unwrap_or}
use Rattle.std.proofs.lemmas.Bool.{eqb-true, eqb-false}
use Rattle.sky_chain.specs.Chains.{Lacks, IsLinked}
use Rattle.sky_keys.specs.declared.version.Version.{Version}
use Rattle.sky_rows.specs.Older.{OlderView, node_at, IsFilled}

among : (x : ℕ) (xs : List ℕ) → ((front : List ℕ) × (back : List ℕ) × (xs ≡ front ++ x ∷ back)) ⊎ Lacks x xs
among x [] = inr tt
among x (y ∷ ys) = elim (x == y) as (λ b. (x == y) ≡ b → ((front : List ℕ) × (back : List ℕ) × (y ∷ ys ≡ front ++ x ∷ back)) ⊎ Lacks x (y ∷ ys)) [
  | true ↦ λ same. inl ([], ys, ap (λ z. z ∷ ys) (sym (eqb-true x y same)))
  | false ↦ λ other. rest (eqb-false x y other) (among x ys)
] refl
  where
    rest : x ≢ y → (((front : List ℕ) × (back : List ℕ) × (ys ≡ front ++ x ∷ back)) ⊎ Lacks x ys) → ((front : List ℕ) × (back : List ℕ) × (y ∷ ys ≡ front ++ x ∷ back)) ⊎ Lacks x (y ∷ ys)
    rest other (inl (front, back, is)) = inl (y ∷ front, back, ap (λ zs. y ∷ zs) is)
    rest other (inr lacks) = inr (other, lacks)

-- a node is in one of some lists, or in none
abbrev IsIn : List (Option (List ℕ)) → ℕ → Type 0
IsIn lists x = (l : ℕ) × (front : List ℕ) × (back : List ℕ) × (get_or lists l None ≡ Some (front ++ x ∷ back))

abbrev IsInNone : List (Option (List ℕ)) → ℕ → Type 0
IsInNone lists x = (l : ℕ) → Lacks x (unwrap_or (get_or lists l None) [])

is_in : (x : ℕ) (lists : List (Option (List ℕ))) → IsIn lists x ⊎ IsInNone lists x
is_in x [] = inr (λ l. tt)
is_in x (o ∷ lists) = at_first o (is_in x lists)
  where
    none : (o : Option (List ℕ)) → Lacks x (unwrap_or o []) → IsInNone lists x → (l : ℕ) → Lacks x (unwrap_or (get_or (o ∷ lists) l None) [])
    none o lacks rest zero = lacks
    none o lacks rest (suc l) = rest l

    first : (xs : List ℕ) → (((front : List ℕ) × (back : List ℕ) × (xs ≡ front ++ x ∷ back)) ⊎ Lacks x xs) → IsInNone lists x → IsIn (Some xs ∷ lists) x ⊎ IsInNone (Some xs ∷ lists) x
    first xs (inl (front, back, is)) rest = inl (0, front, back, ap Some is)
    first xs (inr lacks) rest = inr (none (Some xs) lacks rest)

    at_first : (o : Option (List ℕ)) → IsIn lists x ⊎ IsInNone lists x → IsIn (o ∷ lists) x ⊎ IsInNone (o ∷ lists) x
    at_first o (inl (l, front, back, is)) = inl (suc l, front, back, is)
    at_first None (inr rest) = inr (none None tt rest)
    at_first (Some xs) (inr rest) = first xs (among x xs) rest

pub is_linked : (older : OlderView) (x : ℕ) (v : Version) → IsFilled older.chains older.nodes → node_at older.nodes x ≡ Some v → IsLinked older.chains x
is_linked older x v filled is = of (is_in x older.chains.lists)
  where
    of : IsIn older.chains.lists x ⊎ IsInNone older.chains.lists x → IsLinked older.chains x
    of (inl (l, front, back, at)) = (l, front, back, at)
    of (inr unlinked) = absurd (cc (sym (filled.unfilled x unlinked) ∙ is))
