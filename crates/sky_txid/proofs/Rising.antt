-- Lists of ids that rise strictly between two bounds.
use Rattle.std.proofs.Common.{◌≡◌, ℕ, zero, suc, ◌+◌, ◌<◌, ◌≤◌, ◌≢◌, Bool, true, false, not, List, [], ◌∷◌, ◌++◌, length, get_or, sym, refl, ◌∙◌, ap, arith}
use Rattle.std.proofs.lemmas.Bool.{or_parts}
use Rattle.std.proofs.Math.Bool.{or_assoc, or-false}
use Rattle.std.proofs.lemmas.Bool.Decides.{nat_tests}
use Rattle.std.specs.List.{filter, remove}
use Rattle.std.specs.Prelude.{◌&&◌, ◌||◌, ◌==◌}
use Rattle.sky_txid.specs.Ids.{contains, rises_within}

-- what a rising list says of its first item and the rest
pub record Rises (low high t : ℕ) (ts : List ℕ) : Type 0 where
  pub above : low ≤ t
  pub below : t < high
  pub rest : rises_within (t + 1) high ts ≡ true

pub rising_parts : (low high t : ℕ) (ts : List ℕ) → rises_within low high (t ∷ ts) ≡ true → Rises low high t ts
rising_parts low high t ts h = record { above = grind (arith, nat_tests, h); below = grind (arith, nat_tests, h); rest = grind (arith, nat_tests, h) }

pub rising_from : (low high t : ℕ) (ts : List ℕ) → low ≤ t → t < high → rises_within (t + 1) high ts ≡ true → rises_within low high (t ∷ ts) ≡ true
rising_from low high t ts above below rest = grind (arith, nat_tests)

-- each item lies between the bounds
pub rising-above : (low high : ℕ) (ids : List ℕ) (k : ℕ) → rises_within low high ids ≡ true → k < length ids → low ≤ get_or ids k 0
rising-above low high [] k h lt = omega arith
rising-above low high (t ∷ ts) zero h lt = (rising_parts low high t ts h).above
rising-above low high (t ∷ ts) (suc k) h lt =
    let parts = rising_parts low high t ts h in grind (arith, rising-above (t + 1) high ts k parts.rest)

pub rising-below : (low high : ℕ) (ids : List ℕ) (k : ℕ) → rises_within low high ids ≡ true → k < length ids → get_or ids k 0 < high
rising-below low high [] k h lt = omega arith
rising-below low high (t ∷ ts) zero h lt = (rising_parts low high t ts h).below
rising-below low high (t ∷ ts) (suc k) h lt =
    rising-below (t + 1) high ts k (rising_parts low high t ts h).rest (omega arith)

-- a later item isn't smaller
pub rising-ordered : (low high : ℕ) (ids : List ℕ) → rises_within low high ids ≡ true → (i j : ℕ) → i ≤ j → j < length ids → get_or ids i 0 ≤ get_or ids j 0
rising-ordered low high [] h i j le lt = omega arith
rising-ordered low high (t ∷ ts) h zero zero le lt = omega arith
rising-ordered low high (t ∷ ts) h zero (suc j) le lt = grind (arith, rising-above (t + 1) high ts j (rising_parts low high t ts h).rest)
rising-ordered low high (t ∷ ts) h (suc i) zero le lt = omega arith
rising-ordered low high (t ∷ ts) h (suc i) (suc j) le lt = rising-ordered (t + 1) high ts (rising_parts low high t ts h).rest i j (omega arith) (omega arith)

-- the lower bound may be lowered, and the upper one raised
pub rising-wider : (low high low' high' : ℕ) (ids : List ℕ) → low' ≤ low → high ≤ high' → rises_within low high ids ≡ true → rises_within low' high' ids ≡ true
rising-wider low high low' high' [] down up h = refl
rising-wider low high low' high' (t ∷ ts) down up h =
    let parts = rising_parts low high t ts h in
    rising_from low' high' t ts (omega arith) (omega arith) (rising-wider (t + 1) high (t + 1) high' ts (omega arith) up parts.rest)

-- an item of the list is contained, and an id that differs from each isn't
pub contains-get_or : (ids : List ℕ) (k : ℕ) → k < length ids → contains (get_or ids k 0) ids ≡ true
contains-get_or [] k lt = absurd (omega arith)
contains-get_or (t ∷ ts) zero lt = grind (arith, nat_tests)
contains-get_or (t ∷ ts) (suc k) lt = grind (arith, contains-get_or ts k)

pub contains_none : (t : ℕ) (ids : List ℕ) → ((k : ℕ) → k < length ids → get_or ids k 0 ≢ t) → contains t ids ≡ false
contains_none t [] other = refl
contains_none t (u ∷ us) other = grind (arith, nat_tests, other 0, contains_none t us (λ k lt. other (suc k) (omega arith)))

-- no id outside of the bounds is contained
pub contains-below : (low high t : ℕ) (ids : List ℕ) → rises_within low high ids ≡ true → t < low → contains t ids ≡ false
contains-below low high t ids h lt = contains_none t ids (λ k within e. grind (arith, rising-above low high ids k h))

pub contains-above : (low high t : ℕ) (ids : List ℕ) → rises_within low high ids ≡ true → high ≤ t → contains t ids ≡ false
contains-above low high t ids h le = contains_none t ids (λ k within e. grind (arith, rising-below low high ids k h))

-- the next id, appended
pub rising-push : (low next high : ℕ) (ids : List ℕ) → low ≤ next → next < high → rises_within low next ids ≡ true → rises_within low high (ids ++ next ∷ []) ≡ true
rising-push low next high [] from below h = rising_from low high next [] from below refl
rising-push low next high (t ∷ ts) from below h =
    let parts = rising_parts low next t ts h in
    rising_from low high t (ts ++ next ∷ []) parts.above (omega arith) (rising-push (t + 1) next high ts (omega arith) below parts.rest)

-- some of the items
pub rising-filter : (p : ℕ → Bool) (low high : ℕ) (ids : List ℕ) → rises_within low high ids ≡ true → rises_within low high (filter p ids) ≡ true
rising-filter p low high [] h = refl
rising-filter p low high (t ∷ ts) h =
    let parts = rising_parts low high t ts h in
    let rest = rising-filter p (t + 1) high ts parts.rest in
    grind (arith, rising_from low high t (filter p ts) parts.above parts.below rest, rising-wider (t + 1) high low high (filter p ts))

-- removing an id that isn't contained leaves the list as it is
pub filter_absent : (t : ℕ) (ids : List ℕ) → contains t ids ≡ false → filter (λ u. not (u == t)) ids ≡ ids
filter_absent t [] h = refl
filter_absent t (u ∷ us) h = grind (arith, nat_tests, filter_absent t us, or_parts (t == u) (contains t us) h)

-- an id that was found is removed
pub remove-filter : (low high t : ℕ) (ids : List ℕ) (place : ℕ) → rises_within low high ids ≡ true → place < length ids → get_or ids place 0 ≡ t → remove ids place ≡ filter (λ u. not (u == t)) ids
remove-filter low high t [] place h lt is = absurd (omega arith)
remove-filter low high t (u ∷ us) zero h lt is = grind (arith, nat_tests, filter_absent t us, contains-below (u + 1) high t us (rising_parts low high u us h).rest)
remove-filter low high t (u ∷ us) (suc place) h lt is =
    let parts = rising_parts low high u us h in
    grind (arith, nat_tests, rising-above (u + 1) high us place parts.rest, remove-filter (u + 1) high t us place parts.rest)

-- what a longer list contains, and what a list without an id contains
pub contains-push : (t u : ℕ) (ids : List ℕ) → contains t (ids ++ u ∷ []) ≡ (contains t ids || (t == u))
contains-push t u [] = or-false (t == u)
contains-push t u (v ∷ ids) = ap (λ rest. (t == v) || rest) (contains-push t u ids) ∙ sym (or_assoc (t == v) (contains t ids) (t == u))

pub contains-without : (t u : ℕ) (ids : List ℕ) → contains t (filter (λ v. not (v == u)) ids) ≡ (contains t ids && not (t == u))
contains-without t u [] = refl
contains-without t u (v ∷ ids) = grind (arith, nat_tests, contains-without t u ids)
