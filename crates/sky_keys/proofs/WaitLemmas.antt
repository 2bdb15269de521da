-- Paths from a session back to itself along its waits: there is at most one, none is longer than the number of waiting sessions, and following the
-- waits finds it.
use Rattle.std.proofs.Common.{◌≡◌, ◌≢◌, ℕ, zero, suc, ◌<◌, ◌≤◌, true, false, cond, List, [], ◌∷◌, map, length, Option, Some, None, refl, sym, subst, ◌∙◌, ap, arith}
use Rattle.std.specs.Prelude.{◌==◌, ◌||◌, option_map, is_some, nat_eq}
use Rattle.std.specs.Option.{option_and_then}
use Rattle.std.specs.Cmp.{nat_eq_equiv}
use Rattle.std.specs.List.{AllByRecursion, list_any, IsDistinct}
use Rattle.std.specs.Map.{lookup}
use Rattle.std.proofs.lemmas.Bool.{eqb-true, eq-eqb}
use Rattle.std.proofs.lemmas.List.{length-map}
use Rattle.std.proofs.lemmas.Bool.Decides.{nat_tests}
use Rattle.std.proofs.lemmas.Map.Keys.{IsDistinct-cons}
use Rattle.std.proofs.lemmas.Map.Steps.{length-le_from_keys}
use Rattle.sky_keys.specs.Waits.{Holders, Waiting, is_waiting, entry_of, without, other_holder, waits_for, LeadsBack, last, next, along, way_back}

some_is : (a b : ℕ) → Some a ≡ Some b → a ≡ b
some_is a b e = cc e

-- ---- one path

pub one_way : {whom : ℕ → Option ℕ} {who s : ℕ} {one other : List ℕ} → LeadsBack whom who s one → LeadsBack whom who s other → one ≡ other
one_way (last p) (last q) = refl
one_way {who = who} (last p) (next {t = t} q apart on) = absurd (apart (some_is t who (sym q ∙ p)))
one_way {who = who} (next {t = t} p apart on) (last q) = absurd (apart (some_is t who (sym p ∙ q)))
one_way {whom = whom} {who = who} {s = s} (next {t = t} {way = way} p apart on) (next {t = u} {way = rest} q apart' on') =
    let same : u ≡ t = some_is u t (sym q ∙ p) in
    ap (λ ways. s ∷ ways) (one_way on (subst (λ v. LeadsBack whom who v rest) same on'))

-- ---- found by following the waits

pub leads_back : (whom : ℕ → Option ℕ) (who most s : ℕ) (way : List ℕ) → way_back whom who most s ≡ Some way → LeadsBack whom who s way
leads_back whom who zero s way found = absurd (cc found)
leads_back whom who (suc most) s way found = on (λ t rest is. leads_back whom who most t rest is) (whom s) refl found
  where
    far : ((t : ℕ) (rest : List ℕ) → way_back whom who most t ≡ Some rest → LeadsBack whom who t rest)
        → (t : ℕ) (o : Option (List ℕ)) → way_back whom who most t ≡ o → whom s ≡ Some t → t ≢ who → option_map (λ rest. s ∷ rest) o ≡ Some way → LeadsBack whom who s way
    far shorter t None is goes apart found = absurd (cc found)
    far shorter t (Some rest) is goes apart found = let whole : s ∷ rest ≡ way = cc found in
        subst (LeadsBack whom who s) whole (next goes apart (shorter t rest is))

    on : ((t : ℕ) (rest : List ℕ) → way_back whom who most t ≡ Some rest → LeadsBack whom who t rest)
        → (o : Option ℕ) → whom s ≡ o → along who s o (way_back whom who most) ≡ Some way → LeadsBack whom who s way
    on shorter None goes found = absurd (cc found)
    on shorter (Some t) goes found = elim (t == who) as (λ b. (t == who) ≡ b → cond b (Some (s ∷ [])) (option_map (λ rest. s ∷ rest) (way_back whom who most t)) ≡ Some way → LeadsBack whom who s way) [
      | true ↦ λ back here. let whole : s ∷ [] ≡ way = cc here in
          subst (LeadsBack whom who s) whole (last (goes ∙ ap Some (eqb-true t who back)))
      | false ↦ λ apart later. far shorter t (way_back whom who most t) refl goes (λ same. let both : true ≡ false = sym (eq-eqb t who same) ∙ apart in cc both) later
    ] refl found

pub way_back_is : (whom : ℕ → Option ℕ) (who most s : ℕ) (way : List ℕ) → LeadsBack whom who s way → length way ≤ most → way_back whom who most s ≡ Some way
way_back_is whom who zero s way (last p) short = absurd (omega arith)
way_back_is whom who zero s way (next p apart on) short = absurd (omega arith)
way_back_is whom who (suc most) s way (last p) short = grind (arith, nat_tests, p)
way_back_is whom who (suc most) s whole (next {t = t} {way = way} p apart on) short = grind (arith, nat_tests, p, apart, way_back_is whom who most t way on)

-- ---- no path is longer than the number of waiting sessions

-- from each session on a path there is a path on
goes_on : {whom : ℕ → Option ℕ} {who s : ℕ} {way : List ℕ} → LeadsBack whom who s way → (u : ℕ) → list_any (λ v. u == v) way ≡ true → (rest : List ℕ) × LeadsBack whom who u rest × (length rest ≤ length way)
goes_on {whom = whom} {who = who} {s = s} (last p) u here =
    let same : s ≡ u = sym (eqb-true u s (elim (u == s) as (λ b. (b || false) ≡ true → b ≡ true) [ true ↦ λ _. refl | false ↦ λ e. e ] here)) in
    (s ∷ [], subst (λ v. LeadsBack whom who v (s ∷ [])) same (last p), omega arith)
goes_on {whom = whom} {who = who} {s = s} (next {t = t} {way = way} p apart on) u here = elim (u == s) as (λ b. (u == s) ≡ b → (b || list_any (λ v. u == v) way) ≡ true → (rest : List ℕ) × LeadsBack whom who u rest × (length rest ≤ length (s ∷ way))) [
  | true ↦ λ same _. (s ∷ way, subst (λ v. LeadsBack whom who v (s ∷ way)) (sym (eqb-true u s same)) (next p apart on), omega arith)
  | false ↦ λ _ later. let rest = goes_on on u later in (rest.0, rest.1, let short : length rest.0 ≤ length way = rest.2 in omega arith)
] refl here

not_again : {whom : ℕ → Option ℕ} {who s t : ℕ} {way : List ℕ} → LeadsBack whom who s (s ∷ way) → LeadsBack whom who t way → list_any (λ v. s == v) way ≡ true → ⊥
not_again {s = s} {way = way} whole tail again =
    let rest = goes_on tail s again in
    let same : s ∷ way ≡ rest.0 = one_way whole rest.1 in
    let short : length rest.0 ≤ length way = rest.2 in
    let long : length rest.0 ≡ length (s ∷ way) = ap length (sym same) in
    omega arith

all_apart : (s : ℕ) (way : List ℕ) → list_any (λ v. s == v) way ≡ false → AllByRecursion (λ v. nat_eq s v ≡ false) way
all_apart s [] none = tt
all_apart s (v ∷ way) none = (grind (arith, none), all_apart s way (grind (arith, none)))

distinct : {whom : ℕ → Option ℕ} {who s : ℕ} {way : List ℕ} → LeadsBack whom who s way → IsDistinct nat_eq way
unfolding IsDistinct
distinct {s = s} (last p) = IsDistinct-cons nat_eq s [] tt tt
distinct {s = s} (next {t = t} {way = way} p apart on) = IsDistinct-cons nat_eq s way (all_apart s way (grind (arith, not_again (next p apart on) on))) (distinct on)

-- a session that waits for another is among the waiting ones
waits : (holder : Holders) (waiting : List Waiting) (s t : ℕ) → waits_for holder waiting s ≡ Some t → is_some (entry_of s waiting) ≡ true
waits holder waiting s t goes = of (entry_of s waiting) goes
  where
    of : (o : Option Waiting) → option_and_then (λ w. other_holder holder s w.table w.key) o ≡ Some t → is_some o ≡ true
    of None goes = absurd (cc goes)
    of (Some w) goes = refl

flipped : (m n : ℕ) → (m == n) ≡ (n == m)
flipped m n = grind (arith, nat_tests)

listed : (s : ℕ) (waiting : List Waiting) → is_some (entry_of s waiting) ≡ true → is_some (lookup (nat_eq s) (map (λ (w : Waiting). (w.who, w)) waiting)) ≡ true
listed s [] some = absurd (cc some)
listed s (w ∷ waiting) some = grind (arith, some, flipped s w.who, listed s waiting)

all_wait : (holder : Holders) (waiting : List Waiting) {who s : ℕ} {way : List ℕ} → LeadsBack (waits_for holder waiting) who s way → (u : ℕ) → list_any (nat_eq u) way ≡ true → is_some (entry_of u waiting) ≡ true
all_wait holder waiting {who = who} way u here = let rest = goes_on way u here in first rest.1
  where
    first : {rest : List ℕ} → LeadsBack (waits_for holder waiting) who u rest → is_some (entry_of u waiting) ≡ true
    first (last p) = waits holder waiting u who p
    first (next {t = t} p apart on) = waits holder waiting u t p

pub no_longer : (holder : Holders) (waiting : List Waiting) (who s : ℕ) (way : List ℕ) → LeadsBack (waits_for holder waiting) who s way → length way ≤ length waiting
no_longer holder waiting who s way leads =
    subst (λ n. length way ≤ n) (length-map waiting (λ (w : Waiting). (w.who, w)))
    (length-le_from_keys nat_eq_equiv way (map (λ (w : Waiting). (w.who, w)) waiting) (distinct leads) (λ u here. listed u waiting (all_wait holder waiting leads u here)))

-- so that many steps find each path, and if they find none, there is none
pub no_way : (holder : Holders) (waiting : List Waiting) (who s : ℕ) → way_back (waits_for holder waiting) who (length waiting) s ≡ None → (way : List ℕ) → LeadsBack (waits_for holder waiting) who s way → ⊥
no_way holder waiting who s none way leads = cc (sym none ∙ way_back_is (waits_for holder waiting) who (length waiting) s way leads (no_longer holder waiting who s way leads))

-- and each path is found
pub way_found : (holder : Holders) (waiting : List Waiting) (who s : ℕ) (way : List ℕ) → LeadsBack (waits_for holder waiting) who s way
    → way_back (waits_for holder waiting) who (length waiting) s ≡ Some way
way_found holder waiting who s way leads = way_back_is (waits_for holder waiting) who (length waiting) s way leads (no_longer holder waiting who s way leads)

-- ---- who waits

-- a session waits if it has an entry
pub is_waiting-entry : (who : ℕ) (waiting : List Waiting) → is_waiting who waiting ≡ is_some (entry_of who waiting)
is_waiting-entry who [] = refl
is_waiting-entry who (w ∷ waiting) = grind (arith, is_waiting-entry who waiting)

-- and no longer once its entry is removed
pub is_waiting-without : (who : ℕ) (waiting : List Waiting) → is_waiting who (without who waiting) ≡ false
is_waiting-without who [] = refl
is_waiting-without who (w ∷ waiting) = grind (arith, is_waiting-without who waiting)

-- a session that waits has an entry, and the list without it is shorter
without_most : (who : ℕ) (ws : List Waiting) → length (without who ws) ≤ length ws
without_most who [] = omega arith
without_most who (w ∷ ws) = grind (arith, without_most who ws)

pub without_shorter : (who : ℕ) (ws : List Waiting) → is_waiting who ws ≡ true → length (without who ws) < length ws
without_shorter who [] there = absurd (cc)
without_shorter who (w ∷ ws) there = grind (arith, there, without_most who ws, without_shorter who ws)
