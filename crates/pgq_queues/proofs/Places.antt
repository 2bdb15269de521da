-- The places of a table's triggers, and what is left of triggers once one of them is gone.
use Rattle.std.proofs.Common.{◌≡◌, ℕ, zero, suc, ◌+◌, ◌-◌, ◌<◌, ◌≤◌, Bool, true, false, ◌==◌, List, [], ◌∷◌, ◌++◌, Some, None, length, map, take, drop, set, get_or, cond, refl, sym, ◌∙◌, ap, arith, if◌then◌else◌}
use Rattle.std.proofs.lemmas.Bool.Decides.{nat_tests}
use Rattle.std.proofs.lemmas.List.Elements.{All-cons}
use Rattle.std.proofs.lemmas.List.Quantifiers.{position-Some}
use Rattle.std.specs.Prelude.{filter, not, nat_lt}
use Rattle.std.specs.List.{All, remove, position, position_or_len}
use Rattle.sky_model.specs.Triggers.{TableTrigger, is_sets, but_sets, triggers_of}
use Rattle.pgq_queues.specs.Traced.{no_trigger, triggers_at, places_from, places_without}

-- ---- the places of a table's triggers

shifted : (first n : ℕ) (ts : List TableTrigger) → places_from (suc first) n ts ≡ map suc (places_from first n ts)
shifted first n [] = refl
shifted first n (t ∷ ts) = of (t.table == n) (shifted (suc first) n ts)
  where
    of : (b : Bool) → places_from (suc (suc first)) n ts ≡ map suc (places_from (suc first) n ts) → (if b then suc first ∷ places_from (suc (suc first)) n ts else places_from (suc (suc first)) n ts)
        ≡ map suc (if b then first ∷ places_from (suc first) n ts else places_from (suc first) n ts)
    of true rest = ap (λ ps. suc first ∷ ps) rest
    of false rest = rest

at-shifted : (t : TableTrigger) (ts : List TableTrigger) (places : List ℕ) → triggers_at (t ∷ ts) (map suc places) ≡ triggers_at ts places
at-shifted t ts [] = refl
at-shifted t ts (p ∷ ps) = ap (λ xs. get_or ts p no_trigger ∷ xs) (at-shifted t ts ps)

-- at them are its triggers
pub places-own : (n : ℕ) (ts : List TableTrigger) → triggers_at ts (places_from 0 n ts) ≡ triggers_of n ts
places-own n [] = refl
places-own n (t ∷ ts) = of (t.table == n) (ap (triggers_at (t ∷ ts)) (shifted 0 n ts) ∙ at-shifted t ts (places_from 0 n ts) ∙ places-own n ts)
  where
    of : (b : Bool) → triggers_at (t ∷ ts) (places_from 1 n ts) ≡ triggers_of n ts
        → triggers_at (t ∷ ts) (if b then 0 ∷ places_from 1 n ts else places_from 1 n ts) ≡ (if b then t ∷ triggers_of n ts else triggers_of n ts)
    of true rest = ap (λ xs. t ∷ xs) rest
    of false rest = rest

-- and they are there
pub places-within : (first n : ℕ) (ts : List TableTrigger) → All (λ place. place < first + length ts) (places_from first n ts)
places-within first n [] = λ k d lt. absurd (omega (arith, lt))
places-within first n (t ∷ ts) = of (t.table == n) (λ k d lt. let low = places-within (suc first) n ts k d lt in omega (arith, low))
  where
    of : (b : Bool) → All (λ place. place < first + length (t ∷ ts)) (places_from (suc first) n ts)
        → All (λ place. place < first + length (t ∷ ts)) (if b then first ∷ places_from (suc first) n ts else places_from (suc first) n ts)
    of true rest = All-cons (λ place. place < first + length (t ∷ ts)) first (places_from (suc first) n ts) (omega arith) rest
    of false rest = rest

-- with one more trigger
pub places-more : (first n : ℕ) (ts : List TableTrigger) (x : TableTrigger) (last : ℕ) → last ≡ first + length ts
    → places_from first n (ts ++ x ∷ []) ≡ places_from first n ts ++ (if x.table == n then last ∷ [] else [])
places-more first n [] x last is = let here : first ≡ last = omega (arith, is) in ap (λ p. if x.table == n then p ∷ [] else []) here
places-more first n (t ∷ ts) x last is = of (t.table == n) (places-more (suc first) n ts x last (omega (arith, is)))
  where
    of : (b : Bool) → places_from (suc first) n (ts ++ x ∷ []) ≡ places_from (suc first) n ts ++ (if x.table == n then last ∷ [] else [])
        → (if b then first ∷ places_from (suc first) n (ts ++ x ∷ []) else places_from (suc first) n (ts ++ x ∷ []))
        ≡ (if b then first ∷ places_from (suc first) n ts else places_from (suc first) n ts) ++ (if x.table == n then last ∷ [] else [])
    of true rest = ap (λ ps. first ∷ ps) rest
    of false rest = rest

-- ---- once the trigger at a place is gone

-- the item of a place becomes what it is to be, after those before it
pub map-step : {X : Type 0} → (f : X → X) (xs items : List X) (i : ℕ) (d y : X) → i < length xs → items ≡ map f (take i xs) ++ drop i xs → y ≡ f (get_or items i d)
    → set items i y ≡ map f (take (i + 1) xs) ++ drop (i + 1) xs
map-step f [] items i d y inside so becomes = absurd (omega arith)
map-step f (x ∷ xs) [] zero d y inside so becomes = absurd (cc)
map-step f (x ∷ xs) (z ∷ items) zero d y inside so becomes = grind (arith, so, becomes)
map-step f (x ∷ xs) [] (suc i) d y inside so becomes = absurd (cc)
map-step f (x ∷ xs) (z ∷ items) (suc i) d y inside so becomes = grind (arith, so, map-step f xs items i d y (omega arith))

-- after the last
pub map-whole : {X : Type 0} → (f : X → X) (xs : List X) (i : ℕ) → length xs ≤ i → map f (take i xs) ++ drop i xs ≡ map f xs
map-whole f [] zero over = refl
map-whole f [] (suc i) over = refl
map-whole f (x ∷ xs) zero over = absurd (omega (arith, over))
map-whole f (x ∷ xs) (suc i) over = ap (λ ys. f x ∷ ys) (map-whole f xs i (omega (arith, over)))

kept-head : (gone p : ℕ) (ps : List ℕ) → (p == gone) ≡ false → places_without gone (p ∷ ps) ≡ (if nat_lt gone p then p - 1 else p) ∷ places_without gone ps
kept-head gone p ps other = ap (λ b. map (λ q. if nat_lt gone q then q - 1 else q) (cond (not b) (p ∷ filter (λ q. not (q == gone)) ps) (filter (λ q. not (q == gone)) ps))) other

gone-head : (gone p : ℕ) (ps : List ℕ) → (p == gone) ≡ true → places_without gone (p ∷ ps) ≡ places_without gone ps
gone-head gone p ps same = ap (λ b. map (λ q. if nat_lt gone q then q - 1 else q) (cond (not b) (p ∷ filter (λ q. not (q == gone)) ps) (filter (λ q. not (q == gone)) ps))) same

behind-head : (gone first : ℕ) (ps : List ℕ) → gone ≤ first → places_without gone (suc first ∷ ps) ≡ first ∷ places_without gone ps
behind-head gone first ps le =
    let other : (suc first == gone) ≡ false = grind (arith, nat_tests) in
    let behind : nat_lt gone (suc first) ≡ true = grind (arith, nat_tests) in
    let one : suc first - 1 ≡ first = omega arith in
    kept-head gone (suc first) ps other ∙ ap (λ b. (if b then suc first - 1 else suc first) ∷ places_without gone ps) behind ∙ ap (λ p. p ∷ places_without gone ps) one

before-head : (gone first : ℕ) (ps : List ℕ) → first < gone → places_without gone (first ∷ ps) ≡ first ∷ places_without gone ps
before-head gone first ps lt =
    let other : (first == gone) ≡ false = grind (arith, nat_tests) in
    let before : nat_lt gone first ≡ false = grind (arith, nat_tests) in
    kept-head gone first ps other ∙ ap (λ b. (if b then first - 1 else first) ∷ places_without gone ps) before

-- those behind it have moved
moved-up : (gone first n : ℕ) (ts : List TableTrigger) → gone ≤ first → places_without gone (places_from (suc first) n ts) ≡ places_from first n ts
moved-up gone first n [] le = refl
moved-up gone first n (t ∷ ts) le = of (t.table == n) (moved-up gone (suc first) n ts (omega (arith, le)))
  where
    of : (b : Bool) → places_without gone (places_from (suc (suc first)) n ts) ≡ places_from (suc first) n ts
        → places_without gone (if b then suc first ∷ places_from (suc (suc first)) n ts else places_from (suc (suc first)) n ts)
        ≡ (if b then first ∷ places_from (suc first) n ts else places_from (suc first) n ts)
    of true rest = behind-head gone first (places_from (suc (suc first)) n ts) le ∙ ap (λ ps. first ∷ ps) rest
    of false rest = rest

-- and what is left are the places in what is left
pub places-removed : (gone first n place : ℕ) (ts : List TableTrigger) → gone ≡ first + place → place < length ts
    → places_without gone (places_from first n ts) ≡ places_from first n (remove ts place)
places-removed gone first n place [] is lt = absurd (omega (arith, lt))
places-removed gone first n zero (t ∷ ts) is lt = of (t.table == n)
  where
    rest : places_without gone (places_from (suc first) n ts) ≡ places_from first n ts
    rest = moved-up gone first n ts (omega (arith, is))

    same : (first == gone) ≡ true
    same = grind (arith, nat_tests)

    of : (b : Bool) → places_without gone (if b then first ∷ places_from (suc first) n ts else places_from (suc first) n ts) ≡ places_from first n ts
    of true = gone-head gone first (places_from (suc first) n ts) same ∙ rest
    of false = rest
places-removed gone first n (suc place) (t ∷ ts) is lt = of (t.table == n) (places-removed gone (suc first) n place ts (omega (arith, is)) (omega (arith, lt)))
  where
    of : (b : Bool) → places_without gone (places_from (suc first) n ts) ≡ places_from (suc first) n (remove ts place)
        → places_without gone (if b then first ∷ places_from (suc first) n ts else places_from (suc first) n ts)
        ≡ (if b then first ∷ places_from (suc first) n (remove ts place) else places_from (suc first) n (remove ts place))
    of true rest = before-head gone first (places_from (suc first) n ts) (omega (arith, is)) ∙ ap (λ ps. first ∷ ps) rest
    of false rest = rest

-- ---- the triggers that are left

-- one that doesn't pass a test was removed
filter-removed : (keep : TableTrigger → Bool) (ts : List TableTrigger) (place : ℕ) → place < length ts → keep (get_or ts place no_trigger) ≡ false → filter keep (remove ts place) ≡ filter keep ts
filter-removed keep [] place lt gone = absurd (omega (arith, lt))
filter-removed keep (t ∷ ts) zero lt gone = ap (λ b. cond b (t ∷ filter keep ts) (filter keep ts)) (sym gone)
filter-removed keep (t ∷ ts) (suc place) lt gone = ap (λ xs. cond (keep t) (t ∷ xs) xs) (filter-removed keep ts place (omega (arith, lt)) gone)

-- the trigger of a set on a table was
pub sets-removed : (table place : ℕ) (ts : List TableTrigger) → position (is_sets table) ts ≡ Some place → but_sets table (remove ts place) ≡ but_sets table ts
sets-removed table place ts is =
    let found = position-Some (is_sets table) ts place no_trigger is in
    filter-removed (λ t. not (is_sets table t)) ts place found.0 (ap not found.1)

-- there is none
none-filtered : (test : TableTrigger → Bool) (ts : List TableTrigger) → nat_lt (position_or_len test ts) (length ts) ≡ false → filter (λ t. not (test t)) ts ≡ ts
none-filtered test [] none = refl
none-filtered test (t ∷ ts) none = of (test t) refl (none-filtered test ts)
  where
    of : (b : Bool) → test t ≡ b → (nat_lt (position_or_len test ts) (length ts) ≡ false → filter (λ x. not (test x)) ts ≡ ts)
        → cond (not (test t)) (t ∷ filter (λ x. not (test x)) ts) (filter (λ x. not (test x)) ts) ≡ t ∷ ts
    of true e next = absurd (grind (arith, nat_tests))
    of false e next =
        let rest : nat_lt (position_or_len test ts) (length ts) ≡ false = grind (arith, nat_tests) in
        ap (λ b. cond (not b) (t ∷ filter (λ x. not (test x)) ts) (filter (λ x. not (test x)) ts)) e ∙ ap (λ xs. t ∷ xs) (next rest)

pub none-left : (table : ℕ) (ts : List TableTrigger) → position (is_sets table) ts ≡ None → but_sets table ts ≡ ts
none-left table ts is = none-filtered (is_sets table) ts (of (nat_lt (position_or_len (is_sets table) ts) (length ts)) is)
  where
    of : (b : Bool) → cond b (Some (position_or_len (is_sets table) ts)) None ≡ None → b ≡ false
    of true e = absurd (cc)
    of false e = refl

-- a table without triggers still has none
pub none-removed : (n place : ℕ) (ts : List TableTrigger) → triggers_of n ts ≡ [] → triggers_of n (remove ts place) ≡ []
none-removed n zero [] none = refl
none-removed n (suc place) [] none = refl
none-removed n zero (t ∷ ts) none = of (t.table == n) none
  where
    of : (b : Bool) → cond b (t ∷ triggers_of n ts) (triggers_of n ts) ≡ [] → triggers_of n ts ≡ []
    of true e = absurd (cc)
    of false e = e
none-removed n (suc place) (t ∷ ts) none = of (t.table == n) none (none-removed n place ts)
  where
    of : (b : Bool) → cond b (t ∷ triggers_of n ts) (triggers_of n ts) ≡ [] → (triggers_of n ts ≡ [] → triggers_of n (remove ts place) ≡ [])
        → cond b (t ∷ triggers_of n (remove ts place)) (triggers_of n (remove ts place)) ≡ []
    of true e next = absurd (cc)
    of false e next = next e

-- what holds of each still does
pub all-removed : (P : TableTrigger → Type 0) (ts : List TableTrigger) (place : ℕ) → All P ts → All P (remove ts place)
all-removed P [] zero all = all
all-removed P [] (suc place) all = all
all-removed P (t ∷ ts) zero all = λ k d lt. all (suc k) d (omega (arith, lt))
all-removed P (t ∷ ts) (suc place) all = All-cons P t (remove ts place) (all 0 t (omega arith)) (all-removed P ts place (λ k d lt. all (suc k) d (omega (arith, lt))))
