-- Lists of ticks with rising ids.
use Rattle.std.proofs.Common.{◌≡◌, ◌≢◌, ℕ, suc, zero, ◌+◌, ◌-◌, ◌<◌, ◌≤◌, List, [], ◌∷◌, ◌++◌, Bool, true, false, ◌||◌, ◌==◌, Option, Some, None, Result, Ok, Err, length, slice_get, get_or, option_copied, IfSome, Bor, length-append, option_map, refl, sym, ◌∙◌, ap, subst, arith, if◌then◌else◌}
use Rattle.std.specs.Prelude.{filter, option_and_then}
use Rattle.std.specs.Result.{result_ok}
use Rattle.std.specs.Ordering.{nat_cmp, ordering_index}
use Rattle.std.specs.List.Sorted.{IsBinarySearchResult, IsSearchInRange, IsNonDecreasingBy}
use Rattle.std.proofs.lemmas.Bool.Decides.{nat_tests}
use Rattle.std.proofs.lemmas.Cmp.{ranked}
use Rattle.std.proofs.lemmas.Option.{slice_get_read, IfSome_then}
use Rattle.sky_model.specs.Queues.{Tick, tick, newest_tick}
use Rattle.sky_model.specs.StepQueue.{last_two}
use Rattle.sky_model.specs.Queues.{id_of}
use Rattle.sky_model.specs.Moment.{IsTime}
use Rattle.pgq_tick.specs.Ticks.{AreTicks}
use Rattle.sky_model.specs.Queues.{is_above, ticks_above}

pub newest_tick-at : (ts : List Tick) → 0 < length ts → newest_tick ts ≡ slice_get ts (length ts - 1)
newest_tick-at [] some = absurd (omega arith)
newest_tick-at (t ∷ []) some = refl
newest_tick-at (t ∷ u ∷ ts) some =
    newest_tick-at (u ∷ ts) (omega arith) ∙ ap (slice_get (t ∷ u ∷ ts)) (e ts)
  where
    e : (ts : List Tick) → suc (length (u ∷ ts) - 1) ≡ length (t ∷ u ∷ ts) - 1
    e ts = omega arith

-- one more tick with a higher id
pub AreTicks-push : (n : ℕ) (ts : List Tick) (t : Tick) → AreTicks n ts → 0 < length ts → id_of (newest_tick ts) < t.id → IsTime t.time → AreTicks n (ts ++ t ∷ [])
AreTicks-push n [] t are some next time = absurd (omega arith)
AreTicks-push n (u ∷ []) t are some next time = (are.0, are.1, (omega arith, time, tt))
AreTicks-push n (u ∷ v ∷ ts) t are some next time = (are.0, are.1, AreTicks-push (u.id + 1) (v ∷ ts) t are.2 (omega arith) next time)

AreTicks-from : (m n : ℕ) (ts : List Tick) → m ≤ n → AreTicks n ts → AreTicks m ts
AreTicks-from m n [] le are = tt
AreTicks-from m n (t ∷ ts) le are = (let least : n ≤ t.id = are.0 in omega arith, are.1, are.2)

-- some of the ticks
pub AreTicks-filter : (keeps : Tick → Bool) (n : ℕ) (ts : List Tick) → AreTicks n ts → AreTicks n (filter keeps ts)
AreTicks-filter keeps n [] are = tt
AreTicks-filter keeps n (t ∷ ts) are = of (keeps t) (AreTicks-filter keeps (t.id + 1) ts are.2)
  where
    of : (b : Bool) → AreTicks (t.id + 1) (filter keeps ts) → AreTicks n (if b then t ∷ filter keeps ts else filter keeps ts)
    of true kept = (are.0, are.1, kept)
    of false kept = (let least : n ≤ t.id = are.0 in AreTicks-from n (t.id + 1) (filter keeps ts) (omega arith) kept)

-- if the newest tick is kept, the list isn't empty
pub some-filter : (keeps : Tick → Bool) (ts : List Tick) → IfSome (newest_tick ts) (λ t. keeps t ≡ true) → 0 < length ts → 0 < length (filter keeps ts)
some-filter keeps [] newest some = absurd (omega arith)
some-filter keeps (t ∷ []) newest some = rw newest (omega arith)
some-filter keeps (t ∷ u ∷ ts) newest some = of (keeps t) (some-filter keeps (u ∷ ts) newest (omega arith))
  where
    of : (b : Bool) → 0 < length (filter keeps (u ∷ ts)) → 0 < length (if b then t ∷ filter keeps (u ∷ ts) else filter keeps (u ∷ ts))
    of true some = omega arith
    of false some = some

id-least : (n i : ℕ) (ts : List Tick) (d : Tick) → AreTicks n ts → i < length ts → n ≤ (get_or ts i d).id
id-least n i [] d are inside = absurd (omega arith)
id-least n zero (t ∷ ts) d are inside = are.0
id-least n (suc i) (t ∷ ts) d are inside =
    let first : n ≤ t.id = are.0 in
    let later : t.id + 1 ≤ (get_or ts i d).id = id-least (t.id + 1) i ts d are.2 (omega arith) in
    omega arith

ids-rise : (n i j : ℕ) (ts : List Tick) (d : Tick) → AreTicks n ts → i ≤ j → j < length ts → (get_or ts i d).id ≤ (get_or ts j d).id
ids-rise n i j [] d are le inside = absurd (omega arith)
ids-rise n zero zero (t ∷ ts) d are le inside = omega arith
ids-rise n zero (suc j) (t ∷ ts) d are le inside = (let later : t.id + 1 ≤ (get_or ts j d).id = id-least (t.id + 1) j ts d are.2 (omega arith) in omega arith)
ids-rise n (suc i) zero (t ∷ ts) d are le inside = absurd (omega arith)
ids-rise n (suc i) (suc j) (t ∷ ts) d are le inside = ids-rise (t.id + 1) i j ts d are.2 (omega arith) (omega arith)

-- the tick at a place is the one with its id
tick-at : (n id i : ℕ) (ts : List Tick) → AreTicks n ts → i < length ts → ((d : Tick) → (get_or ts i d).id ≡ id) → tick id ts ≡ slice_get ts i
tick-at n id i [] are inside is = absurd (omega arith)
tick-at n id zero (t ∷ ts) are inside is =
    let this : t.id ≡ id = is t in
    let same : (t.id == id) ≡ true = grind (arith, nat_tests) in
    ap (λ b. if b then Some t else tick id ts) same
tick-at n id (suc i) (t ∷ ts) are inside is =
    let there : (get_or ts i t).id ≡ id = is t in
    let later : t.id + 1 ≤ (get_or ts i t).id = id-least (t.id + 1) i ts t are.2 (omega arith) in
    let other : (t.id == id) ≡ false = grind (arith, nat_tests) in
    ap (λ b. if b then Some t else tick id ts) other ∙ tick-at (t.id + 1) id i ts are.2 (omega arith) is

tick-none : (id : ℕ) (ts : List Tick) → ((k : ℕ) (d : Tick) → k < length ts → (get_or ts k d).id ≢ id) → tick id ts ≡ None
tick-none id [] none = refl
tick-none id (t ∷ ts) none =
    let other : (t.id == id) ≡ false = grind (arith, nat_tests, none zero t (omega arith)) in
    ap (λ b. if b then Some t else tick id ts) other ∙ tick-none id ts (λ k d inside. none (suc k) d (omega arith))

-- a binary search by the id finds the tick
pub tick-searched : (ts : List Tick) (id : ℕ) (r : Result ℕ ℕ) → AreTicks 1 ts → IsSearchInRange r (length ts) → IsBinarySearchResult (λ t. nat_cmp t.id id) ts r → option_and_then (slice_get ts) (result_ok r) ≡ tick id ts
tick-searched ts id (Ok i) are inside is = sym (tick-at 1 id i ts are inside (λ d. ranked _ id _ (sym (is d))))
tick-searched ts id (Err i) are inside parted = sym (tick-none id ts none)
  where
    rise : IsNonDecreasingBy (λ t. ordering_index (nat_cmp t.id id)) ts
    rise i j d le within = (let ids : (get_or ts i d).id ≤ (get_or ts j d).id = ids-rise 1 i j ts d are le within in grind (arith, nat_tests))

    none : (k : ℕ) (d : Tick) → k < length ts → (get_or ts k d).id ≢ id
    none k d within same =
        let below : k < i → (get_or ts k d).id < id = λ lt. ranked _ id _ (sym ((parted rise).0 k d (omega arith) lt)) in
        let above : i ≤ k → id < (get_or ts k d).id = λ le. ranked _ id _ (sym ((parted rise).1 k d le within)) in
        grind (arith, below, above)

-- no tick has an id above the newest one's
pub tick-past : (n id : ℕ) (ts : List Tick) → AreTicks n ts → id_of (newest_tick ts) < id → tick id ts ≡ None
tick-past n id [] are lt = refl
tick-past n id (t ∷ []) are lt =
    let other : (t.id == id) ≡ false = grind (arith, nat_tests) in
    ap (λ b. if b then Some t else None) other
tick-past n id (t ∷ u ∷ ts) are lt =
    let later : t.id + 1 ≤ id_of (newest_tick (u ∷ ts)) = newest-above (t.id + 1) (u ∷ ts) are.2 (omega arith) in
    let other : (t.id == id) ≡ false = grind (arith, nat_tests) in
    ap (λ b. if b then Some t else tick id (u ∷ ts)) other ∙ tick-past (t.id + 1) id (u ∷ ts) are.2 lt
  where
    newest-above : (n : ℕ) (ts : List Tick) → AreTicks n ts → 0 < length ts → n ≤ id_of (newest_tick ts)
    newest-above n [] are some = absurd (omega arith)
    newest-above n (t ∷ []) are some = are.0
    newest-above n (t ∷ u ∷ ts) are some =
        let first : n ≤ t.id = are.0 in
        let later : t.id + 1 ≤ id_of (newest_tick (u ∷ ts)) = newest-above (t.id + 1) (u ∷ ts) are.2 (omega arith) in
        omega arith

pub time-at : (n : ℕ) (ts : List Tick) (i : ℕ) (t : Tick) → AreTicks n ts → slice_get ts i ≡ Some t → IsTime t.time
time-at n [] i t are e = absurd (cc)
time-at n (u ∷ ts) zero t are e = (let same : u ≡ t = cc in subst (λ (x : Tick). IsTime x.time) same are.1)
time-at n (u ∷ ts) (suc i) t are e = time-at (u.id + 1) ts i t are.2 e

-- before a single tick there is none
pub last_two-one : (ts : List Tick) → length ts < 2 → last_two None ts ≡ option_map (λ t. (t, None)) (newest_tick ts)
last_two-one [] lt = refl
last_two-one (t ∷ []) lt = refl
last_two-one (t ∷ u ∷ ts) lt = absurd (omega arith)

last_two-from : (before : Option Tick) (t : Tick) (ts : List Tick) → 0 < length ts
    → last_two before (t ∷ ts) ≡ option_map (λ x. (x, slice_get (t ∷ ts) (length ts - 1))) (newest_tick ts)
last_two-from before t [] some = absurd (omega arith)
last_two-from before t (u ∷ []) some = refl
last_two-from before t (u ∷ v ∷ ts) some =
    last_two-from (Some t) u (v ∷ ts) (omega arith) ∙ ap (λ i. option_map (λ x. (x, slice_get (t ∷ u ∷ v ∷ ts) i)) (newest_tick (v ∷ ts))) (e ts)
  where
    e : (ts : List Tick) → suc (length (v ∷ ts) - 1) ≡ length (u ∷ v ∷ ts) - 1
    e ts = omega arith

-- the tick before the newest
pub last_two-at : (ts : List Tick) → 2 ≤ length ts → last_two None ts ≡ option_map (λ t. (t, slice_get ts (length ts - 2))) (newest_tick ts)
last_two-at [] le = absurd (omega arith)
last_two-at (t ∷ []) le = absurd (omega arith)
last_two-at (t ∷ u ∷ ts) le = last_two-from None t (u ∷ ts) (omega arith) ∙ ap (λ i. option_map (λ x. (x, slice_get (t ∷ u ∷ ts) i)) (newest_tick (u ∷ ts))) (e ts)
  where
    e : (ts : List Tick) → length (u ∷ ts) - 1 ≡ length (t ∷ u ∷ ts) - 2
    e ts = omega arith

pub IfSome-time : (ts : List Tick) (place : ℕ) (found : Option (Bor Tick)) → AreTicks 1 ts → option_copied found ≡ slice_get ts place → IfSome found (λ t. IsTime t.now.time)
IfSome-time ts place None are is = tt
IfSome-time ts place (Some t) are is = time-at 1 ts place t.now are (sym is)

-- one more tick with the next id
pub AreTicks-next : (ts view new : List Tick) (t : Tick) → ts ≡ view → (0 < length ts) × AreTicks 1 ts → new ≡ ts ++ t ∷ [] → t.id ≡ id_of (newest_tick view) + 1 → IsTime t.time
    → (0 < length new) × AreTicks 1 new
AreTicks-next ts view new t same are is id time =
    let next : t.id ≡ id_of (newest_tick ts) + 1 = id ∙ ap (λ xs. id_of (newest_tick xs) + 1) (sym same) in
    subst (λ xs. (0 < length xs) × AreTicks 1 xs) (sym is) (omega (arith, length-append ts (t ∷ [])), AreTicks-push 1 ts t are.1 are.0 (omega arith) time)

-- the newest tick is one that isn't dropped
newest-stays : (p : Tick → Bool) (o : Option Tick) → IfSome o (λ t. (p t || t.id == id_of o) ≡ true)
newest-stays p None = tt
newest-stays p (Some t) = grind (arith, nat_tests)

-- the ticks that are kept, the newest among them
pub AreTicks-kept : (txid : ℕ) (ts new : List Tick) → (0 < length ts) × AreTicks 1 ts → new ≡ ticks_above txid ts → (0 < length new) × AreTicks 1 new
AreTicks-kept txid ts new are is =
    let keeps : Tick → Bool = λ t. is_above txid t || t.id == id_of (newest_tick ts) in
    subst (λ xs. (0 < length xs) × AreTicks 1 xs) (sym is) (some-filter keeps ts (newest-stays (is_above txid) (newest_tick ts)) are.0, AreTicks-filter keeps 1 ts are.1)

-- the last item is the newest
pub newest-is : (slice ts view : List Tick) (t : Tick) → slice ≡ ts → ts ≡ view → 0 < length ts → t ≡ get_or slice (length slice - 1) t → newest_tick view ≡ Some t
newest-is slice ts view t e d some is =
    let many : 0 < length slice = subst (λ xs. 0 < length xs) (sym e) some in
    ap newest_tick (sym (e ∙ d)) ∙ newest_tick-at slice many ∙ slice_get_read slice (length slice) (length slice - 1) t refl (omega arith) is

pub newest-time : (slice ts : List Tick) (t : Tick) → slice ≡ ts → 0 < length ts → AreTicks 1 ts → t ≡ get_or slice (length slice - 1) t → IsTime t.time
newest-time slice ts t e some are is =
    let many : 0 < length slice = subst (λ xs. 0 < length xs) (sym e) some in
    time-at 1 slice (length slice - 1) t (subst (AreTicks 1) (sym e) are) (slice_get_read slice (length slice) (length slice - 1) t refl (omega arith) is)

pub last_two-none : (ts : List Tick) (n : ℕ) (o : Option Tick) → n ≡ length ts → n < 2 → o ≡ None → last_two None ts ≡ option_map (λ t. (t, o)) (newest_tick ts)
last_two-none ts n o len lt is = last_two-one ts (omega arith) ∙ ap (λ x. option_map (λ t. (t, x)) (newest_tick ts)) (sym is)

pub last_two-found : (ts : List Tick) (n : ℕ) (o : Option Tick) → n ≡ length ts → 2 ≤ n → o ≡ slice_get ts (n - 2) → last_two None ts ≡ option_map (λ t. (t, o)) (newest_tick ts)
last_two-found ts n o len le is =
    last_two-at ts (omega arith) ∙ ap (λ i. option_map (λ t. (t, slice_get ts (i - 2))) (newest_tick ts)) (sym len)
    ∙ ap (λ x. option_map (λ t. (t, x)) (newest_tick ts)) (sym is)

pub tick-above-newest : (ts : List Tick) (newest : Tick) (id : ℕ) → AreTicks 1 ts → newest_tick ts ≡ Some newest → newest.id ≤ id → None ≡ tick (id + 1) ts
tick-above-newest ts newest id are is le = sym (tick-past 1 (id + 1) ts are (let last : id_of (newest_tick ts) ≡ newest.id = ap id_of is in omega arith))
