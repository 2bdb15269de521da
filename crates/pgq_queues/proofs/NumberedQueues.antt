-- The queues that stand: their names and their numbers.
use Rattle.std.proofs.Common.{◌≡◌, ℕ, zero, suc, ◌+◌, ◌<◌, ◌≤◌, List, [], ◌∷◌, ◌++◌, Bool, true, false, Option, Some, None, option_map, option_and_then, slice_get, get_or, length, length-append, bytes_eq, cond, refl, sym, ◌∙◌, ap, subst, arith, if◌then◌else◌, ◌==◌, not, find, drop}
use Rattle.std.specs.List.{All, remove}
use Rattle.std.proofs.lemmas.Bool.Decides.{nat_tests}
use Rattle.std.proofs.lemmas.List.Elements.{All-cons, All-head, All-tail, All-append}
use Rattle.std.proofs.lemmas.List.{get_or_read}
use Rattle.std.proofs.lemmas.Option.{slice_get_read, get_or_from_slice_get, slice_get_within}
use Rattle.sky_names.specs.Places.{place_of, named}
use Rattle.sky_names.specs.Named.{NamedView, value_of}
use Rattle.sky_model.specs.Queues.{NamedQueue, others_than, queue_number}
use Rattle.pgq_queue.specs.Views.{QueueView}
use Rattle.pgq_queues.specs.Views.{QueuesView}
use Rattle.pgq_queue.specs.Seen.{no_queue}
use Rattle.pgq_queues.specs.Seen.{numbered, unnamed, queues_of, Stands}
use Rattle.pgq_queues.specs.Numbers.{Rise, AreNumbers}

-- the number of a name is the value that is kept under it
pub numbered-number : (name : List ℕ) (names : List (List ℕ)) (numbers : List ℕ) → length numbers ≡ length names → queue_number name (numbered names numbers) ≡ option_and_then (slice_get numbers) (place_of name names)
numbered-number name [] numbers same = refl
numbered-number name (x ∷ xs) [] same = absurd (omega (arith, same))
numbered-number name (x ∷ xs) (n ∷ ns) same = by (bytes_eq name x) (place_of name xs) (numbered-number name xs ns (omega (arith, same)))
  where
    by : (b : Bool) (place : Option ℕ) → queue_number name (numbered xs ns) ≡ option_and_then (slice_get ns) place
        → option_map NamedQueue.number (cond b (Some (record { number = n; name = x })) (named NamedQueue.name name (numbered xs ns)))
        ≡ option_and_then (slice_get (n ∷ ns)) (if b then Some 0 else option_map (λ p. p + 1) place)
    by true place rest = refl
    by false None rest = rest
    by false (Some p) rest = let next : suc p ≡ p + 1 = omega arith in rest ∙ ap (slice_get (n ∷ ns)) next

-- a name that is found, and one that isn't
pub number-found : (v now : QueuesView) (name : List ℕ) (place number : ℕ) → v ≡ now → length v.names.values ≡ length v.names.names → Some place ≡ place_of name v.names.names
    → place < length v.names.values → number ≡ get_or v.names.values place number → Some number ≡ queue_number name (queues_of now)
number-found v now name place number same count is lt at =
    sym (slice_get_read v.names.values (length v.names.values) place number refl lt at)
    ∙ ap (option_and_then (slice_get v.names.values)) is
    ∙ sym (numbered-number name v.names.names v.names.values count)
    ∙ ap (λ (w : QueuesView). queue_number name (queues_of w)) same

pub number-none : (v now : QueuesView) (name : List ℕ) (found : Option ℕ) → v ≡ now → length v.names.values ≡ length v.names.names → found ≡ None → found ≡ place_of name v.names.names → None ≡ queue_number name (queues_of now)
number-none v now name found same count none is =
    ap (option_and_then (slice_get v.names.values)) (sym none ∙ is) ∙ sym (numbered-number name v.names.names v.names.values count) ∙ ap (λ (w : QueuesView). queue_number name (queues_of w)) same

pub number-new : (v now : QueuesView) (name : List ℕ) → v ≡ now → length v.names.values ≡ length v.names.names → queue_number name (queues_of now) ≡ None → value_of name v.names ≡ None
number-new v now name same count new = sym (numbered-number name v.names.names v.names.values count) ∙ ap (λ (w : QueuesView). queue_number name (queues_of w)) same ∙ new

-- what is kept at the place of a name is its number
pub number-there : (v now : QueuesView) (name : List ℕ) (place number : ℕ) → v ≡ now → length v.names.values ≡ length v.names.names → Some place ≡ place_of name v.names.names
    → queue_number name (queues_of now) ≡ Some number → slice_get v.names.values place ≡ Some number
number-there v now name place number same count is found =
    ap (option_and_then (slice_get v.names.values)) is ∙ sym (numbered-number name v.names.names v.names.values count) ∙ ap (λ (w : QueuesView). queue_number name (queues_of w)) same ∙ found

pub stands-there : (names : NamedView ℕ) (queues : List QueueView) (place n : ℕ) → AreNumbers names queues → slice_get names.values place ≡ Some n → Stands queues n
stands-there names queues place n are at = subst (Stands queues) (get_or_from_slice_get names.values place n n at) (are.stand place n (slice_get_within names.values place n at))

-- there are as many as names
pub numbered-length : (names : List (List ℕ)) (numbers : List ℕ) → length numbers ≡ length names → length (numbered names numbers) ≡ length names
numbered-length [] numbers same = refl
numbered-length (x ∷ xs) [] same = absurd (omega (arith, same))
numbered-length (x ∷ xs) (n ∷ ns) same = ap suc (numbered-length xs ns (omega (arith, same)))

pub length-shown : (v now : QueuesView) → v ≡ now → length v.names.values ≡ length v.names.names → length (queues_of now) ≡ length v.names.names
length-shown v now same count = ap (λ (w : QueuesView). length (queues_of w)) (sym same) ∙ numbered-length v.names.names v.names.values count

-- the number at a place
numbered-at : (names : List (List ℕ)) (numbers : List ℕ) (place d : ℕ) → length numbers ≡ length names → place < length numbers → NamedQueue.number (get_or (numbered names numbers) place unnamed) ≡ get_or numbers place d
numbered-at [] numbers place d same lt = absurd (omega (arith, same, lt))
numbered-at (x ∷ xs) [] place d same lt = absurd (omega (arith, lt))
numbered-at (x ∷ xs) (n ∷ ns) zero d same lt = refl
numbered-at (x ∷ xs) (n ∷ ns) (suc p) d same lt = numbered-at xs ns p d (omega (arith, same)) (omega (arith, lt))

pub number-at : (v now : QueuesView) (place number : ℕ) → v ≡ now → length v.names.values ≡ length v.names.names → place < length v.names.values → number ≡ get_or v.names.values place number
    → number ≡ NamedQueue.number (get_or (queues_of now) place unnamed)
number-at v now place number same count lt at =
    at ∙ sym (numbered-at v.names.names v.names.values place number count lt) ∙ ap (λ (w : QueuesView). NamedQueue.number (get_or (queues_of w) place unnamed)) same

-- a queue of that number stands
pub stands-at : (v now : QueuesView) (place number : ℕ) → v ≡ now → AreNumbers v.names v.queues → place < length v.names.values → number ≡ get_or v.names.values place number → Stands now.queues number
stands-at v now place number same are lt at =
    subst (λ (w : QueuesView). Stands w.queues number) same (subst (Stands v.queues) (sym at) (are.stand place number lt))

-- a name is appended, with its number
pub numbered-more : (names : List (List ℕ)) (numbers : List ℕ) (name : List ℕ) (n : ℕ) → length numbers ≡ length names
    → numbered (names ++ name ∷ []) (numbers ++ n ∷ []) ≡ numbered names numbers ++ record { number = n; name = name } ∷ []
numbered-more [] [] name n same = refl
numbered-more [] (m ∷ ms) name n same = absurd (omega (arith, same))
numbered-more (x ∷ xs) [] name n same = absurd (omega (arith, same))
numbered-more (x ∷ xs) (m ∷ ms) name n same = ap (λ qs. record { number = m; name = x } ∷ qs) (numbered-more xs ms name n (omega (arith, same)))

-- ---- numbers that rise

rise-low : (low from : ℕ) (ns : List ℕ) → low ≤ from → Rise from ns → Rise low ns
rise-low low from [] le rise = tt
rise-low low from (n ∷ ns) le rise = let first = rise.0 in (omega (arith, le, first), rise.1)

pub rise-more : (low m : ℕ) (ns : List ℕ) → low ≤ m → Rise low ns → All (λ n. n < m) ns → Rise low (ns ++ m ∷ [])
rise-more low m [] le rise all = (le, tt)
rise-more low m (n ∷ ns) le rise all =
    let first : n < m = All-head (λ k. k < m) n ns all in
    (rise.0, rise-more (suc n) m ns (omega (arith, first)) rise.1 (All-tail (λ k. k < m) n ns all))

rise-removed : (low p : ℕ) (ns : List ℕ) → Rise low ns → Rise low (remove ns p)
rise-removed low p [] rise = by p
  where
    by : (q : ℕ) → Rise low (remove [] q)
    by zero = tt
    by (suc q) = tt
rise-removed low zero (n ∷ ns) rise = let first = rise.0 in rise-low low (suc n) ns (omega (arith, first)) rise.1
rise-removed low (suc p) (n ∷ ns) rise = (rise.0, rise-removed (suc n) p ns rise.1)

-- a number below the first isn't among them
others-same : (n low : ℕ) (names : List (List ℕ)) (ns : List ℕ) → n < low → Rise low ns → others_than n (numbered names ns) ≡ numbered names ns
others-same n low [] ns lt rise = refl
others-same n low (x ∷ xs) [] lt rise = refl
others-same n low (x ∷ xs) (m ∷ ms) lt rise =
    let first = rise.0 in
    let apart : (m == n) ≡ false = grind (arith, nat_tests, lt, first) in
    ap (λ b. cond (not b) (record { number = m; name = x } ∷ others_than n (numbered xs ms)) (others_than n (numbered xs ms))) apart
    ∙ ap (λ qs. record { number = m; name = x } ∷ qs) (others-same n (suc m) xs ms (omega (arith, lt, first)) rise.1)

-- without the one at a place those of the other numbers are left
pub others-removed : (n low p : ℕ) (names : List (List ℕ)) (ns : List ℕ) → length ns ≡ length names → Rise low ns → slice_get ns p ≡ Some n → others_than n (numbered names ns) ≡ numbered (remove names p) (remove ns p)
others-removed n low p names [] same rise at = absurd (cc)
others-removed n low p [] (m ∷ ms) same rise at = absurd (omega (arith, same))
others-removed n low zero (x ∷ xs) (m ∷ ms) same rise at =
    let one : m ≡ n = cc in
    let yes : (m == n) ≡ true = grind (arith, nat_tests) in
    ap (λ b. cond (not b) (record { number = m; name = x } ∷ others_than n (numbered xs ms)) (others_than n (numbered xs ms))) yes
    ∙ others-same n (suc m) xs ms (omega (arith, one)) rise.1
others-removed n low (suc p) (x ∷ xs) (m ∷ ms) same rise at =
    let above : suc m ≤ n = least (suc m) p ms rise.1 at in
    let apart : (m == n) ≡ false = grind (arith, nat_tests, above) in
    ap (λ b. cond (not b) (record { number = m; name = x } ∷ others_than n (numbered xs ms)) (others_than n (numbered xs ms))) apart
    ∙ ap (λ qs. record { number = m; name = x } ∷ qs) (others-removed n (suc m) p xs ms (omega (arith, same)) rise.1 at)
  where
    least : (low q : ℕ) (ks : List ℕ) → Rise low ks → slice_get ks q ≡ Some n → low ≤ n
    least low q [] rise at = absurd (cc)
    least low zero (k ∷ ks) rise at = let one : k ≡ n = cc in let first = rise.0 in omega (arith, one, first)
    least low (suc q) (k ∷ ks) rise at = let above = least (suc k) q ks rise.1 at in let first = rise.0 in omega (arith, above, first)

-- and their queues stand as they did, if only that of the number was dropped
above : (n low : ℕ) (P Q : ℕ → Type 0) (ns : List ℕ) → n < low → Rise low ns → All P ns → ((m : ℕ) → (n ≡ m → ⊥) → P m → Q m) → All Q ns
above n low P Q [] lt rise all step = λ k d low. absurd (omega arith)
above n low P Q (m ∷ ms) lt rise all step =
    let first = rise.0 in
    All-cons Q m ms (step m (λ e. omega (arith, e, lt, first)) (All-head P m ms all)) (above n (suc m) P Q ms (omega (arith, lt, first)) rise.1 (All-tail P m ms all) step)

pub all-removed : (n low p : ℕ) (P Q : ℕ → Type 0) (ns : List ℕ) → Rise low ns → slice_get ns p ≡ Some n → All P ns → ((m : ℕ) → (n ≡ m → ⊥) → P m → Q m) → All Q (remove ns p)
all-removed n low p P Q [] rise at all step = absurd (cc)
all-removed n low zero P Q (m ∷ ms) rise at all step =
    let one : m ≡ n = cc in
    above n (suc m) P Q ms (omega (arith, one)) rise.1 (All-tail P m ms all) step
all-removed n low (suc p) P Q (m ∷ ms) rise at all step =
    let over : suc m ≤ n = least (suc m) p ms rise.1 at in
    All-cons Q m (remove ms p) (step m (λ e. omega (arith, e, over)) (All-head P m ms all)) (all-removed n (suc m) p P Q ms rise.1 at (All-tail P m ms all) step)
  where
    least : (low q : ℕ) (ks : List ℕ) → Rise low ks → slice_get ks q ≡ Some n → low ≤ n
    least low q [] rise at = absurd (cc)
    least low zero (k ∷ ks) rise at = let one : k ≡ n = cc in let first = rise.0 in omega (arith, one, first)
    least low (suc q) (k ∷ ks) rise at = let over = least (suc k) q ks rise.1 at in let first = rise.0 in omega (arith, over, first)

length-removed : {A : Type 0} (xs : List A) (p : ℕ) → p < length xs → suc (length (remove xs p)) ≡ length xs
length-removed [] p lt = absurd (omega (arith, lt))
length-removed (x ∷ xs) zero lt = refl
length-removed (x ∷ xs) (suc p) lt = ap suc (length-removed xs p (omega (arith, lt)))

-- what holds of the one that is removed, and of those that are left, holds of all
all-back : (n p : ℕ) (P : ℕ → Type 0) (ns : List ℕ) → slice_get ns p ≡ Some n → P n → All P (remove ns p) → All P ns
all-back n p P [] at here all = absurd (cc)
all-back n zero P (m ∷ ms) at here all = let one : m ≡ n = cc in All-cons P m ms (subst P (sym one) here) all
all-back n (suc p) P (m ∷ ms) at here all = All-cons P m ms (All-head P m (remove ms p) all) (all-back n p P ms at here (All-tail P m (remove ms p) all))

pub numbers-removed : (n p : ℕ) (names : NamedView ℕ) (old new : List QueueView) → AreNumbers names old → p < length names.names → slice_get names.values p ≡ Some n → ((m : ℕ) → (n ≡ m → ⊥) → Stands old m → Stands new m)
    → get_or new n no_queue ≡ no_queue → ((m : ℕ) → (n ≡ m → ⊥) → get_or old m no_queue ≡ no_queue → get_or new m no_queue ≡ no_queue)
    → AreNumbers (record { names = remove names.names p; values = remove names.values p }) new
numbers-removed n p names old new are lt at step empty rest = record {
  each = (let one = length-removed names.values p (omega (arith, lt, are.each)) in let other = length-removed names.names p lt in omega (arith, one, other, are.each));
  rise = rise-removed 0 p names.values are.rise;
  stand = all-removed n 0 p (Stands old) (Stands new) names.values are.rise at are.stand step;
  others = λ k apart. by k apart (n == k) refl;
}
  where
    by : (k : ℕ) → All (λ m. (m == k) ≡ false) (remove names.values p) → (b : Bool) → (n == k) ≡ b → get_or new k no_queue ≡ no_queue
    by k apart true e = let one : n ≡ k = grind (arith, nat_tests) in ap (λ j. get_or new j no_queue) (sym one) ∙ empty
    by k apart false e =
        let other : n ≡ k → ⊥ = grind (arith, nat_tests) in
        rest k other (are.others k (all-back n p (λ m. (m == k) ≡ false) names.values at e apart))

-- what holds of some and one more holds of these
all-parts : (P : ℕ → Type 0) (ns : List ℕ) (m : ℕ) → All P (ns ++ m ∷ []) → All P ns × P m
all-parts P [] m all = (λ k d lt. absurd (omega (arith, lt)), All-head P m [] all)
all-parts P (n ∷ ns) m all =
    let rest = all-parts P ns m (All-tail P n (ns ++ m ∷ []) all) in
    (All-cons P n ns (All-head P n (ns ++ m ∷ []) all) rest.0, rest.1)

-- a queue that wasn't there isn't there after one more was made, unless it is that one
none-more : (old : List QueueView) (q : QueueView) (n : ℕ) → (length old ≡ n → ⊥) → get_or old n no_queue ≡ no_queue → get_or (old ++ q ∷ []) n no_queue ≡ no_queue
none-more [] q zero other none = absurd (other refl)
none-more [] q (suc n) other none = refl
none-more (x ∷ xs) q zero other none = none
none-more (x ∷ xs) q (suc n) other none = none-more xs q n (λ same. other (ap suc same)) none

-- one more name, with the number of a queue that was made after the others
pub numbers-more : (names : NamedView ℕ) (name : List ℕ) (old : List QueueView) (q : QueueView) → 0 < length q.ticks → AreNumbers names old → All (λ n. n < length old) names.values → All (Stands (old ++ q ∷ [])) names.values
    → Stands (old ++ q ∷ []) (length old) → AreNumbers (record { names = names.names ++ name ∷ []; values = names.values ++ length old ∷ [] }) (old ++ q ∷ [])
numbers-more names name old q ticks are low still last = record {
  each = (let one = length-append names.values (length old ∷ []) in let other = length-append names.names (name ∷ []) in omega (arith, one, other, are.each));
  rise = rise-more 0 (length old) names.values (omega arith) are.rise low;
  stand = All-append (Stands (old ++ q ∷ [])) names.values (length old ∷ []) still (All-cons (Stands (old ++ q ∷ [])) (length old) [] last (λ k d lt. absurd (omega (arith, lt))));
  others = λ n apart.
      let (each, newest) = all-parts (λ m. (m == n) ≡ false) names.values (length old) apart in
      let other : length old ≡ n → ⊥ = grind (arith, nat_tests) in
      none-more old q n other (are.others n each);
}

-- ---- the name of a number

-- the first of that number
abbrev pub of_number : ℕ → List NamedQueue → Option NamedQueue
of_number number queues = find (λ q. q.number == number) queues

-- is the one at a place, or after it
pub from-place : (number : ℕ) (names : List (List ℕ)) (numbers : List ℕ) (place : ℕ) → length numbers ≡ length names → place < length numbers → of_number number (drop place (numbered names numbers))
    ≡ cond (get_or numbers place 0 == number) (Some (record { number = get_or numbers place 0; name = get_or names place [] })) (of_number number (drop (suc place) (numbered names numbers)))
from-place number names [] place same lt = absurd (omega (arith, lt))
from-place number [] (n ∷ ns) place same lt = absurd (omega (arith, same))
from-place number (x ∷ xs) (n ∷ ns) zero same lt = refl
from-place number (x ∷ xs) (n ∷ ns) (suc p) same lt = from-place number xs ns p (omega (arith, same)) (omega (arith, lt))

pub name-found : (v now : QueuesView) (number place value : ℕ) (name : List ℕ) → v ≡ now → length v.names.values ≡ length v.names.names → place < length v.names.values → value ≡ get_or v.names.values place value → value ≡ number
    → name ≡ get_or v.names.names place name → of_number number (drop place (queues_of v)) ≡ of_number number (queues_of v) → Some name ≡ option_map NamedQueue.name (of_number number (queues_of now))
name-found v now number place value name same count lt at one named is =
    let read : get_or v.names.values place 0 ≡ number = sym (get_or_read v.names.values place value lt at 0) ∙ one in
    let yes : (get_or v.names.values place 0 == number) ≡ true = grind (arith, nat_tests) in
    ap Some (get_or_read v.names.names place name (omega (arith, lt, count)) named [])
    ∙ ap (λ b. option_map NamedQueue.name (cond b (Some (record { number = get_or v.names.values place 0; name = get_or v.names.names place [] })) (of_number number (drop (suc place) (queues_of v))))) (sym yes)
    ∙ ap (option_map NamedQueue.name) (sym (from-place number v.names.names v.names.values place count lt) ∙ is)
    ∙ ap (λ (w : QueuesView). option_map NamedQueue.name (of_number number (queues_of w))) same

-- another one is after it
pub name-behind : (n : NamedView ℕ) (number place value : ℕ) → length n.values ≡ length n.names → place < length n.values → value ≡ get_or n.values place value → (value ≡ number → ⊥)
    → of_number number (drop place (numbered n.names n.values)) ≡ of_number number (numbered n.names n.values) → of_number number (drop (place + 1) (numbered n.names n.values)) ≡ of_number number (numbered n.names n.values)
name-behind n number place value count lt at other is =
    let no : (get_or n.values place 0 == number) ≡ false = false_unless (get_or n.values place 0) number (λ e. other (get_or_read n.values place value lt at 0 ∙ e)) in
    let next : place + 1 ≡ suc place = omega arith in
    ap (λ p. of_number number (drop p (numbered n.names n.values))) next
    ∙ ap (λ b. cond b (Some (record { number = get_or n.values place 0; name = get_or n.names place [] })) (of_number number (drop (suc place) (numbered n.names n.values)))) (sym no)
    ∙ sym (from-place number n.names n.values place count lt) ∙ is
  where
    false_unless : (m k : ℕ) → (m ≡ k → ⊥) → (m == k) ≡ false
    false_unless m k apart = by (m == k) refl
      where
        by : (b : Bool) → (m == k) ≡ b → (m == k) ≡ false
        by true e = let one : m ≡ k = grind (arith, nat_tests) in absurd (apart one)
        by false e = e

-- after all of them there is none
none-behind : (number : ℕ) (names : List (List ℕ)) (numbers : List ℕ) (place : ℕ) → length numbers ≡ length names → length names ≤ place → of_number number (drop place (numbered names numbers)) ≡ None
none-behind number [] numbers zero same le = refl
none-behind number [] numbers (suc p) same le = refl
none-behind number (x ∷ xs) [] place same le = absurd (omega (arith, same))
none-behind number (x ∷ xs) (n ∷ ns) zero same le = absurd (omega (arith, le))
none-behind number (x ∷ xs) (n ∷ ns) (suc p) same le = none-behind number xs ns p (omega (arith, same)) (omega (arith, le))

pub name-none : (v now : QueuesView) (number place : ℕ) → v ≡ now → length v.names.values ≡ length v.names.names → length v.names.names ≤ place → of_number number (drop place (queues_of v)) ≡ of_number number (queues_of v)
    → None ≡ option_map NamedQueue.name (of_number number (queues_of now))
name-none v now number place same count le is =
    ap (option_map NamedQueue.name) (sym (none-behind number v.names.names v.names.values place count le) ∙ is) ∙ ap (λ (w : QueuesView). option_map NamedQueue.name (of_number number (queues_of w))) same
