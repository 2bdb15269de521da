-- What the workers of leaves have in hand, after what keeps it has changed.
use Rattle.std.proofs.Common.{◌≡◌, ℕ, zero, suc, ◌<◌, ◌≤◌, ◌==◌, Bool, true, false, ◌&&◌, List, [], ◌∷◌, ◌++◌, length, get_or, slice_set, bytes_eq, find, position, Option, Some, None, option_and_then, refl, sym, ◌∙◌, ap, subst, arith, if◌then◌else◌}
use Rattle.std.proofs.lemmas.Bool.Decides.{nat_tests}
use Rattle.std.proofs.lemmas.Grind.{common_steps}
use Rattle.std.proofs.lemmas.List.Quantifiers.{position-Some}
use Rattle.std.proofs.lemmas.List.Sums.{fails_before_first}
use Rattle.std.proofs.lemmas.List.{get_or-set_same, get_or_append_left, length-append, set-set}
use Rattle.std.proofs.Math.Seq.{get_or-append_seam}
use Rattle.std.specs.List.{position_or_len}
use Rattle.sky_names.proofs.PlaceLemmas.{bytes_eq_refl, same_name}
use Rattle.sky_model.specs.Hands.{BatchHand, Hand}
use Rattle.sky_model.specs.State.{changed_at, changed_for}
use Rattle.sky_model.proofs.Cases.{by_test}
use Rattle.sky_databases.specs.Hands.{HandAt, IsPlaceOf, is_hand_of, hand_at, no_worker, worker_at, with_hand}

-- whether a table of a database is this one
abbrev is_it : (d : ℕ) → (t : List ℕ) → (e : ℕ) → (n : List ℕ) → Bool
is_it d t e n = d == e && bytes_eq n t

-- a worker is that of the tables that are its own
key-of : (d : ℕ) (t : List ℕ) (z : HandAt) → is_hand_of d t z ≡ true → (e : ℕ) (n : List ℕ) → is_hand_of e n z ≡ is_it d t e n
key-of d t z is e n =
    let number : z.database ≡ d = grind (arith, nat_tests, is) in
    let name : t ≡ z.table = same_name t z.table (grind (arith, is)) in
    ap (λ k. k == e && bytes_eq n z.table) number ∙ ap (λ m. d == e && bytes_eq n m) (sym name)

-- one that is the worker of another table isn't that of this one
other-key : (d : ℕ) (t : List ℕ) (z : HandAt) → is_hand_of d t z ≡ false → (e : ℕ) (n : List ℕ) → is_hand_of e n z ≡ true → is_it d t e n ≡ false
other-key d t z isnt e n is =
    by_test (λ b. is_it d t e n ≡ b → b ≡ false) (is_it d t e n)
    (λ _ it. absurd (let number : e ≡ d = grind (arith, nat_tests, it) in
    let name : n ≡ t = same_name n t (grind (arith, it)) in
    let same : is_hand_of d t z ≡ true = ap (λ k. is_hand_of k t z) (sym number) ∙ ap (λ m. is_hand_of e m z) (sym name) ∙ is in cc (sym isnt ∙ same)))
    (λ _ _. refl) refl

-- ---- one of them changed

set-first : (d : ℕ) (t : List ℕ) (hand : Option Hand) (hands : List HandAt) (at : ℕ) (x : HandAt) → at < length hands → is_hand_of d t (get_or hands at x) ≡ true
    → ((k : ℕ) → k < at → is_hand_of d t (get_or hands k x) ≡ false) → (e : ℕ) (n : List ℕ)
    → hand_at (slice_set hands at (record (get_or hands at x) { hand = hand })) e n ≡ (if is_it d t e n then hand else hand_at hands e n)
set-first d t hand [] at x lt is before e n = absurd (omega (arith, lt))
set-first d t hand (z ∷ zs) zero x lt is before e n =
    by (is_it d t e n) (key-of d t (record z { hand = hand }) is e n) (key-of d t z is e n)
  where
    by : (b : Bool) → is_hand_of e n (record z { hand = hand }) ≡ b → is_hand_of e n z ≡ b
        → hand_at (record z { hand = hand } ∷ zs) e n ≡ (if b then hand else hand_at (z ∷ zs) e n)
    by true one also = ap (λ c. option_and_then HandAt.hand (if c then Some (record z { hand = hand }) else find (is_hand_of e n) zs)) one
    by false one also =
        ap (λ c. option_and_then HandAt.hand (if c then Some (record z { hand = hand }) else find (is_hand_of e n) zs)) one
        ∙ sym (ap (λ c. option_and_then HandAt.hand (if c then Some z else find (is_hand_of e n) zs)) also)
set-first d t hand (z ∷ zs) (suc at) x lt is before e n =
    by (set-first d t hand zs at x (omega (arith, lt)) is (λ k less. before (suc k) (omega (arith, less))) e n) (is_hand_of e n z) refl
  where
    by : hand_at (slice_set zs at (record (get_or zs at x) { hand = hand })) e n ≡ (if is_it d t e n then hand else hand_at zs e n)
        → (b : Bool) → is_hand_of e n z ≡ b → option_and_then HandAt.hand (if b then Some z else find (is_hand_of e n) (slice_set zs at (record (get_or zs at x) { hand = hand })))
        ≡ (if is_it d t e n then hand else option_and_then HandAt.hand (if b then Some z else find (is_hand_of e n) zs))
    by rest true one = sym (ap (λ c. if c then hand else z.hand) (other-key d t z (before zero (omega arith)) e n one))
    by rest false one = rest

-- as functions of the table
as-changed : (d : ℕ) (t : List ℕ) (hand : Option Hand) (f g : ℕ → List ℕ → Option Hand) → ((e : ℕ) (n : List ℕ) → g e n ≡ (if is_it d t e n then hand else f e n)) → g ≡ changed_at d (changed_for t (λ _. hand)) f
as-changed d t hand f g each = λ i e. by e (d == e) (λ n. each e n) i
  where
    by : (e : ℕ) (b : Bool) → ((n : List ℕ) → g e n ≡ (if b && bytes_eq n t then hand else f e n)) → g e ≡ (if b then changed_for t (λ _. hand) (f e) else f e)
    by e true all = λ i n. all n i
    by e false all = λ i n. all n i

pub hand-set : (d : ℕ) (t : List ℕ) (hand : Option Hand) (hands : List HandAt) (place : ℕ) → IsPlaceOf hands d t place → hand_at (with_hand hands place hand) ≡ changed_at d (changed_for t (λ _. hand)) (hand_at hands)
hand-set d t hand hands place is = as-changed d t hand (hand_at hands) _ (set-first d t hand hands place no_worker is.within is.own is.first)

-- what it had
pub hand-there : (d : ℕ) (t : List ℕ) (hands : List HandAt) (place : ℕ) → IsPlaceOf hands d t place → hand_at hands d t ≡ (worker_at hands place).hand
hand-there d t hands place is = first hands place is.within is.own is.first
  where
    first : (hands : List HandAt) (at : ℕ) → at < length hands → is_hand_of d t (worker_at hands at) ≡ true → ((k : ℕ) → k < at → is_hand_of d t (worker_at hands k) ≡ false) → hand_at hands d t ≡ (worker_at hands at).hand
    first [] at lt is before = absurd (omega (arith, lt))
    first (z ∷ zs) zero lt is before = ap (λ b. option_and_then HandAt.hand (if b then Some z else find (is_hand_of d t) zs)) is
    first (z ∷ zs) (suc at) lt is before =
        ap (λ b. option_and_then HandAt.hand (if b then Some z else find (is_hand_of d t) zs)) (before zero (omega arith))
        ∙ first zs at (omega (arith, lt)) is (λ k less. before (suc k) (omega (arith, less)))

-- the first that is the table's
pub is-place : (d : ℕ) (t : List ℕ) (hands : List HandAt) (place : ℕ) → position (is_hand_of d t) hands ≡ Some place → IsPlaceOf hands d t place
is-place d t hands place is = let found = position-Some (is_hand_of d t) hands place no_worker is in record { within = found.0; own = found.1; first = found.2 }

-- ---- none of them is that of the table

none-before : (d : ℕ) (t : List ℕ) (hands : List HandAt) (x : HandAt) → position (is_hand_of d t) hands ≡ None → (k : ℕ) → k < length hands → is_hand_of d t (get_or hands k x) ≡ false
none-before d t hands x none k lt =
    let past : length hands ≤ position_or_len (is_hand_of d t) hands = grind (arith, common_steps, nat_tests, none) in
    fails_before_first (is_hand_of d t) hands k x (omega (arith, lt, past))

push-new : (d : ℕ) (t : List ℕ) (y : HandAt) (hands : List HandAt) → is_hand_of d t y ≡ true → ((k : ℕ) → k < length hands → is_hand_of d t (get_or hands k y) ≡ false) → (e : ℕ) (n : List ℕ)
    → hand_at (hands ++ y ∷ []) e n ≡ (if is_it d t e n then y.hand else hand_at hands e n)
push-new d t y [] is none e n = by (is_it d t e n) (key-of d t y is e n)
  where
    by : (b : Bool) → is_hand_of e n y ≡ b → hand_at (y ∷ []) e n ≡ (if b then y.hand else None)
    by true one = ap (λ c. option_and_then HandAt.hand (if c then Some y else None)) one
    by false one = ap (λ c. option_and_then HandAt.hand (if c then Some y else None)) one
push-new d t y (z ∷ zs) is none e n = by (push-new d t y zs is (λ k less. none (suc k) (omega (arith, less))) e n) (is_hand_of e n z) refl
  where
    by : hand_at (zs ++ y ∷ []) e n ≡ (if is_it d t e n then y.hand else hand_at zs e n) → (b : Bool) → is_hand_of e n z ≡ b
        → option_and_then HandAt.hand (if b then Some z else find (is_hand_of e n) (zs ++ y ∷ [])) ≡ (if is_it d t e n then y.hand else option_and_then HandAt.hand (if b then Some z else find (is_hand_of e n) zs))
    by rest true one = sym (ap (λ c. if c then y.hand else z.hand) (other-key d t z (none zero (omega arith)) e n one))
    by rest false one = rest

-- one more
pub hand-pushed : (d : ℕ) (t copied : List ℕ) (hand : Option Hand) (hands : List HandAt) → position (is_hand_of d t) hands ≡ None → copied ≡ t
    → hand_at (hands ++ record { database = d; table = copied; hand = hand } ∷ []) ≡ changed_at d (changed_for t (λ _. hand)) (hand_at hands)
hand-pushed d t copied hand hands none same =
    as-changed d t hand (hand_at hands) _ (push-new d t y hands own (none-before d t hands y none))
  where
    y : HandAt
    y = record { database = d; table = copied; hand = hand }

    own : is_hand_of d t y ≡ true
    own = let name : bytes_eq t copied ≡ true = ap (bytes_eq t) same ∙ bytes_eq_refl t in grind (arith, nat_tests, name)

-- what is nothing stays nothing
pub hand-none : (d : ℕ) (t : List ℕ) (hands : List HandAt) → position (is_hand_of d t) hands ≡ None → hand_at hands d t ≡ None
hand-none d t hands none = all hands (none-before d t hands (record { database = d; table = t; hand = None }) none)
  where
    all : (hands : List HandAt) → ((k : ℕ) → k < length hands → is_hand_of d t (get_or hands k (record { database = d; table = t; hand = None })) ≡ false) → hand_at hands d t ≡ None
    all [] each = refl
    all (z ∷ zs) each =
        ap (λ b. option_and_then HandAt.hand (if b then Some z else find (is_hand_of d t) zs)) (each zero (omega arith)) ∙ all zs (λ k less. each (suc k) (omega (arith, less)))

-- what is put there again changes nothing
pub put-back : (d : ℕ) (t : List ℕ) (hand : Option Hand) (f : ℕ → List ℕ → Option Hand) → f d t ≡ hand → changed_at d (changed_for t (λ _. hand)) f ≡ f
put-back d t hand f is = sym (as-changed d t hand f f (λ e n. by e n (is_it d t e n) refl))
  where
    by : (e : ℕ) (n : List ℕ) (b : Bool) → is_it d t e n ≡ b → f e n ≡ (if b then hand else f e n)
    by e n true it =
        let number : d ≡ e = grind (arith, nat_tests, it) in
        let name : n ≡ t = same_name n t (grind (arith, it)) in
        ap (λ k. f k n) (sym number) ∙ ap (f d) name ∙ is
    by e n false it = refl

-- ---- as the code keeps it

-- none is found where none that is found is one
pub none-found : {A : Type 0} (o : Option A) → ((a : A) → o ≡ Some a → ⊥) → o ≡ None
none-found None not = refl
none-found (Some a) not = absurd (not a refl)

-- a new one, which has nothing
pub place-added : (d : ℕ) (t copied : List ℕ) (hands now more : List HandAt) (place : ℕ) → hands ≡ now → position (is_hand_of d t) now ≡ None → copied ≡ t
    → more ≡ hands ++ record { database = d; table = copied; hand = None } ∷ [] → place ≡ length hands → IsPlaceOf more d t place
place-added d t copied hands now more place same none copied_is is last =
    subst (λ hs. IsPlaceOf hs d t place) (sym (is ∙ ap (λ hs. hs ++ y ∷ []) same)) (subst (IsPlaceOf (now ++ y ∷ []) d t) (sym (last ∙ ap length same)) (record {
      within = omega (arith, length-append now (y ∷ []));
      own = ap (is_hand_of d t) (get_or-append_seam now y [] no_worker) ∙ own;
      first = λ k lt. ap (is_hand_of d t) (get_or_append_left now (y ∷ []) no_worker k lt) ∙ none-before d t now no_worker none k lt;
    }))
  where
    y : HandAt
    y = record { database = d; table = copied; hand = None }

    own : is_hand_of d t y ≡ true
    own = let name : bytes_eq t copied ≡ true = ap (bytes_eq t) copied_is ∙ bytes_eq_refl t in grind (arith, nat_tests, name)

pub nothing-added : (d : ℕ) (t copied : List ℕ) (hands now more : List HandAt) → hands ≡ now → position (is_hand_of d t) now ≡ None → copied ≡ t
    → more ≡ hands ++ record { database = d; table = copied; hand = None } ∷ [] → hand_at more ≡ hand_at now
nothing-added d t copied hands now more same none copied_is is =
    ap hand_at (is ∙ ap (λ hs. hs ++ record { database = d; table = copied; hand = None } ∷ []) same)
    ∙ hand-pushed d t copied None now none copied_is
    ∙ put-back d t None (hand_at now) (hand-none d t now none)

-- ---- a worker's move

-- what was taken up at its place, and then put down there
pub hand-moved : (d : ℕ) (t : List ℕ) (hand : Option Hand) (placed taken put : List HandAt) (place : ℕ) → IsPlaceOf placed d t place → taken ≡ with_hand placed place None → put ≡ with_hand taken place hand
    → hand_at put ≡ changed_at d (changed_for t (λ _. hand)) (hand_at placed)
hand-moved d t hand placed taken put place is took puts =
    ap hand_at (puts ∙ ap (λ hs. with_hand hs place hand) took ∙ twice) ∙ hand-set d t hand placed place is
  where
    left : HandAt
    left = record (worker_at placed place) { hand = None }

    twice : with_hand (with_hand placed place None) place hand ≡ with_hand placed place hand
    twice =
        ap (λ x. slice_set (slice_set placed place left) place (record x { hand = hand })) (get_or-set_same placed place left no_worker is.within)
        ∙ set-set placed place left (record left { hand = hand })

-- ---- the batches of leaves

-- what is put there again changes nothing
pub batch-back : (d : ℕ) (batch : Option BatchHand) (f : ℕ → Option BatchHand) → f d ≡ batch → changed_at d (λ _. batch) f ≡ f
batch-back d batch f is = λ i e. by e (d == e) refl i
  where
    by : (e : ℕ) (b : Bool) → (d == e) ≡ b → (if b then batch else f e) ≡ f e
    by e true it = let number : d ≡ e = grind (arith, nat_tests, it) in sym is ∙ ap f number
    by e false it = refl
