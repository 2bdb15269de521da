-- What is shown of slots, each of which has one queue or none.
use Rattle.std.proofs.Common.{◌≡◌, ℕ, zero, suc, ◌<◌, List, [], ◌∷◌, ◌++◌, map, length, get_or, slice_set, refl, sym, ◌∙◌, ap, subst, arith}
use Rattle.std.proofs.lemmas.List.{map-append}
use Rattle.pgq_queue.specs.Views.{QueueView}
use Rattle.pgq_queue.specs.Seen.{no_queue}
use Rattle.pgq_queues.specs.Seen.{Stands}
use Rattle.pgq_queue.specs.Changed.{undone_in}
use Rattle.pgq_queues.proofs.TracedLists.{there}

-- one slot has changed
pub map-set : {A B : Type 0} (f : A → B) (xs : List A) (i : ℕ) (x : A) → map f (slice_set xs i x) ≡ slice_set (map f xs) i (f x)
map-set f [] i x = refl
map-set f (y ∷ ys) zero x = refl
map-set f (y ∷ ys) (suc i) x = ap (λ zs. f y ∷ zs) (map-set f ys i x)

-- what is shown of the slot at a place
pub map-at : {A : Type 0} (f : A → QueueView) (xs : List A) (i : ℕ) (x : A) → x ≡ get_or xs i x → i < length (map f xs) → get_or (map f xs) i no_queue ≡ f x
map-at f [] i x is lt = absurd (omega (arith, lt))
map-at f (y ∷ ys) zero x is lt = ap f (sym is)
map-at f (y ∷ ys) (suc i) x is lt = map-at f ys i x is (omega (arith, lt))

-- the default that is read for a missing item doesn't matter if the item is there
pub any-default : {A : Type 0} (xs : List A) (i : ℕ) (d e : A) → i < length xs → get_or xs i d ≡ get_or xs i e
any-default [] i d e lt = absurd (omega (arith, lt))
any-default (x ∷ xs) zero d e lt = refl
any-default (x ∷ xs) (suc i) d e lt = any-default xs i d e (omega (arith, lt))

-- the slot of a queue that stands has it
pub is-there : (queues : List QueueView) (i : ℕ) (slot : List QueueView) (q : QueueView) → get_or queues i no_queue ≡ get_or slot 0 no_queue → Stands queues i → q ≡ get_or slot 0 q → q ≡ get_or queues i q
is-there queues i [] q at stands is = let ticks = subst (λ (x : QueueView). 0 < length x.ticks) at stands in absurd (omega (arith, ticks))
is-there queues i (x ∷ xs) q at stands is = is ∙ sym at ∙ any-default queues i no_queue q (there queues i stands)

pub changed-there : (queues : List QueueView) (i : ℕ) (slot : List QueueView) (w : QueueView) → get_or queues i no_queue ≡ get_or slot 0 no_queue → Stands queues i → get_or (slice_set slot 0 w) 0 no_queue ≡ w
changed-there queues i [] w at stands = let ticks = subst (λ (x : QueueView). 0 < length x.ticks) at stands in absurd (omega (arith, ticks))
changed-there queues i (x ∷ xs) w at stands = refl

-- a rollback leaves a queue that isn't there as it is
pub undone-get : (t : ℕ) (queues : List QueueView) (n : ℕ) → get_or (map (undone_in t) queues) n no_queue ≡ undone_in t (get_or queues n no_queue)
undone-get t [] n = refl
undone-get t (q ∷ qs) zero = refl
undone-get t (q ∷ qs) (suc n) = undone-get t qs n

-- one slot more, with a queue
pub slot-more : {A : Type 0} (items : A → List QueueView) (old new : List A) (slot : A) (shown : List QueueView) (q made : QueueView) → map (λ x. get_or (items x) 0 no_queue) old ≡ shown → new ≡ old ++ slot ∷ []
    → items slot ≡ q ∷ [] → q ≡ made → map (λ x. get_or (items x) 0 no_queue) new ≡ shown ++ made ∷ []
slot-more items old new slot shown q made same more has is =
    ap (map (λ x. get_or (items x) 0 no_queue)) more ∙ map-append (λ x. get_or (items x) 0 no_queue) old (slot ∷ [])
    ∙ (λ j. same j ++ (ap (λ (xs : List QueueView). get_or xs 0 no_queue) has ∙ is) j ∷ [])
