-- Which consumer is the first that holds a switch back.
use Rattle.std.proofs.Common.{◌≡◌, ℕ, Bool, true, false, Option, Bor, is_some, option_map, option_copied, zero, suc, ◌+◌, ◌<◌, List, [], ◌∷◌, Some, None, drop, length, get_or, refl, sym, ◌∙◌, ap, arith}
use Rattle.std.specs.Prelude.{slice_get}
use Rattle.std.specs.Option.{option_or}
use Rattle.std.proofs.lemmas.Option.{same_Some}
use Rattle.sky_model.specs.declared.reply.HeldBack.{HeldBack}
use Rattle.sky_model.specs.Queues.{Tick}
use Rattle.sky_model.specs.State.{Queue}
use Rattle.sky_model.specs.StepRotation.{held_by_consumer, held_by_consumers}

pub consumer-there : (members : List (List ℕ)) (place : ℕ) → place < length members → slice_get members place ≡ Some (get_or members place [])
consumer-there [] place lt = absurd (omega (arith, lt))
consumer-there (m ∷ ms) zero lt = refl
consumer-there (m ∷ ms) (suc place) lt = consumer-there ms place (omega (arith, lt))

pub held-first : (t : ℕ) (q : Queue) (members : List (List ℕ)) (place : ℕ) (x : List ℕ) (why : HeldBack) → slice_get members place ≡ Some x → held_by_consumer t q x ≡ Some why → held_by_consumers t q (drop place members) ≡ Some why
held-first t q [] place x why at is = absurd (cc)
held-first t q (m ∷ ms) zero x why at is = ap (λ o. option_or o (held_by_consumers t q ms)) (ap (held_by_consumer t q) (same_Some m x at) ∙ is)
held-first t q (m ∷ ms) (suc place) x why at is = held-first t q ms place x why at is

held-later : (t : ℕ) (q : Queue) (members : List (List ℕ)) (place : ℕ) (x : List ℕ) → slice_get members place ≡ Some x → held_by_consumer t q x ≡ None → held_by_consumers t q (drop (suc place) members) ≡ held_by_consumers t q (drop place members)
held-later t q [] place x at is = absurd (cc)
held-later t q (m ∷ ms) zero x at is = sym (ap (λ o. option_or o (held_by_consumers t q ms)) (ap (held_by_consumer t q) (same_Some m x at) ∙ is))
held-later t q (m ∷ ms) (suc place) x at is = held-later t q ms place x at is

pub held-next : (t : ℕ) (q : Queue) (members : List (List ℕ)) (place : ℕ) (x : List ℕ) → slice_get members place ≡ Some x → held_by_consumer t q x ≡ None → held_by_consumers t q (drop (place + 1) members) ≡ held_by_consumers t q (drop place members)
held-next t q members place x at is = let next : place + 1 ≡ suc place = omega arith in ap (λ n. held_by_consumers t q (drop n members)) next ∙ held-later t q members place x at is

-- a tick is told of if there is one
told-if : (found : Option (Bor Tick)) (why : Tick → HeldBack) → is_some found ≡ is_some (option_map why (option_copied found))
told-if None why = refl
told-if (Some tick) why = refl

some-or : (first rest : Option HeldBack) → is_some first ≡ true → is_some (option_or first rest) ≡ true
some-or None rest is = absurd (cc)
some-or (Some why) rest is = refl

not-some : (o : Option HeldBack) → is_some o ≡ false → o ≡ None
not-some None is = refl
not-some (Some why) is = absurd (cc)

-- the consumer at a place holds a switch back if its position is told of
pub holds-if : (t : ℕ) (q : Queue) (x : List ℕ) (found : Option (Bor Tick)) (why : Tick → HeldBack) (is : Bool) → is ≡ is_some found → held_by_consumer t q x ≡ option_map why (option_copied found) → is ≡ is_some (held_by_consumer t q x)
holds-if t q x found why is tested told = tested ∙ told-if found why ∙ ap is_some (sym told)

pub holds-none : (t : ℕ) (q : Queue) (x : List ℕ) (is : Bool) → is ≡ is_some (held_by_consumer t q x) → is ≡ false → held_by_consumer t q x ≡ None
holds-none t q x is tested free = not-some (held_by_consumer t q x) (sym tested ∙ free)

pub held-some : (t : ℕ) (q : Queue) (members : List (List ℕ)) (place : ℕ) (x : List ℕ) → slice_get members place ≡ Some x → is_some (held_by_consumer t q x) ≡ true → is_some (held_by_consumers t q (drop place members)) ≡ true
held-some t q [] place x at is = absurd (cc)
held-some t q (m ∷ ms) zero x at is = some-or (held_by_consumer t q m) (held_by_consumers t q ms) (ap (λ y. is_some (held_by_consumer t q y)) (same_Some m x at) ∙ is)
held-some t q (m ∷ ms) (suc place) x at is = held-some t q ms place x at is
