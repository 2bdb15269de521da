-- What a call promises that changes a part of the world. The part is again one that calls in form have made, so the
-- promises of calls that follow one another chain.
use Rattle.std.specs.Prelude.{◌≡◌, List, [], ◌∷◌, All}

-- a part of the world that calls change: what has happened before any call, and after one more; what a call answers there;
-- and what the part shows of what has happened
pub record Part (C H V A : Type 0) : Type 0 where
  pub start : H
  pub after : H → C → H
  pub answers : H → C → A
  pub shows : H → V

-- what has happened after calls, the last one first
abbrev pub after_all : {C H V A : Type 0} → Part C H V A → List C → H
after_all part [] = part.start
after_all part (call ∷ calls) = part.after (after_all part calls) call

-- for all calls in form after which the part showed the old value, the answer is the one that the definitions give there,
-- and the part shows the new value after the call too
pub record Promises {C H V A : Type 0} (part : Part C H V A) (in_form : C → Type 0) (old new : V) (call : C) (answer : A) : Type 0 where
  pub answered : (calls : List C) → All in_form calls → old ≡ part.shows (after_all part calls) → answer ≡ part.answers (after_all part calls) call
  pub stands : (calls : List C) → All in_form calls → old ≡ part.shows (after_all part calls) → new ≡ part.shows (after_all part (call ∷ calls))
