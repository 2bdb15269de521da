-- What sessions attempt, read by number.
use Rattle.std.proofs.Common.{◌≡◌, ℕ, ◌<◌, List, [], ◌∷◌, ◌++◌, length, slice_set, ◌∙◌, ap}
use Rattle.sky_model.specs.declared.stmt.Attempt.{Attempt}
use Rattle.sky_model.specs.declared.stmt.Attempt.TheVariants.{Deletion}
use Rattle.sky_model.specs.State.{changed_at}
use Rattle.sky_state.specs.Seen.{attempt_of}
use Rattle.sky_state.proofs.SessionLists.{set-at, read-padded}

pub padded : (attempts : List Attempt) → attempt_of (attempts ++ Deletion ∷ []) ≡ attempt_of attempts
padded attempts = λ i n. read-padded attempts n Deletion i

-- an attempt in place of another is a change at its number
pub attempt-set : (attempts : List Attempt) (was : ℕ → Attempt) (who : ℕ) (attempt : Attempt) → attempt_of attempts ≡ was → who < length attempts
    → attempt_of (slice_set attempts who attempt) ≡ changed_at who (λ _. attempt) was
attempt-set attempts was who attempt same lt = (λ i n. set-at attempts who n attempt Deletion lt i) ∙ ap (changed_at who (λ _. attempt)) same
