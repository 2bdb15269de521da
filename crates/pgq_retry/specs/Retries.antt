-- The events that wait to be retried, as a list in the order in which they were asked for.
use Rattle.std.specs.Prelude.{ℕ, ◌==◌, ◌&&◌, ℤ, int_le, Bool, not, if◌then◌else◌, List, [], ◌∷◌, take, length, filter}
use Rattle.std.specs.List.{list_any}
use Rattle.pgq_retry.specs.declared.retry.Retry.{Retry}

-- ---- which one it is

-- whether it is this subscription's
abbrev pub is_of : ℕ → Retry → Bool
is_of sub w = w.sub == sub

-- whether it is this subscription's event of this id
abbrev pub is_event : ℕ → ℕ → Retry → Bool
is_event sub ev_id w = is_of sub w && w.event.ev_id == ev_id

-- whether the subscription's event of this id is among them
abbrev pub is_asked : ℕ → ℕ → List Retry → Bool
is_asked sub ev_id list = list_any (is_event sub ev_id) list

-- how many are the subscription's
abbrev pub count_of : ℕ → List Retry → ℕ
count_of sub list = length (filter (is_of sub) list)

-- ---- when it is due

-- whether it is due at a moment
abbrev pub is_due : ℤ → Retry → Bool
is_due moment w = int_le w.due moment

-- x, put in front of the first whose moment isn't before its own
abbrev pub put_by : {X : Type 0} → (X → ℤ) → X → List X → List X
put_by moment x [] = x ∷ []
put_by moment x (y ∷ ys) = if int_le (moment x) (moment y) then x ∷ y ∷ ys else y ∷ put_by moment x ys

-- by their moments, those of one moment in the order that they have
abbrev pub sorted_by : {X : Type 0} → (X → ℤ) → List X → List X
sorted_by moment [] = []
sorted_by moment (x ∷ xs) = put_by moment x (sorted_by moment xs)

-- all that wait by due moment, those of one moment in the order of asking
abbrev pub by_due : List Retry → List Retry
by_due list = sorted_by Retry.due list

-- those that are brought back at a moment: of all by due moment those that are due, at most so many
abbrev pub due_now : ℤ → ℕ → List Retry → List Retry
due_now moment most list = take most (filter (is_due moment) (by_due list))

-- ---- who is removed

-- all but the subscription's event of this id
abbrev pub without : ℕ → ℕ → List Retry → List Retry
without sub ev_id list = filter (λ w. not (is_event sub ev_id w)) list

-- those that stay when some are removed
abbrev pub left_by : List Retry → List Retry → List Retry
left_by taken list = filter (λ w. not (is_asked w.sub w.event.ev_id taken)) list

-- those that stay when a subscription is dropped
abbrev pub without_sub : ℕ → List Retry → List Retry
without_sub sub list = filter (λ w. not (is_of sub w)) list
