-- Which session holds each key, and which sessions wait for one.
use Rattle.std.specs.Prelude.{ℕ, List, [], ◌∷◌, ◌++◌, Option, Some, None, ◌==◌, if◌then◌else◌}
use Rattle.sky_val.specs.declared.val.Val.{Val}
use Rattle.sky_keys.specs.Waits.{is_same_key, other_than, Waiting, without}
use Rattle.sky_model.specs.declared.stmt.Attempt.{Attempt}
use Rattle.sky_model.specs.declared.stmt.Attempt.TheVariants.{Deletion}
use Rattle.sky_model.specs.History.{of_session, ended, tabled, wrote, waits, waited, History}

-- the session that holds a key: its transaction has written the key, and is running
abbrev pub holder : ℕ → List Val → History → Option ℕ
holder table key [] = None
holder table key (tabled (wrote (of_session who) t n k old new) ∷ h) = if is_same_key n k table key then Some who else holder table key h
holder table key (ended (of_session who) t committed ∷ h) = other_than who (holder table key h)
holder table key (_ ∷ h) = holder table key h

-- the wait queue: the sessions that wait, each for a key, in order of arrival
abbrev pub waiting : History → List Waiting
waiting [] = []
waiting (tabled (waits who table key attempt) ∷ h) = waiting h ++ record { who = who; table = table; key = key } ∷ []
waiting (tabled (waited who) ∷ h) = without who (waiting h)
waiting (_ ∷ h) = waiting h

-- what a session that waits attempts; for one that doesn't wait it means nothing
abbrev pub attempt : ℕ → History → Attempt
attempt who [] = Deletion
attempt who (tabled (waits w table key attempted) ∷ h) = if w == who then attempted else attempt who h
attempt who (tabled (waited w) ∷ h) = if w == who then Deletion else attempt who h
attempt who (_ ∷ h) = attempt who h
