-- What facts do to the histories of databases.
use Rattle.std.proofs.Common.{◌≡◌, ℕ, ℤ, List, [], ◌∷◌, ◌++◌, Bool, true, false, map, Option, Some, None, refl, ◌∙◌, ap, if◌then◌else◌, ◌==◌, arith}
use Rattle.sky_model.specs.History.{Mark, Fact, within, daemon_off, Past}
use Rattle.sky_model.specs.World.{home, history_in, on_top}
use Rattle.sky_model.specs.Reader.{part_by_history}
use Rattle.sky_model.specs.Settling.{behind_marks}
use Rattle.sky_model.specs.Calls.{left_if, on_unless}

pub on_top-append : (past : Past) (xs ys : List Fact) → on_top past (xs ++ ys) ≡ on_top (on_top past xs) ys
on_top-append past [] ys = refl
on_top-append past (x ∷ xs) ys = on_top-append (x ∷ past) xs ys

-- marks within a database are marks in its history
pub history-marks : (past : Past) (d : ℕ) (marks : List Mark) (n : ℕ)
    → history_in (on_top past (map (within d) marks)) n ≡ (if d == n then behind_marks part_by_history (history_in past n) marks else history_in past n)
history-marks past d [] n = grind arith
history-marks past d (mark ∷ marks) n = grind (arith, history-marks (within d mark ∷ past) d marks n)

-- facts that change no history
abbrev pub AreOutside : List Fact → Type 0
AreOutside facts = (past : Past) (n : ℕ) → history_in (on_top past facts) n ≡ history_in past n

-- a history is then as they found it
pub history-outside : (past : Past) (facts outside : List Fact) (n : ℕ) → AreOutside outside → history_in (on_top past (facts ++ outside)) n ≡ history_in (on_top past facts) n
history-outside past facts outside n none = ap (λ p. history_in p n) (on_top-append past facts outside) ∙ none (on_top past facts) n

-- a session leaving its database is such
pub left-outside : (who : ℕ) (leaving : Bool) → AreOutside (left_if who leaving)
left-outside who true past n = refl
left-outside who false past n = refl

-- facts that change neither a history nor the home of a session
pub record AreQuiet (facts : List Fact) : Type 0 where
  pub histories : AreOutside facts
  pub homes : (past : Past) (who : ℕ) → home (on_top past facts) who ≡ home past who

-- a daemon being on or off is such
pub on-quiet : (d : ℕ) (start : Option ℤ) → AreQuiet (on_unless d start)
on-quiet d None = record { histories = λ past n. refl; homes = λ past who. refl }
on-quiet d (Some moment) = record { histories = λ past n. refl; homes = λ past who. refl }

pub off-quiet : (d : ℕ) → AreQuiet (daemon_off d ∷ [])
off-quiet d = record { histories = λ past n. refl; homes = λ past who. refl }
