-- How a session's statement is made at a place.
use Rattle.std.specs.Prelude.{ℕ, Bool, true, false, ◌∷◌, Ok, Err, if◌then◌else◌}
use Rattle.sky_model.specs.declared.stmt.Where.{Where}
use Rattle.sky_model.specs.declared.stmt.Where.TheVariants.{WhenReading}
use Rattle.sky_model.specs.History.{Mark, sight_taken}
use Rattle.sky_model.specs.Sessions.{Sight, at_first, Session}
use Rattle.sky_model.specs.Outcome.{Outcome, Checked, or_refused}
use Rattle.sky_model.specs.Allowed.{allowed}

-- how a statement reads a place: the session there, whether it waits there, what the statement does there if it is allowed, and the place after a
-- mark
pub record Making (P : Type 0) : Type 0 where
  pub session : P → Session
  pub waits : P → Bool
  pub outcome : P → Checked Outcome
  pub behind : P → Mark → P

-- whether a statement is the one whose place is its block's sight
abbrev pub takes_sight : {P : Type 0} → Where → Sight P → Bool
takes_sight WhenReading at_first = true
takes_sight _ _ = false

-- what a statement does that is allowed, or its refusal
abbrev pub runs : {P : Type 0} → Making P → ℕ → P → Outcome
runs m who p = or_refused who (m.session p) (m.outcome p)

-- with the sight taken before
abbrev pub looking : ℕ → Outcome → Outcome
looking who outcome = record outcome { marks = sight_taken who ∷ outcome.marks }

abbrev pub runs_if : {P : Type 0} → Making P → Where → ℕ → P → Checked (Unit {0}) → Outcome
runs_if m place who p (Err refusal) = or_refused who (m.session p) (Err refusal)
runs_if m place who p (Ok _) =
    if takes_sight place (m.session p).sight then looking who (runs m who (m.behind p (sight_taken who)))
    else runs m who p

-- a statement of a session: it is refused if it isn't allowed there, and otherwise a repeatable read block takes its sight before the first one that
-- reads
abbrev pub made_by : {P : Type 0} → Making P → Where → ℕ → P → Outcome
made_by m place who p = runs_if m place who p (allowed (m.waits p) (m.session p).is_open (m.session p).block place)
