-- What calls that aren't statements do in a session's name.
use Rattle.std.specs.Prelude.{◌≡◌, ℕ, Bool, true, false, List, [], ◌∷◌, ◌++◌, Option, Some, None, Ok, Err, if◌then◌else◌}
use Rattle.sky_keys.specs.Waits.{is_waiting}
use Rattle.sky_model.specs.declared.reply.Reply.TheVariants.{Number, Refused}
use Rattle.sky_model.specs.declared.reply.Refusal.{Refusal}
use Rattle.sky_model.specs.declared.stmt.Where.{Where}
use Rattle.sky_model.specs.declared.stmt.Where.TheVariants.{WhenReading, WhenOutside}
use Rattle.sky_model.specs.History.{Mark, of_session, ended, sight_taken, block_failed}
use Rattle.sky_model.specs.Sessions.{Block, outside, inside}
use Rattle.sky_model.specs.State.{RowPart, after_part_marks}
use Rattle.sky_model.specs.Outcome.{Checked, end_of}
use Rattle.sky_model.specs.OwnTransaction.{txid_for, begin_of}
use Rattle.sky_model.specs.Allowed.{allowed}
use Rattle.sky_model.specs.Made.{takes_sight}
use Rattle.sky_model.specs.Settling.{Turn}

-- a session takes its sight, or doesn't
abbrev pub look_of : ℕ → Bool → List Mark
look_of who true = sight_taken who ∷ []
look_of who false = []

-- the marks of taking a session's sight, if a statement takes it
abbrev pub sight_marks : RowPart → ℕ → Where → List Mark
sight_marks d who place = look_of who (takes_sight place (d.session who).sight)

-- a session's transaction commits, if it is in no block
abbrev pub single_end : ℕ → Option ℕ → Block → List Mark
single_end who (Some t) outside = ended (of_session who) t true ∷ []
single_end who _ _ = []

-- the block that a session is in is rolled back, and stays aborted
abbrev pub failure : ℕ → Option ℕ → Block → List Mark
failure who txid inside = end_of false who txid ++ block_failed who ∷ []
failure who txid _ = []

-- a statement is allowed, and has taken its session's sight if it is to, or it is refused
abbrev pub Enters : RowPart → RowPart → ℕ → Where → Option Refusal → Type 0
Enters old new who place (Some refusal) = (allowed (is_waiting who old.waiting) (old.session who).is_open (old.session who).block place ≡ Err refusal) × (new ≡ old)
Enters old new who place None = (allowed (is_waiting who old.waiting) (old.session who).is_open (old.session who).block place ≡ Ok tt) × (new ≡ after_part_marks old (sight_marks old who place))

-- where what is done in a session's name is allowed: outside a block, or wherever a statement that reads is
abbrev pub entry_place : Bool → Where
entry_place alone = if alone then WhenOutside else WhenReading

-- a session enters: it is refused, or its sight is taken
abbrev pub enters : ℕ → List Mark → Checked (Unit {0}) → Turn
enters who marks (Ok _) = record { answers = []; marks = marks }
enters who marks (Err refusal) = record { answers = (who, Refused refusal) ∷ []; marks = [] }

-- the same of a session there
abbrev pub entry : RowPart → ℕ → Where → Turn
entry d who place = enters who (sight_marks d who place) (allowed (is_waiting who d.waiting) (d.session who).is_open (d.session who).block place)

-- what was done in a session's name fails: its block is rolled back
abbrev pub failing : RowPart → ℕ → Turn
failing d who = record { answers = []; marks = failure who (d.session who).txid (d.session who).block }

-- its transaction gets its id, unless it has one, or there is none left
abbrev pub takes_id : ℕ → Option ℕ → Checked ℕ → Turn
takes_id who own (Ok t) = record { answers = (who, Number t) ∷ []; marks = begin_of who t own }
takes_id who own (Err refusal) = record { answers = (who, Refused refusal) ∷ []; marks = [] }

-- the same of a session there
abbrev pub taking : RowPart → ℕ → Turn
taking d who = takes_id who (d.session who).txid (txid_for d who)

-- its transaction ends with its only statement
abbrev pub ending : RowPart → ℕ → Turn
ending d who = record { answers = []; marks = single_end who (d.session who).txid (d.session who).block }
