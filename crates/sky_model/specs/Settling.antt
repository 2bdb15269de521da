-- What a statement unblocks: those that wait for a key that is free now are run, each at the place after the one before, until none is ready.
use Rattle.std.specs.Prelude.{ℕ, suc, zero, List, [], ◌∷◌, ◌++◌, Option, Some, None, length}
use Rattle.sky_keys.specs.Waits as waits
use Rattle.sky_keys.specs.Waits.{Waiting}
use Rattle.sky_model.specs.declared.reply.Reply.{Reply}
use Rattle.sky_model.specs.declared.stmt.Attempt.{Attempt}
use Rattle.sky_model.specs.History.{Mark, tabled, waited, History}
use Rattle.sky_model.specs.State.{RowPart}
use Rattle.sky_model.specs.Outcome.{Outcome, or_refused}
use Rattle.sky_model.specs.StepRows.{attempts}
use Rattle.sky_model.specs.Reader.{PartReader, part_by_history}

-- what is done in a database, one statement after another: the answers, each with its session, and the marks
pub record Turn : Type 0 where
  pub answers : List (ℕ × Reply)
  pub marks : List Mark

-- what one statement does
abbrev pub turn_of : ℕ → Outcome → Turn
turn_of who outcome = record { answers = (who, outcome.reply) ∷ []; marks = outcome.marks }

-- nothing
abbrev pub rests : Turn
rests = record { answers = []; marks = [] }

-- the place after marks, in order
abbrev pub behind_marks : {P : Type 0} → PartReader P → P → List Mark → P
behind_marks r p [] = p
behind_marks r p (mark ∷ marks) = behind_marks r (r.behind p mark) marks

-- marks on top of a history, in order
abbrev pub marked : History → List Mark → History
marked h marks = behind_marks part_by_history h marks

-- a turn after another
abbrev pub with_rest : Turn → Turn → Turn
with_rest turn rest = record { answers = turn.answers ++ rest.answers; marks = turn.marks ++ rest.marks }

-- a turn, and then what is done at the place after it
abbrev pub and_then : {P : Type 0} → PartReader P → P → Turn → (P → Turn) → Turn
and_then r p turn rest = with_rest turn (rest (behind_marks r p turn.marks))

-- the first statement that waits for a key that nobody holds
abbrev pub ready : RowPart → Option Waiting
ready d = waits.ready d.holder d.waiting

-- what a waiting statement does at a place at which it resumes
abbrev pub attempted : {P : Type 0} → PartReader P → Waiting → Attempt → P → Outcome
attempted r w attempt p = or_refused w.who ((r.part p).session w.who) (r.tells p (attempts (r.part p) ((r.rows p).key w.who w.table w.key) w.who w.table w.key attempt))

-- it no longer waits, and is run
abbrev pub resumed : {P : Type 0} → PartReader P → P → Waiting → Turn
resumed r p w =
    with_rest (record { answers = []; marks = tabled (waited w.who) ∷ [] })
    (turn_of w.who (attempted r w ((r.part p).attempt w.who) (r.behind p (tabled (waited w.who)))))

-- the one that is ready is run, and then the rest
abbrev pub goes_on : {P : Type 0} → PartReader P → P → (P → Turn) → Option Waiting → Turn
goes_on r p rest None = rests
goes_on r p rest (Some w) = and_then r p (resumed r p w) rest

-- those that are ready, one after another, at most so many
abbrev pub settles : {P : Type 0} → PartReader P → ℕ → P → Turn
settles r zero p = rests
settles r (suc n) p = goes_on r p (settles r n) (ready (r.part p))

-- all that are ready: at most as many as wait, since one that is run doesn't wait again
abbrev pub settling : {P : Type 0} → PartReader P → P → Turn
settling r p = settles r (length (r.part p).waiting) p

-- a turn, and then those that it unblocks
abbrev pub with_settling : {P : Type 0} → PartReader P → P → Turn → Turn
with_settling r p turn = and_then r p turn (settling r)
