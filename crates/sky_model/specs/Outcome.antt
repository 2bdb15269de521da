-- What a statement does: its answer and its marks, or a refusal.
use Rattle.std.specs.Prelude.{ℕ, List, [], ◌∷◌, ◌++◌, if◌then◌else◌, Bool, true, false, Option, Some, None, Result, Ok, Err}
use Rattle.sky_model.specs.declared.reply.Reply.{Reply}
use Rattle.sky_model.specs.declared.reply.Reply.TheVariants.{Refused}
use Rattle.sky_model.specs.declared.reply.Refusal.{Refusal}
use Rattle.sky_model.specs.declared.reply.Refusal.TheVariants.{AlreadyOpen, Busy, ClockSpent}
use Rattle.sky_model.specs.History.{Mark, of_session, ended, block_failed}
use Rattle.sky_model.specs.Sessions.{Block, inside, Session}

-- an answer, and what happened, in order
pub record Outcome : Type 0 where
  pub reply : Reply
  pub marks : List Mark

-- a value, or the first refusal that holds
abbrev pub Checked : Type 0 → Type 0
Checked A = Result A Refusal

-- what is answered, or the refusal
abbrev pub reply_of : Checked Outcome → Reply
reply_of (Ok outcome) = outcome.reply
reply_of (Err refusal) = Refused refusal

-- what happened, if nothing is refused
abbrev pub marks_of : Checked Outcome → List Mark
marks_of (Ok outcome) = outcome.marks
marks_of (Err refusal) = []

infixl 20 ◌>>=◌
abbrev pub ◌>>=◌ : {A B : Type 0} → Checked A → (A → Checked B) → Checked B
Err refusal >>= next = Err refusal
Ok a >>= next = next a

infixl 20 ◌>>◌
abbrev pub ◌>>◌ : {A B : Type 0} → Checked A → Checked B → Checked B
Err refusal >> next = Err refusal
Ok a >> next = next

-- nothing is refused, or this if the test holds
abbrev pub refused_if : Bool → Refusal → Checked (Unit {0})
refused_if true refusal = Err refusal
refused_if false refusal = Ok tt

-- nothing is refused, or this
abbrev pub refused_by : Option Refusal → Checked (Unit {0})
refused_by None = Ok tt
refused_by (Some refusal) = Err refusal

-- the value, if there is one, or this refusal
abbrev pub found_or : {A : Type 0} → Option A → Refusal → Checked A
found_or None refusal = Err refusal
found_or (Some a) refusal = Ok a

-- an answer that leaves all as it was
abbrev pub answers : Reply → Checked Outcome
answers reply = Ok (record { reply = reply; marks = [] })

-- an answer with what happened
abbrev pub does_marks : Reply → List Mark → Checked Outcome
does_marks reply marks = Ok (record { reply = reply; marks = marks })

-- what a statement does after marks that come before its own, unless it is refused
abbrev pub after_marks_of : List Mark → Checked Outcome → Checked Outcome
after_marks_of marks (Err refusal) = Err refusal
after_marks_of marks (Ok outcome) = Ok (record outcome { marks = marks ++ outcome.marks })

-- the end of a session's transaction, if it has an id
abbrev pub end_of : Bool → ℕ → Option ℕ → List Mark
end_of committed who None = []
end_of committed who (Some t) = ended (of_session who) t committed ∷ []

-- whether a refusal aborts the session's transaction: all but these do
abbrev pub aborts : Refusal → Bool
aborts AlreadyOpen = false
aborts Busy = false
aborts ClockSpent = false
aborts _ = true

-- what a refusal leaves in a session: a block that it was in is rolled back, and stays aborted
abbrev pub abort : ℕ → Block → Option ℕ → Refusal → List Mark
abort who inside txid refusal = if aborts refusal then end_of false who txid ++ block_failed who ∷ [] else []
abort who _ txid refusal = []

-- a refusal of a session's statement is an answer too
abbrev pub or_refused : ℕ → Session → Checked Outcome → Outcome
or_refused who s (Ok outcome) = outcome
or_refused who s (Err refusal) = record { reply = Refused refusal; marks = abort who s.block s.txid refusal }
