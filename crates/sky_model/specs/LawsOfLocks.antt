-- The laws on locks and waits, at each place of each history that calls make.
use Rattle.std.specs.Prelude.{◌≡◌, ◌≢◌, ◌↔◌, ℕ, true, false, List, [], ◌∷◌, Some, None, Err}
use Rattle.sky_val.specs.declared.val.Val.{Val}
use Rattle.sky_keys.specs.Waits.{waits_for, LeadsBack}
use Rattle.sky_model.specs.declared.stmt.Attempt.{Attempt}
use Rattle.sky_model.specs.declared.reply.Refusal.TheVariants.{Deadlock}
use Rattle.sky_model.specs.History.{History}
use Rattle.sky_model.specs.Transactions.{has_ended}
use Rattle.sky_model.specs.Sessions.{own_txid}
use Rattle.sky_model.specs.Rows.{writes, wrote_in, has_written}
use Rattle.sky_model.specs.Locks.{holder, waiting}
use Rattle.sky_model.specs.State.{part_of}
use Rattle.sky_model.specs.StepLocks.{blocked}
use Rattle.sky_model.specs.Settling.{ready}
use Rattle.sky_model.specs.Promises.{after_all}
use Rattle.sky_model.specs.DatabaseCalls.{DatabaseCall, database_part}
use Rattle.sky_model.specs.HistoryPlaces.{IsPlace}

-- a session has a running transaction, which has written a key
pub record HasWritten (h : History) (table : ℕ) (key : List Val) (who : ℕ) : Type 0 where
  pub txid : ℕ
  pub runs : own_txid who h ≡ Some txid
  pub wrote : has_written key (writes table txid h) ≡ true

-- a session holds a key if and only if its running transaction has written it
abbrev pub HoldersHaveWritten : Type 0
HoldersHaveWritten = (p : History) → IsPlace p → (table : ℕ) (key : List Val) (who : ℕ) → (holder table key p ≡ Some who) ↔ HasWritten p table key who

-- a transaction counts as one that has written in a table if and only if it hasn't ended, and has written a row there
abbrev pub WritersHaveWritten : Type 0
WritersHaveWritten = (p : History) → IsPlace p → (table t : ℕ) → (wrote_in table t p ≡ true) ↔ ((has_ended p t ≡ false) × (writes table t p ≢ []))

-- a wait is refused if and only if it would close a cycle: from the holder on each session waits for the next, and the last one for the refused
-- session; the refusal lists them, the refused one first
abbrev pub DeadlocksAreRings : Type 0
DeadlocksAreRings = (p : History) → IsPlace p → (who table : ℕ) (key : List Val) (attempt : Attempt) (other : ℕ) (way : List ℕ)
    → (blocked (part_of p) who table key attempt other ≡ Err (Deadlock (who ∷ way))) ↔ LeadsBack (waits_for (λ table key. holder table key p) (waiting p)) who other way

-- after calls no session waits for a key that nobody holds
abbrev pub NothingIsReady : Type 0
NothingIsReady = (calls : List DatabaseCall) → ready (part_of (after_all database_part calls)) ≡ None
