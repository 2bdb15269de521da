-- What the statements on sessions and transactions do. Each reads the part `d` of its database as it is.
use Rattle.std.specs.Prelude.{ℕ, List, [], ◌∷◌, ◌++◌, Bool, true, false, Option, Err}
use Rattle.sky_txid.specs.Snapshot.{snapshot_of, sees}
use Rattle.sky_txid.specs.SnapshotText.{parse_snapshot}
use Rattle.sky_model.specs.declared.reply.Reply as reply
use Rattle.sky_model.specs.declared.reply.Reply.TheVariants.{Number, AlreadyInTransaction, NoTransaction, NotWaiting, Refused, Snapshot}
use Rattle.sky_model.specs.declared.reply.Refusal.TheVariants.{AlreadyOpen, BadSnapshot, Canceled}
use Rattle.sky_model.specs.History.{Mark, block_begun, repeats, block_ended, connected, disconnected, tabled, waited}
use Rattle.sky_model.specs.Sessions.{Block, outside, inside, failed, place_of_sight}
use Rattle.sky_model.specs.State.{RowPart}
use Rattle.sky_model.specs.Outcome.{Outcome, Checked, ◌>>=◌, found_or, answers, does_marks, end_of, abort}
use Rattle.sky_model.specs.OwnTransaction.{txid_for, in_own}

-- `begin`
abbrev pub begin : ℕ → Block → Checked Outcome
begin who outside = does_marks reply.TheVariants.Begin (block_begun who ∷ [])
begin who _ = answers AlreadyInTransaction

-- `begin repeatable read`
abbrev pub begin_repeatable_read : ℕ → Block → Checked Outcome
begin_repeatable_read who outside = does_marks reply.TheVariants.Begin (block_begun who ∷ repeats who ∷ [])
begin_repeatable_read who _ = answers AlreadyInTransaction

-- the end of a block, with its transaction
abbrev pub leaves : Bool → ℕ → Option ℕ → List Mark
leaves committed who txid = end_of committed who txid ++ block_ended who ∷ []

-- `commit`: an aborted block is rolled back
abbrev pub commit : ℕ → Option ℕ → Block → Checked Outcome
commit who txid outside = answers NoTransaction
commit who txid inside = does_marks reply.TheVariants.Commit (leaves true who txid)
commit who txid failed = does_marks reply.TheVariants.Rollback (leaves false who txid)

-- `rollback`
abbrev pub rollback : ℕ → Option ℕ → Block → Checked Outcome
rollback who txid outside = answers NoTransaction
rollback who txid _ = does_marks reply.TheVariants.Rollback (leaves false who txid)

-- `open`: the session has the database open from then on
abbrev pub open_db : ℕ → Bool → Checked Outcome
open_db who true = Err AlreadyOpen
open_db who false = does_marks reply.TheVariants.Done (connected who ∷ [])

-- `close`: a block is rolled back
abbrev pub close : ℕ → Option ℕ → Block → Checked Outcome
close who txid outside = does_marks reply.TheVariants.Done (disconnected who ∷ [])
close who txid _ = does_marks reply.TheVariants.Done (leaves false who txid ++ disconnected who ∷ [])

-- `cancel`: a session no longer waits, and its statement is refused
abbrev pub cancel : ℕ → Option ℕ → Block → Bool → Checked Outcome
cancel who txid block false = answers NotWaiting
cancel who txid block true = does_marks (Refused Canceled) (tabled (waited who) ∷ abort who block txid Canceled)

-- `txid_current`: the transaction gets its id, if it has none
abbrev pub txid_current : RowPart → ℕ → Checked Outcome
txid_current d who = do
  t ← txid_for d who
  does_marks (Number t) (in_own who t (d.session who) [])

-- `txid_current_snapshot`: the snapshot of the statement's sight
abbrev pub txid_current_snapshot : RowPart → ℕ → Checked Outcome
txid_current_snapshot d who = answers (Snapshot (place_of_sight (snapshot_of d.next d.running_ids) (d.session who).sight))

-- `txid_visible_in_snapshot N RAW`
abbrev pub txid_visible_in_snapshot : ℕ → List ℕ → Checked Outcome
txid_visible_in_snapshot t text = do
  s ← found_or (parse_snapshot text) BadSnapshot
  answers (reply.TheVariants.Bool (sees s t))
