-- Worked calls of one database: a session that hasn't it open may only open it, and cancel.
use Rattle.std.proofs.Common.{◌≡◌, ℕ, pos, List, [], ◌∷◌, true, map, refl, codes}
use Rattle.sky_model.specs.declared.stmt.DbStmt.{DbStmt}
use Rattle.sky_model.specs.declared.stmt.DbStmt.TheVariants.{Row, Queue}
use Rattle.sky_model.specs.declared.stmt.QueueStmt.TheVariants.{CreateQueue}
use Rattle.sky_model.specs.declared.stmt.RowStmt.TheVariants.{OpenDb, Close, Cancel, Begin, TxidCurrent}
use Rattle.sky_model.specs.declared.reply.Reply.{Reply}
use Rattle.sky_model.specs.declared.reply.Reply.TheVariants.{Done, NotWaiting, Number, Refused}
use Rattle.sky_model.specs.declared.reply.Refusal.TheVariants.{AlreadyOpen, InTransaction, NotOpen}
use Rattle.sky_model.specs.Promises.{after_all}
use Rattle.sky_model.specs.Reader.{database_by_history}
use Rattle.sky_model.specs.DatabaseCalls.{DatabaseCall, stepped, entered, database_does, database_part}

-- the first session makes a statement
abbrev a : DbStmt → DatabaseCall
a stmt = stepped 0 stmt (pos 0)

abbrev open_d : DbStmt
open_d = Row (OpenDb (codes "d"))

-- the answers to a call after calls, the last one first
abbrev answered : List DatabaseCall → DatabaseCall → List (ℕ × Reply)
answered calls call = (database_does database_by_history (after_all database_part calls) call).answers

-- calls, the next one, and its answers
abbrev worked : List (List DatabaseCall × DatabaseCall × List (ℕ × Reply))
worked =
    ([], a (Row TxidCurrent), (0, Refused NotOpen) ∷ [])
    ∷ ([], a (Queue (CreateQueue (codes "q"))), (0, Refused NotOpen) ∷ [])
    ∷ ([], entered 0 true, (0, Refused NotOpen) ∷ [])
    -- nor because another one has it open
    ∷ (stepped 1 open_d (pos 0) ∷ [], a (Row Begin), (0, Refused NotOpen) ∷ [])
    ∷ ([], a (Row Cancel), (0, NotWaiting) ∷ [])
    ∷ ([], a open_d, (0, Done) ∷ [])
    ∷ (a open_d ∷ [], a open_d, (0, Refused AlreadyOpen) ∷ [])
    ∷ (a open_d ∷ [], entered 0 true, [])
    ∷ (a open_d ∷ [], a (Row TxidCurrent), (0, Number 3) ∷ [])
    -- that it is open already aborts no block
    ∷ (a open_d ∷ a (Row Begin) ∷ a open_d ∷ [], entered 0 true, (0, Refused InTransaction) ∷ [])
    -- `close` ends the block too
    ∷ (a (Row Close) ∷ a (Row Begin) ∷ a open_d ∷ [], a (Row Close), (0, Refused NotOpen) ∷ [])
    ∷ (a open_d ∷ a (Row Close) ∷ a (Row Begin) ∷ a open_d ∷ [], entered 0 true, [])
    ∷ []

worked_out : map (λ w. answered w.0 w.1) worked ≡ map (λ w. w.2) worked
worked_out = refl
