-- Worked transactions of workers, beside one of a session, in the calls of a row part, by computation.
use Rattle.std.proofs.Common.{◌≡◌, ℕ, ◌^◌, true, false, List, [], ◌∷◌, map, refl, codes}
use Rattle.sky_txid.specs.Snapshot.{SnapshotView, sees}
use Rattle.sky_model.specs.declared.stmt.RowStmt.TheVariants.{OpenDb, Begin, TxidCurrent}
use Rattle.sky_model.specs.declared.reply.Reply.{Reply}
use Rattle.sky_model.specs.declared.reply.Reply.TheVariants.{Number}
use Rattle.sky_model.specs.History.{Mark, History}
use Rattle.sky_model.specs.Transactions.{workers, snapshot, has_rolled_back}
use Rattle.sky_model.specs.State.{part_of}
use Rattle.sky_model.specs.Rooms.{any_room}
use Rattle.sky_model.specs.Promises.{after_all}
use Rattle.sky_model.specs.Reader.{part_by_history}
use Rattle.sky_model.specs.WorkerMarks.{beginning}
use Rattle.sky_model.specs.RowCalls.{RowCall, row_stepped, worker_begun, worker_ended, row_does, row_part}

-- the history that calls make, the last one first
abbrev after : List RowCall → History
after calls = after_all row_part calls

-- a worker's transaction begins, and then a session's block
abbrev one_runs : List RowCall
one_runs = row_stepped any_room 0 Begin ∷ worker_begun ∷ row_stepped any_room 0 (OpenDb (codes "d")) ∷ []

-- the session's transaction gets its id, and then another worker's does
abbrev all_run : List RowCall
all_run = worker_begun ∷ row_stepped any_room 0 TxidCurrent ∷ one_runs

-- what is answered after calls
abbrev answered : List RowCall → RowCall → List (ℕ × Reply)
answered calls call = (row_does part_by_history (after calls) call).answers

abbrev marked_by : List RowCall → RowCall → List Mark
marked_by calls call = (row_does part_by_history (after calls) call).marks

-- the session's id comes after the first worker's, and before the second one's
of_session : answered one_runs (row_stepped any_room 0 TxidCurrent) ≡ (0, Number 4) ∷ []
of_session = refl

-- a worker's id is listed while it runs, and is seen afterwards
abbrev snapshots : List (List RowCall × SnapshotView × List ℕ)
snapshots =
    (one_runs, record { xmin = 3; xmax = 4; xip = 3 ∷ [] }, 3 ∷ [])
    ∷ (all_run, record { xmin = 3; xmax = 6; xip = 3 ∷ 4 ∷ 5 ∷ [] }, 3 ∷ 5 ∷ [])
    ∷ (worker_ended 3 true ∷ all_run, record { xmin = 4; xmax = 6; xip = 4 ∷ 5 ∷ [] }, 5 ∷ [])
    ∷ (worker_ended 5 false ∷ all_run, record { xmin = 3; xmax = 6; xip = 3 ∷ 4 ∷ [] }, 3 ∷ [])
    ∷ []

taken : map (λ w. snapshot (after w.0)) snapshots ≡ map (λ w. w.1) snapshots
taken = refl

listed : map (λ w. workers (after w.0)) snapshots ≡ map (λ w. w.2) snapshots
listed = refl

seen_then : map (λ w. sees (snapshot (after w.0)) 3) snapshots ≡ false ∷ false ∷ true ∷ false ∷ []
seen_then = refl

undone : map (λ w. has_rolled_back (after w.0) 5) snapshots ≡ false ∷ false ∷ false ∷ true ∷ []
undone = refl

-- a session's is no worker's, and one that has ended no longer runs
others : (marked_by all_run (worker_ended 4 true) ≡ []) × (marked_by (worker_ended 3 true ∷ all_run) (worker_ended 3 true) ≡ [])
others = (refl, refl)

-- if no id is left, none begins
spent : (beginning (record (part_of []) { next = 2 ^ 62 })).marks ≡ []
spent = refl
