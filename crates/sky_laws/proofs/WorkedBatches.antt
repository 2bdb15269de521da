-- A consumer's finished batches in a worked run, by computation: the laws on batches aren't vacuous.
use Rattle.std.proofs.Common.{◌≡◌, ℕ, List, [], ◌∷◌, true, false, Some, None, refl, codes, map}
use Rattle.sky_model.specs.declared.stmt.Stmt.{Stmt}
use Rattle.sky_model.specs.declared.stmt.RowStmt.TheVariants.{OpenDb}
use Rattle.sky_model.specs.declared.stmt.QueueStmt.TheVariants.{CreateQueue, Ticker, ForceTick, RegisterConsumer, NextBatch, FinishBatch}
use Rattle.sky_model.specs.Grammar.{inserted_event, on_rows, on_queues}
use Rattle.sky_model.specs.History.{Batch, History}
use Rattle.sky_model.specs.Queues.{events}
use Rattle.sky_model.specs.Consumers.{subscription_id, position}
use Rattle.sky_model.specs.World.{history_in}
use Rattle.sky_model.specs.Calls.{past_of}
use Rattle.sky_model.specs.LawsOfBatches.{first_tick, finished, stands_between, stands_in}

-- an event before the consumer registers and one after, each before a tick, and two batches, the last statement first
abbrev run : List Stmt
run = on_queues (FinishBatch 2) ∷ on_queues (NextBatch (codes "q") (codes "w")) ∷ on_queues (FinishBatch 1) ∷ on_queues (NextBatch (codes "q") (codes "w"))
    ∷ on_queues (Ticker (codes "q")) ∷ on_queues (ForceTick (codes "q")) ∷ on_queues (Ticker (codes "q")) ∷ on_queues (ForceTick (codes "q"))
    ∷ inserted_event (codes "q") (Some (codes "later")) None None ∷ on_queues (RegisterConsumer (codes "q") (codes "w"))
    ∷ on_queues (Ticker (codes "q")) ∷ on_queues (ForceTick (codes "q")) ∷ inserted_event (codes "q") (Some (codes "before")) None None ∷ on_queues (CreateQueue (codes "q")) ∷ on_rows (OpenDb (codes "d")) ∷ []

abbrev then : History
then = history_in (past_of (map (λ stmt. record { who = codes "a"; stmt = stmt }) run)) 0

abbrev ends : List Batch → List (ℕ × ℕ)
ends batches = map (λ (b : Batch). (b.prev, b.cur)) batches

two_batches : ends (finished 0 (codes "w") then) ≡ (2, 3) ∷ (3, 4) ∷ []
two_batches = refl

from_here : first_tick 0 (codes "w") then ≡ 2
from_here = refl

to_here : position 0 (codes "w") then ≡ 4
to_here = refl

registered_once : subscription_id 0 (codes "w") then ≡ Some 1
registered_once = refl

-- of the two events the second is in the first batch, and there alone
where_each_stands : map (λ e. map (λ b. stands_in then b e) (finished 0 (codes "w") then)) (events 0 then)
    ≡ (false ∷ false ∷ []) ∷ (true ∷ false ∷ []) ∷ []
where_each_stands = refl

between_the_ends : map (stands_between then 0 1 2 4) (events 0 then) ≡ false ∷ true ∷ []
between_the_ends = refl
