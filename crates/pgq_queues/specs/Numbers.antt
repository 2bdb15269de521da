-- The numbers of the queues that exist.
use Rattle.std.specs.Prelude.{◌≡◌, ℕ, suc, ◌≤◌, ◌==◌, false, List, [], ◌∷◌, length, slice_index_or}
use Rattle.std.specs.List.{All}
use Rattle.sky_names.specs.Named.{NamedView}
use Rattle.pgq_queue.specs.Views.{QueueView}
use Rattle.pgq_queue.specs.Seen.{no_queue}
use Rattle.pgq_queues.specs.Seen.{Stands}

-- numbers rise, from one on
abbrev pub Rise : ℕ → List ℕ → Type 0
Rise low [] = Unit {0}
Rise low (n ∷ numbers) = (low ≤ n) × Rise (suc n) numbers

-- each name has the number of a queue that exists, in the order of making; a number that no name has is of no queue
pub record AreNumbers (names : NamedView ℕ) (queues : List QueueView) : Type 0 where
  pub each : length names.values ≡ length names.names
  pub rise : Rise 0 names.values
  pub stand : All (Stands queues) names.values
  pub others : (n : ℕ) → All (λ m. (m == n) ≡ false) names.values → slice_index_or queues n no_queue ≡ no_queue
