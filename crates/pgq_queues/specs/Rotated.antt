-- How queues are rotated, as the code keeps them.
use Rattle.std.specs.Prelude.{ℕ, List, [], ◌∷◌, slice_index_or, slice_set}
use Rattle.pgq_queue.specs.Views.{QueueView}
use Rattle.pgq_queue.specs.Seen.{no_queue}

-- each of the queues of some numbers is changed, one after another
abbrev pub each_changed : (QueueView → QueueView) → List ℕ → List QueueView → List QueueView
each_changed change [] queues = queues
each_changed change (n ∷ ns) queues = each_changed change ns (slice_set queues n (change (slice_index_or queues n no_queue)))
