-- Up to which moment the daemon of a database changes nothing there.
use Rattle.std.specs.Prelude.{◌≡◌, ℤ, ◌≤ℤ◌, Bool, true, not, ◌&&◌, ◌==◌, is_some, List, [], ◌∷◌, length}
use Rattle.pgq_retry.specs.Retries.{due_now}
use Rattle.sky_model.specs.declared.daemon.DaemonPart.{DaemonPart}
use Rattle.sky_model.specs.Queues.{NamedQueue}
use Rattle.sky_model.specs.State.{Queue, Database}
use Rattle.sky_model.specs.StepQueue.{is_due}
use Rattle.sky_model.specs.StepRetry.{most_back}
use Rattle.sky_model.specs.StepRotation.{held_back, lack_second_step}
use Rattle.sky_model.specs.Reader.{database_by_itself}
use Rattle.sky_model.specs.Daemon.{daemon_does}

-- nothing is to be done in a queue at a moment: no tick is due, and something holds a switch back
abbrev pub queue_idles : ℤ → Queue → Bool
queue_idles moment q = not (is_due moment q) && is_some (held_back moment q)

-- nor in any of these
abbrev pub all_idle : ℤ → Database → List NamedQueue → Bool
all_idle moment d [] = true
all_idle moment d (q ∷ queues) = queue_idles moment (d.queue q.number) && all_idle moment d queues

-- a database is idle at a moment: nothing is to be done in a queue, none lacks the second step of a switch, and no retry is due
abbrev pub idles_at : ℤ → Database → Bool
idles_at moment d = all_idle moment d d.queues && ((length (lack_second_step d) == 0) && (length (due_now moment most_back d.retries) == 0))

-- no part of the daemon's work changes anything at a moment, or at one before it
abbrev pub IsIdleUntil : ℤ → Database → Type 0
IsIdleUntil moment d = (part : DaemonPart) (earlier : ℤ) → earlier ≤ℤ moment → (daemon_does database_by_itself d part earlier).marks ≡ []
