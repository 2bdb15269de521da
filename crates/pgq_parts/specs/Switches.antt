-- The switches of event tables that come before a session's `commit`.
use Rattle.std.specs.Prelude.{ℕ, ℤ, List}
use Rattle.sky_model.specs.History.{Mark}
use Rattle.sky_model.specs.State.{Database}
use Rattle.sky_model.specs.StepRotation.{switches_of}
use Rattle.sky_row_store.specs.Committing.{commits_of, committed_in}

-- those of the transaction that it makes permanent
abbrev pub switches_before_commit : Database → ℤ → ℕ → List Mark
switches_before_commit d now who = switches_of d now (committed_in (commits_of d.part who))
