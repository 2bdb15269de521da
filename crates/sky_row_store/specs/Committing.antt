-- Which transaction a session's `commit` makes permanent.
use Rattle.std.specs.Prelude.{ℕ, Option, None, Ok, Err}
use Rattle.sky_keys.specs.Waits.{is_waiting}
use Rattle.sky_model.specs.declared.stmt.Where.TheVariants.{WhenOpen}
use Rattle.sky_model.specs.Allowed.{allowed}
use Rattle.sky_model.specs.Outcome.{Checked, ◌>>◌}
use Rattle.sky_model.specs.State.{RowPart}
use Rattle.sky_model.specs.StepRotation.{committed_by}

-- that of its block, if that has an id and isn't aborted; or why the `commit` is refused
abbrev pub commits_of : RowPart → ℕ → Checked (Option ℕ)
commits_of d who = allowed (is_waiting who d.waiting) (d.session who).is_open (d.session who).block WhenOpen >> Ok (committed_by (d.session who).block (d.session who).txid)

-- a refused one makes none permanent
abbrev pub committed_in : Checked (Option ℕ) → Option ℕ
committed_in (Ok txid) = txid
committed_in (Err refusal) = None
