-- How a queue is set anew.
use Rattle.std.specs.Prelude.{◌≡◌, ℕ, List, Ok, Err}
use Rattle.sky_model.specs.declared.reply.Refusal.{Refusal}
use Rattle.sky_model.specs.declared.reply.Refusal.TheVariants.{NoParam, BadValue}
use Rattle.pgq_tick.specs.declared.config.ConfigFault.{ConfigFault}
use Rattle.pgq_tick.specs.declared.config.ConfigFault.TheVariants as fault
use Rattle.sky_model.specs.Config.{Config, param_of, configured_by}
use Rattle.sky_model.specs.History.{queued, configured}
use Rattle.sky_model.specs.State.{Database, after_mark}
use Rattle.sky_model.specs.Outcome.{Checked, ◌>>=◌, found_or}

-- what a fault is for a statement
abbrev pub refusal_for : List ℕ → ConfigFault → Refusal
refusal_for param fault.NoParam = NoParam param
refusal_for param fault.BadValue = BadValue param

-- the settings with a parameter set to what a text writes, or why they can't be
abbrev pub configured_as : Config → (param value : List ℕ) → Checked Config
configured_as c param value = found_or (param_of param) (NoParam param) >>= (λ p. found_or (configured_by c p value) (BadValue param))

-- a queue has these settings from now on
abbrev pub Configures : (old new : Database) → ℕ → Checked Config → Type 0
Configures old new queue (Ok config) = new ≡ after_mark old (queued (configured queue config))
Configures old new queue (Err refusal) = ⊥
