-- Settings of a queue, and the result of setting one.
use Rattle.std.specs.Prelude.{ℕ, ℤ, pos, ◌≤ℤ◌, List, Option, Some, None, Result, Err, ok_or}
use Rattle.sky_val.specs.Intervals.{longest_interval}
use Rattle.sky_model.specs.Config.{Config, Param, configured_by}
use Rattle.pgq_tick.specs.declared.config.ConfigFault.{ConfigFault}
use Rattle.pgq_tick.specs.declared.config.ConfigFault.TheVariants.{NoParam, BadValue}

-- an interval that can be set
abbrev pub IsInterval : ℤ → Type 0
IsInterval time = (pos 0 ≤ℤ time) × (time ≤ℤ pos longest_interval)

-- the settings with a parameter set to what a text writes: if there is such a parameter, and it can have that value
abbrev pub set_to : Config → Option Param → List ℕ → Result Config ConfigFault
set_to c None value = Err NoParam
set_to c (Some param) value = ok_or (configured_by c param value) BadValue
