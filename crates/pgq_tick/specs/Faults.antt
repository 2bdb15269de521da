-- What a fault of a ticker is for a statement.
use Rattle.sky_model.specs.declared.stop.Stop.{Stop}
use Rattle.sky_model.specs.declared.stop.Stop.TheVariants as stop
use Rattle.sky_model.specs.declared.reply.Refusal.TheVariants as refusal
use Rattle.pgq_tick.specs.declared.ticks.TickFault.{TickFault}
use Rattle.pgq_tick.specs.declared.ticks.TickFault.TheVariants.{IdsSpent, NoMemory}

abbrev pub stop_of : TickFault → Stop
stop_of IdsSpent = stop.Refused refusal.IdsSpent
stop_of NoMemory = stop.NoMemory
