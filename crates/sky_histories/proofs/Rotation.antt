-- What rotation leaves: the kept ticks, the events of the tables.
pub use Rattle.sky_histories.proofs.KeptTicks.{newest-kept, kept-made, next-kept, made-kept, floor-newest}
pub use Rattle.sky_histories.proofs.Tripled.{batch_events-selected, running-stored}
