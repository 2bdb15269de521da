use Rattle.std.proofs.Common.{sym, ◌∙◌, ap, option_map}
use Rattle.std.specs.Global.{Global}
use Rattle.std.specs.declared.vec.Vec.{Vec}
use Rattle.sky_histories.proofs.DatabaseStanding.{shows-events}
use Rattle.sky_val.specs.declared.event.Event.{Event}
use Rattle.pgq_parts.specs.Seen.{seen_database}
use Rattle.pgq_parts.proofs.ProviderSteps.{shows-not}
use Rattle.pgq_db.proofs.db.Db.batch_events.Goals as goal

pub returns-clause-histories : goal.returns-clause-histories
returns-clause-histories g c =
    shows-events (seen_database c.args.self.now) c.args.batch c.in-Some.events.items (sym (ap (option_map (λ (events : Vec Event Global). events.items)) (sym c.in-Some.is) ∙ c.in_ok-events.ensures.events))

pub unreachable-requires : goal.unreachable-requires
unreachable-requires g c =
    shows-not (seen_database c.args.self.now) c.args.batch c.requires.active (ap (option_map (λ (events : Vec Event Global). events.items)) (sym c.in-None.is) ∙ c.in_ok-events.ensures.events)
