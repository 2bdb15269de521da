use Rattle.std.proofs.Common.{Option, Some, sym, ap, ◌∙◌}
use Rattle.sky_val.specs.declared.event.Event.{Event}
use Rattle.sky_model.specs.declared.stmt.Extra.{Extra}
use Rattle.sky_model.specs.History.{queued, put}
use Rattle.sky_model.specs.State.{after_mark}
use Rattle.sky_model.specs.StepQueue.{made_event}
use Rattle.pgq_tables.specs.Tables.{full_event}
use Rattle.pgq_parts.specs.Seen.{seen_database}
use Rattle.pgq_parts.proofs.Databases.{marked-as}
use Rattle.pgq_db.proofs.db.Db.put.Goals as goal

pub returns-in_ok-put_plain-in-None : goal.returns-in_ok-put_plain-in-None
returns-in_ok-put_plain-in-None g c =
    let e = c.args.event in
    record {
      mark = marked-as _ _ c.put_plain.new.self (λ _. put c.args.queue (full_event e)) c.self.view_is c.in_ok-put_plain-in-None.ensures.mark
          ∙ ap (λ (x : Option Extra). after_mark (seen_database c.args.self.now) (queued (put c.args.queue (made_event e.ev_id e.ev_time e.ev_txid e.ev_type e.ev_data x)))) (sym c.in-None.is);
    }

pub returns-in_ok-put_with_extra-in-Some : goal.returns-in_ok-put_with_extra-in-Some
returns-in_ok-put_with_extra-in-Some g c =
    let e = c.args.event in
    let whole : Option Extra → Event = made_event e.ev_id e.ev_time e.ev_txid e.ev_type e.ev_data in
    record {
      mark = marked-as _ _ c.put_with_extra.new.queues (λ _. put c.args.queue (whole (Some c.in-Some.extra))) c.self.view_is c.in_ok-put_with_extra-in-Some.ensures.mark
          ∙ ap (λ (x : Option Extra). after_mark (seen_database c.args.self.now) (queued (put c.args.queue (whole x)))) (sym c.in-Some.is);
    }
