-- The events of a batch.
use Rattle.std.specs.Prelude.{List, not, ◌&&◌, filter}
use Rattle.sky_val.specs.declared.event.Event.{Event}
use Rattle.pgq_tables.specs.ById.{by_id}
use Rattle.pgq_tables.specs.Listed.{is_for}
use Rattle.sky_model.specs.History.{Batch, History}
use Rattle.sky_model.specs.Transactions.{has_committed}
use Rattle.sky_model.specs.Queues.{events, at_tick}

-- the events of a batch: those for its subscription whose transaction had committed when the closing tick was made, and hadn't when the opening one
-- was, by id
abbrev pub batch_events : History → Batch → List Event
batch_events h b =
    by_id (filter (λ e. has_committed (at_tick b.queue b.cur h) e.ev_txid
    && not (has_committed (at_tick b.queue b.prev h) e.ev_txid)
    && is_for b.sub e.ev_owner)
    (events b.queue h))
