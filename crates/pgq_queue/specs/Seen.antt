-- The readings of the definitions, in what the code keeps of a queue.
use Rattle.std.specs.Prelude.{[]}
use Rattle.sky_model.specs.History as model
use Rattle.pgq_tables.specs.Tables.{no_tables}
use Rattle.sky_model.specs.Config.{default_config}
use Rattle.sky_model.specs.State.{Queue}
use Rattle.pgq_sub.specs.Seen.{seen_subs, shown, no_subs}
use Rattle.pgq_queue.specs.declared.span.Span.{Span}
use Rattle.pgq_queue.specs.Views.{QueueView}

abbrev pub seen_queue : QueueView → Queue
seen_queue q = record {
  config = q.config;
  seq = q.seq;
  event_tables = q.event_tables.tables;
  tick_list = q.ticks;
  members = (seen_subs q.subs).members;
  sub = shown (seen_subs q.subs).kept;
}

-- a queue that isn't made, or was dropped
abbrev pub no_queue : QueueView
no_queue = record { config = default_config; seq = 0; event_tables = record { tables = no_tables; reads = 0 }; ticks = []; subs = no_subs }

-- what decides which events a batch has: its queue, its subscription and its two ticks, and neither its id nor its consumer
abbrev pub seen_span : Span → model.Batch
seen_span s = record { id = 0; queue = s.queue; consumer = []; sub = s.sub; prev = s.prev; cur = s.cur }
