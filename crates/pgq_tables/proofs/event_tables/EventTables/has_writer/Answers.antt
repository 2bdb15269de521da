use Rattle.std.proofs.Common.{◌∙◌, sym, ap}
use Rattle.std.specs.Prelude.{◌==◌}
use Rattle.std.specs.List.{list_any}
use Rattle.pgq_tables.specs.Views.{TablesView}
use Rattle.pgq_tables.proofs.Aged.{any-by_age}
use Rattle.pgq_tables.proofs.event_tables.EventTables.has_writer.Goals as goal

pub returns : goal.returns
returns c =
    c.any_has.ensures
    ∙ ap (list_any (λ events. list_any (λ s. s.event.ev_txid == c.args.txid) events)) c.deref.ensures.value
    ∙ ap (λ (v : TablesView). list_any (λ events. list_any (λ s. s.event.ev_txid == c.args.txid) events) v.tables.lists) c.self.view_is
    ∙ sym (any-by_age (λ s. s.event.ev_txid == c.args.txid) c.args.self.now.tables)
