use Rattle.std.proofs.Common.{rules, tests, ◌∙◌, sym, ap}
use Rattle.sky_model.specs.CopyMoves.{copy_consumer}
use Rattle.londiste_copy.proofs.Begins.{begun-as, not-refused}
use Rattle.londiste_copy.proofs.copying.begin.Goals as goal

pub copy_begin-requires-clause-may : goal.copy_begin-requires-clause-may
copy_begin-requires-clause-may g c = record { name = c.args.table.now.name.now; number = c.requires.same.here; may = c.requires.may }

pub unreachable-requires : goal.unreachable-requires
unreachable-requires g c =
    not-refused (g.D.Store.seen c.args.provider.now) (g.D.Store.seen c.args.replica.now) c.args.table.now.name.now _ c.requires.provider_made c.requires.root (c.in_ok-consumer.ensures ∙ ap copy_consumer c.node.ensures)
    (sym c.is_full.ensures ∙ c.if-is_full.false) (sym c.sub_ids_spent.ensures ∙ c.if-sub_ids_spent.false) (g.D.Store.seen c.part.new.self) (g.D.Store.seen c.join.new.self) c.part.ensures.serves c.in-Err.field-0 (λ is. search (rules, tests, is)) c.in-Err.ensures.fault

pub returns-clause-begun : goal.returns-clause-begun
returns-clause-begun g c =
    begun-as (g.D.Store.seen c.args.provider.now) (g.D.Store.seen c.args.replica.now) c.args.table.now.name.now _ c.requires.provider_made c.requires.root (c.in_ok-consumer.ensures ∙ ap copy_consumer c.node.ensures)
    (sym c.is_full.ensures ∙ c.if-is_full.false) (sym c.sub_ids_spent.ensures ∙ c.if-sub_ids_spent.false) c.args.table.now.from c.args.table.now.to c.requires.same c.requires.idle c.requires.may (g.D.Store.seen c.part.new.self) (g.D.Store.seen c.join.new.self) (g.D.Store.seen c.hold.new.self)
    (g.D.Store.seen c.copy_begin.new.self) c.in_ok-hold.hold c.in-Ok.tick (c.in_ok-copy_begin.ensures.serves c.args.table.now.name.now c.requires.same.here) c.part.ensures.serves c.in-Ok.ensures.tick c.in-Ok.ensures.serves c.in_ok-hold.ensures.number
    c.in_ok-hold.ensures.serves
