use Rattle.std.proofs.Common.{sym, subst}
use Rattle.pgq_queue.proofs.AllStored.{Timed, timed-dead, timed-dropped}
use Rattle.pgq_queue.proofs.queue.Queue.undo.Goals.{then-eq, else-eq}
use Rattle.pgq_queue.proofs.queue.Queue.undo.Goals as goal

pub invariant_of-self : goal.invariant_of-self
invariant_of-self c =
    timed-dead c.if-eq.self-inside.event_tables c.mark_dead.new.self c.args.txid c.mark_dead.ensures
    (elim c.if-eq.branch [
      | then-eq w ↦ subst (λ inside. Timed inside.event_tables.tables) (sym w.self-inside-is) (timed-dropped c.self.inside.event_tables w.drop_switch.new.self w.drop_switch.ensures c.self.invariant)
      | else-eq w ↦ subst (λ inside. Timed inside.event_tables.tables) (sym w.self-inside-is) c.self.invariant
    ])
