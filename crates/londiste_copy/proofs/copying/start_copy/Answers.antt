use Rattle.londiste_batches.proofs.Calls.{made-served_all}
use Rattle.londiste_copy.proofs.Moves.{moves-begun, same-begun}
use Rattle.londiste_copy.proofs.copying.start_copy.Goals as goal

pub copy_piece-requires-clause-provider_made : goal.copy_piece-requires-clause-provider_made
copy_piece-requires-clause-provider_made g c = made-served_all (g.D.Store.seen c.args.provider.now) (g.D.Store.seen c.begin.new.provider) _ c.requires.provider_made c.in_ok-hand.ensures.begun.provider

pub copy_piece-requires-clause-replica_made : goal.copy_piece-requires-clause-replica_made
copy_piece-requires-clause-replica_made g c = made-served_all (g.D.Store.seen c.args.replica.now) (g.D.Store.seen c.begin.new.replica) _ c.requires.replica_made c.in_ok-hand.ensures.begun.replica

pub copy_piece-requires-clause-same : goal.copy_piece-requires-clause-same
copy_piece-requires-clause-same g c =
    same-begun (g.D.Store.seen c.args.provider.now) (g.D.Store.seen c.args.replica.now) (g.D.Store.seen c.begin.new.provider) (g.D.Store.seen c.begin.new.replica) c.args.table.now.name.now c.args.table.now.from c.args.table.now.to
    c.in_ok-hand.hand c.requires.same c.in_ok-hand.ensures.begun

pub returns-clause-moves : goal.returns-clause-moves
returns-clause-moves g c =
    moves-begun (g.D.Store.seen c.args.provider.now) (g.D.Store.seen c.begin.new.provider) (g.D.Store.seen c.copy_piece.new.provider) (g.D.Store.seen c.args.replica.now) (g.D.Store.seen c.begin.new.replica)
    (g.D.Store.seen c.copy_piece.new.replica) c.args.table.now.name.now c.in_ok-hand.hand c.copy_piece.new.replies.items c.in_ok-hand-2.hand c.in_ok-hand.ensures.begun c.in_ok-hand-2.ensures
