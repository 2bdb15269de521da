use Rattle.std.proofs.Common.{Some}
use Rattle.londiste_copy.proofs.CatchingUp.{through-moves, through-refused}
use Rattle.londiste_copy.proofs.catching_up.go_through_batch.Goals as goal

pub returns-clause-moves : goal.returns-clause-moves
returns-clause-moves g c =
    through-moves (g.D.Store.seen c.args.provider.now) (g.D.Store.seen c.args.replica.now) c.args.table.now.name.now c.args.hand c.args.tick c.in_ok-copy.field-0 c.requires.tick c.in_ok-copy.ensures c.go_through.result
    (g.D.Store.seen c.go_through.new.provider) (g.D.Store.seen c.go_through.new.replica) c.go_through.new.replies.items c.go_through.ensures.moves

pub returns-clause-fault : goal.returns-clause-fault
returns-clause-fault g c =
    through-refused (g.D.Store.seen c.args.provider.now) (g.D.Store.seen c.args.replica.now) c.args.table.now.name.now c.args.hand c.args.tick c.in_ok-copy.field-0 c.requires.tick c.in_ok-copy.ensures c.go_through.result
    (g.D.Store.seen c.go_through.new.provider) (g.D.Store.seen c.go_through.new.replica) (Some c.args.hand) (Some c.args.hand) c.go_through.ensures.fault
