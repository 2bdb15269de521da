use Rattle.std.proofs.Common.{◌∙◌, sym, ap, subst, is_some, not, None, option_map}
use Rattle.sky_model.specs.CopyMoves.{continues, copy_move, copy_running, starts_or_continues, under_way}
use Rattle.sky_model.specs.Hands as model
use Rattle.londiste_batches.specs.Moved.{MovesBy, MoveRefused}
use Rattle.londiste_copy.specs.Hands.{hand_of}
use Rattle.londiste_copy.proofs.CatchingUp.{copies-as, handed, handed-refused, err-same}
use Rattle.londiste_copy.proofs.Moves.{running-at, goes-first, goes-more}
use Rattle.londiste_copy.proofs.worker.CopyWorker.step_copy.Goals as goal

pub returns-then-is_none-clause-moves : goal.returns-then-is_none-clause-moves
returns-then-is_none-clause-moves g c =
    let p = g.D.Store.seen c.args.provider.now in
    let r = g.D.Store.seen c.args.replica.now in
    let table = c.args.table.now.name.now in
    let p_new = g.D.Store.seen c.start_copy.new.provider in
    let r_new = g.D.Store.seen c.start_copy.new.replica in
    let replies = c.start_copy.new.replies.items in
    let first = goes-first p r table (model.copy_in c.args.self.now) (copy_running r table) (ap is_some (running-at r table c.args.table.now.to c.requires.same.here ∙ sym c.copy_of.ensures) ∙ c.is_none.ensures ∙ ap not c.if-is_none.true) in
    subst (λ checked. MovesBy checked p p_new r r_new replies (option_map hand_of c.of_copy.result)) (sym (copies-as p r table c.args.self.now c.requires.state))
    (handed model.of_copy (starts_or_continues p r table (model.copy_in c.args.self.now) (copy_running r table)) p p_new r r_new replies c.in_ok-hand.hand (option_map hand_of c.of_copy.result) c.of_copy.ensures
    (subst (λ checked. MovesBy checked p p_new r r_new replies c.in_ok-hand.hand) (sym first) c.in_ok-hand.ensures.moves))

pub returns-clause-moves : goal.returns-clause-moves
returns-clause-moves g c =
    let p = g.D.Store.seen c.args.provider.now in
    let r = g.D.Store.seen c.args.replica.now in
    let table = c.args.table.now.name.now in
    let p_new = g.D.Store.seen c.continue_copy.new.provider in
    let r_new = g.D.Store.seen c.continue_copy.new.replica in
    let replies = c.continue_copy.new.replies.items in
    let more = goes-more p r table (model.copy_in c.args.self.now) (copy_running r table) (ap is_some (running-at r table c.args.table.now.to c.requires.same.here ∙ sym c.copy_of.ensures) ∙ c.is_none.ensures ∙ ap not c.if-is_none.false) in
    let same = c.copy_in-hand.ensures ∙ ap (λ hand. model.copy_in (option_map hand_of hand)) c.take.ensures.value ∙ ap model.copy_in c.self.view_is in
    subst (λ checked. MovesBy checked p p_new r r_new replies (option_map hand_of c.of_copy-2.result)) (sym (copies-as p r table c.args.self.now c.requires.state))
    (handed model.of_copy (starts_or_continues p r table (model.copy_in c.args.self.now) (copy_running r table)) p p_new r r_new replies c.in_ok-hand-2.hand (option_map hand_of c.of_copy-2.result) c.of_copy-2.ensures
    (subst (λ checked. MovesBy checked p p_new r r_new replies c.in_ok-hand-2.hand) (ap (λ hand. continues p table hand (under_way p hand)) same ∙ sym more) c.in_ok-hand-2.ensures))

pub returns-in_err-hand-clause-fault : goal.returns-in_err-hand-clause-fault
returns-in_err-hand-clause-fault g c =
    let p = g.D.Store.seen c.args.provider.now in
    let r = g.D.Store.seen c.args.replica.now in
    let table = c.args.table.now.name.now in
    let p_new = g.D.Store.seen c.start_copy.new.provider in
    let r_new = g.D.Store.seen c.start_copy.new.replica in
    let f = c.in_err-hand.field-0.0 in
    let first = goes-first p r table (model.copy_in c.args.self.now) (copy_running r table) (ap is_some (running-at r table c.args.table.now.to c.requires.same.here ∙ sym c.copy_of.ensures) ∙ c.is_none.ensures ∙ ap not c.if-is_none.true) in
    err-same (λ x. MoveRefused x (copy_move p r table c.args.self.now) p p_new r r_new c.args.self.now c.args.self.now) c.from_residual.result f c.from_residual.ensures.1
    (subst (λ checked. MoveRefused f checked p p_new r r_new c.args.self.now c.args.self.now) (sym (copies-as p r table c.args.self.now c.requires.state))
    (handed-refused model.of_copy f (starts_or_continues p r table (model.copy_in c.args.self.now) (copy_running r table)) p p_new r r_new None c.args.self.now
    (subst (λ checked. MoveRefused f checked p p_new r r_new None None) (sym first) c.in_err-hand.ensures.fault)))
