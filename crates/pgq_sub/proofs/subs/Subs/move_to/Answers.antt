use Rattle.std.proofs.Common.{◌∙◌, ap}
use Rattle.pgq_sub.specs.Views.{at_tick}
use Rattle.pgq_sub.specs.Seen.{open_in}
use Rattle.pgq_sub.proofs.SubLists.{sub-changed, kept-there}
use Rattle.pgq_sub.proofs.subs.Subs.move_to.Goals as goal

pub returns-clause-moved : goal.returns-clause-moved
returns-clause-moved c =
    sub-changed _ _ c.args.consumer.now _ c.get_mut.result.now c.move_to.new.self (at_tick c.args.tick) c.self.view_is c.in_ok-number.ensures.number c.get_mut.ensures.within c.get_mut.ensures.value c.move_to.ensures.moved

pub returns-clause-given_up : goal.returns-clause-given_up
returns-clause-given_up c = c.move_to.ensures.given_up ∙ ap open_in (kept-there _ _ c.args.consumer.now _ c.get_mut.result.now c.self.view_is c.in_ok-number.ensures.number c.get_mut.ensures.within c.get_mut.ensures.value)
