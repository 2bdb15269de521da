use Rattle.std.proofs.Common.{rules, ◌≡◌, [], ◌∷◌, ◌++◌, map, length, append_assoc, refl, sym, ◌∙◌, ap, arith}
use Rattle.std.specs.Vec.Iter.{into_iter_items}
use Rattle.sky_world.proofs.ServedNodes.{none-left}
use Rattle.sky_world.proofs.nodes.answer_all.Goals as goal

pub loop-reply-init : goal.loop-reply-init
loop-reply-init c = (refl, search rules)

pub loop-reply-preserved : goal.loop-reply-preserved
loop-reply-preserved c =
    let at = c.loop-reply in
    let steps : into_iter_items at.reply-iterator ≡ c.in-Some.reply ∷ into_iter_items c.next.new.self = c.in-Some.ensures.steps.0 in (
      ap (λ replies. replies ++ map (λ reply. (c.args.who, reply)) (into_iter_items c.next.new.self)) c.in_ok-push.ensures.ok
          ∙ append_assoc at.replies ((c.args.who, c.in-Some.reply) ∷ []) (map (λ reply. (c.args.who, reply)) (into_iter_items c.next.new.self))
          ∙ ap (λ items. at.replies ++ map (λ reply. (c.args.who, reply)) items) (sym steps)
          ∙ at.invariant.0,
      let was = at.invariant.1 in
          let gone = c.in-Some.ensures.steps.1 in
          let short = ap length steps in
          omega arith,
    )

pub returns : goal.returns
returns c =
    none-left c.args.who c.loop-reply.replies (into_iter_items c.loop-reply.reply-iterator) (sym c.loop-reply.invariant.1 ∙ c.in-None.ensures.steps.0) ∙ c.loop-reply.invariant.0
    ∙ ap (λ items. c.args.replies.now ++ map (λ reply. (c.args.who, reply)) items) c.into_iter-reply-iterator.ensures.into_iter_gives.0
