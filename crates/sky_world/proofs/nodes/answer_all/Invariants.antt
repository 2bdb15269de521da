use Rattle.std.proofs.Common.{◌≡◌, ◌++◌, map, length}
use Rattle.std.specs.Vec.Iter.{into_iter_items, into_iter_len}
use Rattle.sky_world.proofs.nodes.answer_all.Given as goal

-- the answers that are left
abbrev pub invariant-loop-reply : goal.invariant-loop-reply
invariant-loop-reply l =
    (l.replies ++ map (λ reply. (l.who, reply)) (into_iter_items l.reply-iterator) ≡ l.initial.replies ++ map (λ reply. (l.who, reply)) (into_iter_items l.initial.reply-iterator))
    × (into_iter_len l.reply-iterator ≡ length (into_iter_items l.reply-iterator))
