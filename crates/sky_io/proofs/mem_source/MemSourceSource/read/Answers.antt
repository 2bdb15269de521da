use Rattle.std.proofs.Common.{◌≡◌, ℕ, ◌+◌, ◌-◌, ◌<◌, ◌≤◌, min, List, [], ◌++◌, length, take, drop, sym, ap, ◌∙◌, arith, length-drop}
use Rattle.std.proofs.lemmas.List.{take-append-drop, take_rest, drop-drop, take_at}
use Rattle.std.proofs.Math.ListN.{drop_of_length-le}
use Rattle.std.proofs.lemmas.Grind.{common_steps}
use Rattle.sky_io.proofs.mem_source.MemSourceSource.read.Goals as goal

-- the piece at the front of the buffer was at the front of what was left
front_is : (all buf piece : List ℕ) (given count : ℕ) → piece ≡ take count (drop given all) → count ≤ length (drop given all)
    → drop given all ≡ take count (piece ++ drop count buf) ++ drop (given + count) all
front_is all buf piece given count is fits =
    let size : length piece ≡ count = ap length is ∙ grind (arith, common_steps) in
    rw (take_at piece (drop count buf) count size, is, ← drop-drop count given all) (sym (take-append-drop count (drop given all)))

-- nothing is given only if nothing is left
end_is : (all : List ℕ) (given count most room : ℕ) → count ≡ min (min most room) (length (drop given all)) → 1 ≤ most → 0 < room → count ≡ 0 → drop (given + count) all ≡ []
end_is all given count most room is some there none = drop_of_length-le all (omega (arith, length-drop given all))

pub returns-clause-consumes : goal.returns-clause-consumes
returns-clause-consumes c =
    let all = c.self.inside.bytes.items in
    let given = c.self.inside.given in
    let count = c.min-count.result in
    let buf = c.args.buf.now in
    let left : c.args.self.now.left ≡ drop given all = ap (λ s. s.left) (sym c.self.view_is) in
    let rest : take (length c.deref-2.result.now - given) (drop given c.deref-2.result.now) ≡ drop given all =
    ap (λ xs. take (length xs - given) (drop given xs)) c.deref-2.ensures.value ∙ take_rest all given in
    let piece : c.copy_from_slice.new.self ≡ take count (drop given all) = c.copy_from_slice.ensures.after ∙ ap (take count) rest in
    let some : count ≡ min (min c.self.inside.most (length buf)) (length (drop given all)) =
    c.min-count.ensures ∙ ap (λ room. min room (length (take (length c.deref-2.result.now - given) (drop given c.deref-2.result.now)))) c.min.ensures
    ∙ ap (λ xs. min (min c.self.inside.most (length buf)) (length xs)) rest in (
      left ∙ front_is all buf c.copy_from_slice.new.self given count piece (omega arith),
      λ none _. end_is all given count c.self.inside.most (length buf) some c.self.invariant.0 c.requires none,
    )
