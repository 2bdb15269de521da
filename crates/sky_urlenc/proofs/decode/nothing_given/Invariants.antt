use Rattle.std.proofs.Common.{◌≡◌, map, take, length, None}
use Rattle.std.specs.Vec.{vec_len, vec_capacity}
use Rattle.sky_urlenc.proofs.decode.nothing_given.Given as goal

abbrev pub invariant-loop : goal.invariant-loop
invariant-loop l =
    (l.given.items ≡ map (λ _. None) (take l.index l.columns))
    × (vec_len l.given ≡ l.index)
    × (vec_capacity l.given ≡ length l.columns)
