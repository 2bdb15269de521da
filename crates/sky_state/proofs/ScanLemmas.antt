-- A scan with no bound.
use Rattle.std.proofs.Common.{◌≡◌, ℕ, ◌<◌, arith, List, length, take, ◌∙◌, ap}
use Rattle.std.proofs.lemmas.List.{take_all, length-take}

-- if fewer items were taken than asked for, they are all there are
pub take-fewer : {X : Type 0} (found xs : List X) (most : ℕ) → found ≡ take most xs → length found < most → found ≡ xs
take-fewer found xs most is fewer =
    let counted : length found ≡ length (take most xs) = ap length is in
    is ∙ take_all most xs (omega (arith, length-take most xs))
