-- Worked moments by computation.
use Rattle.std.proofs.Common.{◌≡◌, ℕ, ℤ, pos, List, [], ◌∷◌, map, refl, codes}
use Rattle.sky_model.specs.Moment.{moment, day_after, last_digits}

-- the first one, the end of a leap day, the end of the clock, and the last one
abbrev moments : List (ℤ × List ℕ)
moments =
    (pos 0, codes "2012-01-01 00:00:00.000000")
    ∷ (pos 5_183_999_999_999, codes "2012-02-29 23:59:59.999999")
    ∷ (pos 1_000_000_000_000_000, codes "2043-09-09 01:46:40.000000")
    ∷ (pos 2_000_000_000_000_000, codes "2075-05-18 03:33:20.000000")
    ∷ []

moments_print : map (λ m. moment m.0) moments ≡ map (λ m. m.1) moments
unfolding moment day_after last_digits
moments_print = refl
