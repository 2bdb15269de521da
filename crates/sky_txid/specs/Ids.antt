-- Lists of transaction ids.
use Rattle.std.specs.Prelude.{ℕ, ◌+◌, Bool, true, false, ◌&&◌, ◌||◌, ◌==◌, nat_lt, nat_le, List, [], ◌∷◌}

-- whether an id is in a list
abbrev pub contains : ℕ → List ℕ → Bool
contains t [] = false
contains t (u ∷ us) = (t == u) || contains t us

-- whether a list rises strictly, from `low` on and below `high`
abbrev pub rises_within : ℕ → ℕ → List ℕ → Bool
rises_within low high [] = true
rises_within low high (t ∷ ts) = nat_le low t && (nat_lt t high && rises_within (t + 1) high ts)

-- the first of a list, or `n` if it is empty
abbrev pub first_or : ℕ → List ℕ → ℕ
first_or n [] = n
first_or n (t ∷ ts) = t
