-- Counts of 64 bits that never fall and stay at the largest once they reach it.
use Rattle.std.specs.Prelude.{◌≡◌, ℕ, ◌+◌, ◌-◌, ◌^◌, ◌<◌, ◌⊎◌, min}

-- the count rose, or is at the largest, where it stays
abbrev pub Rose : ℕ → ℕ → Type 0
Rose old new = (old < new) ⊎ (new ≡ 2 ^ 64 - 1)

-- this number, or the largest count if it is above that
abbrev pub count_of : ℕ → ℕ
count_of number = min number (2 ^ 64 - 1)

-- the count after one more
abbrev pub raised : ℕ → ℕ
raised count = min (count + 1) (2 ^ 64 - 1)
