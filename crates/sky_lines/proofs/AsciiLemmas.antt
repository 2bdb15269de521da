-- Which bytes are ASCII.
use Rattle.std.proofs.Common.{◌≡◌, ℕ, ◌+◌, ◌-◌, ◌≤◌, List, ◌++◌, length, take, drop, sym, ap, subst, ◌∙◌, arith}
use Rattle.std.specs.Prelude.{slice_range}
use Rattle.std.specs.Str.{IsAscii}
use Rattle.std.proofs.lemmas.List.{take-take, drop_at}
use Rattle.std.proofs.lemmas.Str.{IsAscii-take, IsAscii-drop, IsAscii-append}
use Rattle.sky_lines.proofs.FeedLemmas.{drop-slice_range}

-- what a piece adds to ASCII bytes is ASCII
pub IsAscii-grown : (old got whole : List ℕ) (len : ℕ) → whole ≡ old ++ got → length old ≡ len → IsAscii old → IsAscii (drop len whole) → IsAscii whole
IsAscii-grown old got whole len grown size before more =
    let rest : drop len whole ≡ got = ap (drop len) grown ∙ drop_at old got len size in
    subst IsAscii (sym grown) (IsAscii-append old got before (subst IsAscii rest more))

-- a line and what follows it are ASCII if the bytes that they were taken from are
pub IsAscii-taken : (items : List ℕ) (start end len : ℕ) → start + len + 1 ≤ end → IsAscii (slice_range items start end)
    → IsAscii (slice_range items (start + len + 1) end) × IsAscii (slice_range items start (start + len))
IsAscii-taken items start end len fits all =
    let place : start + (len + 1) ≡ start + len + 1 = omega arith in
    let count : start + len - start ≡ len = omega arith in
    let rest : drop (len + 1) (slice_range items start end) ≡ slice_range items (start + len + 1) end =
    drop-slice_range items start end (len + 1) (omega arith) ∙ ap (λ n. slice_range items n end) place in
    let front : take len (slice_range items start end) ≡ slice_range items start (start + len) =
    take-take len (end - start) (drop start items) (omega arith) ∙ sym (ap (λ n. take n (drop start items)) count) in
    (subst IsAscii rest (IsAscii-drop _ (len + 1) all), subst IsAscii front (IsAscii-take _ len all))
