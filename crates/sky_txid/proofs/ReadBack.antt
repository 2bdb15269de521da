-- A snapshot's text is read as that snapshot.
use Rattle.std.proofs.Common.{◌≡◌, ℕ, ◌+◌, ◌^◌, ◌<◌, true, false, List, [], ◌∷◌, ◌++◌, length, get_or, map, Some, refl, ◌∙◌, ap, arith, length-append}
use Rattle.std.specs.Prelude.{◌==◌, nat_eq, option_and_then}
use Rattle.std.specs.Fmt.{decimal}
use Rattle.std.specs.List.{All, slice_split, join_with_byte, dedup}
use Rattle.std.proofs.lemmas.Bool.{ne_eqb}
use Rattle.std.proofs.lemmas.Bool.Decides.{nat_tests}
use Rattle.std.proofs.lemmas.Fmt.{decimal_nonempty, digits_decimal, digits_value-decimal}
use Rattle.std.proofs.lemmas.List.Elements.{All-nil, All-cons, All-append, All-from_get_or}
use Rattle.std.proofs.lemmas.List.Splits.{slice_split_at, slice_split_none}
use Rattle.std.proofs.lemmas.Str.Parse.{not_in_digits}
use Rattle.sky_txid.specs.Ids.{rises_within}
use Rattle.sky_txid.specs.Snapshot.{SnapshotView, is_snapshot}
use Rattle.sky_txid.specs.SnapshotText.{colon, comma, snapshot_text, parse_number, parse_numbers, parse_list, parse_snapshot}
use Rattle.sky_txid.proofs.Seen.{sound}
use Rattle.sky_txid.proofs.Rising.{rising_parts}
use Rattle.sky_txid.proofs.Reading.{own, number_read, list_read, snapshot_read}

-- no digit is a colon or a comma
no_colon : (n : ℕ) → n < 2 ^ 64 → All (λ x. (x == colon) ≡ false) (decimal n)
no_colon n fits = All-from_get_or (λ x. (x == colon) ≡ false) (decimal n) 0 (λ k lt. ne_eqb (get_or (decimal n) k 0) colon
    (not_in_digits own (decimal n) colon (digits_decimal own n fits) (λ inside. omega (arith, inside)) k lt))

no_comma : (n : ℕ) → n < 2 ^ 64 → All (λ x. (x == comma) ≡ false) (decimal n)
no_comma n fits = All-from_get_or (λ x. (x == comma) ≡ false) (decimal n) 0 (λ k lt. ne_eqb (get_or (decimal n) k 0) comma
    (not_in_digits own (decimal n) comma (digits_decimal own n fits) (λ inside. omega (arith, inside)) k lt))

list_no_colon : (low high : ℕ) (ids : List ℕ) → rises_within low high ids ≡ true → high < 2 ^ 64 → All (λ x. (x == colon) ≡ false) (join_with_byte comma (map decimal ids))
list_no_colon low high [] h fits = All-nil (λ x. (x == colon) ≡ false)
list_no_colon low high (t ∷ []) h fits = let parts = rising_parts low high t [] h in no_colon t (omega arith)
list_no_colon low high (t ∷ u ∷ ts) h fits =
    let parts = rising_parts low high t (u ∷ ts) h in
    let list = join_with_byte comma (map decimal (u ∷ ts)) in
    All-append (λ x. (x == colon) ≡ false) (decimal t) (comma ∷ list) (no_colon t (omega arith))
    (All-cons (λ x. (x == colon) ≡ false) comma list refl (list_no_colon (t + 1) high (u ∷ ts) parts.rest fits))

-- a number is read back
number_back : (n : ℕ) → n < 2 ^ 64 → parse_number (decimal n) ≡ Some n
number_back n fits =
    let is = digits_value-decimal own n fits in
    number_read (decimal n) (decimal_nonempty n fits) (digits_decimal own n fits) (omega arith) ∙ ap Some is

numbers_back : (low high : ℕ) (ids : List ℕ) → rises_within low high ids ≡ true → high < 2 ^ 64 → parse_numbers (map decimal ids) ≡ Some ids
numbers_back low high [] h fits = refl
numbers_back low high (t ∷ ts) h fits =
    let parts = rising_parts low high t ts h in
    ap (λ o. option_and_then (λ n. option_and_then (λ ns. Some (n ∷ ns)) (parse_numbers (map decimal ts))) o) (number_back t (omega arith))
    ∙ ap (λ o. option_and_then (λ ns. Some (t ∷ ns)) o) (numbers_back (t + 1) high ts parts.rest fits)

-- the pieces of a list's text
list_pieces : (low high t : ℕ) (ts : List ℕ) → rises_within low high (t ∷ ts) ≡ true → high < 2 ^ 64
    → slice_split (λ b. b == comma) (join_with_byte comma (map decimal (t ∷ ts))) ≡ map decimal (t ∷ ts)
list_pieces low high t [] h fits = let parts = rising_parts low high t [] h in slice_split_none (λ b. b == comma) (decimal t) (no_comma t (omega arith))
list_pieces low high t (u ∷ ts) h fits =
    let parts = rising_parts low high t (u ∷ ts) h in
    slice_split_at (λ b. b == comma) (decimal t) comma (join_with_byte comma (map decimal (u ∷ ts))) (no_comma t (omega arith)) refl
    ∙ ap (λ pieces. decimal t ∷ pieces) (list_pieces (t + 1) high u ts parts.rest fits)

list_nonempty : (t : ℕ) (ts : List ℕ) → t < 2 ^ 64 → 0 < length (join_with_byte comma (map decimal (t ∷ ts)))
list_nonempty t [] fits = decimal_nonempty t fits
list_nonempty t (u ∷ ts) fits = grind (arith, decimal_nonempty t fits, length-append (decimal t) (comma ∷ join_with_byte comma (map decimal (u ∷ ts))))

list_back : (low high : ℕ) (ids : List ℕ) → rises_within low high ids ≡ true → high < 2 ^ 64 → parse_list (join_with_byte comma (map decimal ids)) ≡ Some ids
list_back low high [] h fits = refl
list_back low high (t ∷ ts) h fits =
    let parts = rising_parts low high t ts h in
    list_read (join_with_byte comma (map decimal (t ∷ ts))) (list_nonempty t ts (omega arith))
    ∙ ap parse_numbers (list_pieces low high t ts h fits) ∙ numbers_back low high (t ∷ ts) h fits

-- in a rising list nothing is skipped
dedup-rising : (low high : ℕ) (ids : List ℕ) → rises_within low high ids ≡ true → dedup nat_eq ids ≡ ids
dedup-rising low high [] h = refl
dedup-rising low high (t ∷ []) h = refl
dedup-rising low high (t ∷ u ∷ ts) h =
    let parts = rising_parts low high t (u ∷ ts) h in
    grind (arith, nat_tests, rising_parts (t + 1) high u ts parts.rest, dedup-rising (t + 1) high (u ∷ ts) parts.rest)

pub read_back : (s : SnapshotView) → is_snapshot s ≡ true → s.xmax < 2 ^ 64 → parse_snapshot (snapshot_text s) ≡ Some s
read_back s h fits =
    let parts = sound s h in
    let ordered = parts.ordered in
    let list = join_with_byte comma (map decimal s.xip) in
    let split : slice_split (λ b. b == colon) (snapshot_text s) ≡ decimal s.xmin ∷ decimal s.xmax ∷ list ∷ [] =
    slice_split_at (λ b. b == colon) (decimal s.xmin) colon (decimal s.xmax ++ (colon ∷ list)) (no_colon s.xmin (omega arith)) refl
    ∙ ap (λ rest. decimal s.xmin ∷ rest)
    (slice_split_at (λ b. b == colon) (decimal s.xmax) colon list (no_colon s.xmax fits) refl
    ∙ ap (λ rest. decimal s.xmax ∷ rest) (slice_split_none (λ b. b == colon) list (list_no_colon s.xmin s.xmax s.xip parts.rises fits))) in
    snapshot_read (snapshot_text s) (decimal s.xmin) (decimal s.xmax) list s.xmin s.xmax s.xip split
    (number_back s.xmin (omega arith)) (number_back s.xmax fits) (list_back s.xmin s.xmax s.xip parts.rises fits)
    ∙ grind (arith, dedup-rising s.xmin s.xmax s.xip parts.rises, h)
