-- Where a word may be cut: at an ASCII byte, and after it.
use Rattle.std.proofs.Common.{◌≡◌, ◌==◌, ℕ, ◌≢◌, ◌+◌, ◌<◌, ◌≤◌, List, ◌∷◌, length, drop, get_or, Some, IsUtf8, sym, ap, subst, ◌∙◌, arith}
use Rattle.std.proofs.lemmas.Bool.{eqb-true}
use Rattle.std.proofs.lemmas.List.{length-drop}
use Rattle.std.proofs.lemmas.List.Quantifiers.{position-Some}
use Rattle.std.proofs.lemmas.Str.{IsCharBoundary-before_ascii, IsCharBoundary-after_ascii}
use Rattle.std.specs.Str.{IsCharBoundary}
use Rattle.sky_model.specs.Kinds.{first_place}

pub cut_at : (byte : ℕ) (w : List ℕ) (i : ℕ) → byte < 128 → first_place byte w ≡ Some i → IsCharBoundary w i
cut_at byte w i ascii is =
    let found = position-Some (λ b. b == byte) w i 0 is in
    let here : get_or w i 0 ≡ byte = eqb-true (get_or w i 0) byte found.1 in
    IsCharBoundary-before_ascii w i found.0 (omega (arith, here))

pub cut_behind : (byte : ℕ) (w : List ℕ) (i : ℕ) → byte < 128 → IsUtf8 w → first_place byte w ≡ Some i → IsCharBoundary w (i + 1)
cut_behind byte w i ascii text is =
    let found = position-Some (λ b. b == byte) w i 0 is in
    let here : get_or w i 0 ≡ byte = eqb-true (get_or w i 0) byte found.1 in
    IsCharBoundary-after_ascii w i text found.0 (omega (arith, here))

pub cut_first : (b : ℕ) (rest w : List ℕ) → w ≡ b ∷ rest → b < 128 → IsUtf8 w → IsCharBoundary w 1
cut_first b rest w begins ascii text = IsCharBoundary-after_ascii w 0 text (rw begins (omega arith)) (rw begins ascii)

-- the same byte is at this place of a text and of its bytes
pub byte_at : (bs w : List ℕ) (i b : ℕ) → bs ≡ w → get_or bs i 0 ≡ b → get_or w i 0 ≡ b
byte_at bs w i b same is = ap (λ xs. get_or xs i 0) (sym same) ∙ is

pub place_within : (bs w : List ℕ) (i : ℕ) → bs ≡ w → i ≤ length bs → i ≢ length bs → i < length w
place_within bs w i same most other = subst (λ xs. i < length xs) same (omega arith)

pub next_within : (bs w : List ℕ) (i : ℕ) → bs ≡ w → i ≤ length bs → i ≢ length bs → i + 1 ≢ length bs → i + 1 < length w
next_within bs w i same most other next = subst (λ xs. i + 1 < length xs) same (omega arith)

pub all_before : (bs w : List ℕ) (i : ℕ) → bs ≡ w → i ≡ length bs → length w ≤ i
all_before bs w i same is = subst (λ xs. length xs ≤ i) same (omega arith)

pub cut_byte : (w : List ℕ) (i b : ℕ) → i < length w → get_or w i 0 ≡ b → b < 128 → IsCharBoundary w i
cut_byte w i b within here ascii = IsCharBoundary-before_ascii w i within (omega (arith, here))

pub cut_after : (w : List ℕ) (i b : ℕ) → IsUtf8 w → i + 1 < length w → get_or w (i + 1) 0 ≡ b → b < 128 → IsCharBoundary w (i + 2)
cut_after w i b text within here ascii =
    let next : i + 1 + 1 ≡ i + 2 = omega arith in
    subst (IsCharBoundary w) next (IsCharBoundary-after_ascii w (i + 1) text within (omega (arith, here)))

pub two_more : (i : ℕ) → i + 1 + 1 ≡ i + 2
two_more i = omega arith

pub rest_shorter : (w rest : List ℕ) (i : ℕ) → rest ≡ drop (i + 2) w → i + 1 < length w → length rest < length w
rest_shorter w rest i is within = omega (arith, ap length is, length-drop (i + 2) w)
