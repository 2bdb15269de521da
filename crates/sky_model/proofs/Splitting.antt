-- Where bytes are split into lines.
use Rattle.std.proofs.Common.{◌≡◌, ℕ, Bool, false, List, [], ◌∷◌, ◌++◌, ◌==◌, refl, sym, ap, ◌∙◌, if◌then◌else◌, append-nil}
use Rattle.std.specs.List.{list_any}
use Rattle.std.proofs.lemmas.Bool.{or_parts}
use Rattle.sky_model.specs.Lines.{Split, with_byte, with_line, split}

-- there is no line feed among the bytes
abbrev pub IsUnbroken : List ℕ → Type 0
IsUnbroken bytes = list_any (λ b. b == 10) bytes ≡ false

-- bytes without a line feed before lines
abbrev pub with_bytes : List ℕ → List (List ℕ) → List ℕ → Split
with_bytes front [] rest = record { lines = []; rest = front ++ rest }
with_bytes front (line ∷ lines) rest = record { lines = (front ++ line) ∷ lines; rest = rest }

with_byte-bytes : (b : ℕ) (front : List ℕ) (lines : List (List ℕ)) (rest : List ℕ)
    → with_byte b (with_bytes front lines rest).lines (with_bytes front lines rest).rest ≡ with_bytes (b ∷ front) lines rest
with_byte-bytes b front [] rest = refl
with_byte-bytes b front (line ∷ lines) rest = refl

with_bytes-nothing : (lines : List (List ℕ)) (rest : List ℕ) → record { lines = lines; rest = rest } ≡ with_bytes [] lines rest
with_bytes-nothing [] rest = refl
with_bytes-nothing (line ∷ lines) rest = refl

-- what comes after them is split as it was
pub split-front : (front more : List ℕ) → IsUnbroken front → split (front ++ more) ≡ with_bytes front (split more).lines (split more).rest
split-front [] more unbroken = with_bytes-nothing (split more).lines (split more).rest
split-front (b ∷ front) more unbroken =
    let parts = or_parts (b == 10) (list_any (λ x. x == 10) front) unbroken in
    ap (λ (t : Bool). if t then with_line (split (front ++ more)) else with_byte b (split (front ++ more)).lines (split (front ++ more)).rest) parts.0
    ∙ ap (λ (s : Split). with_byte b s.lines s.rest) (split-front front more parts.1)
    ∙ with_byte-bytes b front (split more).lines (split more).rest

-- bytes without a line feed are no line
pub split-unbroken : (bytes : List ℕ) → IsUnbroken bytes → split bytes ≡ record { lines = []; rest = bytes }
split-unbroken bytes unbroken = ap split (sym (append-nil bytes)) ∙ split-front bytes [] unbroken ∙ ap (λ rest. record { lines = []; rest = rest }) (append-nil bytes)

-- a line feed ends the bytes before it
pub split-line : (line more : List ℕ) → IsUnbroken line → split (line ++ 10 ∷ more) ≡ record { lines = line ∷ (split more).lines; rest = (split more).rest }
split-line line more unbroken = split-front line (10 ∷ more) unbroken ∙ ap (λ first. record { lines = first ∷ (split more).lines; rest = (split more).rest }) (append-nil line)
