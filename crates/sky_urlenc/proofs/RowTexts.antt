-- A row's text as it grows, column by column.
use Rattle.std.proofs.Common.{◌≡◌, ◌⊎◌, inl, inr, Bool, true, false, ℕ, zero, suc, ◌+◌, ◌<◌, ◌≤◌, List, [], ◌∷◌, ◌++◌, length, refl, sym, ◌∙◌, ap, arith, append_assoc, append-nil, drop, get_or}
use Rattle.std.specs.List.{join_with_byte}
use Rattle.std.proofs.lemmas.List.{nil_from_length, drop_more}
use Rattle.form_urlencoded.specs.Form.{ampersand}
use Rattle.sky_val.specs.declared.val.Val.{Val}
use Rattle.sky_val.specs.declared.column.Column.{Column}
use Rattle.sky_val.specs.Schemas.{key_columns}
use Rattle.sky_urlenc.specs.Held.{HoldsAll}
use Rattle.sky_urlenc.specs.RowText.{column_texts}

-- pieces, a byte before each
abbrev pub behind_byte : ℕ → List (List ℕ) → List ℕ
behind_byte byte [] = []
behind_byte byte (piece ∷ pieces) = byte ∷ piece ++ behind_byte byte pieces

-- what is left to write of pieces after so many others
abbrev pub left_text : ℕ → List (List ℕ) → List ℕ
left_text zero pieces = join_with_byte ampersand pieces
left_text (suc place) pieces = behind_byte ampersand pieces

-- what is left to write of pieces, with the first of all among them or not
abbrev pub left_from : ℕ → Bool → List (List ℕ) → List ℕ
left_from byte true pieces = join_with_byte byte pieces
left_from byte false pieces = behind_byte byte pieces

pub join-behind : (byte : ℕ) (piece : List ℕ) (pieces : List (List ℕ)) → join_with_byte byte (piece ∷ pieces) ≡ piece ++ behind_byte byte pieces
join-behind byte piece [] = sym (append-nil piece)
join-behind byte piece (next ∷ pieces) = ap (λ rest. piece ++ byte ∷ rest) (join-behind byte next pieces)

left-later : (place : ℕ) (pieces : List (List ℕ)) → 0 < place → left_text place pieces ≡ behind_byte ampersand pieces
left-later zero pieces pos = absurd (omega arith)
left-later (suc place) pieces pos = refl

-- one more piece is written: after the byte, or as the first
pub next_behind : (place : ℕ) (old mid new piece : List ℕ) (pieces : List (List ℕ)) → 0 < place → mid ≡ old ++ ampersand ∷ [] → new ≡ mid ++ piece
    → new ++ left_text (place + 1) pieces ≡ old ++ left_text place (piece ∷ pieces)
next_behind place old mid new piece pieces pos pushed added =
    rw (left-later (place + 1) pieces (omega arith), left-later place (piece ∷ pieces) pos, added, pushed) (simp append_assoc)

pub next_first : (place : ℕ) (old new piece : List ℕ) (pieces : List (List ℕ)) → place ≤ 0 → new ≡ old ++ piece
    → new ++ left_text (place + 1) pieces ≡ old ++ left_text place (piece ∷ pieces)
next_first zero old new piece pieces none added =
    ap (λ text. text ++ behind_byte ampersand pieces) added ∙ append_assoc old piece (behind_byte ampersand pieces) ∙ ap (λ text. old ++ text) (sym (join-behind ampersand piece pieces))
next_first (suc place) old new piece pieces none added = absurd (omega arith)

-- nothing is left to write if one of the lists has ended
left_none : (place : ℕ) → left_text place [] ≡ []
left_none zero = refl
left_none (suc place) = refl

pub left-end : (place : ℕ) (columns : List Column) (row : List Val) → (length columns ≡ 0) ⊎ (length row ≡ 0) → left_text place (column_texts columns row) ≡ []
left-end place columns row (inl none) = ap (λ cs. left_text place (column_texts cs row)) (nil_from_length columns none) ∙ left_none place
left-end place [] row (inr none) = left_none place
left-end place (column ∷ columns) row (inr none) = ap (λ values. left_text place (column_texts (column ∷ columns) values)) (nil_from_length row none) ∙ left_none place

pub none_held : (columns : List Column) (row : List Val) → (length columns ≡ 0) ⊎ (length row ≡ 0) → HoldsAll columns row
none_held [] row ended = tt
none_held (column ∷ columns) [] ended = tt
none_held (column ∷ columns) (v ∷ row) ended = absurd (elim ended [ inl none ↦ omega arith | inr none ↦ omega arith ])

-- one more name is written: as the first, or after the byte
pub next_as_first : (byte : ℕ) (old new piece : List ℕ) (pieces : List (List ℕ)) → new ≡ old ++ piece → new ++ left_from byte false pieces ≡ old ++ left_from byte true (piece ∷ pieces)
next_as_first byte old new piece pieces added =
    ap (λ text. text ++ behind_byte byte pieces) added ∙ append_assoc old piece (behind_byte byte pieces) ∙ ap (λ text. old ++ text) (sym (join-behind byte piece pieces))

pub next_behind_byte : (byte : ℕ) (old mid new piece : List ℕ) (pieces : List (List ℕ)) → mid ≡ old ++ byte ∷ [] → new ≡ mid ++ piece → new ++ left_from byte false pieces ≡ old ++ left_from byte false (piece ∷ pieces)
next_behind_byte byte old mid new piece pieces pushed added = rw (added, pushed) (simp append_assoc)

-- the next column is the first of the key columns that are left
pub key_next : (columns : List Column) (place : ℕ) (column : Column) → place < length columns → column ≡ get_or columns place column → column.key ≡ true
    → key_columns (drop place columns) ≡ column ∷ key_columns (drop (place + 1) columns)
key_next columns place column within is key = grind (arith, is, key, drop_more columns place column within)
