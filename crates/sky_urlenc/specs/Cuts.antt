-- Where a text is cut.
use Rattle.std.specs.Prelude.{ℕ, ◌+◌, ◌==◌, List, [], take, drop, Option, None, Some}
use Rattle.std.specs.List.{position}
use Rattle.form_urlencoded.specs.Form.{ampersand}

-- what comes before the first `&`, which is at this place, and what comes after it; if there is none, the whole and nothing
abbrev pub first_piece_at : Option ℕ → List ℕ → List ℕ × List ℕ
first_piece_at None text = (text, [])
first_piece_at (Some place) text = (take place text, drop (place + 1) text)

abbrev pub first_piece : List ℕ → List ℕ × List ℕ
first_piece text = first_piece_at (position (λ b. b == ampersand) text) text
