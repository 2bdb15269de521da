-- The words that the grammar takes are whole: joined by spaces they make a line of just these words.
use Rattle.std.proofs.Common.{◌≡◌, ℕ, ◌+◌, ◌-◌, ◌==◌, Bool, true, false, not, ◌&&◌, List, [], ◌∷◌, ◌++◌, length, take, drop, Option, Some, None, refl, sym, ap, ◌∙◌, arith, bytes_eq, nat_le, take-append-drop}
use Rattle.std.proofs.lemmas.Bool.{not-true, and_parts, and_from}
use Rattle.std.proofs.lemmas.Bool.Decides.{nat_tests}
use Rattle.std.proofs.lemmas.Slice.Eq.{bytes_eq-Decides}
use Rattle.std.specs.Char.{is_ascii_digit}
use Rattle.std.specs.List.{list_all, onto_first}
use Rattle.sky_model.specs.Words.{is_parting, quoted_after, with_first, pieces, words}
use Rattle.sky_val.specs.Numbers.{is_number}
use Rattle.sky_model.specs.Kinds.{is_bare, is_bare_word, continues_name, is_identifier, is_name, names_around, first_place, is_dotted, between_commas}
use Rattle.sky_model.proofs.NameLemmas.{list_all-is_identifier, around_first}

-- over these bytes no space separates words, and no quote is open after them
abbrev pub whole : Bool → List ℕ → Bool
whole quoted [] = not quoted
whole quoted (b ∷ bs) = not (is_parting quoted b) && whole (quoted_after quoted b) bs

-- a whole word and a space come before the words after the space
pieces-whole_space : (quoted : Bool) (w rest : List ℕ) → whole quoted w ≡ true → pieces quoted (w ++ 32 ∷ rest) ≡ w ∷ words rest
pieces-whole_space true [] rest so = absurd (cc)
pieces-whole_space false [] rest so = refl
pieces-whole_space quoted (b ∷ w) rest so =
    let parts = and_parts (not (is_parting quoted b)) (whole (quoted_after quoted b) w) so in
    rw (not-true (is_parting quoted b) parts.0) (ap (with_first b) (pieces-whole_space (quoted_after quoted b) w rest parts.1))

-- a whole word alone is one word
pieces-whole : (quoted : Bool) (w : List ℕ) → whole quoted w ≡ true → pieces quoted w ≡ w ∷ []
pieces-whole quoted [] so = refl
pieces-whole quoted (b ∷ w) so =
    let parts = and_parts (not (is_parting quoted b)) (whole (quoted_after quoted b) w) so in
    rw (not-true (is_parting quoted b) parts.0) (ap (with_first b) (pieces-whole (quoted_after quoted b) w parts.1))

abbrev pub AllWhole : List (List ℕ) → Type 0
AllWhole [] = Unit {0}
AllWhole (w ∷ ws) = (whole false w ≡ true) × AllWhole ws

-- words with a space between each two
abbrev pub joined : List (List ℕ) → List ℕ
joined [] = []
joined (w ∷ []) = w
joined (w ∷ v ∷ ws) = w ++ 32 ∷ joined (v ∷ ws)

pub words-joined : (w : List ℕ) (ws : List (List ℕ)) → AllWhole (w ∷ ws) → words (joined (w ∷ ws)) ≡ w ∷ ws
words-joined w [] so = pieces-whole false w so.0
words-joined w (v ∷ ws) so = pieces-whole_space false w (joined (v ∷ ws)) so.0 ∙ ap (λ vs. w ∷ vs) (words-joined v ws so.1)

pub whole-append : (quoted : Bool) (front back : List ℕ) → whole quoted front ≡ true → whole false back ≡ true → whole quoted (front ++ back) ≡ true
whole-append true [] back front_so back_so = absurd (cc)
whole-append false [] back front_so back_so = back_so
whole-append quoted (b ∷ front) back front_so back_so = grind (arith, whole-append (quoted_after quoted b) front back)

-- neither a quote nor a space
abbrev pub IsPlain : ℕ → Type 0
IsPlain b = ((b == 39) ≡ false) × ((b == 32) ≡ false)

whole-list_all : (p : ℕ → Bool) → ((b : ℕ) → p b ≡ true → IsPlain b) → (bs : List ℕ) → list_all p bs ≡ true → whole false bs ≡ true
whole-list_all p plain [] so = refl
whole-list_all p plain (b ∷ bs) so = grind (arith, plain b, whole-list_all p plain bs)

continues_name-plain : (b : ℕ) → continues_name b ≡ true → IsPlain b
continues_name-plain b so = (grind (arith, nat_tests), grind (arith, nat_tests))

is_ascii_digit-plain : (b : ℕ) → is_ascii_digit b ≡ true → IsPlain b
is_ascii_digit-plain b so = (grind (arith, nat_tests), grind (arith, nat_tests))

whole-is_identifier : (w : List ℕ) → is_identifier w ≡ true → whole false w ≡ true
whole-is_identifier w so = whole-list_all continues_name continues_name-plain w (list_all-is_identifier w so)

whole-names_around : (w : List ℕ) (dot : Option ℕ) → first_place 46 w ≡ dot → names_around dot w ≡ true → whole false w ≡ true
whole-names_around w None is so = whole-is_identifier w so
whole-names_around w (Some dot) is so =
    let parts = and_parts (is_identifier (take dot w)) (is_identifier (drop (dot + 1) w)) so in
    ap (whole false) (sym (around_first 46 w dot is)) ∙ whole-append false (take dot w) (46 ∷ drop (dot + 1) w) (whole-is_identifier (take dot w) parts.0) (whole-is_identifier (drop (dot + 1) w) parts.1)

pub whole-is_number : (w : List ℕ) → is_number w ≡ true → whole false w ≡ true
whole-is_number [] so = refl
whole-is_number (b ∷ bs) so = grind (arith, whole-list_all is_ascii_digit is_ascii_digit-plain (b ∷ bs))

is_bare-plain : (b : ℕ) → is_bare b ≡ true → IsPlain b
is_bare-plain b so = (grind (arith, nat_tests), grind (arith, nat_tests))

pub whole-is_bare_word : (w : List ℕ) → is_bare_word w ≡ true → whole false w ≡ true
whole-is_bare_word [] so = refl
whole-is_bare_word (b ∷ bs) so = whole-list_all is_bare is_bare-plain (b ∷ bs) so

-- a name is whole
pub whole-is_name : (w : List ℕ) → is_name w ≡ true → whole false w ≡ true
whole-is_name w so = whole-is_identifier w (and_parts (nat_le (length w) 63) (is_identifier w) so).1

pub whole-is_dotted : (w : List ℕ) → is_dotted w ≡ true → whole false w ≡ true
whole-is_dotted w so = whole-names_around w (first_place 46 w) refl (and_parts (nat_le (length w) 63) (names_around (first_place 46 w) w) so).1

-- a word is whole if what is around a byte of it is
pub whole-around : (mark : ℕ) (w : List ℕ) (at : ℕ) → IsPlain mark → first_place mark w ≡ Some at → whole false (take at w) ≡ true → whole false (drop (at + 1) w) ≡ true → whole false w ≡ true
whole-around mark w at plain is front back =
    ap (whole false) (sym (around_first mark w at is)) ∙ whole-append false (take at w) (mark ∷ drop (at + 1) w) front (rw (plain.0, plain.1) back)

-- a word is whole if what comes before its last byte is, and that byte
pub whole-last : (w last : List ℕ) → bytes_eq (drop (length w - 1) w) last ≡ true → whole false last ≡ true → whole false (take (length w - 1) w) ≡ true → whole false w ≡ true
whole-last w last is last_so front_so =
    let front : List ℕ = take (length w - 1) w in
    let back : List ℕ = drop (length w - 1) w in
    let all : front ++ last ≡ w = ap (λ b. front ++ b) (sym ((bytes_eq-Decides back last).0 is)) ∙ take-append-drop (length w - 1) w in
    ap (whole false) (sym all) ∙ whole-append false front last front_so last_so

-- every byte of these is allowed in a name
abbrev pub continues_all : List (List ℕ) → Bool
continues_all ws = list_all (λ w. list_all continues_name w) ws

pub continues_all-is_name : (ws : List (List ℕ)) → list_all is_name ws ≡ true → continues_all ws ≡ true
continues_all-is_name [] so = refl
continues_all-is_name (w ∷ ws) so = grind (arith, list_all-is_identifier w, continues_all-is_name ws)

continues_all-onto_first : (b : ℕ) (ws : List (List ℕ)) → continues_all (onto_first b ws) ≡ true → (continues_name b ≡ true) × (continues_all ws ≡ true)
continues_all-onto_first b [] so = ((and_parts (continues_name b) true (and_parts (list_all continues_name (b ∷ [])) true so).0).0, refl)
continues_all-onto_first b (w ∷ ws) so =
    let parts = and_parts (list_all continues_name (b ∷ w)) (continues_all ws) so in
    let here = and_parts (continues_name b) (list_all continues_name w) parts.0 in
    (here.0, and_from (list_all continues_name w) (continues_all ws) here.1 parts.1)

-- a word is whole if only such bytes are between its commas
pub whole-between_commas : (w : List ℕ) → continues_all (between_commas w) ≡ true → whole false w ≡ true
whole-between_commas [] so = refl
whole-between_commas (b ∷ bs) so = grind (arith, nat_tests, whole-between_commas bs, continues_all-onto_first b (between_commas bs), continues_name-plain b)
