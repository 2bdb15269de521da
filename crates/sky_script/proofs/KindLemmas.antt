-- Going over the bytes of a quoted text.
use Rattle.std.proofs.Common.{◌≡◌, ◌≢◌, ◌==◌, ◌&&◌, ℕ, ◌+◌, ◌-◌, ◌<◌, ◌≤◌, Bool, true, false, not, cond, List, [], ◌∷◌, ◌++◌, length, take, drop, get_or, refl, sym, ap, ◌∙◌, append_assoc, arith, Option, Some, None, option_map}
use Rattle.std.proofs.lemmas.List.{drop_more, take_more, get_or-drop, length-drop, append-nil}
use Rattle.std.proofs.Math.ListN.{drop_of_length-le}
use Rattle.std.proofs.lemmas.Bool.{and_parts, ne_eqb}
use Rattle.std.proofs.Math.Seq.{take-append_seam}
use Rattle.std.specs.List.{list_all, slice_range}
use Rattle.std.specs.Str.{IsUtf8, IsCharBoundary}
use Rattle.std.proofs.lemmas.Str.{is_utf8-from_IsUtf8, IsCharBoundary-before_ascii}
use Rattle.sky_model.specs.Kinds.{is_text_byte, text_from, in_characters, quoted_text}

-- bytes that are characters are a text
pub in_characters_utf8 : (bs : List ℕ) → IsUtf8 bs → in_characters (Some bs) ≡ Some bs
in_characters_utf8 bs text = rw (is_utf8-from_IsUtf8 bs text) refl

-- the text of a word that begins with the opening quote
pub quoted_text_of : (word rest inside text : List ℕ) (b : ℕ) → word ≡ b ∷ rest → b ≡ 39 → inside ≡ drop 1 word → text_from false inside ≡ Some text → IsUtf8 text
    → quoted_text word ≡ Some text
quoted_text_of word rest inside text b begins opens behind is utf8 =
    let same : inside ≡ rest = behind ∙ ap (drop 1) begins in
    rw (begins, opens) (ap in_characters (ap (text_from false) (sym same) ∙ is) ∙ in_characters_utf8 text utf8)

-- a part that ends where it begins is empty
slice_same : (xs : List ℕ) (i : ℕ) → slice_range xs i i ≡ []
slice_same xs i = let none : i - i ≡ 0 = omega arith in rw none refl

-- a part that ends after a byte is the part up to it, and that byte
slice_more : (xs : List ℕ) (from i : ℕ) → from ≤ i → i < length xs → slice_range xs from (i + 1) ≡ slice_range xs from i ++ get_or xs i 0 ∷ []
slice_more xs from i order within =
    let count : (i + 1) - from ≡ (i - from) + 1 = omega arith in
    let place : from + (i - from) ≡ i = omega arith in
    let last : get_or (drop from xs) (i - from) 0 ≡ get_or xs i 0 = get_or-drop from xs (i - from) 0 ∙ ap (λ j. get_or xs j 0) place in
    ap (λ n. take n (drop from xs)) count ∙ take_more (drop from xs) (i - from) 0 (omega (arith, length-drop from xs)) ∙ ap (λ b. take (i - from) (drop from xs) ++ b ∷ []) last

-- a text so far goes in front of what follows
abbrev pub before : List ℕ → Option (List ℕ) → Option (List ℕ)
before text rest = option_map (λ more. text ++ more) rest

-- the bytes before this place give this text, and `quote` says whether the last one is a quote that is open to either meaning
pub record Unquotes (inside text : List ℕ) (quote : Bool) (i : ℕ) : Type 0 where
  pub so_far : text_from false inside ≡ before text (text_from quote (drop i inside))

before-first : (text : List ℕ) (b : ℕ) (rest : Option (List ℕ)) → before text (option_map (λ more. b ∷ more) rest) ≡ before (text ++ b ∷ []) rest
before-first text b None = refl
before-first text b (Some more) = ap (λ t. Some t) (sym (append_assoc text (b ∷ []) more))

-- a quote is the second of two, and is in the text, or else the first or the closing one
unquotes_quote : (inside text : List ℕ) (quote : Bool) (i : ℕ) → i < length inside → get_or inside i 0 ≡ 39 → Unquotes inside text quote i → Unquotes inside (cond quote (text ++ 39 ∷ []) text) (not quote) (i + 1)
unquotes_quote inside text true i within here so =
    let rest : List ℕ = drop (i + 1) inside in
    let two : text_from true (get_or inside i 0 ∷ rest) ≡ option_map (λ more. 39 ∷ more) (text_from false rest) = rw here refl in
    record { so_far = so.so_far ∙ ap (λ bs. before text (text_from true bs)) (drop_more inside i 0 within) ∙ ap (before text) two ∙ before-first text 39 (text_from false rest) }
unquotes_quote inside text false i within here so =
    let rest : List ℕ = drop (i + 1) inside in
    let one : text_from false (get_or inside i 0 ∷ rest) ≡ text_from true rest = rw here refl in
    record { so_far = so.so_far ∙ ap (λ bs. before text (text_from false bs)) (drop_more inside i 0 within) ∙ ap (before text) one }

-- a byte that stands for itself
unquotes_byte : (inside text : List ℕ) (quote : Bool) (i : ℕ) → i < length inside → quote ≡ false → get_or inside i 0 ≢ 39 → get_or inside i 0 ≢ 10 → get_or inside i 0 ≢ 0 → Unquotes inside text quote i → Unquotes inside (text ++ get_or inside i 0 ∷ []) quote (i + 1)
unquotes_byte inside text true i within closed no_quote no_feed no_zero so = absurd (cc)
unquotes_byte inside text false i within closed no_quote no_feed no_zero so =
    let b : ℕ = get_or inside i 0 in
    let rest : List ℕ = drop (i + 1) inside in
    let plain : text_from false (b ∷ rest) ≡ option_map (λ more. b ∷ more) (text_from false rest) = rw (ne_eqb b 39 no_quote, ne_eqb b 10 no_feed, ne_eqb b 0 no_zero) refl in
    record { so_far = so.so_far ∙ ap (λ bs. before text (text_from false bs)) (drop_more inside i 0 within) ∙ ap (before text) plain ∙ before-first text b (text_from false rest) }

-- the text so far, to which the bytes from a place on are still to be added, unless the last one is a quote that is open to either meaning
abbrev pub text_so_far : List ℕ → List ℕ → Bool → ℕ → ℕ → List ℕ
text_so_far inside text quote from i = cond quote text (text ++ slice_range inside from i)

before-nil : (r : Option (List ℕ)) → before [] r ≡ r
before-nil None = refl
before-nil (Some more) = refl

-- nothing has been read
pub unquotes_none : (inside text : List ℕ) → text ≡ [] → Unquotes inside (text_so_far inside text false 0 0) false 0
unquotes_none inside text none = rw none record { so_far = sym (before-nil (text_from false inside)) }

-- after the second of two quotes, that quote is still to be added
pub unquotes_second : (inside text : List ℕ) (quote : Bool) (from i : ℕ) → quote ≡ true → i < length inside → get_or inside i 0 ≡ 39
    → Unquotes inside (text_so_far inside text quote from i) quote i → Unquotes inside (text_so_far inside text false i (i + 1)) false (i + 1)
unquotes_second inside text true from i is within here so =
    let piece : slice_range inside i (i + 1) ≡ 39 ∷ [] = slice_more inside i i (omega arith) within ∙ rw (slice_same inside i, here) refl in
    rw piece (unquotes_quote inside text true i within here so)
unquotes_second inside text false from i is within here so = absurd (cc)

-- at the first of two quotes, or the closing one, what was before it is added
pub unquotes_first : (inside text : List ℕ) (quote : Bool) (from i : ℕ) → quote ≡ false → i < length inside → get_or inside i 0 ≡ 39
    → Unquotes inside (text_so_far inside text quote from i) quote i → Unquotes inside (text ++ slice_range inside from i) true (i + 1)
unquotes_first inside text true from i is within here so = absurd (cc)
unquotes_first inside text false from i is within here so = unquotes_quote inside (text ++ slice_range inside from i) false i within here so

-- a byte that stands for itself is still to be added
pub unquotes_plain : (inside text : List ℕ) (quote : Bool) (from i : ℕ) → quote ≡ false → from ≤ i → i < length inside
    → get_or inside i 0 ≢ 39 → get_or inside i 0 ≢ 10 → get_or inside i 0 ≢ 0
    → Unquotes inside (text_so_far inside text quote from i) quote i → Unquotes inside (text_so_far inside text quote from (i + 1)) quote (i + 1)
unquotes_plain inside text true from i is order within no_quote no_feed no_zero so = absurd (cc)
unquotes_plain inside text false from i is order within no_quote no_feed no_zero so =
    let front : List ℕ = slice_range inside from i in
    let longer : text ++ slice_range inside from (i + 1) ≡ (text ++ front) ++ get_or inside i 0 ∷ [] =
    ap (λ piece. text ++ piece) (slice_more inside from i order within) ∙ sym (append_assoc text front (get_or inside i 0 ∷ [])) in
    rw longer (unquotes_byte inside (text ++ front) false i within refl no_quote no_feed no_zero so)

-- at the end, after the closing quote, the text is complete
pub unquotes_closed : (inside text : List ℕ) (quote : Bool) (from i : ℕ) → quote ≡ true → length inside ≤ i
    → Unquotes inside (text_so_far inside text quote from i) quote i → Some text ≡ text_from false inside
unquotes_closed inside text true from i is done so =
    sym (so.so_far ∙ ap (λ bs. before text (text_from true bs)) (drop_of_length-le inside done) ∙ ap (λ t. Some t) (append-nil text))
unquotes_closed inside text false from i is done so = absurd (cc)

-- and with no closing quote before the end there is no text
pub unquotes_open : (inside text : List ℕ) (quote : Bool) (from i : ℕ) → quote ≡ false → length inside ≤ i
    → Unquotes inside (text_so_far inside text quote from i) quote i → None ≡ text_from false inside
unquotes_open inside text true from i is done so = absurd (cc)
unquotes_open inside text false from i is done so =
    sym (so.so_far ∙ ap (λ bs. before (text ++ slice_range inside from i) (text_from false bs)) (drop_of_length-le inside done))

-- nor is there one if a byte follows the closing quote
pub unquotes_behind : (inside text : List ℕ) (quote : Bool) (from i : ℕ) → quote ≡ true → i < length inside → get_or inside i 0 ≢ 39
    → Unquotes inside (text_so_far inside text quote from i) quote i → None ≡ text_from false inside
unquotes_behind inside text true from i is within no_quote so =
    let b : ℕ = get_or inside i 0 in
    let rest : List ℕ = drop (i + 1) inside in
    let bad : text_from true (b ∷ rest) ≡ None = rw (ne_eqb b 39 no_quote) refl in
    sym (so.so_far ∙ ap (λ bs. before text (text_from true bs)) (drop_more inside i 0 within) ∙ ap (before text) bad)
unquotes_behind inside text false from i is within no_quote so = absurd (cc)

-- or if a byte is not of a text
pub unquotes_refused : (inside text : List ℕ) (quote : Bool) (from i b : ℕ) → quote ≡ false → i < length inside → get_or inside i 0 ≡ b → (b == 39) ≡ false → is_text_byte b ≡ false
    → Unquotes inside (text_so_far inside text quote from i) quote i → None ≡ text_from false inside
unquotes_refused inside text true from i b is within here no_quote bad so = absurd (cc)
unquotes_refused inside text false from i b is within here no_quote bad so =
    let front : List ℕ = text ++ slice_range inside from i in
    let rest : List ℕ = drop (i + 1) inside in
    let none : text_from false (b ∷ rest) ≡ None = rw (no_quote, bad) refl in
    sym (so.so_far ∙ ap (λ bs. before front (text_from false bs)) (drop_more inside i 0 within ∙ ap (λ a. a ∷ rest) here) ∙ ap (before front) none)

-- a word may be cut before a quote
pub cut_quote : (inside : List ℕ) (i : ℕ) → i < length inside → get_or inside i 0 ≡ 39 → IsCharBoundary inside i
cut_quote inside i within here = IsCharBoundary-before_ascii inside i within (omega (arith, here))

pub below_next : (from i : ℕ) → from ≤ i → from ≤ i + 1
below_next from i order = omega arith

-- bytes that stand for themselves, up to the closing quote, are the text
pub as_written : (text : List ℕ) → list_all (λ b. not (b == 39) && is_text_byte b) text ≡ true → text_from false (text ++ 39 ∷ []) ≡ Some text
as_written [] all = refl
as_written (b ∷ bs) all =
    let here = and_parts (not (b == 39) && is_text_byte b) (list_all (λ b. not (b == 39) && is_text_byte b) bs) all in
    let parts = and_parts (not (b == 39)) (is_text_byte b) here.0 in
    let more = as_written bs here.1 in
    grind (arith, parts, more)

pub text_from_as_written : (inside text : List ℕ) (quote : ℕ) → inside ≡ text ++ quote ∷ [] → quote ≡ 39 → list_all (λ b. not (b == 39) && is_text_byte b) text ≡ true
    → text_from false inside ≡ Some (slice_range inside 0 (length text))
text_from_as_written inside text quote ends closes all =
    let front : slice_range inside 0 (length text) ≡ text = rw ends (ap (λ n. take n (text ++ quote ∷ [])) (omega arith) ∙ take-append_seam text (quote ∷ [])) in
    rw front (rw (ends, closes) (as_written text all))
