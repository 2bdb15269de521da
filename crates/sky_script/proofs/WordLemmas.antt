-- Going over the bytes of a line up to the space that ends its first word.
use Rattle.std.proofs.Common.{◌≡◌, ◌≢◌, ◌==◌, ◌&&◌, not, ℕ, ◌+◌, ◌<◌, ◌≤◌, Bool, true, false, cond, List, [], ◌∷◌, ◌++◌, length, take, drop, get_or, refl, subst, sym, ap, ◌∙◌, append_assoc, arith}
use Rattle.std.proofs.lemmas.Bool.{and_parts, not-true, ne_eqb}
use Rattle.std.proofs.lemmas.List.{drop_more, take_more, take_all, append-nil, take-append-drop}
use Rattle.std.proofs.Math.ListN.{drop_of_length-le}
use Rattle.std.specs.List.{list_all, slice_range}
use Rattle.sky_model.specs.Kinds.{is_text_byte}
use Rattle.sky_model.specs.Words.{is_parting, quoted_after, with_first, pieces, words}
use Rattle.sky_script.specs.Unread.{in_quotes, EndsWord}

-- pieces with these bytes in front of the first
abbrev pub behind : List ℕ → List (List ℕ) → List (List ℕ)
behind front [] = front ∷ []
behind front (w ∷ ws) = (front ++ w) ∷ ws

behind-with_first : (front : List ℕ) (b : ℕ) (ps : List (List ℕ)) → behind front (with_first b ps) ≡ behind (front ++ b ∷ []) ps
behind-with_first front b [] = refl
behind-with_first front b (w ∷ ws) = ap (λ v. v ∷ ws) (sym (append_assoc front (b ∷ []) w))

behind-nil-with_first : (b : ℕ) (ps : List (List ℕ)) → behind [] (with_first b ps) ≡ with_first b ps
behind-nil-with_first b [] = refl
behind-nil-with_first b (w ∷ ws) = refl

behind-nil-pieces : (quoted : Bool) (bs : List ℕ) → behind [] (pieces quoted bs) ≡ pieces quoted bs
behind-nil-pieces quoted [] = refl
behind-nil-pieces quoted (b ∷ bs) =
    elim (is_parting quoted b) as (λ v. behind [] (cond v ([] ∷ pieces false bs) (with_first b (pieces (quoted_after quoted b) bs))) ≡ cond v ([] ∷ pieces false bs) (with_first b (pieces (quoted_after quoted b) bs))) [
      | true ↦ refl
      | false ↦ behind-nil-with_first b (pieces (quoted_after quoted b) bs)
    ]

-- no space has ended the first word before this place, and `quoted` says whether a quote is open there
pub record Reaches (bytes : List ℕ) (quoted : Bool) (i : ℕ) : Type 0 where
  pub so_far : words bytes ≡ behind (take i bytes) (pieces quoted (drop i bytes))

pub reaches_none : (bytes : List ℕ) → Reaches bytes false 0
reaches_none bytes = record { so_far = sym (behind-nil-pieces false bytes) }

pub reaches_more : (bytes : List ℕ) (quoted : Bool) (i : ℕ) → i < length bytes → is_parting quoted (get_or bytes i 0) ≡ false → Reaches bytes quoted i → Reaches bytes (quoted_after quoted (get_or bytes i 0)) (i + 1)
reaches_more bytes quoted i inside goes so =
    let b : ℕ = get_or bytes i 0 in
    let rest : List ℕ = drop (i + 1) bytes in
    let here : pieces quoted (b ∷ rest) ≡ with_first b (pieces (quoted_after quoted b) rest) = rw goes refl in
    record { so_far = so.so_far ∙ ap (λ bs. behind (take i bytes) (pieces quoted bs)) (drop_more bytes i 0 inside) ∙ ap (behind (take i bytes)) here ∙ behind-with_first (take i bytes) b (pieces (quoted_after quoted b) rest) ∙ ap (λ front. behind front (pieces (quoted_after quoted b) rest)) (sym (take_more bytes i 0 inside)) }

pub reaches_end : (bytes : List ℕ) (quoted : Bool) (i : ℕ) → i < length bytes → is_parting quoted (get_or bytes i 0) ≡ true → Reaches bytes quoted i → words bytes ≡ take i bytes ∷ words (drop (i + 1) bytes)
reaches_end bytes quoted i inside ends so =
    let b : ℕ = get_or bytes i 0 in
    let rest : List ℕ = drop (i + 1) bytes in
    let here : pieces quoted (b ∷ rest) ≡ [] ∷ words rest = rw ends refl in
    so.so_far ∙ ap (λ bs. behind (take i bytes) (pieces quoted bs)) (drop_more bytes i 0 inside) ∙ ap (behind (take i bytes)) here ∙ ap (λ front. front ∷ words rest) (append-nil (take i bytes))

pub reaches_all : (bytes : List ℕ) (quoted : Bool) (i : ℕ) → length bytes ≤ i → Reaches bytes quoted i → words bytes ≡ bytes ∷ []
reaches_all bytes quoted i done so =
    so.so_far ∙ ap (λ front. behind front (pieces quoted (drop i bytes))) (take_all i bytes done) ∙ ap (λ bs. behind bytes (pieces quoted bs)) (drop_of_length-le bytes done) ∙ ap (λ front. front ∷ []) (append-nil bytes)

and_false : (a : Bool) → (a && false) ≡ false
and_false true = refl
and_false false = refl

-- a byte that is neither a space nor a quote ends no word and opens no quote
pub reaches_plain : (bytes : List ℕ) (quoted : Bool) (i : ℕ) → i < length bytes → get_or bytes i 0 ≢ 32 → get_or bytes i 0 ≢ 39 → Reaches bytes quoted i → Reaches bytes quoted (i + 1)
reaches_plain bytes quoted i inside no_space no_quote so =
    let b : ℕ = get_or bytes i 0 in
    let goes : is_parting quoted b ≡ false = ap (λ v. not quoted && v) (ne_eqb b 32 no_space) ∙ and_false (not quoted) in
    let same : quoted_after quoted b ≡ quoted = ap (λ v. cond v (not quoted) quoted) (ne_eqb b 39 no_quote) in
    subst (λ q. Reaches bytes q (i + 1)) same (reaches_more bytes quoted i inside goes so)

-- and so is each byte above a quote
pub reaches_above : (bytes : List ℕ) (quoted : Bool) (i : ℕ) → i < length bytes → 39 < get_or bytes i 0 → Reaches bytes quoted i → Reaches bytes quoted (i + 1)
reaches_above bytes quoted i inside above so = reaches_plain bytes quoted i inside (λ is. omega (arith, is, above)) (λ is. omega (arith, is, above)) so

-- a space outside quotes ends the word
pub ends_at : (bytes : List ℕ) (i : ℕ) → i < length bytes → get_or bytes i 0 ≡ 32 → Reaches bytes false i → EndsWord i bytes
ends_at bytes i inside space so = record {
  within = omega arith;
  space = λ _. space;
  parted = λ _. reaches_end bytes false i inside (rw space refl) so;
  whole = λ is. absurd (omega (arith, is, inside));
}

-- and so does the end
pub ends_at_end : (bytes : List ℕ) (quoted : Bool) (i : ℕ) → length bytes ≤ i → Reaches bytes quoted i → EndsWord (length bytes) bytes
ends_at_end bytes quoted i done so = record {
  within = omega arith;
  space = λ less. absurd (omega (arith, less));
  parted = λ less. absurd (omega (arith, less));
  whole = λ _. reaches_all bytes quoted i done so;
}

-- a text without a quote, from after its opening quote on: its closing quote is in the same word
pieces_in_quotes : (text tail : List ℕ) (rest : List (List ℕ)) → list_all (λ b. not (b == 39) && is_text_byte b) text ≡ true → pieces false tail ≡ [] ∷ rest
    → pieces true (text ++ 39 ∷ tail) ≡ (text ++ 39 ∷ []) ∷ rest
pieces_in_quotes [] tail rest all ends = ap (with_first 39) ends
pieces_in_quotes (b ∷ bs) tail rest all ends =
    let here = and_parts (not (b == 39) && is_text_byte b) (list_all (λ b. not (b == 39) && is_text_byte b) bs) all in
    let no_quote : (b == 39) ≡ false = not-true (b == 39) (and_parts (not (b == 39)) (is_text_byte b) here.0).0 in
    rw no_quote (ap (with_first b) (pieces_in_quotes bs tail rest here.1 ends))

-- a text in quotes, of bytes that stand for themselves, is the first word if its closing quote is the last byte or a space follows it
pub first_in_quotes : (line inside : List ℕ) (end : ℕ) (rest : List (List ℕ)) → line ≡ 39 ∷ inside → list_all (λ b. not (b == 39) && is_text_byte b) (take end inside) ≡ true
    → end < length inside → get_or inside end 0 ≡ 39 → pieces false (drop (end + 1) inside) ≡ [] ∷ rest → words line ≡ in_quotes (take end inside) ∷ rest
first_in_quotes line inside end rest begins all within closes ends =
    let parts : inside ≡ take end inside ++ 39 ∷ drop (end + 1) inside =
    sym (take-append-drop end inside) ∙ ap (λ bs. take end inside ++ bs) (drop_more inside end 0 within ∙ ap (λ b. b ∷ drop (end + 1) inside) closes) in
    let same : line ≡ 39 ∷ (take end inside ++ 39 ∷ drop (end + 1) inside) = begins ∙ ap (λ bs. 39 ∷ bs) parts in
    ap words same ∙ ap (with_first 39) (pieces_in_quotes (take end inside) (drop (end + 1) inside) rest all ends)

-- what follows the closing quote: nothing, or a space and the further words
pub ends_line : (bs : List ℕ) (end : ℕ) → length bs ≤ end → pieces false (drop end bs) ≡ [] ∷ []
ends_line bs end none = ap (pieces false) (drop_of_length-le bs none)

pub ends_word : (bs : List ℕ) (end next : ℕ) → end + 1 ≡ next → end < length bs → get_or bs end 0 ≡ 32 → pieces false (drop end bs) ≡ [] ∷ words (drop next bs)
ends_word bs end next is within space = ap (pieces false) (drop_more bs end 0 within ∙ ap (λ b. b ∷ drop (end + 1) bs) space) ∙ ap (λ n. [] ∷ words (drop n bs)) is

-- a part from the start on is the first bytes
pub slice_front : (xs : List ℕ) (n : ℕ) → slice_range xs 0 n ≡ take n xs
slice_front xs n = ap (λ m. take m xs) (omega arith)

-- what follows the first byte
pub after_first : (line rest inside : List ℕ) (b first : ℕ) → line ≡ b ∷ rest → b ≡ first → inside ≡ drop 1 line → line ≡ first ∷ inside
after_first line rest inside b first begins opens behind =
    let same : inside ≡ rest = behind ∙ ap (drop 1) begins in
    begins ∙ ap (λ c. c ∷ rest) opens ∙ ap (λ bs. first ∷ bs) (sym same)
