-- How the command reads the words that it is given.
use Rattle.std.proofs.Common.{◌≡◌, ◌||◌, ℕ, List, [], ◌∷◌, Bool, Option, Some, None, true, false, refl, sym, ap, ap₂, subst, String, string_bytes, ◌≤◌, arith, length, nat_lt, ltb-false, ◌∙◌, codes, true≢false}
use Rattle.std.specs.List.{AllByRecursion, list_any}
use Rattle.std.specs.Option.{option_map}
use Rattle.std.specs.Str.{bytes_eq}
use Rattle.std.proofs.lemmas.Bool.{false_from_ne_true}
use Rattle.std.proofs.lemmas.List.{length-map}
use Rattle.std.proofs.lemmas.Slice.Eq.{bytes_eq-Decides}
use Rattle.clap.specs.Lexer.{strip_byte}
use Rattle.clap.specs.Words.{first_value, is_simple, matched_of, matches_of, raw_values, rows_of, takes}
use Rattle.clap.specs.declared.parser.matches.Found.{Found}
use Rattle.clap.proofs.OnLiterals.{clap_on_literals}
use Rattle.clap.proofs.WalkLemmas.{first_value-rows, list_any-map, raw_values-rows}
use Rattle.sky_model.specs.Transcript.{is_run}
use Rattle.sky_program.specs.Statuses.{texts}
use Rattle.sky_program.specs.Words.{app, begins_with_dash, is_refused, mode_in, says_run, values_in}

pub app_is_simple : is_simple app ≡ true
app_is_simple = refl

takes_run : takes app (codes "run" ∷ []) ≡ true
unfolding clap_on_literals
takes_run = refl

-- the word is read as it is
record Plain (word : List ℕ) : Type 0 where
  no_flag : strip_byte 45 word ≡ None
  no_end : bytes_eq word (45 ∷ 45 ∷ []) ≡ false

plain : (word : List ℕ) → begins_with_dash word ≡ false → Plain word
plain [] h = record { no_flag = refl; no_end = refl }
plain (x ∷ xs) h = record { no_flag = rw h refl; no_end = rw h refl }

neither : (a b : Bool) → (a || b) ≡ false → (a ≡ false) × (b ≡ false)
neither false b h = (refl, h)
neither true b h = absurd (true≢false h)

plain_words : (words : List (List ℕ)) → list_any begins_with_dash words ≡ false → AllByRecursion Plain words
plain_words [] h = tt
plain_words (x ∷ xs) h =
    let parts = neither (begins_with_dash x) _ h in
    (plain x parts.0, plain_words xs parts.1)

-- the words after the first, if there are any
abbrev rest : List (List ℕ) → Option (List (List ℕ))
rest [] = None
rest (x ∷ xs) = Some (x ∷ xs)

-- the mode and the values that words are read as
abbrev read : List (List ℕ) → Option (List ℕ) × Option (List (List ℕ))
read words = (mode_in (matches_of app words), values_in (matches_of app words))

-- those of a few plain words are the first word, and the others
read_words : (x : List ℕ) (xs : List (List ℕ)) → length (x ∷ xs) ≤ 4 → AllByRecursion Plain (x ∷ xs) → read (x ∷ xs) ≡ (Some x, rest xs)
unfolding clap_on_literals
read_words x [] few (a, _) = simp (a.no_flag, a.no_end) refl
read_words x (y ∷ []) few (a, (b, _)) = simp (a.no_flag, a.no_end, b.no_flag, b.no_end) refl
read_words x (y ∷ z ∷ []) few (a, (b, (c, _))) = simp (a.no_flag, a.no_end, b.no_flag, b.no_end, c.no_flag, c.no_end) refl
read_words x (y ∷ z ∷ w ∷ []) few (a, (b, (c, (d, _)))) = simp (a.no_flag, a.no_end, b.no_flag, b.no_end, c.no_flag, c.no_end, d.no_flag, d.no_end) refl
read_words x (y ∷ z ∷ w ∷ v ∷ xs) few p = absurd (omega arith)

says_run_words : (words : List (List ℕ)) → length words ≤ 4 → AllByRecursion Plain words → says_run (mode_in (matches_of app words)) (values_in (matches_of app words)) ≡ is_run words
unfolding clap_on_literals
says_run_words [] few p = refl
says_run_words (x ∷ []) few p = ap (λ q. says_run q.0 q.1) (read_words x [] few p)
says_run_words (x ∷ y ∷ xs) few p = ap (λ q. says_run q.0 q.1) (read_words x (y ∷ xs) few p)

-- words that aren't refused say `run` if and only if they are that word
pub says_run_texts : {A : Type 0} (words : List (String A)) → is_refused words ≡ false
    → says_run (mode_in (matches_of app (texts words))) (values_in (matches_of app (texts words))) ≡ is_run (texts words)
says_run_texts words h =
    let parts = neither (nat_lt 4 (length words)) _ h in
    let few : length words ≤ 4 = ltb-false 4 (length words) parts.0 in
    says_run_words (texts words) (subst (λ n. n ≤ 4) (sym (length-map words string_bytes)) few)
    (plain_words (texts words) (sym (list_any-map begins_with_dash string_bytes words) ∙ parts.1))

-- words that are refused aren't the one word `run`
pub refused_texts : {A : Type 0} (words : List (String A)) → is_refused words ≡ true → false ≡ is_run (texts words)
refused_texts [] h = refl
refused_texts (x ∷ []) h = sym (false_from_ne_true _ (λ is.
    let run = (bytes_eq-Decides (string_bytes x) (codes "run")).0 is in
    let dash : false ≡ true = subst (λ word. (begins_with_dash word || false) ≡ true) run h in
    true≢false (sym dash)))
refused_texts (x ∷ y ∷ xs) h = refl

-- the one word `run` is accepted
takes_if_run : (words : List (List ℕ)) → is_run words ≡ true → takes app words ≡ true
takes_if_run [] h = absurd (true≢false (sym h))
takes_if_run (x ∷ []) h = rw ((bytes_eq-Decides x (codes "run")).0 h) takes_run
takes_if_run (x ∷ y ∷ xs) h = absurd (true≢false (sym h))

pub not_run : (words : List (List ℕ)) → ¬ (takes app words ≡ true) → false ≡ is_run words
not_run words refused = sym (false_from_ne_true (is_run words) (λ h. refused (takes_if_run words h)))

-- the getters read the rows
pub says_run-found : (found : Found) (mode : Option (List ℕ)) (values : Option (List (List ℕ))) → mode ≡ first_value found (codes "mode")
    → values ≡ option_map raw_values (matched_of found (codes "values")) → says_run mode values ≡ says_run (mode_in (rows_of found)) (values_in (rows_of found))
says_run-found found mode values a b = ap₂ says_run (a ∙ first_value-rows found (codes "mode")) (b ∙ raw_values-rows found (codes "values"))
