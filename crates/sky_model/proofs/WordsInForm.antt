-- A word of a kind is whole, and its value is one that a word of that kind can have.
use Rattle.std.proofs.Common.{◌≡◌, ℕ, zero, suc, ◌+◌, ◌-◌, ◌^◌, ◌<◌, ◌≤◌, ◌==◌, pos, Bool, true, false, not, ◌&&◌, cond, List, [], ◌∷◌, length, take, drop, Option, Some, None, IfSome, option_map, refl, sym, ap, ◌∙◌, arith, codes, bytes_eq, nat_le, FitsSigned, w64, take-append-drop, subst, T}
use Rattle.std.proofs.lemmas.Bool.{and_parts, and_from, eqb-true, leb-true}
use Rattle.std.proofs.lemmas.Bool.Decides.{nat_tests}
use Rattle.std.proofs.lemmas.List.Elements.{All-weaker}
use Rattle.std.proofs.lemmas.List.Sums.{AllPass-from_list_all}
use Rattle.std.proofs.lemmas.Option.{IfSome_then}
use Rattle.std.proofs.lemmas.Slice.Eq.{bytes_eq-Decides}
use Rattle.std.proofs.lemmas.Str.{IsUtf8-from_is_utf8, IsUtf8-from_ascii}
use Rattle.std.specs.List.{list_all, onto_first}
use Rattle.std.specs.Str.{is_utf8, IsAscii}
use Rattle.sky_val.specs.Numbers.{is_number, number_from, number_of, int_of, below_zero}
use Rattle.sky_val.specs.declared.val.Val.TheVariants as val
use Rattle.sky_val.specs.declared.column.ColKind.{ColKind}
use Rattle.sky_model.specs.declared.stmt.Change.{Change}
use Rattle.sky_model.specs.declared.stmt.Change.TheVariants.{To, Add}
use Rattle.sky_val.specs.Intervals.{interval_of}
use Rattle.sky_model.specs.Kinds.{Kind, Name, Dotted, Number, OptText, Raw, Value, Column, Set, Ignore, Advance, longest_advance, value, is_bare, is_bare_word, raw, is_name, is_dotted, first_place, value_of, column_kind, column_around, set_as, set_by, set_around, between_commas, ignore_of, is_text_byte, text_from, in_characters, quoted_text, opt_text, advance_by, advance_in, advance_of}
use Rattle.sky_model.specs.InForm.{IsQuotable, IsOptText, IsValue, IsChange, IsOf}
use Rattle.sky_model.proofs.Cases.{if_cond, if_only, if_map, if_then, if_or}
use Rattle.sky_model.proofs.WholeWords.{whole, whole-append, whole-is_number, whole-is_bare_word, whole-is_name, whole-is_dotted, whole-around, whole-last, continues_all-is_name, whole-between_commas}

abbrev pub IsWhole : List ℕ → Type 0
IsWhole w = whole false w ≡ true

-- of a word that is this text, or else is whole
if_text : {A : Type 0} (P : A → Type 0) (w text : List ℕ) (x : A) (rest : Option A) → IsWhole text → P x → IfSome rest (λ v. IsWhole w × P v) → IfSome (cond (bytes_eq w text) (Some x) rest) (λ v. IsWhole w × P v)
if_text P w text x rest text_so here there =
    if_cond (λ v. IsWhole w × P v) (bytes_eq w text) (Some x) rest (λ is. (ap (whole false) ((bytes_eq-Decides w text).0 is) ∙ text_so, here)) (λ _. there)

-- ---- texts

-- from inside quotes, or from after a quote, to a text's closing quote; no byte of the text is a line feed or the zero byte
texts : (quote : Bool) (bs : List ℕ) → IfSome (text_from quote bs) (λ text. (whole (not quote) bs ≡ true) × (list_all is_text_byte text ≡ true))
texts true [] = (refl, refl)
texts false [] = tt
texts true (b ∷ bs) =
    if_only _ (b == 39) _ (λ is. if_map _ (λ t. 39 ∷ t) (text_from false bs) (IfSome_then (text_from false bs) (texts false bs) (λ t it. let quote : b ≡ 39 = eqb-true b 39 is in (rw quote it.0, it.1))))
texts false (b ∷ bs) =
    if_cond _ (b == 39) _ _ (λ is. IfSome_then (text_from true bs) (texts true bs) (λ t it. (rw is it.0, it.1)))
    (λ is. if_only _ (is_text_byte b) _ (λ free. if_map _ (λ t. b ∷ t) (text_from false bs) (IfSome_then (text_from false bs) (texts false bs) (λ t it. (rw is it.0, and_from (is_text_byte b) (list_all is_text_byte t) free it.1)))))

characters : (T : Type 0) (o : Option (List ℕ)) → IfSome o (λ text. T × (list_all is_text_byte text ≡ true)) → IfSome (in_characters o) (λ text. T × IsQuotable text)
characters T None some = tt
characters T (Some text) some =
    if_only _ (is_utf8 text) (Some text) (λ is. (some.0, record { characters = IsUtf8-from_is_utf8 text is; free = AllPass-from_list_all is_text_byte text some.1 }))

quoted : (w : List ℕ) → IfSome (quoted_text w) (λ text. IsWhole w × IsQuotable text)
quoted [] = tt
quoted (b ∷ bs) =
    if_only _ (b == 39) _ (λ is. characters (IsWhole (b ∷ bs)) (text_from false bs)
    (IfSome_then (text_from false bs) (texts false bs) (λ t it. let quote : b ≡ 39 = eqb-true b 39 is in (rw quote it.0, it.1))))

opted : (w : List ℕ) → IfSome (opt_text w) (λ text. IsWhole w × IsOptText text)
opted w = if_text IsOptText w (codes "null") None _ refl tt (if_map _ (λ t. Some t) (quoted_text w) (quoted w))

-- ---- words without quotes

bare-ascii : (b : ℕ) → is_bare b ≡ true → b < 128
bare-ascii b so = grind (arith, nat_tests)

bare-text : (b : ℕ) → is_bare b ≡ true → is_text_byte b ≡ true
bare-text b so = grind (arith, nat_tests)

all_ascii : (w : List ℕ) → list_all is_bare w ≡ true → IsAscii w
all_ascii [] so i = omega arith
all_ascii (b ∷ w) so zero = bare-ascii b (and_parts (is_bare b) (list_all is_bare w) so).0
all_ascii (b ∷ w) so (suc i) = all_ascii w (and_parts (is_bare b) (list_all is_bare w) so).1 i

all_bare : (w : List ℕ) → is_bare_word w ≡ true → list_all is_bare w ≡ true
all_bare [] so = refl
all_bare (b ∷ w) so = so

bare : (w : List ℕ) → is_bare_word w ≡ true → IsQuotable w
bare w so =
    let all = all_bare w so in
    record { characters = IsUtf8-from_ascii w (all_ascii w all); free = All-weaker (λ b. is_bare b ≡ true) (λ b. is_text_byte b ≡ true) bare-text w (AllPass-from_list_all is_bare w all) }

raws : (w : List ℕ) → IfSome (raw w) (λ text. IsWhole w × IsQuotable text)
raws w = if_cond _ (is_bare_word w) (Some w) _ (λ is. (whole-is_bare_word w is, bare w is)) (λ _. quoted w)

-- ---- numbers

numbers : (most : ℕ) (w : List ℕ) → IfSome (number_of most w) (λ n. IsWhole w × (n ≤ most))
numbers most w =
    if_only _ (is_number w && nat_le (number_from 0 w) most) _ (λ is.
    let parts = and_parts (is_number w) (nat_le (number_from 0 w) most) is in
    (whole-is_number w parts.0, leb-true (number_from 0 w) most parts.1))

below_fits : (T : Type 0) (m : ℕ) → T → m ≤ 2 ^ 63 → IfSome (below_zero m) (λ n. T × FitsSigned w64 n)
below_fits T zero t small = tt
below_fits T (suc m) t small = (t, record { sfits = omega arith })

ints : (w : List ℕ) → IfSome (int_of w) (λ n. IsWhole w × FitsSigned w64 n)
ints [] = tt
ints (b ∷ bs) =
    if_cond _ (b == 45) _ _
    (λ is. if_then _ below_zero (number_of (2 ^ 63) bs) (IfSome_then (number_of (2 ^ 63) bs) (numbers (2 ^ 63) bs) (λ m it.
    below_fits (IsWhole (b ∷ bs)) m (let minus : b ≡ 45 = eqb-true b 45 is in rw minus it.0) it.1)))
    (λ _. if_map _ (λ m. pos m) (number_of (2 ^ 63 - 1) (b ∷ bs)) (IfSome_then (number_of (2 ^ 63 - 1) (b ∷ bs)) (numbers (2 ^ 63 - 1) (b ∷ bs)) (λ m it.
    let small : m ≤ 2 ^ 63 - 1 = it.1 in (it.0, record { sfits = omega arith }))))

-- ---- values, columns and changes

values : (w : List ℕ) → IfSome (value_of w) (λ v. IsWhole w × IsValue v)
values w =
    if_text IsValue w (codes "null") val.Null _ refl tt
    (if_or _ (option_map (λ n. val.Int n) (int_of w)) _ (if_map _ (λ n. val.Int n) (int_of w) (ints w)) (if_map _ (λ t. val.Text t) (quoted_text w) (quoted w)))

kinds : (w : List ℕ) → IfSome (column_kind w) (λ k. IsWhole w × Unit {0})
kinds w =
    let any : ColKind × Bool → Type 0 = λ k. Unit {0} in
    if_text any w (codes "int") _ _ refl tt (if_text any w (codes "int:key") _ _ refl tt (if_text any w (codes "text") _ _ refl tt (if_text any w (codes "text:key") _ None refl tt tt)))

columns : (w : List ℕ) (colon : Option ℕ) → first_place 58 w ≡ colon → IfSome (column_around colon w) (λ c. IsWhole w × IsOf Column c)
columns w None is = tt
columns w (Some colon) is =
    if_only _ (is_name (take colon w)) _ (λ named. if_map _ _ (column_kind (drop (colon + 1) w)) (IfSome_then (column_kind (drop (colon + 1) w)) (kinds (drop (colon + 1) w)) (λ k it.
    (whole-around 58 w colon (refl, refl) is (whole-is_name (take colon w) named) it.0, named))))

set_is : (T : Type 0) (name : List ℕ) (change : Option Change) → (is_name name ≡ true → IfSome change (λ c. T × IsChange c)) → IfSome (set_as name change) (λ s. T × IsOf Set s)
set_is T name change changes = if_only _ (is_name name) _ (λ named. if_map _ _ change (IfSome_then change (changes named) (λ c it. (it.0, (named, it.1)))))

-- both parts of a change are whole
sets : (front back : List ℕ) → IfSome (set_by front back) (λ s. (IsWhole front × IsWhole back) × IsOf Set s)
sets front back =
    let both : Type 0 = IsWhole front × IsWhole back in
    if_cond _ (bytes_eq (drop (length front - 1) front) (codes "+")) _ _
    (λ is. set_is both (take (length front - 1) front) _ (λ named. if_map _ (λ n. Add n) (int_of back) (IfSome_then (int_of back) (ints back) (λ n it.
    ((whole-last front (codes "+") is refl (whole-is_name (take (length front - 1) front) named), it.0), it.1)))))
    (λ _. set_is both front _ (λ named. if_map _ (λ v. To v) (value_of back) (IfSome_then (value_of back) (values back) (λ v it. ((whole-is_name front named, it.0), it.1)))))

sets_around : (w : List ℕ) (at : Option ℕ) → first_place 61 w ≡ at → IfSome (set_around at w) (λ s. IsWhole w × IsOf Set s)
sets_around w None is = tt
sets_around w (Some at) is =
    IfSome_then (set_by (take at w) (drop (at + 1) w)) (sets (take at w) (drop (at + 1) w)) (λ s it. (whole-around 61 w at (refl, refl) is it.0.0 it.0.1, it.1))

-- ---- the columns that a trigger ignores

some_onto_first : (b : ℕ) (ws : List (List ℕ)) → 0 < length (onto_first b ws)
some_onto_first b [] = omega arith
some_onto_first b (w ∷ ws) = omega arith

some_between : (w : List ℕ) → 0 < length (between_commas w)
some_between [] = omega arith
some_between (b ∷ bs) =
    elim (b == 44) as (λ v. 0 < length (cond v ([] ∷ between_commas bs) (onto_first b (between_commas bs)))) [
      | true ↦ omega arith
      | false ↦ some_onto_first b (between_commas bs)
    ]

ignored : (w : List ℕ) → IfSome (ignore_of w) (λ names. IsWhole w × IsOf Ignore names)
ignored w =
    let behind : List ℕ = drop 7 w in
    if_only _ (bytes_eq (take 7 w) (codes "ignore=")) _ (λ is. if_only _ (list_all is_name (between_commas behind)) (Some (between_commas behind)) (λ are. (
      ap (whole false) (sym (take-append-drop 7 w)) ∙ whole-append false (take 7 w) behind (ap (whole false) ((bytes_eq-Decides (take 7 w) (codes "ignore=")).0 is))
          (whole-between_commas behind (continues_all-is_name (between_commas behind) are)),
      (some_between behind, AllPass-from_list_all is_name (between_commas behind) are),
    )))

-- ---- how far the clock moves

bounded : (P : Type 0) (o : Option ℕ) → P → IfSome (advance_by o) (λ time. P × IsOf Advance time)
bounded P None t = tt
bounded P (Some time) t =
    if_only _ (nat_le 1 time && nat_le time longest_advance) _ (λ is.
    let parts = and_parts (nat_le 1 time) (nat_le time longest_advance) is in
    (t, (record { le = subst T (sym parts.0) tt }, record { le = subst T (sym parts.1) tt })))

advanced : (T : Type 0) (text : List ℕ) → T → IfSome (advance_in text) (λ time. T × IsOf Advance time)
advanced T [] t = tt
advanced T (b ∷ bs) t = if_only _ (b == 43) _ (λ _. bounded T (interval_of bs) t)

advances : (w : List ℕ) → IfSome (advance_of w) (λ time. IsWhole w × IsOf Advance time)
advances w = if_then _ advance_in (raw w) (IfSome_then (raw w) (raws w) (λ text it. advanced (IsWhole w) text it.0))

-- ---- any kind

pub worth : (k : Kind) (w : List ℕ) → IfSome (value k w) (λ v. IsWhole w × IsOf k v)
worth Name w = if_only _ (is_name w) (Some w) (λ is. (whole-is_name w is, is))
worth Dotted w = if_only _ (is_dotted w) (Some w) (λ is. (whole-is_dotted w is, is))
worth (Number most) w = numbers most w
worth OptText w = opted w
worth Raw w = raws w
worth Value w = values w
worth Column w = columns w (first_place 58 w) refl
worth Set w = sets_around w (first_place 61 w) refl
worth Ignore w = ignored w
worth Advance w = advances w
