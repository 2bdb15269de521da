-- What calls in form say of the values in rows: numbers fit 64 bits, and texts are UTF-8, so that a row is read back from its text.
use Rattle.std.proofs.Common.{◌≡◌, ℕ, zero, suc, ◌<◌, ◌+◌, ◌/◌, nat_lt, ◌^◌, ℤ, pos, negsuc, ◌+ℤ◌, ◌-ℤ◌, true, ◌&&◌, List, [], ◌∷◌, length, Option, Some, None, IfOk, IfSome, All, IsUtf8, FitsSigned, w64, refl, subst, arith, if◌then◌else◌, inl, inr}
use Rattle.std.specs.Prelude.{int_le, int_lt, slice_index, nat_le, bytes_eq, option_map}
use Rattle.std.specs.List.{list_all}
use Rattle.std.proofs.lemmas.Bool.{and_parts}
use Rattle.std.proofs.lemmas.Bool.Decides.{nat_tests}
use Rattle.std.proofs.lemmas.List.Elements.{All-nil, All-cons, All-head, All-tail, All-append}
use Rattle.std.proofs.lemmas.Int.{ints}
use Rattle.std.proofs.lemmas.Str.{IsUtf8-from_ascii}
use lib.Utf8.{scalar, scalars, encode, encodes, next, scalar_cases}
use Rattle.sky_val.specs.declared.val.Val.{Val}
use Rattle.sky_val.specs.declared.val.Val.TheVariants as value
use Rattle.sky_val.specs.declared.column.Column.{Column}
use Rattle.sky_urlenc.specs.Held.{IsWord, IsHeld, HoldsAll}
use Rattle.sky_model.specs.declared.stmt.Change.{Change}
use Rattle.sky_model.specs.declared.stmt.Change.TheVariants.{To, Add}
use Rattle.sky_model.specs.declared.stmt.Set.{Set}
use Rattle.sky_model.specs.declared.stmt.Attempt.{Attempt}
use Rattle.sky_model.specs.declared.stmt.Attempt.TheVariants.{Insertion, Changes, Deletion}
use Rattle.sky_model.specs.declared.reply.Refusal.TheVariants.{OutOfRange}
use Rattle.sky_model.specs.Kinds as kind
use Rattle.sky_model.specs.Kinds.{begins_name, continues_name, is_identifier, is_name}
use Rattle.sky_model.specs.InForm.{IsValue, IsChange, IsOf}
use Rattle.sky_model.specs.Outcome.{◌>>=◌, found_or}
use Rattle.sky_model.specs.StepRows.{in_range, changed, with_set, with_sets}
use Rattle.sky_model.proofs.Cases.{by_test}

-- ---- bytes

abbrev Small : ℕ → Type 0
Small b = b < 256

small-encode : (c : ℕ) → scalar c ≡ true → All Small (encode c)
unfolding encode
small-encode c ok =
    let low : scalar c ≡ true → c < 1114112 = λ _. elim (scalar_cases c ok) [ inl h ↦ omega (arith, h) | inr h ↦ omega (arith, h.1) ] in
    let fits : c < 1114112 = low ok in
    by_test (λ b. All Small (if b then c ∷ [] else (if nat_lt c 2048 then (192 + c / 64) ∷ next c ∷ [] else (if nat_lt c 65536 then (224 + c / 4096) ∷ next (c / 64) ∷ next c ∷ [] else (240 + c / 262144) ∷ next (c / 4096) ∷ next (c / 64) ∷ next c ∷ [])))) (nat_lt c 128)
    (λ is. All-cons Small c [] (grind (arith, nat_tests, is)) (All-nil Small))
    (λ _. by_test (λ b. All Small (if b then (192 + c / 64) ∷ next c ∷ [] else (if nat_lt c 65536 then (224 + c / 4096) ∷ next (c / 64) ∷ next c ∷ [] else (240 + c / 262144) ∷ next (c / 4096) ∷ next (c / 64) ∷ next c ∷ []))) (nat_lt c 2048)
    (λ is. let below : c < 2048 = grind (arith, nat_tests, is) in All-cons Small (192 + c / 64) (next c ∷ []) (omega arith) (one c))
    (λ _. by_test (λ b. All Small (if b then (224 + c / 4096) ∷ next (c / 64) ∷ next c ∷ [] else (240 + c / 262144) ∷ next (c / 4096) ∷ next (c / 64) ∷ next c ∷ [])) (nat_lt c 65536)
    (λ is. let below : c < 65536 = grind (arith, nat_tests, is) in All-cons Small (224 + c / 4096) (next (c / 64) ∷ next c ∷ []) (omega arith) (two (c / 64) c))
    (λ _. All-cons Small (240 + c / 262144) (next (c / 4096) ∷ next (c / 64) ∷ next c ∷ []) (omega arith)
    (All-cons Small (next (c / 4096)) (next (c / 64) ∷ next c ∷ []) (part (c / 4096)) (two (c / 64) c)))))
  where
    part : (n : ℕ) → next n < 256
    part n = omega arith

    one : (n : ℕ) → All Small (next n ∷ [])
    one n = All-cons Small (next n) [] (part n) (All-nil Small)

    two : (m n : ℕ) → All Small (next m ∷ next n ∷ [])
    two m n = All-cons Small (next m) (next n ∷ []) (part m) (one n)

small-encodes : (cs : List ℕ) → scalars cs ≡ true → All Small (encodes cs)
small-encodes [] ok = All-nil Small
small-encodes (c ∷ cs) ok =
    let both = and_parts (scalar c) (scalars cs) ok in
    All-append Small (encode c) (encodes cs) (small-encode c both.0) (small-encodes cs both.1)

pub word : (text : List ℕ) → IsUtf8 text → IsWord text
word text u = record { small = subst (All Small) u.1.1 (small-encodes u.0 u.1.0); characters = u }

ascii : (b : ℕ) → continues_name b ≡ true → b < 128
ascii b is = grind (arith, nat_tests, is)

ascii-all : (bs : List ℕ) → list_all continues_name bs ≡ true → (i : ℕ) → slice_index bs i < 128
ascii-all [] is i = omega arith
ascii-all (b ∷ bs) is zero = ascii b (and_parts (continues_name b) (list_all continues_name bs) is).0
ascii-all (b ∷ bs) is (suc i) = ascii-all bs (and_parts (continues_name b) (list_all continues_name bs) is).1 i

pub name-word : (name : List ℕ) → is_name name ≡ true → IsWord name
name-word [] is = word [] (IsUtf8-from_ascii [] (λ i. omega arith))
name-word (b ∷ bs) is =
    let both = and_parts (begins_name b) (list_all continues_name bs) (and_parts (nat_le (length (b ∷ bs)) 63) (is_identifier (b ∷ bs)) is).1 in
    word (b ∷ bs) (IsUtf8-from_ascii (b ∷ bs) (ascii-all (b ∷ bs) (λ i. (begins-continues b both.0) i && both.1 i)))
  where
    begins-continues : (b : ℕ) → begins_name b ≡ true → continues_name b ≡ true
    begins-continues b e = grind (arith, e)

-- ---- values

abbrev pub AreHeld : List Val → Type 0
AreHeld [] = Unit {0}
AreHeld (v ∷ vs) = IsHeld v × AreHeld vs

pub value-held : (v : Val) → IsValue v → IsHeld v
value-held value.Null is = tt
value-held (value.Int n) is = is
value-held (value.Text text) is = word text is.characters

pub values-held : (vs : List Val) → All (IsOf kind.Value) vs → AreHeld vs
values-held [] all = tt
values-held (v ∷ vs) all = (value-held v (All-head (IsOf kind.Value) v vs all), values-held vs (All-tail (IsOf kind.Value) v vs all))

-- a row of columns with names in form
pub holds-all : (columns : List Column) (row : List Val) → All (λ c. IsWord c.name) columns → AreHeld row → HoldsAll columns row
holds-all [] row names held = tt
holds-all (column ∷ columns) [] names held = tt
holds-all (column ∷ columns) (v ∷ row) names held =
    (record { name = All-head (λ c. IsWord c.name) column columns names; value = held.0 }, holds-all columns row (All-tail (λ c. IsWord c.name) column columns names) held.1)

-- ---- changes

abbrev pub AreChanges : List Set → Type 0
AreChanges [] = Unit {0}
AreChanges (set ∷ sets) = IsChange set.change × AreChanges sets

pub are-changes : (sets : List Set) → All (IsOf kind.Set) sets → AreChanges sets
are-changes [] all = tt
are-changes (set ∷ sets) all = ((All-head (IsOf kind.Set) set sets all).1, are-changes sets (All-tail (IsOf kind.Set) set sets all))

abbrev IfHeld : Option Val → Type 0
IfHeld o = IfSome o IsHeld

fits : (n : ℤ) → int_le (pos 0 -ℤ pos (2 ^ 63)) n ≡ true → int_lt n (pos (2 ^ 63)) ≡ true → FitsSigned w64 n
fits (pos k) low high = record { sfits = grind (arith, nat_tests, ints, high) }
fits (negsuc k) low high = record { sfits = grind (arith, nat_tests, ints, low) }

in_range-held : (n : ℤ) → IfHeld (in_range n)
in_range-held n = by_test (λ b. (int_le (pos 0 -ℤ pos (2 ^ 63)) n && int_lt n (pos (2 ^ 63))) ≡ b → IfHeld (if b then Some (value.Int n) else None)) (int_le (pos 0 -ℤ pos (2 ^ 63)) n && int_lt n (pos (2 ^ 63)))
    (λ _ is. let both = and_parts (int_le (pos 0 -ℤ pos (2 ^ 63)) n) (int_lt n (pos (2 ^ 63))) is in fits n both.0 both.1) (λ _ _. tt) refl

changed-held : (change : Change) → IsChange change → (v : Val) → IsHeld v → IfHeld (changed change v)
changed-held (To v) is old held = value-held v is
changed-held (Add n) is (value.Int m) held = in_range-held (m +ℤ n)
changed-held (Add n) is value.Null held = held
changed-held (Add n) is (value.Text text) held = held

with_set-held : (columns : List Column) (set : Set) → IsChange set.change → (row : List Val) → AreHeld row → IfSome (with_set columns set row) AreHeld
with_set-held [] set is row held = held
with_set-held (column ∷ columns) set is [] held = tt
with_set-held (column ∷ columns) set is (v ∷ row) held =
    by_test (λ b. IfSome (if b then option_map (λ w. w ∷ row) (changed set.change v) else option_map (λ rest. v ∷ rest) (with_set columns set row)) AreHeld) (bytes_eq column.name set.column)
    (λ _. first (changed set.change v) (changed-held set.change is v held.0)) (λ _. rest (with_set columns set row) (with_set-held columns set is row held.1))
  where
    first : (o : Option Val) → IfHeld o → IfSome (option_map (λ w. w ∷ row) o) AreHeld
    first None is = tt
    first (Some w) is = (is, held.1)

    rest : (o : Option (List Val)) → IfSome o AreHeld → IfSome (option_map (λ rest. v ∷ rest) o) AreHeld
    rest None is = tt
    rest (Some more) is = (held.0, is)

pub with_sets-held : (columns : List Column) (sets : List Set) → AreChanges sets → (row : List Val) → AreHeld row → IfOk (with_sets columns sets row) AreHeld
with_sets-held columns [] are row held = held
with_sets-held columns (set ∷ sets) are row held = of (with_set columns set row) (with_set-held columns set are.0 row held) (with_sets-held columns sets are.1)
  where
    of : (o : Option (List Val)) → IfSome o AreHeld → ((next : List Val) → AreHeld next → IfOk (with_sets columns sets next) AreHeld)
        → IfOk (found_or o (OutOfRange set.column) >>= (λ next. with_sets columns sets next)) AreHeld
    of None is also = tt
    of (Some next) is also = also next is

-- what is attempted with a key
abbrev pub HeldAttempt : Attempt → Type 0
HeldAttempt (Insertion row) = AreHeld row
HeldAttempt (Changes sets) = AreChanges sets
HeldAttempt Deletion = Unit {0}
