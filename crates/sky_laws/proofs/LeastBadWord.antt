-- The words before the bad one begin a line of the rows, and those up to it begin none.
use Rattle.std.proofs.Common.{◌≡◌, ℕ, ◌+◌, ◌<◌, ◌≤◌, zero, suc, List, [], ◌∷◌, ◌++◌, length, take, Option, Some, None, Ok, Err, refl, ap, ◌∙◌, append_assoc, arith, codes, bytes_eq, true, false, pos}
use Rattle.std.proofs.lemmas.Bool.Decides.{nat_tests}
use Rattle.sky_val.specs.declared.val.Val.TheVariants.{Null}
use Rattle.sky_val.specs.declared.column.ColKind.TheVariants as kind
use Rattle.sky_model.specs.declared.stmt.Change.TheVariants.{To}
use Rattle.sky_model.specs.declared.stmt.Stmt.{Stmt}
use Rattle.sky_model.specs.declared.line.Fixed.{Fixed}
use Rattle.sky_model.specs.declared.line.Fixed.TheVariants as fixed
use Rattle.sky_model.specs.Kinds.{Kind, Name, Dotted, Number, OptText, Raw, Value, Column, Set, Ignore, Advance, Of, value}
use Rattle.sky_model.specs.Grammar.{GrammarRow, stop, literal, one, either, many, text_of, next, all_next, ended, all_ended, or_else, or_bad, reads_on, reads}

-- some line that the rows read begins with these words
abbrev pub Begins : List GrammarRow → ℕ → List (List ℕ) → Type 0
Begins rows n ws = (more : List (List ℕ)) × (stmt : Stmt) × (reads rows n (ws ++ more) ≡ Ok stmt)

or_bad-err : (n m : ℕ) (stmt : Option Stmt) → or_bad n stmt ≡ Err m → m ≡ n
or_bad-err n m None bad = cc
or_bad-err n m (Some stmt) bad = absurd (cc)

-- the bad word is one of those read, or the one after them
pub record Within (n m : ℕ) (ws : List (List ℕ)) : Type 0 where
  pub low : n ≤ m
  pub high : m ≤ n + length ws

pub bad_within : (rows : List GrammarRow) (ws : List (List ℕ)) (n m : ℕ) → reads rows n ws ≡ Err m → Within n m ws
bad_within rows [] n m bad =
    let here = or_bad-err n m (all_ended rows) bad in
    record { low = omega arith; high = omega arith }
bad_within rows (w ∷ ws) n m bad =
    elim (all_next rows w) as (λ left. reads_on left n (λ l. reads l (n + 1) ws) ≡ Err m → Within n m (w ∷ ws)) [
      | [] ↦ λ e. let here : m ≡ n = cc in record { low = omega arith; high = omega arith }
      | row ∷ left ↦ λ e. let later = bad_within (row ∷ left) ws (n + 1) m e in record { low = omega arith; high = omega arith }
    ] bad

-- the words up to the bad one begin no line
pub none_begins : (rows : List GrammarRow) (ws : List (List ℕ)) (n m j : ℕ) → m ≡ n + j → j < length ws → reads rows n ws ≡ Err m → Begins rows n (take (suc j) ws) → ⊥
none_begins rows [] n m j at inside bad begins = absurd (omega arith)
none_begins rows (w ∷ ws) n m zero at inside bad begins =
    elim (all_next rows w) as (λ left. reads_on left n (λ l. reads l (n + 1) ws) ≡ Err m → reads_on left n (λ l. reads l (n + 1) begins.0) ≡ Ok begins.1 → ⊥) [
      | [] ↦ λ e good. cc
      | row ∷ left ↦ λ e good. let later = bad_within (row ∷ left) ws (n + 1) m e in absurd (omega arith)
    ] bad begins.2
none_begins rows (w ∷ ws) n m (suc j) at inside bad begins =
    elim (all_next rows w) as (λ left. reads_on left n (λ l. reads l (n + 1) ws) ≡ Err m → reads_on left n (λ l. reads l (n + 1) (take (suc j) ws ++ begins.0)) ≡ Ok begins.1 → ⊥) [
      | [] ↦ λ e good. cc
      | row ∷ left ↦ λ e good. none_begins (row ∷ left) ws (n + 1) m j (omega arith) (omega arith) e (begins.0, begins.1, good)
    ] bad begins.2

-- a word of a kind
record Sample (k : Kind) : Type 0 where
  word : List ℕ
  worth : Of k
  is : value k word ≡ Some worth

sample : (k : Kind) → Sample k
sample Name = record { word = codes "a"; worth = codes "a"; is = refl }
sample Dotted = record { word = codes "a"; worth = codes "a"; is = refl }
sample (Number most) = record { word = codes "0"; worth = 0; is = grind (arith, nat_tests) }
sample OptText = record { word = codes "null"; worth = None; is = refl }
sample Raw = record { word = codes "x"; worth = codes "x"; is = refl }
sample Value = record { word = codes "null"; worth = Null; is = refl }
sample Column = record { word = codes "a:int"; worth = record { name = codes "a"; kind = kind.Int; key = false }; is = refl }
sample Set = record { word = codes "a=null"; worth = record { column = codes "a"; change = To Null }; is = refl }
sample Ignore = record { word = codes "ignore=a"; worth = codes "a" ∷ []; is = refl }
sample Advance = record { word = codes "+1s"; worth = pos 1_000_000; is = refl }

same_text : (f : Fixed) → bytes_eq (text_of f) (text_of f) ≡ true
same_text fixed.Repeatable = refl
same_text _ = refl

or_else_assoc : (a b c : Option Stmt) → or_else (or_else a b) c ≡ or_else a (or_else b c)
or_else_assoc None b c = refl
or_else_assoc (Some stmt) b c = refl

-- either of two rows reads what both together read
reads-either : (a b : GrammarRow) (rows : List GrammarRow) (n : ℕ) (ws : List (List ℕ)) → reads (either a b ∷ rows) n ws ≡ reads (a ∷ b ∷ rows) n ws
reads-either a b rows n [] = ap (or_bad n) (or_else_assoc (ended a) (ended b) (all_ended rows))
reads-either a b rows n (w ∷ ws) = ap (λ left. reads_on left n (λ l. reads l (n + 1) ws)) (append_assoc (next a w) (next b w) (all_next rows w))

-- any words of a kind are none, or one and then any
reads-many : (k : Kind) (f : List (Of k) → GrammarRow) (rows : List GrammarRow) (n : ℕ) (ws : List (List ℕ))
    → reads (many k f ∷ rows) n ws ≡ reads (f [] ∷ one k (λ v. many k (λ vs. f (v ∷ vs))) ∷ rows) n ws
reads-many k f rows n [] = refl
reads-many k f rows n (w ∷ ws) = reads-either (f []) (one k (λ v. many k (λ vs. f (v ∷ vs)))) rows n (w ∷ ws)

-- each row has a line
completes : (row : GrammarRow) (rows : List GrammarRow) (n : ℕ) → Begins (row ∷ rows) n []
completes (stop stmt) rows n = ([], stmt, refl)
completes (literal fixed row) rows n = let rest = completes row (all_next rows (text_of fixed)) (n + 1) in (text_of fixed ∷ rest.0, rest.1, rw (same_text fixed) rest.2)
completes (one k f) rows n =
    let s = sample k in
    let rest = completes (f s.worth) (all_next rows s.word) (n + 1) in
    (s.word ∷ rest.0, rest.1, rw s.is rest.2)
completes (either a b) rows n = let rest = completes a (b ∷ rows) n in (rest.0, rest.1, reads-either a b rows n rest.0 ∙ rest.2)
completes (many k f) rows n = let rest = completes (f []) (one k (λ v. many k (λ vs. f (v ∷ vs))) ∷ rows) n in (rest.0, rest.1, reads-many k f rows n rest.0 ∙ rest.2)

-- the words before the bad one begin a line
pub some_begins : (row : GrammarRow) (rows : List GrammarRow) (ws : List (List ℕ)) (n m j : ℕ) → m ≡ n + j → reads (row ∷ rows) n ws ≡ Err m → Begins (row ∷ rows) n (take j ws)
some_begins row rows ws n m zero at bad = completes row rows n
some_begins row rows [] n m (suc j) at bad =
    let here = or_bad-err n m (all_ended (row ∷ rows)) bad in absurd (omega arith)
some_begins row rows (w ∷ ws) n m (suc j) at bad =
    elim (all_next (row ∷ rows) w) as (λ left. reads_on left n (λ l. reads l (n + 1) ws) ≡ Err m → (more : List (List ℕ)) × (stmt : Stmt) × (reads_on left n (λ l. reads l (n + 1) (take j ws ++ more)) ≡ Ok stmt)) [
      | [] ↦ λ e. let here : m ≡ n = cc in absurd (omega arith)
      | r ∷ left ↦ λ e. some_begins r left ws (n + 1) m j (omega arith) e
    ] bad
