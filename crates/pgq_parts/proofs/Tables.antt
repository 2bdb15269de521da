-- What is kept of tables stays true: a table that is made stays as it is.
use Rattle.std.proofs.Common.{◌≡◌, ℕ, zero, suc, ◌<◌, Bool, true, false, ◌==◌, List, [], ◌∷◌, ◌++◌, Option, Some, None, length, refl, sym, ◌∙◌, ap, subst, arith, if◌then◌else◌}
use Rattle.std.specs.Prelude.{slice_get}
use Rattle.std.proofs.lemmas.Bool.Decides.{nat_tests}
use Rattle.std.proofs.lemmas.Option.{slice_get_within}
use Rattle.sky_val.specs.declared.column.Column.{Column}
use Rattle.sky_names.specs.Places.{place_of}
use Rattle.sky_names.proofs.PlaceLemmas.{slice_get-place_of}
use Rattle.sky_model.specs.History.{Mark, ended, tabled, table_made}
use Rattle.sky_model.specs.Triggers.{TableTrigger}
use Rattle.sky_model.specs.State.{RowPart, after_part, after_part_marks, changed_at}
use Rattle.pgq_queues.specs.Views.{TracedTableView, QueuesView}
use Rattle.pgq_queues.specs.Seen.{kept}
use Rattle.pgq_queues.specs.Traced.{IsTable, IsTraced, AreTables, KeepsRest}

get-more : {A : Type 0} (xs ys : List A) (n : ℕ) (a : A) → slice_get xs n ≡ Some a → slice_get (xs ++ ys) n ≡ Some a
get-more [] ys n a is = absurd (cc)
get-more (x ∷ xs) ys zero a is = is
get-more (x ∷ xs) ys (suc n) a is = get-more xs ys n a is

other-columns : (m n : ℕ) (columns : List Column) (f : ℕ → List Column) → n < m → changed_at m (λ _. columns) f n ≡ f n
other-columns m n columns f lt = by (m == n) refl
  where
    by : (b : Bool) → (m == n) ≡ b → (if b then columns else f n) ≡ f n
    by true e = let same : m ≡ n = grind (arith, nat_tests) in absurd (omega arith)
    by false e = refl

table-kept : (p : RowPart) (mark : Mark) (n : ℕ) (called : List ℕ) (shape : List Column) → IsTable p n called shape → IsTable (after_part p mark) n called shape
table-kept p (tabled (table_made name columns)) n called shape is =
    (get-more p.tables (name ∷ []) n called is.0, other-columns (length p.tables) n columns p.columns (slice_get_within p.tables n called is.0) ∙ is.1)
table-kept p (ended who t true) n called shape is = is
table-kept p mark n called shape is = is

pub tables-kept : (p : RowPart) (mark : Mark) (q : QueuesView) → AreTables p q → AreTables (after_part p mark) q
tables-kept p mark q are n = of (kept q.traced_tables n) (are n)
  where
    of : (o : Option TracedTableView) → IsTraced p n q.triggers o → IsTraced (after_part p mark) n q.triggers o
    of None is = is
    of (Some t) is = table-kept p mark n t.name t.columns is

pub tables-behind : (p : RowPart) (marks : List Mark) (q : QueuesView) → AreTables p q → AreTables (after_part_marks p marks) q
tables-behind p [] q are = are
tables-behind p (mark ∷ marks) q are = tables-behind (after_part p mark) marks q (tables-kept p mark q are)

-- queues that keep of tables what they kept
pub tables-stay : (p : RowPart) (old new : QueuesView) → KeepsRest old new → AreTables p old → AreTables p new
tables-stay p old new keeps = subst (λ (s : List TableTrigger × List (ℕ × TracedTableView)). (n : ℕ) → IsTraced p n s.0 (kept s.1 n)) (λ i. (sym keeps.triggers i, sym keeps.traced_tables i))

-- the table of a name
pub is-table : (part : RowPart) (name : List ℕ) (n found : ℕ) (columns : List Column) → place_of name part.tables ≡ Some n → place_of name part.tables ≡ Some found → columns ≡ part.columns found
    → IsTable part n name columns
is-table part name n found columns at also are =
    let one : found ≡ n = cc in
    (slice_get-place_of name part.tables n at, ap part.columns (sym one) ∙ sym are)
