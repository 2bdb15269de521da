-- The rows of the provider's table at the place of a hold, as the worker reads them, and as they fit the replica's table.
use Rattle.std.proofs.Common.{arith, ◌≡◌, ℕ, ◌<◌, true, List, [], ◌∷◌, ◌++◌, take, length, Option, Some, None, IfSome, option_map, unwrap_or, refl, sym, ap, subst, ◌∙◌, if◌then◌else◌}
use Rattle.sky_val.specs.declared.val.Val.{Val}
use Rattle.sky_val.specs.Entries.{Entries, at, is_in_order}
use Rattle.sky_keys.specs.Versions.{above, read, rows_read}
use Rattle.sky_keys.proofs.EntryLemmas.{at-rows_read}
use Rattle.sky_names.specs.Places.{place_of}
use Rattle.sky_names.proofs.PlaceLemmas.{place_of_within}
use Rattle.sky_model.specs.History.{Mark, tabled, table_made, History}
use Rattle.sky_model.specs.Transactions.{snapshot}
use Rattle.sky_model.specs.Rows.{table_names, columns_of, committed, writes as writes_of, rows}
use Rattle.sky_model.specs.Versions.{versions}
use Rattle.sky_model.specs.State.{database_of}
use Rattle.sky_model.specs.CopyMoves.{last_key, rows_from}
use Rattle.sky_model.specs.LawsOfWrites.{IsRowOf}
use Rattle.sky_histories.proofs.Legal.{Legal}
use Rattle.sky_histories.proofs.SnapshotLaws.{legal-below}
use Rattle.sky_histories.proofs.RowKeys.{is_in_order-versions}
use Rattle.sky_histories.proofs.RowWrites.{is_in_order-in_turn}
use Rattle.sky_histories.proofs.RowSights.{Since, here, later, rows-under}
use Rattle.sky_histories.proofs.WrittenRows.{all-left, read-left}
use Rattle.sky_model.proofs.Cases.{by_same}
use Rattle.sky_laws_replicas.proofs.Pieces.{above-done, values-above}
use Rattle.sky_laws_replicas.proofs.FittingRows.{AllFit, fit-entries}
use Rattle.sky_laws_replicas.proofs.Others.{number-stays}

since : (above : List Mark) (p : History) → Since p (above ++ p)
since [] p = here
since (mark ∷ above) p = later (since above p)

-- a table that is there has the number and the columns that it had
pub number-later : (above : List Mark) (p : History) (name : List ℕ) (table : ℕ) → place_of name (table_names p) ≡ Some table → place_of name (table_names (above ++ p)) ≡ Some table
number-later [] p name table is = is
number-later (mark ∷ above) p name table is = number-stays name table (above ++ p) mark (number-later above p name table is)

columns-stay : (h : History) (mark : Mark) (table : ℕ) → table < length (table_names h) → columns_of table (mark ∷ h) ≡ columns_of table h
columns-stay h (tabled (table_made name columns)) table within = by_same (λ b. (if b then columns else columns_of table h) ≡ columns_of table h) (length (table_names h)) table (λ same. absurd (omega (arith, same, within))) (λ _. refl)
columns-stay h mark table within = refl

pub columns-later : (above : List Mark) (p : History) (name : List ℕ) (table : ℕ) → place_of name (table_names p) ≡ Some table → columns_of table (above ++ p) ≡ columns_of table p
columns-later [] p name table is = refl
columns-later (mark ∷ above) p name table is =
    columns-stay (above ++ p) mark table (place_of_within name (table_names (above ++ p)) table (number-later above p name table is)) ∙ columns-later above p name table is

-- the rows of a table are in order, and fit it
pub rows-in-order : (table : ℕ) (h : History) → is_in_order (rows table h) ≡ true
rows-in-order table h = is_in_order-in_turn (λ t. writes_of table t h) (committed h) [] refl

pub rows-fit-table : (h : History) → Legal h → (table : ℕ) → AllFit (columns_of table h) (rows table h)
rows-fit-table h l table = fit-entries (columns_of table h) (rows table h) (rows-in-order table h) fits
  where
    fits : (key row : List Val) → at key (rows table h) ≡ Some row → IsRowOf (columns_of table h) key row
    fits key row is =
        subst (λ o. IfSome o (IsRowOf (columns_of table h) key))
        (sym (at-rows_read (snapshot h) None key (versions table h) (is_in_order-versions table h)) ∙ ap (at key) (rows-under h h here l table) ∙ is)
        (read-left h (all-left h l) (snapshot h) None table key)

-- the next piece that the worker reads under the held snapshot is of the rows that it hasn't copied yet
piece-later : (above : List Mark) (held : History) → Legal (above ++ held) → (name : List ℕ) (source : ℕ) → place_of name (table_names held) ≡ Some source → (made rest : Entries (List Val))
    → rows source held ≡ made ++ rest → (last : Option (List Val)) → last ≡ last_key None made → (n : ℕ)
    → rows_from (database_of (above ++ held)) name (snapshot held) last n ≡ take n rest
piece-later above_it held l name source named made rest rows_are last last_is n =
    ap (λ o. unwrap_or (option_map (λ t. take n (rows_read (snapshot held) None (above last (versions t (above_it ++ held))))) o) []) (number-later above_it held name source named)
    ∙ ap (take n)
    (values-above (read (snapshot held) None) last (versions source (above_it ++ held))
    ∙ ap (above last) (rows-under held (above_it ++ held) (since above_it held) l source ∙ rows_are)
    ∙ ap (λ k. above k (made ++ rest)) last_is
    ∙ above-done made rest (ap is_in_order (sym rows_are) ∙ rows-in-order source held))

pub piece-is : (h : History) → Legal h → (above : List Mark) (held : History) → h ≡ above ++ held → (name : List ℕ) (source : ℕ) → place_of name (table_names held) ≡ Some source → (made rest : Entries (List Val))
    → rows source held ≡ made ++ rest → (last : Option (List Val)) → last ≡ last_key None made → (n : ℕ)
    → rows_from (database_of h) name (snapshot held) last n ≡ take n rest
piece-is h l above_it held is name source named made rest rows_are last last_is n =
    ap (λ g. rows_from (database_of g) name (snapshot held) last n) is
    ∙ piece-later above_it held (subst Legal is l) name source named made rest rows_are last last_is n

-- rows of an earlier place fit the table's columns of now
pub held-fit : (h : History) → Legal h → (above : List Mark) (held : History) → h ≡ above ++ held → (name : List ℕ) (source : ℕ) → place_of name (table_names held) ≡ Some source
    → (place_of name (table_names h) ≡ Some source) × AllFit (columns_of source h) (rows source held)
held-fit h l above_it held is name source named = (
  ap (λ g. place_of name (table_names g)) is ∙ number-later above_it held name source named,
  subst (λ cs. AllFit cs (rows source held)) (sym (ap (columns_of source) is ∙ columns-later above_it held name source named)) (rows-fit-table held (legal-below above_it held (subst Legal is l)) source),
)
