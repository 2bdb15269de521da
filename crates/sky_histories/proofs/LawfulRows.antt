-- The statements on sessions, transactions, tables and rows leave a legal history legal.
use Rattle.std.proofs.Common.{◌≡◌, ℕ, ◌^◌, ◌<◌, List, [], ◌∷◌, ◌++◌, Bool, true, false, nat_le, Option, Some, None, Ok, IfSome, option_map, length, is_some, refl, sym, ◌∙◌, ap, arith, if◌then◌else◌, find}
use Rattle.sky_val.specs.declared.val.Val.{Val}
use Rattle.sky_val.specs.Schemas.{schema_fault, row_fault, key_columns, key_of}
use Rattle.sky_keys.specs.Waits.{other_than, is_waiting}
use Rattle.sky_names.specs.Places.{place_of}
use Rattle.sky_txid.specs.SnapshotText.{parse_snapshot}
use Rattle.sky_model.specs.declared.stmt.Set.{Set}
use Rattle.sky_model.specs.declared.stmt.RowStmt.{RowStmt}
use Rattle.sky_model.specs.declared.stmt.RowStmt.TheVariants.{OpenDb, Close, Cancel, Begin, BeginRepeatableRead, Commit, Rollback, TxidCurrent, TxidCurrentSnapshot, TxidVisibleInSnapshot, CreateTable, Insert, Update, Delete, Get, Scan}
use Rattle.sky_model.specs.declared.reply.Reply.TheVariants.{Number}
use Rattle.sky_model.specs.declared.reply.Limit.TheVariants.{Tables}
use Rattle.sky_model.specs.declared.reply.Refusal.TheVariants.{AlreadyOpen, BadRow, BadSnapshot, Canceled, Deadlock, Duplicate, KeyChange, NoTable, ReadOnly, Serialize, TableExists, TooMany, TxidsSpent}
use Rattle.sky_model.specs.declared.stmt.Attempt.{Attempt}
use Rattle.sky_model.specs.declared.stmt.Attempt.TheVariants.{Insertion, Changes, Deletion}
use Rattle.sky_model.specs.History.{of_session, began, ended, block_ended, disconnected, tabled, wrote, waited, History}
use Rattle.sky_model.specs.Transactions.{next_txid}
use Rattle.sky_model.specs.Sessions.{outside, has_open, block, own_txid}
use Rattle.sky_model.specs.Rows.{table_names, columns_of, is_read_only}
use Rattle.sky_model.specs.Nodes.{node, is_leaf}
use Rattle.sky_model.specs.Locks.{holder, waiting}
use Rattle.sky_model.specs.State.{part_of}
use Rattle.sky_model.specs.ShownRows.{rows_in}
use Rattle.sky_model.specs.Outcome.{Outcome, Checked, ◌>>=◌, does_marks}
use Rattle.sky_model.specs.OwnTransaction.{own_or_next, begin_of, commit_of}
use Rattle.sky_model.specs.StepLocks.{ring, once_free}
use Rattle.sky_model.specs.StepRows.{schema_refusal, bad_values, bad_sets, is_key_change, writes_key, changes, attempts, row_or_none}
use Rattle.sky_model.specs.StepSession.{open_db, begin, begin_repeatable_read, leaves, commit, rollback, close, cancel}
use Rattle.sky_model.specs.Calls.{row_form}
use Rattle.sky_model.specs.Allowed.{where_of_row}
use Rattle.sky_model.specs.LawsOfWrites.{IsRowOf}
use Rattle.sky_model.specs.declared.stmt.Where.TheVariants.{WhenOpen, WhenSound, WhenReading}
use Rattle.sky_names.proofs.PlaceLemmas.{place_of_within}
use Rattle.sky_histories.proofs.Legal.{MayWait, Legal, begins, ends, begins_block, repeats_block, ends_block, connects, disconnects, makes_table, writes, begins_waiting, ends_waiting, Chain, done, more}
use Rattle.sky_histories.proofs.SetsFit.{sets-fit, none-fits, changes-fit}
use Rattle.sky_histories.proofs.SeenRows.{seen-stands, stands-by, stands-begun}
use Rattle.sky_histories.proofs.Good.{MayStand, Good, same-session, good_refused, good_test, good_test_then, good_found, good_refused_by, good_checked, good_commits}
use Rattle.sky_model.proofs.Cases.{by_test, by_block}

pub good_leaves : (h : History) (who : ℕ) (committed : Bool) (o : Option ℕ) → own_txid who h ≡ o → Chain h (leaves committed who o)
good_leaves h who committed None none = more (ends_block who none) done
good_leaves h who committed (Some t) mine = more (ends who t committed mine) (more (ends_block who (ap (λ b. if b then None else own_txid who h) (same-session who))) done)

over : (who : ℕ) (h : History) → block who (block_ended who ∷ h) ≡ outside
over who h = ap (λ b. if b then outside else block who h) (same-session who)

good_closes : (h : History) (who : ℕ) (o : Option ℕ) → own_txid who h ≡ o → is_waiting who (waiting h) ≡ false → Chain h (leaves false who o ++ disconnected who ∷ [])
good_closes h who None none quiet = more (ends_block who none) (more (disconnects who quiet (over who h)) done)
good_closes h who (Some t) mine quiet =
    more (ends who t false mine) (more (ends_block who (ap (λ b. if b then None else own_txid who h) (same-session who))) (more (disconnects who quiet (over who (ended (of_session who) t false ∷ h))) done))

good_txid_current : (h : History) (who : ℕ) (o : Option ℕ) → own_txid who h ≡ o
    → Good h who (own_or_next (part_of h) o >>= (λ t. does_marks (Number t) (begin_of who t o ++ [] ++ commit_of who t (block who h))))
good_txid_current h who None none =
    good_test_then h who (nat_le (2 ^ 62) (next_txid h)) TxidsSpent (next_txid h) _
    (more (begins who none) (good_commits (began (of_session who) (next_txid h) ∷ h) who (next_txid h) (block who h) (ap (λ b. if b then Some (next_txid h) else own_txid who h) (same-session who))))
good_txid_current h who (Some t) mine = good_commits h who t (block who h) mine

-- a statement that is allowed where only one that reads is, is made by a session that doesn't wait
quiet-reading : (h : History) (who : ℕ) → MayStand h who WhenReading → is_waiting who (waiting h) ≡ false
quiet-reading h who may = grind arith

-- and that has the database open
open-reading : (h : History) (who : ℕ) → MayStand h who WhenReading → has_open who h ≡ true
open-reading h who may = grind arith

-- so is one that may begin a block
open-beginning : (h : History) (who : ℕ) → MayStand h who WhenSound → has_open who h ≡ true
open-beginning h who may = grind arith

-- and `close` is made by one that doesn't wait
quiet-closing : (h : History) (who : ℕ) → MayStand h who WhenOpen → is_waiting who (waiting h) ≡ false
quiet-closing h who may = grind arith

-- a write to a table that exists and that isn't a leaf's, over the row that is there; if that is one of the table, so is the new one
good_writes_key : (h : History) → Legal h → (who table : ℕ) (key : List Val) (old new : Option (List Val)) → other_than who (holder table key h) ≡ None → table < length (table_names h)
    → (is_leaf (node h) ≡ true → is_read_only table h ≡ false) → ((rows_in h).key who table key).standing ≡ old → (IfSome old (IsRowOf (columns_of table h) key) → IfSome new (IsRowOf (columns_of table h) key))
    → Good h who (writes_key (part_of h) who table key old new)
good_writes_key h l who table key old new free within writable stands fits = by_own (own_txid who h) refl
  where
    by_own : (o : Option ℕ) → own_txid who h ≡ o → Good h who (own_or_next (part_of h) o >>= (λ t.
        does_marks (Number 1) (begin_of who t o ++ (tabled (wrote (of_session who) t table key old new) ∷ []) ++ commit_of who t (block who h))))
    by_own None none =
        let mine : own_txid who (began (of_session who) (next_txid h) ∷ h) ≡ Some (next_txid h) = ap (λ b. if b then Some (next_txid h) else own_txid who h) (same-session who) in
        good_test_then h who (nat_le (2 ^ 62) (next_txid h)) TxidsSpent (next_txid h) _
        (more (begins who none)
        (more (writes who (next_txid h) table key old new mine free (record { within = within; writable = writable; stands = stands-begun h l who table key old none stands; fits = fits }))
        (good_commits (tabled (wrote (of_session who) (next_txid h) table key old new) ∷ began (of_session who) (next_txid h) ∷ h) who (next_txid h) (block who h) mine)))
    by_own (Some t) mine =
        more (writes who t table key old new mine free (record { within = within; writable = writable; stands = stands-by h l who table key old stands; fits = fits }))
        (good_commits (tabled (wrote (of_session who) t table key old new) ∷ h) who t (block who h) mine)

-- what is done when a key is free
good_once_free : (h : History) (who table : ℕ) (key : List Val) (attempt : Attempt) (c : Checked Outcome) → MayWait (part_of h) (node h) who table key attempt
    → (other_than who (holder table key h) ≡ None → Good h who c)
    → Good h who (once_free (part_of h) who table key attempt (other_than who (holder table key h)) c)
good_once_free h who table key attempt c may good = of (other_than who (holder table key h)) refl
  where
    of : (o : Option ℕ) → other_than who (holder table key h) ≡ o → Good h who (once_free (part_of h) who table key attempt o c)
    of None free = good free
    of (Some v) is = good_refused_by h who (option_map Deadlock (ring (part_of h) who v)) _ (λ _. more (begins_waiting who table key attempt may) done)

pub no-one : {A B : Type 0} (f : A → B) (o : Option A) → option_map f o ≡ None → o ≡ None
no-one f None e = refl
no-one f (Some a) e = absurd (cc)

pub nothing : {A : Type 0} (o : Option A) → is_some o ≡ false → o ≡ None
nothing None e = refl
nothing (Some a) e = absurd (cc)

good_changes : (h : History) → Legal h → (who table : ℕ) (key : List Val) (attempt : Attempt) → MayWait (part_of h) (node h) who table key attempt
    → (new_of : List Val → Checked (Option (List Val)))
    → ((row : List Val) (new : Option (List Val)) → new_of row ≡ Ok new → IsRowOf (columns_of table h) key row → IfSome new (IsRowOf (columns_of table h) key))
    → (row : Option (List Val)) → ((rows_in h).key who table key).row ≡ row
    → Good h who (changes (part_of h) ((rows_in h).key who table key) who table key attempt new_of row)
good_changes h l who table key attempt may new_of fits None is = done
good_changes h l who table key attempt may new_of fits (Some row) is =
    good_once_free h who table key attempt _ may (λ free.
    good_refused_by h who (option_map Serialize ((rows_in h).key who table key).unseen) _ (λ seen.
    good_checked h who (new_of row) _ (λ new same.
    good_writes_key h l who table key (Some row) new free may.within may.writable
    (sym (seen-stands h l who table key (no-one Serialize ((rows_in h).key who table key).unseen seen)) ∙ is)
    (fits row new same))))

pub good_attempts : (h : History) → Legal h → (who table : ℕ) (key : List Val) (attempt : Attempt) → MayWait (part_of h) (node h) who table key attempt
    → Good h who (attempts (part_of h) ((rows_in h).key who table key) who table key attempt)
good_attempts h l who table key (Insertion row) may =
    good_once_free h who table key (Insertion row) _ may (λ free.
    good_test h who (is_some ((rows_in h).key who table key).standing) Duplicate _ (λ none.
    good_writes_key h l who table key None (Some row) free may.within may.writable (nothing ((rows_in h).key who table key).standing none) (λ _. may.fits)))
good_attempts h l who table key (Changes sets) may =
    good_changes h l who table key (Changes sets) may _ (sets-fit (columns_of table h) key sets may.fits) ((rows_in h).key who table key).row refl
good_attempts h l who table key Deletion may =
    good_changes h l who table key Deletion may (λ row. Ok None) (λ row new same _. none-fits (columns_of table h) key new same) ((rows_in h).key who table key).row refl

good_row_or_none : (h : History) (who : ℕ) (row : Option (List Val)) → Good h who (row_or_none row)
good_row_or_none h who None = done
good_row_or_none h who (Some row) = done

-- a statement that its session may make there
pub good_row_form : (h : History) → Legal h → (who : ℕ) (stmt : RowStmt) → MayStand h who (where_of_row stmt) → Good h who (row_form (part_of h) (rows_in h) who stmt)
good_row_form h l who (OpenDb name) may = by_test (λ b. has_open who h ≡ b → Good h who (open_db who b)) (has_open who h) (λ _ _. good_refused h who AlreadyOpen) (λ _ is. more (connects who is) done) refl
good_row_form h l who Close may =
    let quiet = quiet-closing h who may in
    let left = good_closes h who (own_txid who h) refl quiet in
    by_block (λ b. block who h ≡ b → Good h who (close who (own_txid who h) b)) (λ is. more (disconnects who quiet is) done) (λ _. left) (λ _. left) (block who h) refl
good_row_form h l who Cancel may =
    by_test (λ b. Good h who (cancel who (own_txid who h) (block who h) b)) (is_waiting who (waiting h)) (λ _. more (ends_waiting who) (good_refused (tabled (waited who) ∷ h) who Canceled)) (λ _. done)
good_row_form h l who Begin may =
    by_block (λ b. block who h ≡ b → Good h who (begin who b)) (λ is. more (begins_block who is (open-beginning h who may)) done) (λ _. done) (λ _. done) (block who h) refl
good_row_form h l who BeginRepeatableRead may =
    by_block (λ b. block who h ≡ b → Good h who (begin_repeatable_read who b)) (λ is. more (begins_block who is (open-beginning h who may)) (more (repeats_block who) done)) (λ _. done) (λ _. done) (block who h) refl
good_row_form h l who Commit may =
    by_block (λ b. Good h who (commit who (own_txid who h) b)) done (good_leaves h who true (own_txid who h) refl) (good_leaves h who false (own_txid who h) refl) (block who h)
good_row_form h l who Rollback may =
    let left = good_leaves h who false (own_txid who h) refl in
    by_block (λ b. Good h who (rollback who (own_txid who h) b)) done left left (block who h)
good_row_form h l who TxidCurrent may = good_txid_current h who (own_txid who h) refl
good_row_form h l who TxidCurrentSnapshot may = done
good_row_form h l who (TxidVisibleInSnapshot txid snapshot) may = good_found h who (parse_snapshot snapshot) BadSnapshot _ (λ s _. done)
good_row_form h l who (CreateTable name columns) may =
    good_test h who (is_some (place_of name (table_names h))) (TableExists name) _ (λ new.
    good_test h who (nat_le 64 (length (table_names h))) (TooMany Tables) _ (λ _.
    good_refused_by h who (option_map (schema_refusal columns) (schema_fault columns)) _ (λ _.
    more (makes_table name columns (nothing (place_of name (table_names h)) new)) done)))
good_row_form h l who (Insert name row) may =
    good_found h who (place_of name (table_names h)) (NoTable name) _ (λ table there.
    good_test h who (is_read_only table h) ReadOnly _ (λ writable.
    good_refused_by h who (option_map (bad_values (columns_of table h)) (row_fault (columns_of table h) row)) _ (λ fits.
    good_attempts h l who table (key_of (columns_of table h) row) (Insertion row) (record {
      within = place_of_within name (table_names h) table there;
      writable = λ leaf. writable;
      fits = (no-one (bad_values (columns_of table h)) (row_fault (columns_of table h) row) fits, refl);
      quiet = quiet-reading h who may;
      is_open = open-reading h who may;
    }))))
good_row_form h l who (Update name key sets) may =
    good_found h who (place_of name (table_names h)) (NoTable name) _ (λ table there.
    good_test h who (is_read_only table h) ReadOnly _ (λ writable.
    good_refused_by h who (option_map (bad_values (key_columns (columns_of table h))) (row_fault (key_columns (columns_of table h)) key)) _ (λ _.
    good_refused_by h who (option_map BadRow (bad_sets (columns_of table h) [] sets)) _ (λ well.
    good_refused_by h who (option_map (λ (set : Set). KeyChange set.column) (find (is_key_change (columns_of table h)) sets)) _ (λ stays.
    good_attempts h l who table key (Changes sets) (record {
      within = place_of_within name (table_names h) table there;
      writable = λ leaf. writable;
      fits = changes-fit (columns_of table h) [] sets (no-one BadRow (bad_sets (columns_of table h) [] sets) well)
          (no-one (λ (set : Set). KeyChange set.column) (find (is_key_change (columns_of table h)) sets) stays);
      quiet = quiet-reading h who may;
      is_open = open-reading h who may;
    }))))))
good_row_form h l who (Delete name key) may =
    good_found h who (place_of name (table_names h)) (NoTable name) _ (λ table there.
    good_test h who (is_read_only table h) ReadOnly _ (λ writable.
    good_refused_by h who (option_map (bad_values (key_columns (columns_of table h))) (row_fault (key_columns (columns_of table h)) key)) _ (λ fits.
    good_attempts h l who table key Deletion (record {
      within = place_of_within name (table_names h) table there;
      writable = λ leaf. writable;
      fits = no-one (bad_values (key_columns (columns_of table h))) (row_fault (key_columns (columns_of table h)) key) fits;
      quiet = quiet-reading h who may;
      is_open = open-reading h who may;
    }))))
good_row_form h l who (Get name key) may =
    good_found h who (place_of name (table_names h)) (NoTable name) _ (λ table _.
    good_refused_by h who (option_map (bad_values (key_columns (columns_of table h))) (row_fault (key_columns (columns_of table h)) key)) _ (λ _.
    good_row_or_none h who ((rows_in h).key who table key).row))
good_row_form h l who (Scan table) may = good_found h who (place_of table (table_names h)) (NoTable table) _ (λ _ _. done)
