-- The laws on copies of tables and on held snapshots.
use Rattle.std.proofs.Common.{◌≡◌, ℕ, Bool, true, not, ◌&&◌, ◌||◌, List, [], ◌∷◌, ◌++◌, Option, Some, None, is_some, is_none, bytes_eq, filter, find, sym, ◌∙◌, ap, subst, refl, map, if◌then◌else◌}
use Rattle.sky_val.specs.declared.val.Val.{Val}
use Rattle.sky_val.specs.Entries.{at}
use Rattle.sky_val.proofs.EntryLemmas.{same_entries}
use Rattle.sky_model.specs.History.{Mark, of_copy, ended, tabled, wrote, noded, copied, hold_begun, History}
use Rattle.sky_model.specs.Copies.{copies, Hold, holds}
use Rattle.sky_model.specs.Rows.{committed, writes as writes_of, wrote_in, put_all, rows, has_written, table_names}
use Rattle.sky_model.specs.Locks.{holder}
use Rattle.sky_model.specs.Nodes.{node}
use Rattle.sky_model.specs.StepNode.{is_in_copy}
use Rattle.londiste_state.specs.Nodes.{LeafTable, Node, of_root, of_leaf, is_among}
use Rattle.sky_model.specs.Promises.{after_all}
use Rattle.sky_model.specs.DatabaseCalls.{database_part}
use Rattle.sky_model.specs.LawsOfLocks.{HasWritten}
use Rattle.sky_model.specs.LawsOfCopies.{CopiesRunAlone, in_copy_tables, CopiesAreOfTablesInCopy, CopiesDeleteWhatStands, CopiesNameWhatStands, HasCopied, CopiesLeaveTheirRows, HoldsHaveLeastNumbers, HeldRowsStay, IsLeastFree}
use Rattle.sky_histories.proofs.Legal.{Covers, JustCopied, ends_copy, copies_row, nodes, Fine, Legal, legal-below_mark, fine_mark}
use Rattle.sky_histories.proofs.Snapshots.{sound, runs-unended, copy-runs, own-unended}
use Rattle.sky_histories.proofs.SnapshotLaws.{legal_place}
use Rattle.sky_histories.proofs.WrittenTables.{is-written, has-some}
use Rattle.sky_histories.proofs.Guarded.{IsGuarded, copied-by, copies-guarded, one-copy, unguarded}
use Rattle.sky_histories.proofs.InCopyTables.{leaf_table, IsInCopy, copies-in-copy, in-copy-fresh}
use Rattle.sky_histories.proofs.CopyCalls.{among-one}
use Rattle.sky_model.proofs.Cases.{by_test}
use Rattle.sky_histories.proofs.Holders.{holder-written}
use Rattle.sky_histories.proofs.RowWrites.{over, last_of, at-put_all, is_in_order-put_all, is_in_order-in_turn, has_written-last_of, in_turn-push}
use Rattle.sky_histories.proofs.RowSights.{Since, here, later, read-at, rows-under}
use Rattle.sky_histories.proofs.Histories.{legal_calls}
use Rattle.sky_names.specs.Places.{place_of}

-- no session holds a key of a table that is copied
pub unheld : (h : History) → Legal h → (table : ℕ) → IsGuarded h table → (key : List Val) → (o : Option ℕ) → holder table key h ≡ o → o ≡ None
unheld h l table g key None is = refl
unheld h l table g key (Some who) is =
    let w : HasWritten h table key who = holder-written h l table key who is in
    let in_table : wrote_in table w.txid h ≡ true = is-written h l table w.txid ∙ (λ i. not (own-unended h l who w.txid w.runs i) && has-some key h table w.txid w.wrote i) in
    absurd (cc (sym (unguarded h l who w.txid table w.runs in_table g.leaf) ∙ g.guarded))

pub copies_run_alone : CopiesRunAlone
copies_run_alone p is table t runs =
    let l : Legal p = legal_place p is in
    let g : IsGuarded p table = copies-guarded p l table (copied-by table t (copies p) runs) in
    record {
      runs = copy-runs p (sound p l) table t runs;
      leaf = g.leaf;
      guarded = g.guarded;
      unheld = λ key. unheld p l table g key (holder table key p) refl;
      alone = λ u also. one-copy p l table t u runs also;
    }

-- a table that is found, and is such, is among those that are
found-such : (such : LeafTable → Bool) (name : List ℕ) (ts : List LeafTable) (t : LeafTable) → find (λ (x : LeafTable). bytes_eq name x.name) ts ≡ Some t → such t ≡ true
    → is_among name (map LeafTable.name (filter such ts)) ≡ true
found-such such name [] t found is = absurd (cc)
found-such such name (x ∷ ts) t found is = by_test (λ b. bytes_eq name x.name ≡ b → (if b then Some x else find (λ (y : LeafTable). bytes_eq name y.name) ts) ≡ Some t → is_among name (map LeafTable.name (filter such (x ∷ ts))) ≡ true)
    (bytes_eq name x.name)
    (λ _ its found.
    let same : x ≡ t = cc in
    let here : such x ≡ true = ap such same ∙ is in
    ap (λ b. is_among name (map LeafTable.name (if b then x ∷ filter such ts else filter such ts))) here ∙ ap (λ b. b || is_among name (map LeafTable.name (filter such ts))) its)
    (λ _ differ found.
    by_test (λ b. is_among name (map LeafTable.name (if b then x ∷ filter such ts else filter such ts)) ≡ true) (such x)
    (λ _. ap (λ b. b || is_among name (map LeafTable.name (filter such ts))) differ ∙ found-such such name ts t found is)
    (λ _. found-such such name ts t found is)) refl found

in-copy-among : (name : List ℕ) (n : Option Node) (t : LeafTable) → leaf_table name n ≡ Some t → is_in_copy t.state ≡ true → is_none t.snapshot ≡ true → is_among name (in_copy_tables n) ≡ true
in-copy-among name None t found state fresh = absurd (cc)
in-copy-among name (Some (of_root r)) t found state fresh = absurd (cc)
in-copy-among name (Some (of_leaf l)) t found state fresh = found-such (λ t. is_in_copy t.state && is_none t.snapshot) name l.tables t found (λ i. state i && fresh i)

pub copies_are_of_tables_in_copy : CopiesAreOfTablesInCopy
copies_are_of_tables_in_copy calls table t runs =
    let h : History = after_all database_part calls in
    let l : Legal h = legal_calls calls in
    let c : IsInCopy h table = copies-in-copy h l table (copied-by table t (copies h) runs) in
    among-one (table_names h) (in_copy_tables (node h)) c.name table c.there (in-copy-among c.name (node h) c.t c.found c.state (in-copy-fresh h l table c))

pub copies_delete_what_stands : CopiesDeleteWhatStands
copies_delete_what_stands p is table = rows-under p p here (legal_place p is) table

names : (p : History) (n table t : ℕ) (key : List Val) (old new : Option (List Val)) → Legal p → Fine p (tabled (wrote (of_copy n) t table key old new))
    → at key (put_all (writes_of table t p) (rows table p)) ≡ old
names p _ _ _ _ _ _ l (copies_row table t key old new is) =
    read-at p p here l (Some t) (runs-unended p (sound p l) t (copy-runs p (sound p l) table t is.runs)) table key ∙ is.stands

pub copies_name_what_stands : CopiesNameWhatStands
copies_name_what_stands p table t key old new is =
    let l : Legal (tabled (wrote (of_copy table) t table key old new) ∷ p) = legal_place (tabled (wrote (of_copy table) t table key old new) ∷ p) is in
    names p table table t key old new (legal-below_mark l) (fine_mark l)

-- ---- the end of a copy

-- of one that has written all keys that have rows, its writes alone are left
left-over : (h : History) (table t : ℕ) → Covers h table t → put_all (writes_of table t h) (rows table h) ≡ put_all (writes_of table t h) []
left-over h table t covers =
    same_entries (put_all (writes_of table t h) (rows table h)) (put_all (writes_of table t h) [])
    (is_in_order-put_all (writes_of table t h) (rows table h) (is_in_order-in_turn (λ u. writes_of table u h) (committed h) [] refl)) (is_in_order-put_all (writes_of table t h) [] refl)
    (λ key. at-put_all key (writes_of table t h) (rows table h)
    ∙ of key (last_of key (writes_of table t h)) (at key (rows table h)) (has_written-last_of key (writes_of table t h)) (covers key)
    ∙ sym (at-put_all key (writes_of table t h) []))
  where
    of : (key : List Val) (o : Option (Option (List Val))) (row : Option (List Val)) → has_written key (writes_of table t h) ≡ is_some o
        → (is_some row ≡ true → has_written key (writes_of table t h) ≡ true) → over o row ≡ over o None
    of key (Some left) row is all = refl
    of key None None is all = refl
    of key None (Some row) is all = absurd (cc (sym (all refl) ∙ is))

whole-copy : (p : History) (table t : ℕ) → Fine p (ended (of_copy table) t true) → rows table (ended (of_copy table) t true ∷ p) ≡ put_all (writes_of table t p) []
whole-copy p _ _ (ends_copy table t c may) = in_turn-push (λ u. writes_of table u p) (committed p) t [] ∙ left-over p table t (may.whole refl)

just-copied : {p : History} {name : List ℕ} {under : _} {tick : ℕ} → Fine p (noded (copied name under tick)) → JustCopied p name
just-copied (nodes mark fits) = fits

has-copied : (p : History) (name : List ℕ) → Legal p → JustCopied p name → HasCopied p name
has-copied p name l just = record {
  below = just.below;
  table = just.table;
  t = just.t;
  last = just.last;
  named = subst (λ (h : History). named_in h) (sym just.last) just.there;
  whole = subst whole_in (sym just.last) (whole-copy just.below just.table just.t (fine_mark (subst Legal just.last l)));
}
  where
    named_in : History → Type 0
    named_in h = place_of name (table_names h) ≡ Some just.table

    whole_in : History → Type 0
    whole_in h = rows just.table h ≡ put_all (writes_of just.table just.t h) []

pub copies_leave_their_rows : CopiesLeaveTheirRows
copies_leave_their_rows p name under tick is =
    let l : Legal (noded (copied name under tick) ∷ p) = legal_place (noded (copied name under tick) ∷ p) is in
    has-copied p name (legal-below_mark l) (just-copied (fine_mark l))

-- ---- holds

pub holds_have_least_numbers : HoldsHaveLeastNumbers
holds_have_least_numbers p number is = of (fine_mark (legal_place (noded (hold_begun number) ∷ p) is))
  where
    of : Fine p (noded (hold_begun number)) → IsLeastFree number (map Hold.number (holds p))
    of (nodes mark fits) = fits

since : (above : List Mark) (p : History) → Since p (above ++ p)
since [] p = here
since (mark ∷ above) p = later (since above p)

pub held_rows_stay : HeldRowsStay
held_rows_stay above p is table = rows-under p (above ++ p) (since above p) (legal_place (above ++ p) is) table
