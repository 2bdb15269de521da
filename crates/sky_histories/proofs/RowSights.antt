-- What the kept versions show at a sight is what the history shows there.
use Rattle.std.proofs.Common.{◌≡◌, ℕ, true, false, List, [], ◌∷◌, Option, Some, None, option_map, is_some, refl, sym, ◌∙◌, ap, subst, arith, if◌then◌else◌, ◌||◌, ◌==◌, IfSome}
use Rattle.std.proofs.lemmas.Bool.{or_right}
use Rattle.std.specs.Option.{option_or}
use Rattle.sky_val.specs.declared.val.Val.{Val}
use Rattle.sky_val.specs.Entries.{at}
use Rattle.sky_val.proofs.EntryLemmas.{same_entries}
use Rattle.sky_txid.specs.Ids.{contains}
use Rattle.sky_txid.specs.Snapshot.{sees}
use Rattle.sky_keys.specs.declared.version.Version.{Version}
use Rattle.sky_keys.specs.Versions.{newest_by, own_version, row_of, read, rows_read}
use Rattle.sky_keys.proofs.VersionLemmas.{newest_with, newest_without}
use Rattle.sky_keys.proofs.EntryLemmas.{versions_at-forgotten, at-rows_read, is_in_order-rows_read}
use Rattle.sky_model.specs.History.{Mark, ended, repeats, sight_taken, block_failed, block_ended, History, tabled, wrote}
use Rattle.sky_model.specs.Transactions.{has_ended, has_committed, has_rolled_back, snapshot}
use Rattle.sky_model.specs.Sessions.{own_txid, Sight, at_each, at_first, at_place, sight, sight_by, place_of_sight, session}
use Rattle.sky_model.specs.Rows.{committed, writes as writes_of, rows, own_writes, rows_with_own, rows_shown, has_written, last_writer, unless, unseen_writer}
use Rattle.sky_model.specs.Versions.{versions}
use Rattle.sky_model.specs.State.{part_of}
use Rattle.sky_model.specs.ShownRows.{rows_in, rows_by, unseen_in}
use Rattle.sky_histories.proofs.Legal.{Fine, Legal, next}
use Rattle.sky_histories.proofs.Snapshots.{contains-push, sees-snapshot, own-unended, has_committed-ended, ender-unended}
use Rattle.sky_histories.proofs.RowWrites.{over, last_of, at-put_all, is_in_order-put_all, is_in_order-in_turn, has_written-last_of, last_writer-has}
use Rattle.sky_histories.proofs.RowKeys.{is_in_order-versions}
use Rattle.sky_histories.proofs.KeyVersions.{kept, key_holds, kept-wrote}
use Rattle.sky_model.proofs.Cases.{by_test}
use Rattle.sky_histories.proofs.Holders.{alone}

-- a history continues another
pub data Since (k : History) : History → Type 0 where
  here : Since k k
  later : {h : History} {mark : Mark} → Since k h → Since k (mark ∷ h)

pub legal-since : {k h : History} → Since k h → Legal h → Legal k
legal-since here l = l
legal-since (later since) (next l fine) = legal-since since l

pub ended-behind : (h : History) (mark : Mark) (t : ℕ) → has_ended h t ≡ true → has_ended (mark ∷ h) t ≡ true
ended-behind h (ended who u c) t e = or_right (t == u) (has_ended h t) e
ended-behind h _ t e = e

pub ended-since : {k h : History} → Since k h → (t : ℕ) → has_ended k t ≡ true → has_ended h t ≡ true
ended-since here t e = e
ended-since (later {h = h} {mark = mark} since) t e = ended-behind h mark t (ended-since since t e)

rolled_back-behind : (h : History) (mark : Mark) (t : ℕ) → has_rolled_back h t ≡ true → has_rolled_back (mark ∷ h) t ≡ true
rolled_back-behind h (ended who u false) t e = or_right (t == u) (has_rolled_back h t) e
rolled_back-behind h _ t e = e

rolled_back-since : {k h : History} → Since k h → (t : ℕ) → has_rolled_back k t ≡ true → has_rolled_back h t ≡ true
rolled_back-since here t e = e
rolled_back-since (later {h = h} {mark = mark} since) t e = rolled_back-behind h mark t (rolled_back-since since t e)

-- a sight is the history as it was
sight-since : (h : History) (who : ℕ) (k : History) → sight who h ≡ at_place k → Since k h
sight-since [] who k is = absurd (cc)
sight-since (sight_taken w ∷ h) who k is =
    by_test (λ b. (if b then at_place h else sight who h) ≡ at_place k → Since k (sight_taken w ∷ h)) (w == who) (λ _ e. (let one : h ≡ k = cc in later (subst (λ x. Since x h) one here))) (λ _ e. later (sight-since h who k e)) is
sight-since (repeats w ∷ h) who k is = by_test (λ b. (if b then at_first else sight who h) ≡ at_place k → Since k (repeats w ∷ h)) (w == who) (λ _ e. absurd (cc)) (λ _ e. later (sight-since h who k e)) is
sight-since (block_failed w ∷ h) who k is = by_test (λ b. (if b then at_each else sight who h) ≡ at_place k → Since k (block_failed w ∷ h)) (w == who) (λ _ e. absurd (cc)) (λ _ e. later (sight-since h who k e)) is
sight-since (block_ended w ∷ h) who k is = by_test (λ b. (if b then at_each else sight who h) ≡ at_place k → Since k (block_ended w ∷ h)) (w == who) (λ _ e. absurd (cc)) (λ _ e. later (sight-since h who k e)) is
sight-since (_ ∷ h) who k is = later (sight-since h who k is)

abbrev pub place : History → ℕ → History
place h who = place_of_sight h (sight who h)

pub place-since : (h : History) (who : ℕ) → Since (place h who) h
place-since h who = of (sight who h) refl
  where
    of : (s : Sight History) → sight who h ≡ s → Since (place_of_sight h s) h
    of at_each is = here
    of at_first is = here
    of (at_place k) is = sight-since h who k is

-- a session's snapshot is that of the place of its sight
pub snapshot-place : (h : History) (who : ℕ) → place_of_sight (snapshot h) (sight_by snapshot (sight who h)) ≡ snapshot (place h who)
snapshot-place h who = of (sight who h)
  where
    of : (s : Sight History) → place_of_sight (snapshot h) (sight_by snapshot s) ≡ snapshot (place_of_sight h s)
    of at_each = refl
    of at_first = refl
    of (at_place k) = refl

-- a mark of a transaction that hasn't ended at a place changes none that has
unended-at : {k h : History} → Since k h → (t : ℕ) → has_ended h t ≡ false → has_ended k t ≡ false
unended-at since t runs = grind (arith, ended-since since t)

newest-behind : (k h : History) → Since k h → Legal h → (mark : Mark) → Fine h mark → (table : ℕ) (key : List Val)
    → newest_by (has_ended k) (kept (mark ∷ h) table key) ≡ newest_by (has_ended k) (kept h table key)
newest-behind k h since l (ended whose t false) fine table key =
    ap (newest_by (has_ended k)) (versions_at-forgotten t key (versions table h) (is_in_order-versions table h))
    ∙ newest_without (has_ended k) t (kept h table key) (unended-at since t (ender-unended h l whose t false fine))
newest-behind k h since l (tabled (wrote whose t n at_key old new)) fine table key =
    grind (arith, kept-wrote h l whose t n at_key old new (alone h l fine) table key, newest_with (has_ended k) t new (kept h table key) (unended-at since t (alone h l fine).runs))
newest-behind k h since l _ _ table key = refl

-- the newest version that has ended at a place is the row there
pub row-at : {k h : History} → Since k h → Legal h → (table : ℕ) (key : List Val) → row_of (newest_by (has_ended k) (kept h table key)) ≡ at key (rows table k)
row-at {k = k} here l table key = (key_holds k l table key).newest
row-at {k = k} (later {h = h} {mark = mark} since) (next l fine) table key = ap row_of (newest-behind k h since l mark fine table key) ∙ row-at since l table key

-- a transaction that hasn't ended, if there is one
abbrev pub Runs : History → Option ℕ → Type 0
Runs h own = IfSome own (λ t. has_ended h t ≡ false)

own-runs : (h : History) → Legal h → (who : ℕ) → Runs h (own_txid who h)
own-runs h l who = of (own_txid who h) refl
  where
    of : (o : Option ℕ) → own_txid who h ≡ o → Runs h o
    of None is = tt
    of (Some t) is = own-unended h l who t is

-- the own version is the own transaction's last write
own-last : (h : History) → Legal h → (own : Option ℕ) → Runs h own → (table : ℕ) (key : List Val) → option_map Version.row (own_version own (kept h table key)) ≡ last_of key (own_writes table own h)
own-last h l None runs table key = refl
own-last h l (Some t) runs table key = (key_holds h l table key).own t runs

row-or : (own newest : Option Version) → row_of (option_or own newest) ≡ over (option_map Version.row own) (row_of newest)
row-or own newest = grind arith

-- the row at a place, with the own transaction's write on top, is what is read under the snapshot of the place
pub read-at : (k h : History) → Since k h → Legal h → (own : Option ℕ) → Runs h own → (table : ℕ) (key : List Val) → at key (rows_with_own table own h k) ≡ read (snapshot k) own (kept h table key)
read-at k h since l own runs table key =
    at-put_all key (own_writes table own h) (rows table k)
    ∙ ap (over (last_of key (own_writes table own h))) (sym (row-at since l table key))
    ∙ ap (λ o. over o (row_of (newest_by (has_ended k) (kept h table key)))) (sym (own-last h l own runs table key))
    ∙ sym (row-or (own_version own (kept h table key)) (newest_by (has_ended k) (kept h table key)))
    ∙ ap (λ p. row_of (option_or (own_version own (kept h table key)) (newest_by p (kept h table key)))) (λ i t. sym (sees-snapshot k (legal-since since l) t) i)

-- and so are the rows of a table, in the order of their keys
pub rows-at : (h : History) → Legal h → (who table : ℕ) → rows_shown who table h ≡ rows_read (snapshot (place h who)) (own_txid who h) (versions table h)
rows-at h l who table =
    same_entries (rows_shown who table h) (rows_read (snapshot (place h who)) (own_txid who h) (versions table h))
    (is_in_order-put_all (own_writes table (own_txid who h) h) (rows table (place h who)) (is_in_order-in_turn (λ t. writes_of table t (place h who)) (committed (place h who)) [] refl))
    (is_in_order-rows_read (snapshot (place h who)) (own_txid who h) (versions table h) (is_in_order-versions table h))
    (λ key. read-at (place h who) h (place-since h who) l (own_txid who h) (own-runs h l who) table key
    ∙ sym (at-rows_read (snapshot (place h who)) (own_txid who h) key (versions table h) (is_in_order-versions table h)))

-- the rows at an earlier place are those that are read under its snapshot
pub rows-under : (k h : History) → Since k h → Legal h → (table : ℕ) → rows_read (snapshot k) None (versions table h) ≡ rows table k
rows-under k h since l table =
    same_entries (rows_read (snapshot k) None (versions table h)) (rows table k) (is_in_order-rows_read (snapshot k) None (versions table h) (is_in_order-versions table h))
    (is_in_order-in_turn (λ t. writes_of table t k) (committed k) [] refl)
    (λ key. at-rows_read (snapshot k) None key (versions table h) (is_in_order-versions table h) ∙ sym (read-at k h since l None tt table key))

-- a transaction among the committed ones has committed
committed-has : (h : History) (t : ℕ) → contains t (committed h) ≡ true → has_committed h t ≡ true
committed-has [] t e = absurd (cc)
committed-has (ended who u true ∷ h) t e =
    let either : (contains t (committed h) || t == u) ≡ true = sym (contains-push t u (committed h)) ∙ e in
    grind (arith, committed-has h t)
committed-has (_ ∷ h) t e = committed-has h t e

-- one that has committed had committed at a place where it had ended
committed-at : {k h : History} → Since k h → Legal h → (t : ℕ) → has_committed h t ≡ true → has_ended k t ≡ has_committed k t
committed-at {k = k} {h = h} since l t e = grind (arith, has_committed-ended k (legal-since since l) t, has_committed-ended h l t, rolled_back-since since t)

-- the newest committed write that a sight doesn't have
unseen-is : (h : History) → Legal h → (who table : ℕ) (key : List Val)
    → unseen_writer table key (own_txid who h) (place h who) h ≡ unseen_in (part_of h) (session h who) (kept h table key)
unseen-is h l who table key =
    ap (λ b. if b then None else unless (has_committed (place h who)) last) own_is
    ∙ ap (λ o. if is_some (own_version (own_txid who h) (kept h table key)) then None else o) (by_commit last refl
    ∙ ap (λ o. unless (has_ended (place h who)) o) (sym (key_holds h l table key).writer)
    ∙ (λ i. unless (λ t. sym (seen t) i) (option_map Version.txid (newest_by (λ t. sym (sees-snapshot h l t) i) (kept h table key)))))
  where
    last : Option ℕ
    last = last_writer key (λ t. writes_of table t h) None (committed h)

    seen : (t : ℕ) → sees (place_of_sight (snapshot h) (sight_by snapshot (sight who h))) t ≡ has_ended (place h who) t
    seen t = ap (λ s. sees s t) (snapshot-place h who) ∙ sees-snapshot (place h who) (legal-since (place-since h who) l) t

    own_is : has_written key (own_writes table (own_txid who h) h) ≡ is_some (own_version (own_txid who h) (kept h table key))
    own_is = grind (arith, has_written-last_of key (own_writes table (own_txid who h) h), own-last h l (own_txid who h) (own-runs h l who) table key)

    by_commit : (o : Option ℕ) → last ≡ o → unless (has_committed (place h who)) last ≡ unless (has_ended (place h who)) last
    by_commit None is = ap (unless (has_committed (place h who))) is ∙ sym (ap (unless (has_ended (place h who))) is)
    by_commit (Some t) is =
        let has : has_committed h t ≡ true = last_writer-has key (λ u. writes_of table u h) (λ u. has_committed h u ≡ true) None (committed h) (committed-has h) (λ u e. absurd (cc)) t is in
        ap (unless (has_committed (place h who))) is
        ∙ ap (λ b. if b then None else Some t) (sym (committed-at (place-since h who) l t has))
        ∙ sym (ap (unless (has_ended (place h who))) is)

-- so the history shows statements on rows the same as the kept versions do
pub same-rows : (h : History) → Legal h → rows_in h ≡ rows_by (part_of h)
same-rows h l = λ i. record {
  key = λ who table key. record {
    row = (read-at (place h who) h (place-since h who) l (own_txid who h) (own-runs h l who) table key ∙ ap (λ s. read s (own_txid who h) (kept h table key)) (sym (snapshot-place h who))) i;
    standing = read-at h h here l (own_txid who h) (own-runs h l who) table key i;
    unseen = unseen-is h l who table key i;
  };
  rows = λ who table. (rows-at h l who table ∙ ap (λ s. rows_read s (own_txid who h) (versions table h)) (sym (snapshot-place h who))) i;
}
