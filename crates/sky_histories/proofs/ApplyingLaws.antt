-- The laws on batches that a leaf applies.
use Rattle.std.proofs.Common.{◌≡◌, ◌≢◌, ℕ, ◌^◌, ◌&&◌, ◌||◌, ◌==◌, nat_le, List, [], ◌∷◌, ◌++◌, Bool, true, false, not, Option, Some, None, Ok, All, filter, length, bytes_eq, is_some, is_none, option_map, option_and_then, unwrap_or, append-nil, refl, sym, ◌∙◌, ap, subst, arith, append_assoc, if◌then◌else◌}
use Rattle.std.specs.List.{list_any, slice_get}
use Rattle.std.proofs.lemmas.Bool.{and_parts, false_from_ne_true}
use Rattle.std.proofs.lemmas.Bool.Decides.{nat_tests}
use Rattle.std.proofs.lemmas.List.Elements.{All-nil, All-cons, All-head, All-tail, All-weaker}
use Rattle.sky_val.specs.declared.val.Val.{Val}
use Rattle.sky_val.specs.declared.column.Column.{Column}
use Rattle.sky_val.specs.declared.event.Event.{Event}
use Rattle.sky_val.specs.declared.op.Op.{Op}
use Rattle.sky_val.specs.declared.op.Op.TheVariants.{Insert, Update, Delete}
use Rattle.sky_val.specs.Entries.{Entries, at}
use Rattle.sky_val.specs.Schemas.{key_of}
use Rattle.sky_urlenc.specs.Changes.{Change, change_of, after_op, changed, may_do, allows, applies}
use Rattle.sky_urlenc.specs.Changes as events_of
use Rattle.sky_names.specs.Places.{place_of}
use Rattle.sky_names.proofs.PlaceLemmas.{bytes_eq_refl, same_name, slice_get-place_of}
use Rattle.sky_model.specs.declared.reply.Reply.TheVariants.{Number, Null, Refused}
use Rattle.sky_model.specs.declared.reply.Refusal.TheVariants.{TxidsSpent}
use Rattle.sky_model.specs.Copies.{copies, is_copied}
use Rattle.sky_model.specs.History.{Mark, Pick, of_synced, copy_of, of_worker, began, ended, tabled, wrote, noded, applied, History}
use Rattle.sky_model.specs.Transactions.{next_txid}
use Rattle.sky_model.specs.Rows.{Write, table_names, columns_of, committed, writes as writes_of, put, put_all, rows, rows_with_own}
use Rattle.sky_txid.specs.Snapshot.{SnapshotView, sees}
use Rattle.londiste_state.specs.declared.state.TableState.{TableState}
use Rattle.londiste_state.specs.declared.state.TableState.TheVariants.{Synced}
use Rattle.londiste_state.specs.Nodes.{LeafTable, Leaf, Node, of_root, of_leaf, is_among, table_of}
use Rattle.sky_model.specs.Nodes.{after_node, node, leaf_tables}
use Rattle.sky_model.specs.State.{part_of, after_part, database_of}
use Rattle.sky_model.specs.Outcome.{Outcome, Checked, ◌>>=◌, ◌>>◌, refused_if, answers, marks_of, reply_of}
use Rattle.sky_model.specs.Reader.{part_by_history}
use Rattle.sky_model.specs.Settling.{marked}
use Rattle.sky_model.specs.StepCopy.{row_for}
use Rattle.sky_model.specs.StepNode.{is_in_copy}
use Rattle.sky_model.specs.StepApply.{is_change, is_of_table, is_synced, has_synced, kept_snapshot, may_apply, picks, picked, may_meet, row_left, change_write, work_write, changes_row, applies_event, Applying, write_then, applies_events, applies_in, ends_applying, applies_picked, is_of_copied}
use Rattle.sky_model.specs.Promises.{after_all}
use Rattle.sky_model.specs.DatabaseCalls.{database_part}
use Rattle.sky_model.specs.LawsOfApplying.{WritesAlone, WorkersWriteAlone, answer_to, picked_of, IsApplied, BatchesPutTheirEvents, OtherBatchesLeaveRows, NoPickedTableIsCopied, IsFirstBad, BadEventsCantBeApplied, GoodBatchesAreApplied}
use Rattle.sky_histories.proofs.Legal.{brief, Fine, applies_row, begins_work, Legal, next, legal-below_mark, fine_mark}
use Rattle.sky_histories.proofs.Marks.{part_of-mark}
use Rattle.sky_histories.proofs.Snapshots.{sound, runs-unended}
use Rattle.sky_histories.proofs.SnapshotLaws.{legal_place}
use Rattle.sky_histories.proofs.RowKeys.{begun}
use Rattle.sky_histories.proofs.RowWrites.{in_turn-push}
use Rattle.sky_histories.proofs.RowSights.{here, read-at}
use Rattle.sky_histories.proofs.CopiesCovered.{rows-wrote}
use Rattle.sky_model.specs.Locks.{holder}
use Rattle.sky_histories.proofs.CopyLaws.{unheld}
use Rattle.sky_histories.proofs.CopyCalls.{LeafGuarded}
use Rattle.sky_histories.proofs.ApplyCalls.{IsWritten, IsNamed, picked-named, IsFree, picked-free, AtWork, at-work, IsGood, event-good, applies-leaf}
use Rattle.sky_histories.proofs.NodeTables.{one-place, have-tables}
use Rattle.sky_histories.proofs.InCopyTables.{leaf_table, IsInCopy, copies-in-copy, in-copy-fresh}
use Rattle.sky_histories.proofs.Resting.{behind-append}
use Rattle.sky_histories.proofs.Good.{same-session}
use Rattle.sky_histories.proofs.Histories.{legal_calls, stands_calls, rests_calls}
use Rattle.sky_model.proofs.Cases.{by_test}

-- ---- writes of workers

writes-alone : (p : History) (t table : ℕ) (key : List Val) (old new : Option (List Val)) → Legal p → Fine p (tabled (wrote of_worker t table key old new)) → WritesAlone p table t key old
writes-alone p _ _ _ _ _ l (applies_row table t key old new is) =
    let runs = (sound p l).works t is.brief.work.works in
    record {
      runs = runs;
      leaf = is.leaf;
      guarded = is.guarded;
      uncopied = is.uncopied;
      unheld = unheld p l table (record { leaf = is.leaf; guarded = is.guarded }) key (holder table key p) refl;
      alone = is.alone;
      stands = read-at p p here l (Some t) (runs-unended p (sound p l) t runs) table key ∙ is.stands;
    }

pub workers_write_alone : WorkersWriteAlone
workers_write_alone p t table key old new is =
    let l : Legal (tabled (wrote of_worker t table key old new) ∷ p) = legal_place (tabled (wrote of_worker t table key old new) ∷ p) is in
    writes-alone p t table key old new (legal-below_mark l) (fine_mark l)

-- ---- the rows of a table for a transaction

abbrev rows_for : History → (n t : ℕ) → Entries (List Val)
rows_for g n t = rows_with_own n (Some t) g g

put_all-push : (ws : List Write) (w : Write) (rs : Entries (List Val)) → put_all (ws ++ w ∷ []) rs ≡ put w.key w.row (put_all ws rs)
put_all-push [] w rs = refl
put_all-push (x ∷ ws) w rs = put_all-push ws w (put x.key x.row rs)

-- after a write of it
wrote-rows : (g : History) → Legal g → (t m : ℕ) (key : List Val) (old new : Option (List Val)) → Fine g (tabled (wrote of_worker t m key old new)) → (n : ℕ)
    → rows_for (tabled (wrote of_worker t m key old new) ∷ g) n t ≡ (if m == n then put key new (rows_for g n t) else rows_for g n t)
wrote-rows g l t m key old new fine n =
    ap (put_all (writes_of n t (tabled (wrote of_worker t m key old new) ∷ g))) (rows-wrote g l of_worker t m key old new fine n)
    ∙ by_test (λ b. put_all (if b && t == t then writes_of n t g ++ w ∷ [] else writes_of n t g) (rows n g) ≡ (if b then put key new (rows_for g n t) else rows_for g n t)) (m == n)
    (λ _. ap (λ b. put_all (if b then writes_of n t g ++ w ∷ [] else writes_of n t g) (rows n g)) (same-session t) ∙ put_all-push (writes_of n t g) w (rows n g)) (λ _. refl)
  where
    w : Write
    w = record { key = key; row = new }

-- a change puts its row, or removes it, and is allowed where it may be made
op-put : (op : Op) (key row : List Val) (rs : Entries (List Val)) → put key (row_left op row) rs ≡ after_op op key row rs
op-put Insert key row rs = refl
op-put Update key row rs = refl
op-put Delete key row rs = refl

op-may : (op : Op) (key : List Val) (rs : Entries (List Val)) → may_meet op (at key rs) ≡ may_do op key rs
op-may Insert key rs = refl
op-may Update key rs = refl
op-may Delete key rs = refl

-- the row that a key has for a transaction at work is the one at the key
row-met : (g : History) → Legal g → (t : ℕ) → AtWork g t → (n : ℕ) (key : List Val) → at key (rows_for g n t) ≡ row_for (part_of g) n t key
row-met g l t work n key = read-at g g here l (Some t) (runs-unended g (sound g l) t ((sound g l).works t work.brief.work.works)) n key

-- ---- what is made of events

-- all were applied, or the first of what is left can't be
data Ends (k : History) (t : ℕ) : List Event → Option ℕ → Type 0 where
  whole : Ends k t [] None
  stopped : (event : Event) (rest : List Event) → applies_event (part_of k) t event ≡ None → Ends k t (event ∷ rest) (Some event.ev_id)

-- those in front were applied
record Went (g : History) (t : ℕ) (events : List Event) (made : Applying) : Type 0 where
  front : List Event
  left : List Event
  split : events ≡ front ++ left
  legal : Legal (marked g made.marks)
  work : AtWork (marked g made.marks) t
  ends : Ends (marked g made.marks) t left made.bad
  columns : (n : ℕ) → columns_of n (marked g made.marks) ≡ columns_of n g
  names : table_names (marked g made.marks) ≡ table_names g
  nodes : node (marked g made.marks) ≡ node g
  kept : (n : ℕ) → rows n (marked g made.marks) ≡ rows n g
  puts : (name : List ℕ) (n : ℕ) → place_of name (table_names g) ≡ Some n → rows_for (marked g made.marks) n t ≡ events_of.put (columns_of n g) (rows_for g n t) (filter (is_of_table name) front)
  fit : (name : List ℕ) (n : ℕ) → place_of name (table_names g) ≡ Some n → applies (columns_of n g) (rows_for g n t) (filter (is_of_table name) front) ≡ true

-- the table of a name is the one of an event's name if and only if the event is one of it
module _ (tables : List (List ℕ)) (event : Event) (other : List ℕ) (m : ℕ) (named : event.ev_extra1 ≡ Some other) (there : place_of other tables ≡ Some m)
    (name : List ℕ) (n : ℕ) (at_n : place_of name tables ≡ Some n) where
  is-own : is_of_table name event ≡ bytes_eq name other
  is-own = ap (λ o. unwrap_or (option_map (bytes_eq name) o) false) named

  same-table : is_of_table name event ≡ true → m ≡ n
  same-table is =
      let one : name ≡ other = same_name name other (sym is-own ∙ is) in
      let both : Some m ≡ Some n = sym there ∙ ap (λ k. place_of k tables) (sym one) ∙ at_n in cc

  other-table : is_of_table name event ≡ false → (m == n) ≡ false
  other-table isnt = by_test (λ b. (m == n) ≡ b → b ≡ false) (m == n)
      (λ _ same. (let one : m ≡ n = grind (arith, nat_tests, same) in
      let both : Some name ≡ Some other = sym (slice_get-place_of name tables n at_n) ∙ ap (slice_get tables) (sym one) ∙ slice_get-place_of other tables m there in
      let names : name ≡ other = cc in
      absurd (cc (sym isnt ∙ is-own ∙ ap (λ k. bytes_eq k other) names ∙ bytes_eq_refl other))))
      (λ _ _. refl) refl

went : (g : History) → Legal g → (t : ℕ) (events : List Event) → AtWork g t → All (IsFree g) events → Went g t events (applies_events (part_of g) t events)
went g l t [] work free = record {
  front = [];
  left = [];
  split = refl;
  legal = l;
  work = work;
  ends = whole;
  columns = λ n. refl;
  names = refl;
  nodes = refl;
  kept = λ n. refl;
  puts = λ name n there. refl;
  fit = λ name n there. refl;
}
went g l t (event ∷ events) work free = of (applies_event (part_of g) t event) refl (λ k legal at_work are. went k legal t events at_work are)
  where
    of : (o : Option Mark) → applies_event (part_of g) t event ≡ o → ((k : History) → Legal k → AtWork k t → All (IsFree k) events → Went k t events (applies_events (part_of k) t events))
        → Went g t (event ∷ events) (write_then event o (λ mark. applies_events (after_part (part_of g) mark) t events))
    of None is ih = record {
      front = [];
      left = event ∷ events;
      split = refl;
      legal = l;
      work = work;
      ends = stopped event events is;
      columns = λ n. refl;
      names = refl;
      nodes = refl;
      kept = λ n. refl;
      puts = λ name n there. refl;
      fit = λ name n there. refl;
    }
    of (Some mark) is ih =
        subst (λ m. Went g t (event ∷ events) (write_then event (Some m) (λ mark. applies_events (after_part (part_of g) mark) t events))) (sym good.written.is) (record {
          front = event ∷ later.front;
          left = later.left;
          split = ap (λ es. event ∷ es) later.split;
          legal = later.legal;
          work = later.work;
          ends = later.ends;
          columns = later.columns;
          names = later.names;
          nodes = later.nodes;
          kept = λ n. later.kept n ∙ rows-wrote g l of_worker t w.table key (row_for (part_of g) w.table t key) (row_left w.change.op w.change.row) good.fine n;
          puts = λ name n there. later.puts name n there ∙ puts name n there;
          fit = λ name n there. fit name n there (later.fit name n there);
        })
      where
        good : IsGood g t event mark
        good = event-good g t event mark work (All-head (IsFree g) event events free) is

        w : IsWritten (part_of g) t event mark
        w = good.written

        key : List Val
        key = key_of (columns_of good.written.table g) good.written.change.row

        write : Mark
        write = work_write (part_of g) good.written.table t (change_write (columns_of good.written.table g) good.written.change)

        later : Went (write ∷ g) t events (applies_events (after_part (part_of g) write) t events)
        later = subst (λ d. Went (write ∷ g) t events (applies_events d t events)) (part_of-mark g write) (ih (write ∷ g) (next l good.fine) good.still (All-tail (IsFree g) event events free))

        columns : List Column
        columns = columns_of w.table g

        -- the rows of the table, and those of others
        at-own : rows_for (write ∷ g) w.table t ≡ changed columns (change_of columns event) (rows_for g w.table t)
        at-own =
            wrote-rows g l t w.table key (row_for (part_of g) w.table t key) (row_left w.change.op w.change.row) good.fine w.table
            ∙ ap (λ b. if b then put key (row_left w.change.op w.change.row) (rows_for g w.table t) else rows_for g w.table t) (same-session w.table)
            ∙ op-put w.change.op key w.change.row (rows_for g w.table t) ∙ sym (ap (λ o. changed columns o (rows_for g w.table t)) w.changes)

        may-own : allows columns (change_of columns event) (rows_for g w.table t) ≡ true
        may-own =
            ap (λ o. allows columns o (rows_for g w.table t)) w.changes ∙ sym (op-may w.change.op key (rows_for g w.table t)) ∙ ap (may_meet w.change.op) (row-met g l t work w.table key) ∙ w.may

        own : (n : ℕ) → w.table ≡ n → (rows_for (write ∷ g) n t ≡ changed (columns_of n g) (change_of (columns_of n g) event) (rows_for g n t))
            × (allows (columns_of n g) (change_of (columns_of n g) event) (rows_for g n t) ≡ true)
        own n same =
            subst (λ m. (rows_for (write ∷ g) m t ≡ changed (columns_of m g) (change_of (columns_of m g) event) (rows_for g m t)) × (allows (columns_of m g) (change_of (columns_of m g) event) (rows_for g m t) ≡ true)) same
            (at-own, may-own)

        others : (n : ℕ) → (w.table == n) ≡ false → rows_for (write ∷ g) n t ≡ rows_for g n t
        others n other =
            wrote-rows g l t w.table key (row_for (part_of g) w.table t key) (row_left w.change.op w.change.row) good.fine n
            ∙ ap (λ b. if b then put key (row_left w.change.op w.change.row) (rows_for g n t) else rows_for g n t) other

        puts : (name : List ℕ) (n : ℕ) → place_of name (table_names g) ≡ Some n
            → events_of.put (columns_of n g) (rows_for (write ∷ g) n t) (filter (is_of_table name) later.front) ≡ events_of.put (columns_of n g) (rows_for g n t) (filter (is_of_table name) (event ∷ later.front))
        puts name n there =
            by_test (λ b. is_of_table name event ≡ b → events_of.put (columns_of n g) (rows_for (write ∷ g) n t) (filter (is_of_table name) later.front)
            ≡ events_of.put (columns_of n g) (rows_for g n t) (if b then event ∷ filter (is_of_table name) later.front else filter (is_of_table name) later.front)) (is_of_table name event)
            (λ _ is. ap (λ rs. events_of.put (columns_of n g) rs (filter (is_of_table name) later.front)) (own n (same-table (table_names g) event w.name w.table w.named w.there name n there is)).0)
            (λ _ isnt. ap (λ rs. events_of.put (columns_of n g) rs (filter (is_of_table name) later.front)) (others n (other-table (table_names g) event w.name w.table w.named w.there name n there isnt))) refl

        fit : (name : List ℕ) (n : ℕ) → place_of name (table_names g) ≡ Some n → applies (columns_of n g) (rows_for (write ∷ g) n t) (filter (is_of_table name) later.front) ≡ true
            → applies (columns_of n g) (rows_for g n t) (filter (is_of_table name) (event ∷ later.front)) ≡ true
        fit name n there rest =
            by_test (λ b. is_of_table name event ≡ b → applies (columns_of n g) (rows_for g n t) (if b then event ∷ filter (is_of_table name) later.front else filter (is_of_table name) later.front) ≡ true) (is_of_table name event)
            (λ _ is. let both = own n (same-table (table_names g) event w.name w.table w.named w.there name n there is) in
            λ i. both.1 i && (ap (λ rs. applies (columns_of n g) rs (filter (is_of_table name) later.front)) (sym both.0) ∙ rest) i)
            (λ _ isnt. ap (λ rs. applies (columns_of n g) rs (filter (is_of_table name) later.front)) (sym (others n (other-table (table_names g) event w.name w.table w.named w.there name n there isnt))) ∙ rest) refl

-- ---- a batch

module _ (h : History) (l : Legal h) (idle : brief h ≡ []) (guarding : LeafGuarded h) where
  abbrev t : ℕ
  t = next_txid h

  abbrev g : History
  g = began of_worker t ∷ h

  start-rows : (n : ℕ) → rows_for g n t ≡ rows n h
  start-rows n = ap (λ ws. put_all ws (rows n h)) (begun h l n t (omega arith))

  -- what is made of the events that are picked
  made-of : (pick : Pick) (events : List Event) → may_apply pick (node h) ≡ true → list_any (is_of_copied (database_of h)) (picked (node h) pick events) ≡ false
      → Went g t (picked (node h) pick events) (applies_in (part_of h) t (picked (node h) pick events))
  made-of pick events may free =
      subst (λ d. Went g t (picked (node h) pick events) (applies_events d t (picked (node h) pick events))) (part_of-mark h (began of_worker t))
      (went g (next l begins_work) t (picked (node h) pick events) (at-work h l idle (applies-leaf pick (node h) may)) (picked-free h guarding (node h) refl pick events free))

  -- all of them, if none is bad
  all-front : (events : List Event) (made : Applying) (w : Went g t events made) → made.bad ≡ None → w.front ≡ events
  all-front events made w none = of w.left (subst (Ends (marked g made.marks) t w.left) none w.ends) w.split
    where
      of : (left : List Event) → Ends (marked g made.marks) t left None → events ≡ w.front ++ left → w.front ≡ events
      of _ whole split = sym (split ∙ append-nil w.front)

  module _ (pick : Pick) (tick : ℕ) (events : List Event) (w : Went g t (picked (node h) pick events) (applies_in (part_of h) t (picked (node h) pick events))) where
    abbrev made : Applying
    made = applies_in (part_of h) t (picked (node h) pick events)

    abbrev k : History
    k = marked g made.marks

    committed-all : made.bad ≡ None → IsApplied h (marked h (began of_worker t ∷ made.marks ++ ended of_worker t true ∷ noded (applied pick tick) ∷ [])) events pick tick
    committed-all none =
        subst (λ x. IsApplied h x events pick tick) (sym (behind-append part_by_history g made.marks (ended of_worker t true ∷ noded (applied pick tick) ∷ []))) (record {
          stored = ap (after_node (applied pick tick)) w.nodes;
          fit = λ name n there.
              sym (λ i. applies (columns_of n h) (start-rows n i) (filter (is_of_table name) (all i))) ∙ w.fit name n there;
          puts = λ name n there.
              in_turn-push (λ u. writes_of n u k) (committed k) t [] ∙ w.puts name n there ∙ (λ i. events_of.put (columns_of n h) (start-rows n i) (filter (is_of_table name) (all i)));
        })
      where
        all : w.front ≡ picked (node h) pick events
        all = all-front (picked (node h) pick events) made w none

    rolled-back : (node (marked h (began of_worker t ∷ made.marks ++ ended of_worker t false ∷ [])) ≡ node h)
        × ((n : ℕ) → rows n (marked h (began of_worker t ∷ made.marks ++ ended of_worker t false ∷ [])) ≡ rows n h)
    rolled-back =
        subst (λ x. (node x ≡ node h) × ((n : ℕ) → rows n x ≡ rows n h)) (sym (behind-append part_by_history g made.marks (ended of_worker t false ∷ [])))
        (w.nodes, w.kept)

    ends-number : (bad : Option ℕ) → made.bad ≡ bad → (many n : ℕ) → reply_of (ends_applying pick tick t n made.marks bad) ≡ Number many
        → (many ≡ n) × IsApplied h (marked h (marks_of (ends_applying pick tick t n made.marks bad))) events pick tick
    ends-number None is many n e = (cc, committed-all is)
    ends-number (Some id) is many n e = absurd (cc)

    ends-other : (bad : Option ℕ) → (n : ℕ) → ((many : ℕ) → reply_of (ends_applying pick tick t n made.marks bad) ≢ Number many)
        → (node (marked h (marks_of (ends_applying pick tick t n made.marks bad))) ≡ node h) × ((m : ℕ) → rows m (marked h (marks_of (ends_applying pick tick t n made.marks bad))) ≡ rows m h)
    ends-other None n never = absurd (never n refl)
    ends-other (Some id) n never = rolled-back

  -- the answer to a batch, by what it depends on
  abbrev by : Bool → Bool → Bool → Pick → ℕ → List Event → Checked Outcome
  by may copied spent pick tick events =
      if may then (if copied then answers Null else ((refused_if spent TxidsSpent >> Ok t) >>= (λ u. ends_applying pick tick u (length (picked (node h) pick events)) (applies_in (part_of h) u (picked (node h) pick events)).marks (applies_in (part_of h) u (picked (node h) pick events)).bad)))
      else answers Null

  number-by : (pick : Pick) (tick : ℕ) (events : List Event) (many : ℕ) (may copied spent : Bool) → may_apply pick (node h) ≡ may → list_any (is_of_copied (database_of h)) (picked (node h) pick events) ≡ copied
      → reply_of (by may copied spent pick tick events) ≡ Number many → (many ≡ length (picked (node h) pick events)) × IsApplied h (marked h (marks_of (by may copied spent pick tick events))) events pick tick
  number-by pick tick events many false copied spent is free e = absurd (cc)
  number-by pick tick events many true true spent is free e = absurd (cc)
  number-by pick tick events many true false true is free e = absurd (cc)
  number-by pick tick events many true false false is free e =
      ends-number pick tick events (made-of pick events is free) (applies_in (part_of h) t (picked (node h) pick events)).bad refl many (length (picked (node h) pick events)) e

  other-by : (pick : Pick) (tick : ℕ) (events : List Event) (may copied spent : Bool) → may_apply pick (node h) ≡ may → list_any (is_of_copied (database_of h)) (picked (node h) pick events) ≡ copied
      → ((many : ℕ) → reply_of (by may copied spent pick tick events) ≢ Number many)
      → (node (marked h (marks_of (by may copied spent pick tick events))) ≡ node h) × ((n : ℕ) → rows n (marked h (marks_of (by may copied spent pick tick events))) ≡ rows n h)
  other-by pick tick events false copied spent is free never = (refl, λ n. refl)
  other-by pick tick events true true spent is free never = (refl, λ n. refl)
  other-by pick tick events true false true is free never = (refl, λ n. refl)
  other-by pick tick events true false false is free never =
      ends-other pick tick events (made-of pick events is free) (applies_in (part_of h) t (picked (node h) pick events)).bad (length (picked (node h) pick events)) never

-- ---- no copy runs of the table of an event that is picked

-- an event of a table that is being copied isn't picked
unpicked : (l : Leaf) (pick : Pick) (event : Event) (name : List ℕ) → event.ev_extra1 ≡ Some name → (t : LeafTable) → table_of name l ≡ Some t → is_in_copy t.state ≡ true → is_none t.snapshot ≡ true → picks l pick event ≡ true → ⊥
unpicked l of_synced event name named t found state fresh is = of t.state state synced
  where
    synced : is_synced t.state ≡ true
    synced = ap (λ o. unwrap_or (option_map (λ (x : LeafTable). is_synced x.state) o) false) (sym found) ∙ ap (λ o. unwrap_or (option_map (has_synced l) o) false) (sym named)
        ∙ (and_parts (is_change event) (unwrap_or (option_map (has_synced l) event.ev_extra1) false) is).1

    of : (state : TableState) → is_in_copy state ≡ true → is_synced state ≡ true → ⊥
    of Synced e also = cc
    of _ e also = cc
unpicked l (copy_of copied) event name named t found state fresh is = of t.snapshot fresh kept
  where
    outer : ((is_change event && is_of_table copied event) ≡ true) × (unwrap_or (option_map (λ s. not (sees s event.ev_txid)) (kept_snapshot l copied)) false ≡ true)
    outer = and_parts (is_change event && is_of_table copied event) _ is

    one : copied ≡ name
    one = same_name copied name (ap (λ o. unwrap_or (option_map (bytes_eq copied) o) false) (sym named) ∙ (and_parts (is_change event) (is_of_table copied event) outer.0).1)

    kept : unwrap_or (option_map (λ s. not (sees s event.ev_txid)) t.snapshot) false ≡ true
    kept = ap (λ o. unwrap_or (option_map (λ s. not (sees s event.ev_txid)) (option_and_then LeafTable.snapshot o)) false) (sym (ap (λ x. table_of x l) one ∙ found)) ∙ outer.1

    of : (o : Option SnapshotView) → is_none o ≡ true → unwrap_or (option_map (λ s. not (sees s event.ev_txid)) o) false ≡ true → ⊥
    of None e also = cc
    of (Some s) e also = cc

event-idle : (h : History) → Legal h → (l : Leaf) → node h ≡ Some (of_leaf l) → (pick : Pick) (event : Event) → picks l pick event ≡ true → is_of_copied (database_of h) event ≡ false
event-idle h legal l leaf pick event is = by_name event.ev_extra1 refl
  where
    by_place : (name : List ℕ) → event.ev_extra1 ≡ Some name → (o : Option ℕ) → place_of name (table_names h) ≡ o → unwrap_or (option_map (λ table. is_copied table (copies h)) o) false ≡ false
    by_place name named None there = refl
    by_place name named (Some table) there = false_from_ne_true (is_copied table (copies h)) (λ runs.
        let c : IsInCopy h table = copies-in-copy h legal table runs in
        let same : c.name ≡ name = one-place c.name name (table_names h) table c.there there in
        let found : table_of name l ≡ Some c.t = ap (leaf_table name) (sym leaf) ∙ ap (λ x. leaf_table x (node h)) (sym same) ∙ c.found in
        unpicked l pick event name named c.t found c.state (in-copy-fresh h legal table c) is)

    by_name : (o : Option (List ℕ)) → event.ev_extra1 ≡ o → unwrap_or (option_map (λ table. is_copied table (copies h)) (option_and_then (λ name. place_of name (table_names h)) o)) false ≡ false
    by_name None named = refl
    by_name (Some name) named = by_place name named (place_of name (table_names h)) refl

pub picked-idle : (h : History) → Legal h → (pick : Pick) (events : List Event) → list_any (is_of_copied (database_of h)) (picked (node h) pick events) ≡ false
picked-idle h legal pick events = of (node h) refl
  where
    each : (l : Leaf) → node h ≡ Some (of_leaf l) → (events : List Event) → list_any (is_of_copied (database_of h)) (filter (picks l pick) events) ≡ false
    each l leaf [] = refl
    each l leaf (event ∷ events) =
        by_test (λ b. picks l pick event ≡ b → list_any (is_of_copied (database_of h)) (if b then event ∷ filter (picks l pick) events else filter (picks l pick) events) ≡ false) (picks l pick event)
        (λ _ is. λ i. event-idle h legal l leaf pick event is i || each l leaf events i) (λ _ _. each l leaf events) refl

    of : (n : Option Node) → node h ≡ n → list_any (is_of_copied (database_of h)) (picked n pick events) ≡ false
    of None is = refl
    of (Some (of_root r)) is = refl
    of (Some (of_leaf l)) is = each l is events

pub no_picked_table_is_copied : NoPickedTableIsCopied
no_picked_table_is_copied calls events pick = picked-idle (after_all database_part calls) (legal_calls calls) pick events

-- ---- what a batch leaves

pub batches_put_their_events : BatchesPutTheirEvents
batches_put_their_events calls events pick tick many e =
    let h : History = after_all database_part calls in
    number-by h (legal_calls calls) (rests_calls calls).idle (stands_calls calls).guarding pick tick events many (may_apply pick (node h)) (list_any (is_of_copied (database_of h)) (picked (node h) pick events))
    (nat_le (2 ^ 62) (next_txid h)) refl refl e

pub other_batches_leave_rows : OtherBatchesLeaveRows
other_batches_leave_rows calls events pick tick never =
    let h : History = after_all database_part calls in
    other-by h (legal_calls calls) (rests_calls calls).idle (stands_calls calls).guarding pick tick events (may_apply pick (node h)) (list_any (is_of_copied (database_of h)) (picked (node h) pick events))
    (nat_le (2 ^ 62) (next_txid h)) refl refl never

-- ---- a bad event

-- its change isn't one that the rows allow
none-allowed : (k : History) → Legal k → (t : ℕ) → AtWork k t → (event : Event) → applies_event (part_of k) t event ≡ None → (name : List ℕ) (n : ℕ) → event.ev_extra1 ≡ Some name → place_of name (table_names k) ≡ Some n
    → allows (columns_of n k) (change_of (columns_of n k) event) (rows_for k n t) ≡ false
none-allowed k l t work event none name n named there = by_change (change_of (columns_of n k) event) (sym one ∙ none)
  where
    one : applies_event (part_of k) t event ≡ changes_row (part_of k) n t (change_of (columns_of n k) event)
    one =
        ap (λ o. option_and_then (λ table. changes_row (part_of k) table t (change_of (columns_of table k) event)) (option_and_then (λ name. place_of name (table_names k)) o)) named
        ∙ ap (λ o. option_and_then (λ table. changes_row (part_of k) table t (change_of (columns_of table k) event)) o) there

    by_change : (o : Option Change) → changes_row (part_of k) n t o ≡ None → allows (columns_of n k) o (rows_for k n t) ≡ false
    by_change None e = refl
    by_change (Some change) e =
        let key : List Val = key_of (columns_of n k) change.row in
        sym (op-may change.op key (rows_for k n t)) ∙ ap (may_meet change.op) (row-met k l t work n key)
        ∙ by_test (λ b. (if b then Some (work_write (part_of k) n t (change_write (columns_of n k) change)) else None) ≡ None → b ≡ false) (may_meet change.op (row_for (part_of k) n t key)) (λ _ e. absurd (cc)) (λ _ e. refl) e

applies-push : (columns : List Column) (rs : Entries (List Val)) (events : List Event) (event : Event) → allows columns (change_of columns event) (events_of.put columns rs events) ≡ false
    → applies columns rs (events ++ event ∷ []) ≡ false
applies-push columns rs [] event bad = ap (λ b. b && true) bad
applies-push columns rs (x ∷ events) event bad =
    of (allows columns (change_of columns x) rs) (applies-push columns (changed columns (change_of columns x) rs) events event bad)
  where
    of : (b : Bool) → applies columns (changed columns (change_of columns x) rs) (events ++ event ∷ []) ≡ false → (b && applies columns (changed columns (change_of columns x) rs) (events ++ event ∷ [])) ≡ false
    of true e = e
    of false e = refl

-- what is left begins with it
record Stopped (k : History) (t : ℕ) (left : List Event) (id : ℕ) : Type 0 where
  event : Event
  rest : List Event
  is : left ≡ event ∷ rest
  named : event.ev_id ≡ id
  none : applies_event (part_of k) t event ≡ None

stopped-at : (k : History) (t : ℕ) (left : List Event) (id : ℕ) → Ends k t left (Some id) → Stopped k t left id
stopped-at k t _ _ (stopped event rest none) = record { event = event; rest = rest; is = refl; named = refl; none = none }

first-bad : (h : History) (l : Legal h) (t : ℕ) (events : List Event) (made : Applying) → t ≡ next_txid h → ((n : ℕ) → rows_for (began of_worker t ∷ h) n t ≡ rows n h) → Went (began of_worker t ∷ h) t events made → (id : ℕ) → made.bad ≡ Some id
    → IsFirstBad h events id
first-bad h l t events made new start w id bad = record {
  front = w.front;
  event = s.event;
  rest = s.rest;
  split = w.split ∙ ap (λ es. w.front ++ es) s.is;
  named = s.named;
  before = λ name n there. ap (λ rs. applies (columns_of n h) rs (filter (is_of_table name) w.front)) (sym (start n)) ∙ w.fit name n there;
  bad = λ name n named there.
      applies-push (columns_of n h) (rows n h) (filter (is_of_table name) w.front) s.event
      (ap (λ rs. allows (columns_of n h) (change_of (columns_of n h) s.event) rs) (ap (λ rs. events_of.put (columns_of n h) rs (filter (is_of_table name) w.front)) (sym (start n)) ∙ sym (w.puts name n there))
      ∙ ap (λ (cs : List Column). allows cs (change_of cs s.event) (rows_for k n t)) (sym (w.columns n))
      ∙ none-allowed k w.legal t w.work s.event s.none name n named (ap (place_of name) w.names ∙ there));
}
  where
    k : History
    k = marked (began of_worker t ∷ h) made.marks

    s : Stopped k t w.left id
    s = stopped-at k t w.left id (subst (Ends k t w.left) bad w.ends)

pub bad_events_cant_be_applied : BadEventsCantBeApplied
bad_events_cant_be_applied calls events pick id may bad =
    let h : History = after_all database_part calls in
    let l : Legal h = legal_calls calls in
    first-bad h l (next_txid h) (picked (node h) pick events) (applies_in (part_of h) (next_txid h) (picked (node h) pick events)) refl (start-rows h l (rests_calls calls).idle (stands_calls calls).guarding)
    (made-of h l (rests_calls calls).idle (stands_calls calls).guarding pick events may (picked-idle h l pick events)) id bad

-- ---- a batch whose events can be applied

pub all-filter : (p : Event → Bool) (events : List Event) → All (λ e. p e ≡ true) (filter p events)
all-filter p [] = All-nil (λ e. p e ≡ true)
all-filter p (e ∷ events) =
    by_test (λ b. p e ≡ b → All (λ e. p e ≡ true) (if b then e ∷ filter p events else filter p events)) (p e)
    (λ _ is. All-cons (λ e. p e ≡ true) e (filter p events) is (all-filter p events)) (λ _ _. all-filter p events) refl

all-at : (P : Event → Type 0) (front : List Event) (e : Event) (rest : List Event) → All P (front ++ e ∷ rest) → P e
all-at P [] e rest all = All-head P e rest all
all-at P (x ∷ front) e rest all = all-at P front e rest (All-tail P x (front ++ e ∷ rest) all)

filter-both : (p : Event → Bool) (xs ys : List Event) → filter p (xs ++ ys) ≡ filter p xs ++ filter p ys
filter-both p [] ys = refl
filter-both p (x ∷ xs) ys =
    by_test (λ b. (if b then x ∷ filter p (xs ++ ys) else filter p (xs ++ ys)) ≡ (if b then x ∷ filter p xs else filter p xs) ++ filter p ys) (p x)
    (λ _. ap (λ es. x ∷ es) (filter-both p xs ys)) (λ _. filter-both p xs ys)

applies-front : (columns : List Column) (rs : Entries (List Val)) (xs ys : List Event) → applies columns rs (xs ++ ys) ≡ true → applies columns rs xs ≡ true
applies-front columns rs [] ys all = refl
applies-front columns rs (x ∷ xs) ys all =
    let parts = and_parts (allows columns (change_of columns x) rs) (applies columns (changed columns (change_of columns x) rs) (xs ++ ys)) all in
    λ i. parts.0 i && applies-front columns (changed columns (change_of columns x) rs) xs ys parts.1 i

among-is : (P : List ℕ → Type 0) (name : List ℕ) (names : List (List ℕ)) → All P names → is_among name names ≡ true → P name
among-is P name [] all is = absurd (cc)
among-is P name (x ∷ xs) all is =
    by_test (λ b. bytes_eq name x ≡ b → (b || is_among name xs) ≡ true → P name) (bytes_eq name x)
    (λ _ same _. subst P (sym (same_name name x same)) (All-head P x xs all)) (λ _ _ rest. among-is P name xs (All-tail P x xs all) rest) refl is

-- an event that is picked is of a table of the database
record IsTabled (h : History) (event : Event) : Type 0 where
  name : List ℕ
  named : event.ev_extra1 ≡ Some name
  table : ℕ
  there : place_of name (table_names h) ≡ Some table

leaf-tabled : (h : History) → Legal h → (l : Leaf) → node h ≡ Some (of_leaf l) → (pick : Pick) (event : Event) → picks l pick event ≡ true → IsTabled h event
leaf-tabled h legal l leaf pick event is = of (place_of named.name (table_names h)) refl there
  where
    named : IsNamed l event
    named = picked-named l pick event is

    there : is_some (place_of named.name (table_names h)) ≡ true
    there =
        among-is (λ name. is_some (place_of name (table_names h)) ≡ true) named.name (leaf_tables (node h)) (have-tables h legal).leaf
        (ap (λ n. is_among named.name (leaf_tables n)) leaf ∙ named.among)

    of : (o : Option ℕ) → place_of named.name (table_names h) ≡ o → is_some o ≡ true → IsTabled h event
    of None at e = absurd (cc)
    of (Some table) at e = record { name = named.name; named = named.named; table = table; there = at }

all-tabled : (h : History) → Legal h → (n : Option Node) → node h ≡ n → (pick : Pick) (events : List Event) → All (IsTabled h) (picked n pick events)
all-tabled h legal None is pick events = All-nil (IsTabled h)
all-tabled h legal (Some (of_root r)) is pick events = All-nil (IsTabled h)
all-tabled h legal (Some (of_leaf l)) is pick events =
    All-weaker (λ e. picks l pick e ≡ true) (IsTabled h) (λ e. leaf-tabled h legal l is pick e) (filter (picks l pick) events) (all-filter (picks l pick) events)

-- so the first bad one is none of those that can be applied
none-bad : (h : History) → Legal h → (pick : Pick) (events : List Event) → ((name : List ℕ) (n : ℕ) → place_of name (table_names h) ≡ Some n → applies (columns_of n h) (rows n h) (picked_of h pick name events) ≡ true)
    → (id : ℕ) → IsFirstBad h (picked (node h) pick events) id → ⊥
none-bad h l pick events fit id bad =
    cc (sym (applies-front (columns_of at.table h) (rows at.table h) (filter own bad.front ++ bad.event ∷ []) (filter own bad.rest) whole_fit) ∙ bad.bad at.name at.table at.named at.there)
  where
    at : IsTabled h bad.event
    at = all-at (IsTabled h) bad.front bad.event bad.rest (subst (All (IsTabled h)) bad.split (all-tabled h l (node h) refl pick events))

    own : Event → Bool
    own = is_of_table at.name

    is-own : own bad.event ≡ true
    is-own = ap (λ o. unwrap_or (option_map (bytes_eq at.name) o) false) at.named ∙ bytes_eq_refl at.name

    parts : filter own (picked (node h) pick events) ≡ (filter own bad.front ++ bad.event ∷ []) ++ filter own bad.rest
    parts =
        ap (filter own) bad.split ∙ filter-both own bad.front (bad.event ∷ bad.rest)
        ∙ ap (λ b. filter own bad.front ++ (if b then bad.event ∷ filter own bad.rest else filter own bad.rest)) is-own
        ∙ sym (append_assoc (filter own bad.front) (bad.event ∷ []) (filter own bad.rest))

    whole_fit : applies (columns_of at.table h) (rows at.table h) ((filter own bad.front ++ bad.event ∷ []) ++ filter own bad.rest) ≡ true
    whole_fit = ap (applies (columns_of at.table h) (rows at.table h)) (sym parts) ∙ fit at.name at.table at.there

pub good_batches_are_applied : GoodBatchesAreApplied
good_batches_are_applied calls events pick tick may fit = (none, answered)
  where
    h : History
    h = after_all database_part calls

    es : List Event
    es = picked (node h) pick events

    made : Applying
    made = applies_in (part_of h) (next_txid h) es

    none : made.bad ≡ None
    none = of made.bad refl
      where
        of : (o : Option ℕ) → made.bad ≡ o → o ≡ None
        of None is = refl
        of (Some id) is = absurd (none-bad h (legal_calls calls) pick events fit id (bad_events_cant_be_applied calls events pick id may is))

    answered : answer_to h events pick tick ≡ (if nat_le (2 ^ 62) (next_txid h) then Refused TxidsSpent else Number (length es))
    answered =
        (λ i. reply_of (if may i then (if picked-idle h (legal_calls calls) pick events i then answers Null else applies_picked (database_of h) pick tick es) else answers Null))
        ∙ by_test (λ b. reply_of ((refused_if b TxidsSpent >> Ok (next_txid h)) >>= (λ u. ends_applying pick tick u (length es) (applies_in (part_of h) u es).marks (applies_in (part_of h) u es).bad))
        ≡ (if b then Refused TxidsSpent else Number (length es))) (nat_le (2 ^ 62) (next_txid h))
        (λ _. refl) (λ _. ap (λ o. reply_of (ends_applying pick tick (next_txid h) (length es) made.marks o)) none)
