-- What the calls of copies and of holds give.
use Rattle.std.proofs.Common.{◌≡◌, ℕ, ◌<◌, ◌^◌, List, [], ◌∷◌, ◌++◌, Bool, true, false, not, ◌==◌, ◌||◌, ◌&&◌, nat_le, cond, Option, Some, None, IfSome, Result, ◌↔◌, Ok, Err, IfOk, OnOk, OnErr, option_map, unwrap_or, is_ok, map, take, length, refl, sym, ◌∙◌, ap, subst, arith, if◌then◌else◌, ◌⊎◌, inl, inr}
use Rattle.std.specs.List.{list_any}
use Rattle.std.specs.Ordering.{eq_by_cmp}
use Rattle.std.proofs.lemmas.Bool.Decides.{nat_tests}
use Rattle.std.proofs.lemmas.List.{take-map}
use Rattle.sky_val.specs.declared.val.Val.{Val}
use Rattle.sky_val.specs.declared.column.Column.{Column}
use Rattle.sky_val.specs.Entries.{Entries}
use Rattle.sky_val.specs.Order.{key_cmp}
use Rattle.sky_val.specs.Schemas.{key_of}
use Rattle.sky_txid.specs.Ids.{contains}
use Rattle.sky_txid.specs.Snapshot.{SnapshotView}
use Rattle.sky_keys.specs.declared.version.Version.{Version}
use Rattle.sky_keys.specs.Versions.{with_version, version_of, versions_at, written, rows_read, above}
use Rattle.sky_keys.proofs.EntryLemmas.{versions_at-written}
use Rattle.sky_keys.proofs.VersionLemmas.{OnlyLast}
use Rattle.sky_names.specs.Places.{place_of}
use Rattle.sky_names.proofs.PlaceLemmas.{place_of_within}
use Rattle.londiste_state.specs.Nodes.{Node}
use Rattle.sky_model.specs.declared.reply.Reply.TheVariants.{Done, Number, Null}
use Rattle.sky_model.specs.declared.reply.Refusal.TheVariants.{TxidsSpent}
use Rattle.sky_model.specs.History.{of_copy, of_worker, began, ended, noded, copied, hold_ended, History}
use Rattle.sky_model.specs.Transactions.{has_ended}
use Rattle.sky_model.specs.Rows.{Write}
use Rattle.sky_model.specs.Nodes.{after_node}
use Rattle.sky_model.specs.Copies.{Copy, copies, is_copied_by, copy_txid, without_copy, Hold, without_hold, least_free}
use Rattle.sky_model.specs.State.{RowPart, after_part, after_part_marks, Database, after_mark, after_marks}
use Rattle.sky_model.specs.ShownRows.{snapshot_now}
use Rattle.sky_model.specs.OwnTransaction.{next_id}
use Rattle.sky_model.specs.Outcome.{◌>>=◌, ◌>>◌, refused_if, answers, does_marks, reply_of, marks_of}
use Rattle.sky_model.specs.CopyMoves.{rows_from, rows_of}
use Rattle.sky_model.specs.StepCopy.{copy_write, copy_writes, deletions, insertions, rows_now, begins_copy, all_fit, copies_rows, ends_copy, given_up}
use Rattle.sky_model.specs.StepNode.{beginning_copy, copying_rows, ending_copy, giving_up_copy, holding, letting_go, if_there, table_number, may_copy, may_serve, node_does}
use Rattle.sky_model.specs.Promises.{after_all}
use Rattle.sky_model.specs.DatabaseCalls.{database_part}
use Rattle.sky_model.specs.DatabaseSteps.{IsMade}
use Rattle.sky_histories.proofs.Legal.{Legal}
use Rattle.sky_histories.proofs.Snapshots.{sound, runs-unended, copys-of}
use Rattle.sky_histories.proofs.KeyVersions.{kept, key_holds}
use Rattle.sky_histories.proofs.NodeTables.{one-place}
use Rattle.sky_histories.proofs.Guarded.{copy_txid-some}
use Rattle.sky_histories.proofs.Histories.{legal_calls}
use Rattle.sky_trans.specs.declared.trans.TransFault.{TransFault}
use Rattle.sky_trans.specs.declared.trans.TransFault.TheVariants as trans
use Rattle.sky_histories.proofs.NodeDeeds.{is-served}
use Rattle.sky_histories.proofs.MadeCopies.{CopyMayBegin, copy-may-begin, CopyGoesOn, copy-goes-on}
use Rattle.sky_state.specs.Views.{RowStateView}
use Rattle.sky_state.specs.Seen.{seen}
use Rattle.pgq_queues.specs.Views.{QueuesView}
use Rattle.pgq_queues.specs.Seen.{seen_with}
use Rattle.pgq_queues.specs.EventRule.{event_rule}
use Rattle.pgq_parts.specs.Agreeing.{Agree}
use Rattle.pgq_parts.specs.Views.{DbView}
use Rattle.pgq_parts.specs.Seen.{with_node, seen_database}
use Rattle.londiste_calls.specs.declared.faults.CopyFault.{CopyFault}
use Rattle.sky_store.proofs.Writing.{tabled-marks}
use Rattle.sky_store.specs.Served.{Serves, CopyRefused}
use Rattle.londiste_calls.specs.Faults.{copy_fault_of}
use Rattle.pgq_parts.specs.Copying.{MayCopy, none_after, is_own_last, MayWrite, deletion, under_key, insertion}
pub use Rattle.londiste_apply.proofs.Own.{own-with, own-newest, own-fresh}
use Rattle.pgq_parts.proofs.Agreeing.{agree-then, agree-same, agree-stay}
use Rattle.pgq_parts.proofs.Databases.{table-there, table-low}
use Rattle.pgq_parts.proofs.EventsAlike.{undone-shown}
use Rattle.pgq_parts.proofs.NodeSteps.{serves-by, served-nothing}

-- ---- a copy may go on writing

own-only : (p : ℕ → Bool) (t : ℕ) (vs : List Version) → OnlyLast p vs → p t ≡ false → is_own_last t vs ≡ true
own-only p t [] only unseen = refl
own-only p t (v ∷ vs) only unseen = of only.0 (own-only p t vs only.1 unseen)
  where
    of : ((p v.txid ≡ true) ⊎ (vs ≡ [])) → is_own_last t vs ≡ true → is_own_last t (v ∷ vs) ≡ true
    of (inl seen) rest = (let other : (t == v.txid) ≡ false = grind (arith, nat_tests, seen, unseen) in ap (λ b. (not b || none_after vs) && is_own_last t vs) other ∙ rest)
    of (inr none) rest = (let first : is_own_last t (v ∷ []) ≡ true = grind (arith, nat_tests) in subst (λ ws. is_own_last t (v ∷ ws) ≡ true) (sym none) first)

-- so it is with a copy that runs
copy-own : (d : Database) → IsMade d → (table t : ℕ) → copy_txid table d.copies ≡ Some t → (key : List Val) → is_own_last t (versions_at key (d.part.versions table)) ≡ true
copy-own d made table t is key = subst (λ (x : Database). is_own_last t (versions_at key (x.part.versions table)) ≡ true) (sym made.shown) (own-only (has_ended h) t (kept h table key) (key_holds h l table key).only unended)
  where
    h : History
    h = after_all database_part made.calls

    l : Legal h
    l = legal_calls made.calls

    runs : is_copied_by table t (copies h) ≡ true
    runs = copy_txid-some table t (copies h) (ap (λ (x : Database). copy_txid table x.copies) (sym made.shown) ∙ is)

    unended : has_ended h t ≡ false
    unended = runs-unended h (sound h l) t ((sound h l).works t ((sound h l).copying t (copys-of table t (copies h) runs)))

itself : (n : ℕ) → (n == n) ≡ true
itself n = grind (arith, nat_tests)

-- so a copy that may write may go on after it did
module _ (d : RowPart) (table t : ℕ) (may : MayWrite d table t) (w : Write) where
  last-at : (b : Bool) (vs : List Version) → is_own_last t vs ≡ true → is_own_last t (cond b (with_version t w.row vs) vs) ≡ true
  last-at true vs last = own-with t w.row vs last
  last-at false vs last = last

  written-at : (key : List Val) → versions_at key ((after_part d (copy_write d table t w)).versions table) ≡ cond (eq_by_cmp key_cmp key w.key) (with_version t w.row (versions_at key (d.versions table))) (versions_at key (d.versions table))
  written-at key = ap (λ b. versions_at key (if b then written t w.key w.row (d.versions table) else d.versions table)) (itself table) ∙ versions_at-written key t w.key w.row (d.versions table)

  pub may-go-on : MayWrite (after_part d (copy_write d table t w)) table t
  may-go-on = record {
    within = may.within;
    runs = may.runs;
    free = may.free;
    last = λ key. subst (λ vs. is_own_last t vs ≡ true) (sym (written-at key)) (last-at (eq_by_cmp key_cmp key w.key) (versions_at key (d.versions table)) (may.last key));
  }

-- also where its write failed
pub still-may : {A E : Type 0} → (o : Result A E) (old new : RowPart) (table t : ℕ) (w : Write) → MayWrite old table t → OnOk o (new ≡ after_part old (copy_write old table t w)) → OnErr o (new ≡ old) → MayWrite new table t
still-may (Ok u) old new table t w may wrote same = subst (λ d. MayWrite d table t) (sym wrote) (may-go-on old table t may w)
still-may (Err e) old new table t w may wrote same = subst (λ d. MayWrite d table t) (sym same) may

pub still-agree : {A E : Type 0} → (o : Result A E) (old new : RowPart) (table t : ℕ) (w : Write) → OnOk o (new ≡ after_part old (copy_write old table t w)) → OnErr o (new ≡ old) → (q : QueuesView) → Agree old q → Agree new q
still-agree (Ok u) old new table t w wrote same q are = agree-then old new (copy_write old table t w ∷ []) q wrote are
still-agree (Err e) old new table t w wrote same q are = agree-same old new q same are

-- ---- writes, one after another

-- what the rest of a copy's writes leave is what all of them leave of the row part as it was before them
pub record IsBetween (first now : RowPart) (table t : ℕ) (all rest : List Write) : Type 0 where
  pub may : MayWrite now table t
  pub left : after_part_marks now (copy_writes now table t rest) ≡ after_part_marks first (copy_writes first table t all)
  pub agree : (q : QueuesView) → Agree first q → Agree now q

module _ {K : Type 0} (write : K → Write) (first now : RowPart) (table t : ℕ) (all left : List K) where
  pub between-next : (is : IsBetween first now table t (map write all) (map write left)) → (next : RowPart) (rest : List K) (k : K) → left ≡ k ∷ rest → next ≡ after_part now (copy_write now table t (write k)) → MayWrite next table t
      → ((q : QueuesView) → Agree now q → Agree next q) → IsBetween first next table t (map write all) (map write rest)
  between-next is next rest k steps wrote may agree = record {
    may = may;
    left = ap (λ (d : RowPart). after_part_marks d (copy_writes d table t (map write rest))) wrote ∙ ap (λ ks. after_part_marks now (copy_writes now table t (map write ks))) (sym steps) ∙ is.left;
    agree = λ q are. agree q (is.agree q are);
  }

  -- until nothing is left
  pub between-done : IsBetween first now table t (map write all) (map write left) → (n : ℕ) → n ≡ length left → n ≡ 0 → (given : List K) → all ≡ given → now ≡ after_part_marks first (copy_writes first table t (map write given))
  between-done is n count none given same =
      ap (λ ks. after_part_marks now (copy_writes now table t (map write ks))) (sym (empty left (sym count ∙ none))) ∙ is.left ∙ ap (λ ks. after_part_marks first (copy_writes first table t (map write ks))) same
    where
      empty : (ks : List K) → length ks ≡ 0 → ks ≡ []
      empty [] e = refl
      empty (k ∷ ks) e = absurd (omega arith)

-- ---- a copy begins

-- the keys that have rows are deleted
deleted-keys : (es : Entries (List Val)) → map deletion (map (λ e. e.0) es) ≡ deletions es
deleted-keys [] = refl
deleted-keys (e ∷ es) = ap (λ ws. record { key = e.0; row = None } ∷ ws) (deleted-keys es)

pub next-is : (p : RowPart) (t : ℕ) → next_id p ≡ Ok t → t ≡ p.next
next-is p t left = by (nat_le (2 ^ 62) p.next) left
  where
    by : (b : Bool) → (refused_if b TxidsSpent >> Ok p.next) ≡ Ok t → t ≡ p.next
    by true e = absurd (cc)
    by false e = cc

pub contains-last : (t : ℕ) (ts : List ℕ) → contains t (ts ++ t ∷ []) ≡ true
contains-last t [] = grind (arith, nat_tests)
contains-last t (u ∷ ts) = grind (arith, nat_tests, contains-last t ts)

-- the table of a number that may be copied has one name
pub may-named : (d : Database) (table : ℕ) → MayCopy d table → (name : List ℕ) → table_number d name ≡ Some table → may_copy name d.node ≡ true
may-named d table may name number = ap (λ n. may_copy n d.node) (one-place name may.name d.part.tables table number may.number) ∙ may.may

module _ (v now : DbView) (name : List ℕ) (table : ℕ) (same : v ≡ now) (number : table_number (seen_database now) name ≡ Some table) where
  there : place_of name (seen v.rows).tables ≡ Some table
  there = table-there v now name table same number

  -- a copy that begins may write
  pub begun-may : IsMade (seen_database now) → may_serve (beginning_copy name) (seen_database now).node ≡ true → (t : ℕ) → next_id (seen v.rows) ≡ Ok t → (begun : RowStateView) → seen begun ≡ after_part (seen v.rows) (began of_worker t)
      → MayWrite (seen begun) table t
  begun-may made may t left begun is =
      let begins = subst (λ (w : DbView). CopyMayBegin (seen_database w) table) (sym same) (copy-may-begin (seen_database now) made name table may number) in
      subst (λ (d : RowPart). MayWrite d table t) (sym is) (record {
        within = table-low v now name table same number;
        runs = contains-last t (seen v.rows).workers;
        free = begins.free;
        last = λ key. own-fresh t (versions_at key ((seen v.rows).versions table)) (ap (λ u. version_of u (versions_at key ((seen v.rows).versions table))) (next-is (seen v.rows) t left) ∙ begins.fresh key);
      })

  begin-there : may_serve (beginning_copy name) (seen_database v).node ≡ true → copy_txid table v.node.copies ≡ None → node_does (seen_database v) (beginning_copy name) ≡ begins_copy (seen_database v) table None
  begin-there may idle =
      is-served (seen_database v) (beginning_copy name) may
      ∙ ap (λ o. if_there o (λ n. begins_copy (seen_database v) n (copy_txid n v.node.copies))) there
      ∙ ap (begins_copy (seen_database v) table) idle

  pub begin-does : may_serve (beginning_copy name) (seen_database now).node ≡ true → copy_txid table now.node.copies ≡ None → (t : ℕ) → next_id (seen v.rows) ≡ Ok t
      → (begun left : RowStateView) → seen begun ≡ after_part (seen v.rows) (began of_worker t) → (copies : List Copy) → copies ≡ v.node.copies ++ record { table = table; txid = t } ∷ []
      → (snapshot : SnapshotView) → snapshot ≡ snapshot_now (seen v.rows) → (keys : List (List Val)) → keys ≡ map (λ e. e.0) (rows_read snapshot None ((seen v.rows).versions table))
      → seen left ≡ after_part_marks (seen begun) (copy_writes (seen begun) table t (map deletion keys))
      → Serves (seen_database now) (seen_database (record v { rows = left; node = record v.node { copies = copies } })) (beginning_copy name)
  begin-does may idle t next begun left begins copies copied_is snapshot taken keys read is =
      subst (λ (d : DbView). Serves (seen_database d) (seen_database (record v { rows = left; node = record v.node { copies = copies } })) (beginning_copy name)) same
      (serves-by d _ (beginning_copy name) _
      (begin-there (subst (λ (w : DbView). may_serve (beginning_copy name) (seen_database w).node ≡ true) (sym same) may) (subst (λ (w : DbView). copy_txid table w.node.copies ≡ None) (sym same) idle)
      ∙ ap (λ c. c >>= (λ u. does_marks Done (began (of_copy table) u ∷ copy_writes (after_part d.part (began (of_copy table) u)) table u (deletions (rows_now d.part table))))) next)
      ((λ i. seen_with (with_node (record v.node { copies = copied_is i }) (part i)) v.queues) ∙ sym (tabled-marks one table t (deletions (rows_now d.part table)))))
    where
      d : Database
      d = seen_database v

      one : Database
      one = after_mark d (began (of_copy table) t)

      writes : map deletion keys ≡ deletions (rows_now d.part table)
      writes = ap (map deletion) (read ∙ ap (λ s. map (λ e. e.0) (rows_read s None ((seen v.rows).versions table))) taken) ∙ deleted-keys (rows_now d.part table)

      part : seen left ≡ after_part_marks one.part (copy_writes one.part table t (deletions (rows_now d.part table)))
      part = is ∙ (λ i. after_part_marks (begins i) (copy_writes (begins i) table t (writes i)))

  -- unless there is no id
  begin-spent : may_serve (beginning_copy name) (seen_database now).node ≡ true → copy_txid table now.node.copies ≡ None → next_id (seen v.rows) ≡ Err TxidsSpent → node_does (seen_database now) (beginning_copy name) ≡ Err TxidsSpent
  begin-spent may idle spent =
      ap (λ (w : DbView). node_does (seen_database w) (beginning_copy name)) (sym same)
      ∙ begin-there (subst (λ (w : DbView). may_serve (beginning_copy name) (seen_database w).node ≡ true) (sym same) may) (subst (λ (w : DbView). copy_txid table w.node.copies ≡ None) (sym same) idle)
      ∙ ap (λ c. c >>= (λ u. does_marks Done (began (of_copy table) u ∷ copy_writes (after_part (seen v.rows) (began (of_copy table) u)) table u (deletions (rows_now (seen v.rows) table))))) spent

  pub begin-refused : may_serve (beginning_copy name) (seen_database now).node ≡ true → copy_txid table now.node.copies ≡ None → (r : Result ℕ TransFault) (fault : TransFault) (to : CopyFault) (rows : RowStateView) → r ≡ Err fault
      → ((r ≡ Err trans.TxidsSpent) ↔ (next_id (seen v.rows) ≡ Err TxidsSpent)) → seen rows ≡ seen v.rows → to ≡ copy_fault_of fault → CopyRefused to (seen_database now) (seen_database (record v { rows = rows })) name
  begin-refused may idle r trans.TxidsSpent to rows is spent kept given = subst (λ f. CopyRefused f (seen_database now) (seen_database (record v { rows = rows })) name) (sym given) (record {
    refused = begin-spent may idle (spent.0 is);
    same = (λ i. seen_with (with_node v.node (kept i)) v.queues) ∙ ap seen_database same;
  })
  begin-refused may idle r trans.NoMemory to rows is spent kept given = subst (λ f. CopyRefused f (seen_database now) (seen_database (record v { rows = rows })) name) (sym given) tt

  -- ---- it goes on

  pub rows-may : IsMade (seen_database now) → (t : ℕ) → copy_txid table now.node.copies ≡ Some t → MayWrite (seen v.rows) table t
  rows-may made t runs =
      let on = subst (λ (w : DbView). CopyGoesOn (seen_database w) table t) (sym same) (copy-goes-on (seen_database now) made table t runs) in
      let own = subst (λ (w : DbView). (key : List Val) → is_own_last t (versions_at key ((seen w.rows).versions table)) ≡ true) (sym same) (copy-own (seen_database now) made table t runs) in
      record { within = table-low v now name table same number; runs = on.runs; free = on.free; last = own }

  -- nothing is written if no copy runs
  pub rows-none : (rows : List (List Val)) → may_serve (copying_rows name rows) (seen_database now).node ≡ true → copy_txid table now.node.copies ≡ None → Serves (seen_database now) (seen_database now) (copying_rows name rows)
  rows-none rows may none =
      served-nothing (seen_database now) (copying_rows name rows) may
      (ap (λ o. if_there o (λ n. if_there (copy_txid n now.node.copies) (λ t. copies_rows (seen_database now) n t rows))) number ∙ ap (λ o. if_there o (λ t. copies_rows (seen_database now) table t rows)) none)

  inserted-rows : (columns : List Column) (rows : List (List Val)) → map insertion (map (under_key columns) rows) ≡ insertions columns rows
  inserted-rows columns [] = refl
  inserted-rows columns (row ∷ rows) = ap (λ ws. record { key = key_of columns row; row = Some row } ∷ ws) (inserted-rows columns rows)

  pub rows-does : (rows : List (List Val)) → may_serve (copying_rows name rows) (seen_database now).node ≡ true → all_fit ((seen_database now).part.columns table) rows ≡ true → (t : ℕ) → copy_txid table now.node.copies ≡ Some t
      → (columns : List Column) → columns ≡ (seen v.rows).columns table → (keyed : List (List Val × List Val)) → keyed ≡ map (under_key columns) rows
      → (left : RowStateView) → seen left ≡ after_part_marks (seen v.rows) (copy_writes (seen v.rows) table t (map insertion keyed))
      → Serves (seen_database now) (seen_database (record v { rows = left })) (copying_rows name rows)
  rows-does rows may fit t runs columns of_table keyed read left is =
      subst (λ (d : DbView). Serves (seen_database d) (seen_database (record v { rows = left })) (copying_rows name rows)) same
      (serves-by d _ (copying_rows name rows) _
      (is-served d (copying_rows name rows) (subst (λ (w : DbView). may_serve (copying_rows name rows) (seen_database w).node ≡ true) (sym same) may)
      ∙ ap (λ o. if_there o (λ n. if_there (copy_txid n v.node.copies) (λ u. copies_rows d n u rows))) there
      ∙ ap (λ o. if_there o (λ u. copies_rows d table u rows)) (subst (λ (w : DbView). copy_txid table w.node.copies ≡ Some t) (sym same) runs)
      ∙ ap (λ b. if b then does_marks Done (copy_writes d.part table t (insertions (d.part.columns table) rows)) else answers Null) fits)
      ((λ i. seen_with (with_node v.node (part i)) v.queues) ∙ sym (tabled-marks d table t (insertions (d.part.columns table) rows))))
    where
      d : Database
      d = seen_database v

      fits : all_fit (d.part.columns table) rows ≡ true
      fits = subst (λ (w : DbView). all_fit ((seen_database w).part.columns table) rows ≡ true) (sym same) fit

      writes : map insertion keyed ≡ insertions (d.part.columns table) rows
      writes = ap (map insertion) read ∙ inserted-rows columns rows ∙ ap (λ cs. insertions cs rows) of_table

      part : seen left ≡ after_part_marks d.part (copy_writes d.part table t (insertions (d.part.columns table) rows))
      part = is ∙ ap (λ ws. after_part_marks d.part (copy_writes d.part table t ws)) writes

-- ---- a copy ends

module _ (d : Database) (name : List ℕ) (table : ℕ) (number : table_number d name ≡ Some table) (snapshot : SnapshotView) (tick : ℕ) (may : may_serve (ending_copy name snapshot tick) d.node ≡ true) where
  ends-there : node_does d (ending_copy name snapshot tick) ≡ if_there (copy_txid table d.copies) (λ t. ends_copy table t name snapshot tick)
  ends-there = is-served d (ending_copy name snapshot tick) may ∙ ap (λ o. if_there o (λ n. if_there (copy_txid n d.copies) (λ t. ends_copy n t name snapshot tick))) number

  pub end-nothing : copy_txid table d.copies ≡ None → Serves d d (ending_copy name snapshot tick)
  end-nothing none =
      let nothing = ends-there ∙ ap (λ o. if_there o (λ t. ends_copy table t name snapshot tick)) none in
      record { accepted = ap is_ok nothing; changed = sym (ap (λ c. after_marks d (marks_of c)) nothing) }

  pub end-does : (t : ℕ) → copy_txid table d.copies ≡ Some t → (new : Database)
      → new ≡ after_mark (record d { node = after_node (copied name snapshot tick) d.node }) (ended (of_copy table) t true) → Serves d new (ending_copy name snapshot tick)
  end-does t runs new ended_is = serves-by d new (ending_copy name snapshot tick) _ (ends-there ∙ ap (λ o. if_there o (λ u. ends_copy table u name snapshot tick)) runs) ended_is

-- it commits, or rolls back
pub committed-as : (v now : DbView) (rows : RowStateView) (copies : List Copy) (table t : ℕ) → v ≡ now → seen rows ≡ after_part (seen v.rows) (ended of_worker t true) → copies ≡ without_copy t v.node.copies
    → seen_database (record v { rows = rows; node = record v.node { copies = copies } }) ≡ after_mark (seen_database now) (ended (of_copy table) t true)
committed-as v now rows copies table t same part left =
    (λ i. seen_with (with_node (record v.node { copies = left i }) (part i)) v.queues) ∙ ap (λ (w : DbView). after_mark (seen_database w) (ended (of_copy table) t true)) same

pub aborted-as : (v now : DbView) (rows : RowStateView) (queues : QueuesView) (copies : List Copy) (table t : ℕ) → v ≡ now → seen rows ≡ after_part (seen v.rows) (ended of_worker t false) → queues ≡ event_rule.undone v.queues t
    → copies ≡ without_copy t v.node.copies
    → seen_database (record v { rows = rows; queues = queues; node = record v.node { copies = copies } }) ≡ after_mark (seen_database now) (ended (of_copy table) t false)
aborted-as v now rows queues copies table t same part undone left =
    (λ i. seen_with (with_node (record v.node { copies = left i }) (part i)) (undone i))
    ∙ sym (undone-shown (record v.node { copies = without_copy t v.node.copies }) (seen v.rows) v.queues (of_copy table) t)
    ∙ ap (λ (w : DbView). after_mark (seen_database w) (ended (of_copy table) t false)) same

pub agree-undone : (old new : RowPart) (was q : QueuesView) (t : ℕ) → new ≡ after_part old (ended of_worker t false) → q ≡ event_rule.undone was t → Agree old was → Agree new q
agree-undone old new was q t is undone are =
    agree-then old new (ended of_worker t false ∷ []) q is (subst (Agree old) (sym undone) (agree-stay old was (event_rule.undone was t) (record { time = refl; triggers = refl; traced_tables = refl; rounds = refl }) are))

-- a copy that runs is given up
pub gives-up : (d new : Database) (table t : ℕ) (name : List ℕ) (o : Option ℕ) → Some t ≡ o → new ≡ after_mark d (ended (of_copy table) t false) → new ≡ after_marks d (given_up table name o)
gives-up d new table t name o runs ended_is = ended_is ∙ ap (λ x. after_marks d (given_up table name x)) runs

pub gives-none : (d : Database) (table : ℕ) (name : List ℕ) (o : Option ℕ) → None ≡ o → d ≡ after_marks d (given_up table name o)
gives-none d table name o none = ap (λ x. after_marks d (given_up table name x)) none

-- the tables are the same
pub given_up-tables : (d new : Database) (table : ℕ) (name : List ℕ) (o : Option ℕ) → new ≡ after_marks d (given_up table name o) → new.part.tables ≡ d.part.tables
given_up-tables d new table name None is = ap (λ (x : Database). x.part.tables) is
given_up-tables d new table name (Some t) is = ap (λ (x : Database). x.part.tables) is

pub drop-does : (now : DbView) (name : List ℕ) (table : ℕ) → may_serve (giving_up_copy name) (seen_database now).node ≡ true → place_of name (seen_database now).part.tables ≡ Some table → (new : Database)
    → new ≡ after_marks (seen_database now) (given_up table name (copy_txid table now.node.copies)) → Serves (seen_database now) new (giving_up_copy name)
drop-does now name table may there new is =
    serves-by (seen_database now) new (giving_up_copy name) _
    (is-served (seen_database now) (giving_up_copy name) may ∙ ap (λ o. if_there o (λ t. does_marks Done (given_up t name (copy_txid t now.node.copies)))) there) is

-- so a table is still there
pub low-still : (now w left : DbView) (name : List ℕ) (table : ℕ) → table_number (seen_database now) name ≡ Some table → w ≡ left
    → seen_database left ≡ after_marks (seen_database now) (given_up table name (copy_txid table now.node.copies)) → table < length (seen w.rows).tables
low-still now w left name table number is given =
    subst (λ (names : List (List ℕ)). table < length names)
    (sym (ap (λ (x : DbView). (seen x.rows).tables) is ∙ given_up-tables (seen_database now) (seen_database left) table name (copy_txid table now.node.copies) given))
    (place_of_within name (seen_database now).part.tables table number)

pub runs-now : (d : Database) → IsMade d → (table : ℕ) → IfSome (copy_txid table d.copies) (λ t. contains t d.part.workers ≡ true)
runs-now d made table = of (copy_txid table d.copies) refl
  where
    of : (o : Option ℕ) → copy_txid table d.copies ≡ o → IfSome o (λ t. contains t d.part.workers ≡ true)
    of None is = tt
    of (Some t) is = (copy-goes-on d made table t is).runs

pub some-runs : (o : Option ℕ) (ts : List ℕ) (t : ℕ) → IfSome o (λ u. contains u ts ≡ true) → Some t ≡ o → contains t ts ≡ true
some-runs o ts t runs is = subst (λ x. IfSome x (λ u. contains u ts ≡ true)) (sym is) runs

-- the copy of a leaf's table has ended
pub copied-as : (v now : DbView) (node : Option Node) (name : List ℕ) (snapshot : SnapshotView) (tick : ℕ) → v ≡ now → node ≡ after_node (copied name snapshot tick) v.node.own
    → seen_database (record v { node = record v.node { own = node } }) ≡ record (seen_database now) { node = after_node (copied name snapshot tick) (seen_database now).node }
copied-as v now node name snapshot tick same is =
    (λ i. seen_with (with_node (record v.node { own = is i }) (seen v.rows)) v.queues) ∙ ap (λ (w : DbView). record (seen_database w) { node = after_node (copied name snapshot tick) w.node.own }) same

-- ---- a snapshot is held, or let go

pub hold-does : (v now : DbView) → v ≡ now → (holds : List Hold) (number : ℕ) (snapshot : SnapshotView) → number ≡ least_free (map Hold.number v.node.holds) → holds ≡ v.node.holds ++ record { number = number; snapshot = snapshot } ∷ []
    → snapshot ≡ snapshot_now (seen v.rows) → Serves (seen_database now) (seen_database (record v { node = record v.node { holds = holds } })) holding
hold-does v now same holds number snapshot least is taken =
    subst (λ (d : DbView). Serves (seen_database d) (seen_database (record v { node = record v.node { holds = holds } })) holding) same
    (serves-by (seen_database v) _ holding _ refl (λ i. seen_with (with_node (record v.node { holds = whole i }) (seen v.rows)) v.queues))
  where
    whole : holds ≡ v.node.holds ++ record { number = least_free (map Hold.number v.node.holds); snapshot = snapshot_now (seen v.rows) } ∷ []
    whole = is ∙ (λ i. v.node.holds ++ record { number = least i; snapshot = taken i } ∷ [])

none-gone : (number : ℕ) (holds : List Hold) → list_any (λ (x : Hold). x.number == number) holds ≡ false → without_hold number holds ≡ holds
none-gone number [] none = refl
none-gone number (x ∷ holds) none = by (none-gone number holds) (x.number == number) refl none
  where
    by : (list_any (λ (y : Hold). y.number == number) holds ≡ false → without_hold number holds ≡ holds) → (b : Bool) → (x.number == number) ≡ b → (b || list_any (λ (y : Hold). y.number == number) holds) ≡ false → without_hold number (x ∷ holds) ≡ x ∷ holds
    by rest true is none = absurd (cc)
    by rest false is none = ap (λ b. if not b then x ∷ without_hold number holds else without_hold number holds) is ∙ ap (λ hs. x ∷ hs) (rest none)

pub lets-go : (v now : DbView) → v ≡ now → (holds : List Hold) (number : ℕ) → holds ≡ without_hold number v.node.holds → Serves (seen_database now) (seen_database (record v { node = record v.node { holds = holds } })) (letting_go number)
lets-go v now same holds number is =
    subst (λ (d : DbView). Serves (seen_database d) (seen_database (record v { node = record v.node { holds = holds } })) (letting_go number)) same (by (list_any (λ (x : Hold). x.number == number) v.node.holds) refl)
  where
    with_holds : List Hold → Database
    with_holds hs = seen_with (with_node (record v.node { holds = hs }) (seen v.rows)) v.queues

    by : (b : Bool) → list_any (λ (x : Hold). x.number == number) v.node.holds ≡ b → Serves (seen_database v) (with_holds holds) (letting_go number)
    by true there =
        serves-by (seen_database v) _ (letting_go number) _ (ap (λ b. if b then does_marks Done (noded (hold_ended number) ∷ []) else answers Null) there) (ap with_holds is)
    by false none =
        let nothing : node_does (seen_database v) (letting_go number) ≡ answers Null = ap (λ b. if b then does_marks Done (noded (hold_ended number) ∷ []) else answers Null) none in
        record { accepted = ap is_ok nothing; changed = ap with_holds (is ∙ none-gone number v.node.holds none) ∙ sym (ap (λ c. after_marks (seen_database v) (marks_of c)) nothing) }

-- rows that are read under a hold's snapshot
held-rows : (v now : DbView) (name : List ℕ) (table : ℕ) → v ≡ now → table_number (seen_database now) name ≡ Some table → (snapshot : SnapshotView) (o : Option SnapshotView) → o ≡ Some snapshot
    → (after : Option (List Val)) (most : ℕ) (rows : List (List Val)) → rows ≡ take most (map (λ e. e.1) (rows_read snapshot None (above after ((seen v.rows).versions table))))
    → IfSome o (λ s. rows ≡ rows_of (rows_from (seen_database now) name s after most))
held-rows v now name table same number snapshot o held after most rows read =
    subst (λ x. IfSome x (λ s. rows ≡ rows_of (rows_from (seen_database now) name s after most))) (sym held)
    (read
    ∙ take-map (λ (e : List Val × List Val). e.1) most (rows_read snapshot None (above after ((seen v.rows).versions table)))
    ∙ sym (ap (λ x. rows_of (unwrap_or (option_map (λ t. take most (rows_read snapshot None (above after ((seen v.rows).versions t)))) x) [])) (table-there v now name table same number))
    ∙ ap (λ (w : DbView). rows_of (rows_from (seen_database w) name snapshot after most)) same)

-- ---- what the calls return

module _ {E : Type 0} (v now : DbView) (same : v ≡ now) where
  pub hold-serves : (r : Result ℕ E) (holds : List Hold) (snapshot : SnapshotView) → IfOk r (λ number. number ≡ least_free (map Hold.number v.node.holds)) → IfOk r (λ number. holds ≡ v.node.holds ++ record { number = number; snapshot = snapshot } ∷ [])
      → snapshot ≡ snapshot_now (seen v.rows) → OnOk r (Serves (seen_database now) (seen_database (record v { node = record v.node { holds = holds } })) holding)
  hold-serves (Ok number) holds snapshot least is taken = hold-does v now same holds number snapshot least is taken
  hold-serves (Err e) holds snapshot least is taken = tt

  pub hold-number : (r : Result ℕ E) → IfOk r (λ number. number ≡ least_free (map Hold.number v.node.holds)) → IfOk r (λ number. reply_of (node_does (seen_database now) holding) ≡ Number number)
  hold-number (Ok number) least = ap (λ (w : DbView). Number (least_free (map Hold.number w.node.holds))) (sym same) ∙ ap Number (sym least)
  hold-number (Err e) least = tt

  pub hold-fails : (r : Result ℕ E) (holds : List Hold) → OnErr r (holds ≡ v.node.holds) → OnErr r (seen_database (record v { node = record v.node { holds = holds } }) ≡ seen_database now)
  hold-fails (Ok number) holds is = tt
  hold-fails (Err e) holds is = (λ i. seen_with (with_node (record v.node { holds = is i }) (seen v.rows)) v.queues) ∙ ap seen_database same

  pub rows-serve : (r : Result (Unit {0}) E) (name : List ℕ) (table : ℕ) → table_number (seen_database now) name ≡ Some table → MayCopy (seen_database now) table → (rows : List (List Val)) → all_fit ((seen_database now).part.columns table) rows ≡ true → (t : ℕ) → copy_txid table now.node.copies ≡ Some t → (columns : List Column) → columns ≡ (seen v.rows).columns table
      → (keyed : List (List Val × List Val)) → keyed ≡ map (under_key columns) rows → (left : RowStateView) → OnOk r (seen left ≡ after_part_marks (seen v.rows) (copy_writes (seen v.rows) table t (map insertion keyed)))
      → OnOk r (Serves (seen_database now) (seen_database (record v { rows = left })) (copying_rows name rows))
  rows-serve (Ok u) name table number may rows fit t runs columns of_table keyed read left is =
      rows-does v now name table same number rows (may-named (seen_database now) table may name number) fit t runs columns of_table keyed read left is
  rows-serve (Err e) name table number may rows fit t runs columns of_table keyed read left is = tt

pub held-rows-if : {V E : Type 0} (items : V → List (List Val)) (r : Result V E) (v now : DbView) (name : List ℕ) (table : ℕ) → v ≡ now → table_number (seen_database now) name ≡ Some table → (snapshot : SnapshotView) (o : Option SnapshotView)
    → o ≡ Some snapshot → (after : Option (List Val)) (most : ℕ) → IfOk r (λ rows. items rows ≡ take most (map (λ e. e.1) (rows_read snapshot None (above after ((seen v.rows).versions table)))))
    → IfOk r (λ rows. IfSome o (λ s. items rows ≡ rows_of (rows_from (seen_database now) name s after most)))
held-rows-if items (Ok rows) v now name table same number snapshot o held after most read = held-rows v now name table same number snapshot o held after most (items rows) read
held-rows-if items (Err e) v now name table same number snapshot o held after most read = tt
