-- A transaction of one write: afterwards it is no session's, and holds no lock.
use Rattle.std.proofs.Common.{◌≡◌, ℕ, ◌+◌, ◌<◌, List, [], ◌∷◌, ◌++◌, Bool, true, false, not, ◌==◌, ◌&&◌, ◌||◌, filter, Option, Some, None, length, get_or, slice_set, refl, sym, ◌∙◌, ap, arith, if◌then◌else◌}
use Rattle.std.proofs.lemmas.Bool.{and_parts}
use Rattle.std.proofs.lemmas.Bool.Decides.{nat_tests}
use Rattle.std.proofs.lemmas.Map.Views.{tells_apart}
use Rattle.std.specs.Ordering.{eq_by_cmp}
use Rattle.sky_val.specs.declared.val.Val.{Val}
use Rattle.sky_val.specs.Order.{key_cmp}
use Rattle.sky_val.proofs.Orders.{key_cmp-IsAntisymmetric}
use Rattle.sky_keys.specs.Waits.{Holders, is_same_key, other_than, other_holder, taken, released}
use Rattle.sky_txid.specs.Ids.{contains}
use Rattle.sky_keys.specs.Versions.{written}
use Rattle.sky_trans.specs.Trans.{TransView}
use Rattle.sky_rows.specs.Table.{TableView}
use Rattle.sky_locks.specs.Locks.{LocksView, holder}
use Rattle.sky_model.specs.Sessions.{Session}
use Rattle.sky_model.specs.History.{of_session, began, ended, tabled, wrote}
use Rattle.sky_model.specs.State.{changed_at, with_txid, after_part_marks}
use Rattle.sky_state.specs.Views.{RowStateView}
use Rattle.sky_state.specs.Seen.{no_table, table_of, columns_of, versions_of, session_of, wrote_in, seen}
use Rattle.sky_state.proofs.SessionLists.{set-at, read-at}

-- an id that was given last and has ended leaves the others
pub others-run : (t : ℕ) (ids : List ℕ) → contains t ids ≡ false → filter (λ u. not (u == t)) (ids ++ t ∷ []) ≡ ids
others-run t [] fresh = let same : (t == t) ≡ true = grind (arith, nat_tests) in ap (λ b. if not b then t ∷ [] else []) same
others-run t (u ∷ ids) fresh = by (u == t) (t == u) refl refl fresh (λ late. others-run t ids late)
  where
    by : (b c : Bool) → (u == t) ≡ b → (t == u) ≡ c → (c || contains t ids) ≡ false → (contains t ids ≡ false → filter (λ u. not (u == t)) (ids ++ t ∷ []) ≡ ids)
        → (if not b then u ∷ filter (λ u. not (u == t)) (ids ++ t ∷ []) else filter (λ u. not (u == t)) (ids ++ t ∷ [])) ≡ u ∷ ids
    by b true same turned late rest = absurd (cc)
    by true false same turned late rest = absurd (grind (arith, nat_tests))
    by false false same turned late rest = ap (λ us. u ∷ us) (rest late)

-- a session that had no id has none again
pub no-id-again : (old : ℕ → Session) (who t : ℕ) → (old who).txid ≡ None → changed_at who (with_txid None) (changed_at who (with_txid (Some t)) old) ≡ old
no-id-again old who t none = λ i n. by n (who == n) refl i
  where
    by : (n : ℕ) (b : Bool) → (who == n) ≡ b → (if b then with_txid None (if b then with_txid (Some t) (old n) else old n) else (if b then with_txid (Some t) (old n) else old n)) ≡ old n
    by n true e =
        let one : who ≡ n = grind (arith, nat_tests) in
        λ i. record (old n) { txid = sym (ap (λ m. (old m).txid) (sym one) ∙ none) i }
    by n false e = refl

-- a key that nobody else holds, taken and then freed with all others
pub taken-released : (keys : Holders) (who table : ℕ) (key : List Val) → other_holder keys who table key ≡ None → released who (taken who table key keys) ≡ released who keys
taken-released keys who table key free = λ i t k. by t k (is_same_key table key t k) refl i
  where
    mine : other_than who (Some who) ≡ None
    mine = let same : (who == who) ≡ true = grind (arith, nat_tests) in ap (λ b. if b then None else Some who) same

    by : (t : ℕ) (k : List Val) (b : Bool) → is_same_key table key t k ≡ b → other_than who (if b then Some who else keys t k) ≡ other_than who (keys t k)
    by t k true e =
        let parts = and_parts (table == t) (eq_by_cmp key_cmp key k) e in
        let one : table ≡ t = grind (arith, nat_tests, parts.0) in
        let alike : key ≡ k = tells_apart key_cmp-IsAntisymmetric key k parts.1 in
        mine ∙ sym (ap (λ m. other_than who (keys m k)) (sym one) ∙ ap (λ q. other_than who (keys table q)) (sym alike) ∙ free)
    by t k false e = refl

-- writing a version changes one table's versions, and no columns
pub version-written : (tables : List TableView) (n t : ℕ) (key : List Val) (row : Option (List Val)) (old new : TableView) → n < length tables → old ≡ get_or tables n old → new ≡ record old { versions = written t key row old.versions; places = new.places }
    → (columns_of (slice_set tables n new) ≡ columns_of tables) × (versions_of (slice_set tables n new) ≡ changed_at n (written t key row) (versions_of tables))
version-written tables n t key row old new lt at is = (
  λ i m. (ap (λ (v : TableView). v.columns) (set-at tables n m new no_table lt) ∙ columns m (n == m) refl) i,
  λ i m. (ap (λ (v : TableView). v.versions) (set-at tables n m new no_table lt) ∙ versions m (n == m) refl) i,
)
  where
    there : table_of tables n ≡ old
    there = read-at tables n old no_table lt at

    columns : (m : ℕ) (b : Bool) → (n == m) ≡ b → (if b then new else table_of tables m).columns ≡ (table_of tables m).columns
    columns m true e =
        let one : n ≡ m = grind (arith, nat_tests) in
        ap (λ (v : TableView). v.columns) (is ∙ refl) ∙ ap (λ (v : TableView). v.columns) (sym there) ∙ ap (λ k. (table_of tables k).columns) one
    columns m false e = refl

    versions : (m : ℕ) (b : Bool) → (n == m) ≡ b → (if b then new else table_of tables m).versions ≡ (if b then written t key row (table_of tables m).versions else (table_of tables m).versions)
    versions m true e =
        let one : n ≡ m = grind (arith, nat_tests) in
        ap (λ (v : TableView). v.versions) is ∙ ap (λ (v : TableView). written t key row v.versions) (sym there) ∙ ap (λ k. written t key row (table_of tables k).versions) one
    versions m false e = refl

-- a transaction that has ended no longer counts as a writer
gone-again : (old : (table t : ℕ) → Bool) (table t n u : ℕ) → (not (t == u) && old n u) ≡ (not (t == u) && ((table == n && t == u) || old n u))
gone-again old table t n u = by (t == u) (table == n)
  where
    by : (a b : Bool) → (not a && old n u) ≡ (not a && ((b && a) || old n u))
    by true b = refl
    by false true = refl
    by false false = refl

-- a transaction that writes no row
pub spent-as : (v now : RowStateView) (trans : TransView) (writers : List (ℕ × ℕ)) (locks : LocksView) (who : ℕ) → v ≡ now → ((seen now).session who).txid ≡ None
    → contains v.trans.next v.trans.running ≡ false → trans ≡ record v.trans { next = v.trans.next + 1 }
    → wrote_in writers ≡ (λ n u. not (v.trans.next == u) && wrote_in v.writers n u) → holder locks ≡ released who (holder v.locks) → locks.waiting ≡ v.locks.waiting
    → seen (record v { trans = trans; writers = writers; locks = locks }) ≡ after_part_marks (seen now) (began (of_session who) (seen now).next ∷ ended (of_session who) (seen now).next true ∷ [])
spent-as v now trans writers locks who same none fresh passed gone keys waits =
    (λ i. record (seen v) {
      next = (passed i).next;
      running_ids = (ap (λ (w : TransView). w.running) passed ∙ sym (others-run v.trans.next v.trans.running fresh)) i;
      session = sym (no-id-again (session_of v.sessions) who v.trans.next (ap (λ (w : RowStateView). ((seen w).session who).txid) same ∙ none)) i;
      wrote_in = gone i;
      holder = keys i;
      waiting = waits i;
    })
    ∙ ap (λ (w : RowStateView). after_part_marks (seen w) (began (of_session who) (seen w).next ∷ ended (of_session who) (seen w).next true ∷ [])) same

-- a transaction of one write
pub alone-as : (v now : RowStateView) (trans : TransView) (tables : List TableView) (writers : List (ℕ × ℕ)) (locks : LocksView) (who table : ℕ) (key : List Val) (row : Option (List Val)) → v ≡ now → ((seen now).session who).txid ≡ None
    → other_holder (seen now).holder who table key ≡ None → contains v.trans.next v.trans.running ≡ false → trans ≡ record v.trans { next = v.trans.next + 1 }
    → columns_of tables ≡ columns_of v.tables.values → versions_of tables ≡ changed_at table (written v.trans.next key row) (versions_of v.tables.values)
    → wrote_in writers ≡ (λ n u. not (v.trans.next == u) && wrote_in v.writers n u) → holder locks ≡ released who (holder v.locks) → locks.waiting ≡ v.locks.waiting
    → seen (record v { trans = trans; tables = record v.tables { values = tables }; writers = writers; locks = locks })
    ≡ after_part_marks (seen now) (began (of_session who) (seen now).next ∷ tabled (wrote (of_session who) (seen now).next table key None row) ∷ ended (of_session who) (seen now).next true ∷ [])
alone-as v now trans tables writers locks who table key row same none free fresh passed columns versions gone keys waits =
    (λ i. record (seen v) {
      next = (passed i).next;
      running_ids = (ap (λ (w : TransView). w.running) passed ∙ sym (others-run v.trans.next v.trans.running fresh)) i;
      session = sym (no-id-again (session_of v.sessions) who v.trans.next (ap (λ (w : RowStateView). ((seen w).session who).txid) same ∙ none)) i;
      columns = columns i;
      versions = versions i;
      wrote_in = λ n u. (ap (λ (f : (table t : ℕ) → Bool). f n u) gone ∙ gone-again (wrote_in v.writers) table v.trans.next n u) i;
      holder = (keys ∙ sym (taken-released (holder v.locks) who table key (ap (λ (w : RowStateView). other_holder (seen w).holder who table key) same ∙ free))) i;
      waiting = waits i;
    })
    ∙ ap (λ (w : RowStateView). after_part_marks (seen w) (began (of_session who) (seen w).next ∷ tabled (wrote (of_session who) (seen w).next table key None row) ∷ ended (of_session who) (seen w).next true ∷ [])) same
