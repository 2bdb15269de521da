-- Lists of sessions and of tables, read by number.
use Rattle.std.proofs.Common.{◌≡◌, ℕ, zero, suc, ◌+◌, ◌<◌, ◌≤◌, List, [], ◌∷◌, ◌++◌, Bool, true, false, not, ◌&&◌, ◌||◌, ◌==◌, filter, Option, None, nat_lt, length, get_or, slice_set, get_or-set_same, get_or-set_other, ◌≢◌, refl, sym, ◌∙◌, ap, arith, if◌then◌else◌}
use Rattle.std.proofs.lemmas.Bool.Decides.{nat_tests}
use Rattle.std.proofs.lemmas.Option.{get_or_from_slice_get, slice_get_read}
use Rattle.std.proofs.lemmas.List.{get_or_past}
use Rattle.sky_val.specs.declared.val.Val.{Val}
use Rattle.sky_names.specs.Named.{NamedView}
use Rattle.sky_keys.specs.Versions.{written, forgotten}
use Rattle.sky_trans.specs.Trans.{TransView}
use Rattle.sky_rows.specs.Table.{TableView}
use Rattle.sky_keys.specs.Waits.{taken, released}
use Rattle.sky_locks.specs.Locks.{LocksView, holder}
use Rattle.sky_model.specs.Sessions as model
use Rattle.sky_val.specs.declared.column.Column.{Column}
use Rattle.sky_model.specs.History.{of_session, ended, tabled, table_made, wrote}
use Rattle.sky_model.specs.State.{changed_at, with_txid, after_part}
use Rattle.sky_state.specs.Views.{RowStateView}
use Rattle.sky_state.specs.declared.session.Session.{Session}
use Rattle.sky_state.specs.Seen.{seen_session, rest, session_of, no_table, table_of, columns_of, versions_of, wrote_in, is_read_only, seen}

-- an item in place of another
pub set-at : {A : Type 0} → (xs : List A) (i n : ℕ) (x d : A) → i < length xs → get_or (slice_set xs i x) n d ≡ (if i == n then x else get_or xs n d)
set-at {A} xs i n x d lt = by (i == n) refl
  where
    by : (b : Bool) → (i == n) ≡ b → get_or (slice_set xs i x) n d ≡ (if b then x else get_or xs n d)
    by true e = let same : i ≡ n = grind (arith, nat_tests) in ap (λ m. get_or (slice_set xs i x) m d) (sym same) ∙ get_or-set_same xs i x d lt
    by false e = let other : n ≢ i = grind (arith, nat_tests) in get_or-set_other xs i n x d other

-- an item is the one that is read at its place
pub read-at : {A : Type 0} → (xs : List A) (i : ℕ) (x d : A) → i < length xs → x ≡ get_or xs i x → get_or xs i d ≡ x
read-at xs i x d lt at = get_or_from_slice_get xs i x d (slice_get_read xs (length xs) i x refl lt at)

-- the default, appended to a list, changes no read of it
pub read-padded : {A : Type 0} → (xs : List A) (n : ℕ) (d : A) → get_or (xs ++ d ∷ []) n d ≡ get_or xs n d
read-padded [] zero d = refl
read-padded [] (suc n) d = refl
read-padded (x ∷ xs) zero d = refl
read-padded (x ∷ xs) (suc n) d = read-padded xs n d

pub padded : (sessions : List Session) → session_of (sessions ++ rest ∷ []) ≡ session_of sessions
padded sessions = λ i n. seen_session (read-padded sessions n rest i)

-- a session in place of another is a change at its number
pub session-set : (sessions : List Session) (was : ℕ → model.Session) (who : ℕ) (old new : Session) (f : model.Session → model.Session)
    → session_of sessions ≡ was → who < length sessions → old ≡ get_or sessions who old → seen_session new ≡ f (seen_session old)
    → session_of (slice_set sessions who new) ≡ changed_at who f was
session-set sessions was who old new f same lt at is = (λ i n. pointwise n i) ∙ ap (changed_at who f) same
  where
    by : (n : ℕ) (b : Bool) → (who == n) ≡ b → seen_session (if b then new else get_or sessions n rest) ≡ (if b then f (seen_session (get_or sessions n rest)) else seen_session (get_or sessions n rest))
    by n true e =
        let one : who ≡ n = grind (arith, nat_tests) in
        is ∙ ap (λ s. f (seen_session s)) (sym (read-at sessions who old rest lt at)) ∙ ap (λ m. f (seen_session (get_or sessions m rest))) one
    by n false e = refl

    pointwise : (n : ℕ) → seen_session (get_or (slice_set sessions who new) n rest) ≡ (if who == n then f (seen_session (get_or sessions n rest)) else seen_session (get_or sessions n rest))
    pointwise n = ap seen_session (set-at sessions who n new rest lt) ∙ by n (who == n) refl

-- a table without the places of its keys
abbrev pub unplaced : TableView → TableView
unplaced table = record table { places = [] }

-- a table without the versions of a transaction, if that is forgotten
abbrev pub forgetting : ℕ → Bool → TableView → TableView
forgetting t true table = record table { versions = forgotten t table.versions }
forgetting t false table = table

pub forgot-columns : (t : ℕ) (b : Bool) (table : TableView) → (forgetting t b table).columns ≡ table.columns
forgot-columns t true table = refl
forgot-columns t false table = refl

-- if there is no table there is nothing to forget
pub forgot-versions : (t n count : ℕ) (tables : List TableView) → length tables ≤ count → (forgetting t (nat_lt n count) (unplaced (table_of tables n))).versions ≡ forgotten t (table_of tables n).versions
forgot-versions t n count tables le = by (nat_lt n count) refl
  where
    by : (b : Bool) → nat_lt n count ≡ b → (forgetting t b (unplaced (table_of tables n))).versions ≡ forgotten t (table_of tables n).versions
    by true e = refl
    by false e =
        let past : length tables ≤ n = grind (arith, nat_tests) in
        let none : table_of tables n ≡ no_table = get_or_past tables n no_table past in
        ap (λ (v : TableView). v.versions) none ∙ ap (λ (v : TableView). forgotten t v.versions) (sym none)

-- one more table has forgotten
pub forgets-next : (t i : ℕ) (now was : List TableView) (old new : TableView) → i < length now → old ≡ get_or now i old → unplaced new ≡ forgetting t true (unplaced old)
    → ((n : ℕ) → unplaced (table_of now n) ≡ forgetting t (nat_lt n i) (unplaced (table_of was n)))
    → (n : ℕ) → unplaced (table_of (slice_set now i new) n) ≡ forgetting t (nat_lt n (i + 1)) (unplaced (table_of was n))
forgets-next t i now was old new lt at is all n = ap unplaced (set-at now i n new no_table lt) ∙ by (i == n) refl
  where
    at_once : forgetting t true (unplaced old) ≡ forgetting t true (unplaced (table_of was i))
    at_once =
        let first : nat_lt i i ≡ false = grind (arith, nat_tests) in
        ap (forgetting t true) (ap unplaced (sym (read-at now i old no_table lt at)) ∙ all i ∙ ap (λ b. forgetting t b (unplaced (table_of was i))) first)

    by : (b : Bool) → (i == n) ≡ b → unplaced (if b then new else table_of now n) ≡ forgetting t (nat_lt n (i + 1)) (unplaced (table_of was n))
    by true e =
        let one : i ≡ n = grind (arith, nat_tests) in
        let within : true ≡ nat_lt n (i + 1) = grind (arith, nat_tests) in
        is ∙ at_once ∙ ap (λ m. forgetting t true (unplaced (table_of was m))) one ∙ ap (λ b. forgetting t b (unplaced (table_of was n))) within
    by false e =
        let same : nat_lt n i ≡ nat_lt n (i + 1) = grind (arith, nat_tests) in
        all n ∙ ap (λ b. forgetting t b (unplaced (table_of was n))) same

-- one more item
read-pushed : {A : Type 0} → (xs : List A) (x d : A) (n : ℕ) → get_or (xs ++ x ∷ []) n d ≡ (if length xs == n then x else get_or xs n d)
read-pushed [] x d zero = refl
read-pushed [] x d (suc n) = let later : (0 == suc n) ≡ false = grind (arith, nat_tests) in ap (λ b. if b then x else d) (sym later)
read-pushed (y ∷ ys) x d zero = let earlier : (suc (length ys) == 0) ≡ false = grind (arith, nat_tests) in ap (λ b. if b then x else y) (sym earlier)
read-pushed (y ∷ ys) x d (suc n) =
    let both : (length ys == n) ≡ (suc (length ys) == suc n) = grind (arith, nat_tests) in
    read-pushed ys x d n ∙ ap (λ b. if b then x else get_or ys n d) both

-- a table of these columns, without a row
abbrev made : List Column → TableView
made columns = record { columns = columns; versions = []; places = [] }

columns-made : (tables : List TableView) (columns : List Column) → columns_of (tables ++ made columns ∷ []) ≡ changed_at (length tables) (λ _. columns) (columns_of tables)
columns-made tables columns = λ i n. (ap (λ (v : TableView). v.columns) (read-pushed tables (made columns) no_table n) ∙ by n (length tables == n)) i
  where
    by : (n : ℕ) (b : Bool) → (if b then made columns else table_of tables n).columns ≡ (if b then columns else columns_of tables n)
    by n true = refl
    by n false = refl

versions-made : (tables : List TableView) (columns : List Column) → versions_of (tables ++ made columns ∷ []) ≡ versions_of tables
versions-made tables columns = λ i n. (ap (λ (v : TableView). v.versions) (read-pushed tables (made columns) no_table n) ∙ by n (length tables == n) refl) i
  where
    by : (n : ℕ) (b : Bool) → (length tables == n) ≡ b → (if b then made columns else table_of tables n).versions ≡ versions_of tables n
    by n true e =
        let past : length tables ≤ n = grind (arith, nat_tests) in
        sym (ap (λ (v : TableView). v.versions) (get_or_past tables n no_table past))
    by n false e = refl

-- a table that is made has its columns, and no row
pub made-as : (v now : RowStateView) (tables : NamedView TableView) (guards : List Bool) (table : TableView) (name : List ℕ) (columns : List Column) → v ≡ now
    → tables ≡ record { names = v.tables.names ++ name ∷ []; values = v.tables.values ++ table ∷ [] } → guards ≡ v.read_only ++ false ∷ [] → table ≡ made columns
    → length v.tables.values ≡ length v.tables.names → seen (record v { tables = tables; read_only = guards }) ≡ after_part (seen now) (tabled (table_made name columns))
made-as v now tables guards table name columns same more writable new count =
    ap (λ (ts : NamedView TableView). seen (record v { tables = ts; read_only = guards })) (more ∙ ap (λ t. record { names = v.tables.names ++ name ∷ []; values = v.tables.values ++ t ∷ [] }) new)
    ∙ (λ i. record (seen v) {
      tables = v.tables.names ++ name ∷ [];
      columns = (columns-made v.tables.values columns ∙ ap (λ n. changed_at n (λ _. columns) (columns_of v.tables.values)) count) i;
      versions = versions-made v.tables.values columns i;
      is_read_only = (ap is_read_only writable ∙ (λ j n. read-padded v.read_only n false j)) i;
    })
    ∙ ap (λ (w : RowStateView). after_part (seen w) (tabled (table_made name columns))) same

-- a write takes its key, and its transaction counts as a writer of the table
pub wrote-as : (v now : RowStateView) (tables : List TableView) (writers : List (ℕ × ℕ)) (locks : LocksView) (who t table : ℕ) (key : List Val) (row : Option (List Val)) → v ≡ now
    → columns_of tables ≡ columns_of v.tables.values → versions_of tables ≡ changed_at table (written t key row) (versions_of v.tables.values)
    → wrote_in writers ≡ (λ n u. (table == n && t == u) || wrote_in v.writers n u) → holder locks ≡ taken who table key (holder v.locks) → locks.waiting ≡ v.locks.waiting
    → seen (record v { tables = record v.tables { values = tables }; writers = writers; locks = locks }) ≡ after_part (seen now) (tabled (wrote (of_session who) t table key None row))
wrote-as v now tables writers locks who t table key row same columns versions writes keys waits =
    (λ i. record (seen v) { columns = columns i; versions = versions i; wrote_in = writes i; holder = keys i; waiting = waits i })
    ∙ ap (λ (w : RowStateView). after_part (seen w) (tabled (wrote (of_session who) t table key None row))) same

-- a transaction that has committed isn't running, is no session's, and its keys are free
pub committed-as : (v now : RowStateView) (trans : TransView) (sessions : List Session) (writers : List (ℕ × ℕ)) (locks : LocksView) (who t : ℕ) → v ≡ now
    → trans ≡ record { next = v.trans.next; running = filter (λ u. not (u == t)) v.trans.running } → session_of sessions ≡ changed_at who (with_txid None) (session_of v.sessions)
    → wrote_in writers ≡ (λ n u. not (t == u) && wrote_in v.writers n u) → holder locks ≡ released who (holder v.locks) → locks.waiting ≡ v.locks.waiting
    → seen (record v { trans = trans; sessions = sessions; writers = writers; locks = locks }) ≡ after_part (seen now) (ended (of_session who) t true)
committed-as v now trans sessions writers locks who t same less free gone keys waits =
    (λ i. record (seen v) { next = (less i).next; running_ids = (less i).running; session = free i; wrote_in = gone i; holder = keys i; waiting = waits i })
    ∙ ap (λ (w : RowStateView). after_part (seen w) (ended (of_session who) t true)) same

-- so does one that was rolled back, which has no version either
pub aborted-as : (v now : RowStateView) (trans : TransView) (sessions : List Session) (tables : NamedView TableView) (writers : List (ℕ × ℕ)) (locks : LocksView) (who t : ℕ) → v ≡ now
    → trans ≡ record { next = v.trans.next; running = filter (λ u. not (u == t)) v.trans.running } → session_of sessions ≡ changed_at who (with_txid None) (session_of v.sessions)
    → tables.names ≡ v.tables.names → columns_of tables.values ≡ columns_of v.tables.values → versions_of tables.values ≡ (λ n. forgotten t (versions_of v.tables.values n))
    → wrote_in writers ≡ (λ n u. not (t == u) && wrote_in v.writers n u) → holder locks ≡ released who (holder v.locks) → locks.waiting ≡ v.locks.waiting
    → seen (record v { trans = trans; sessions = sessions; tables = tables; writers = writers; locks = locks }) ≡ after_part (seen now) (ended (of_session who) t false)
aborted-as v now trans sessions tables writers locks who t same less free names columns versions gone keys waits =
    (λ i. record (seen v) { next = (less i).next; running_ids = (less i).running; session = free i; tables = names i; columns = columns i; versions = versions i; wrote_in = gone i; holder = keys i; waiting = waits i })
    ∙ ap (λ (w : RowStateView). after_part (seen w) (ended (of_session who) t false)) same
