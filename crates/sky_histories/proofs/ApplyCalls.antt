-- Which marks the applying of a batch leaves, and that these may come.
use Rattle.std.proofs.Common.{◌≡◌, ℕ, ◌^◌, ◌&&◌, ◌==◌, nat_le, List, [], ◌∷◌, ◌++◌, Bool, true, false, not, Option, Some, None, Ok, Err, IfSome, All, filter, find, is_some, length, option_map, option_and_then, unwrap_or, map, bytes_eq, refl, sym, ◌∙◌, ap, subst, arith, if◌then◌else◌}
use Rattle.std.specs.List.{list_any}
use Rattle.std.proofs.lemmas.Bool.{and_parts, or_parts}
use Rattle.std.proofs.lemmas.Bool.Decides.{nat_tests}
use Rattle.std.proofs.lemmas.List.Elements.{All-nil, All-cons, All-head, All-tail}
use Rattle.std.specs.Result.{result_ok}
use Rattle.sky_val.specs.declared.val.Val.{Val}
use Rattle.sky_val.specs.declared.column.Column.{Column}
use Rattle.sky_val.specs.declared.event.Event.{Event}
use Rattle.sky_val.specs.declared.op.Op.{Op}
use Rattle.sky_val.specs.declared.op.Op.TheVariants.{Insert, Update, Delete}
use Rattle.sky_val.specs.Schemas.{row_fault, key_of}
use Rattle.sky_urlenc.specs.ReadRow.{Checked as ReadChecked, read_row}
use Rattle.sky_urlenc.specs.Changes.{op_named, Change, change_of}
use Rattle.sky_urlenc.proofs.Fitting.{row_fits}
use Rattle.sky_names.specs.Places.{place_of}
use Rattle.sky_names.proofs.PlaceLemmas.{place_of_within, same_name}
use Rattle.sky_txid.specs.Ids.{contains}
use Rattle.sky_txid.specs.Snapshot.{sees}
use Rattle.londiste_state.specs.Nodes.{LeafTable, Leaf, Node, of_root, of_leaf, is_among, table_of}
use Rattle.sky_model.specs.declared.reply.Reply.TheVariants.{Null}
use Rattle.sky_model.specs.declared.reply.Refusal.TheVariants.{TxidsSpent}
use Rattle.sky_model.specs.History.{Mark, Pick, of_synced, copy_of, of_worker, began, ended, tabled, wrote, noded, applied, History}
use Rattle.sky_model.specs.Transactions.{next_txid, running}
use Rattle.sky_model.specs.Copies.{copies, is_copied}
use Rattle.sky_model.specs.Rows.{table_names, columns_of, wrote_in, is_read_only}
use Rattle.sky_model.specs.Nodes.{node, is_leaf, leaf_tables}
use Rattle.sky_model.specs.State.{RowPart, part_of, after_part, Database, database_of}
use Rattle.sky_model.specs.OwnTransaction.{next_id}
use Rattle.sky_model.specs.Outcome.{Checked, ◌>>=◌, ◌>>◌, refused_if, answers}
use Rattle.sky_model.specs.StepCopy.{row_for}
use Rattle.sky_model.specs.StepApply.{is_change, is_of_table, is_synced, has_synced, kept_snapshot, may_apply, picks, picked, may_meet, row_left, change_write, work_write, changes_row, applies_event, write_then, applies_events, applies_in, ends_applying, applies_picked, is_of_copied, applies_batch}
use Rattle.sky_model.specs.LawsOfWrites.{IsRowOf}
use Rattle.sky_histories.proofs.Legal.{brief, IsBrief, Fine, begins_work, ends_work, applies_row, nodes, Chain, done, more, Legal}
use Rattle.sky_histories.proofs.Marks.{part_of-mark}
use Rattle.sky_histories.proofs.Snapshots.{sound, contains-push, just_begun}
use Rattle.sky_histories.proofs.WrittenTables.{unwritten-by}
use Rattle.sky_histories.proofs.Holders.{guarded-unwritten}
use Rattle.sky_histories.proofs.CopyCalls.{LeafGuarded, among-one}
use Rattle.sky_model.proofs.Cases.{by_test}
use Rattle.sky_histories.proofs.Good.{Good, good_refused}
use Rattle.sky_histories.proofs.StatementMarks.{EachMark, each-map, each-append, each-front, Gives, AnyReply, either}

-- the marks that it leaves
abbrev pub is_for_applying : Mark → Bool
is_for_applying (began of_worker t) = true
is_for_applying (ended of_worker t committed) = true
is_for_applying (tabled (wrote of_worker t table key old new)) = true
is_for_applying (noded (applied pick tick)) = true
is_for_applying _ = false

-- ---- the write of an event

-- it is of a table of the database, and of a row that was read
pub record IsWritten (d : RowPart) (t : ℕ) (event : Event) (mark : Mark) : Type 0 where
  pub name : List ℕ
  pub named : event.ev_extra1 ≡ Some name
  pub table : ℕ
  pub there : place_of name d.tables ≡ Some table
  pub change : Change
  pub changes : change_of (d.columns table) event ≡ Some change
  pub may : may_meet change.op (row_for d table t (key_of (d.columns table) change.row)) ≡ true
  pub is : mark ≡ work_write d table t (change_write (d.columns table) change)

pub event-written : (d : RowPart) (t : ℕ) (event : Event) (mark : Mark) → applies_event d t event ≡ Some mark → IsWritten d t event mark
event-written d t event mark is = by_name event.ev_extra1 refl is
  where
    by_change : (name : List ℕ) → event.ev_extra1 ≡ Some name → (table : ℕ) → place_of name d.tables ≡ Some table → (o : Option Change) → change_of (d.columns table) event ≡ o
        → changes_row d table t o ≡ Some mark → IsWritten d t event mark
    by_change name named table there None changes is = absurd (cc)
    by_change name named table there (Some change) changes is =
        by_test (λ b. may_meet change.op (row_for d table t (key_of (d.columns table) change.row)) ≡ b → (if b then Some (work_write d table t (change_write (d.columns table) change)) else None) ≡ Some mark → IsWritten d t event mark)
        (may_meet change.op (row_for d table t (key_of (d.columns table) change.row)))
        (λ _ may is. record { name = name; named = named; table = table; there = there; change = change; changes = changes; may = may; is = cc })
        (λ _ _ is. absurd (cc)) refl is

    by_place : (name : List ℕ) → event.ev_extra1 ≡ Some name → (o : Option ℕ) → place_of name d.tables ≡ o
        → option_and_then (λ table. changes_row d table t (change_of (d.columns table) event)) o ≡ Some mark → IsWritten d t event mark
    by_place name named None there is = absurd (cc)
    by_place name named (Some table) there is = by_change name named table there (change_of (d.columns table) event) refl is

    by_name : (o : Option (List ℕ)) → event.ev_extra1 ≡ o
        → option_and_then (λ table. changes_row d table t (change_of (d.columns table) event)) (option_and_then (λ name. place_of name d.tables) o) ≡ Some mark → IsWritten d t event mark
    by_name None named is = absurd (cc)
    by_name (Some name) named is = by_place name named (place_of name d.tables) refl is

-- ---- which marks there are

-- those of events are writes of workers
abbrev pub is_written : Mark → Bool
is_written (tabled (wrote of_worker t table key old new)) = true
is_written _ = false

pub each-event : (d : RowPart) (t : ℕ) (events : List Event) → EachMark is_written (applies_events d t events).marks
each-event d t [] = tt
each-event d t (event ∷ events) = of (applies_event d t event) refl (λ mark. each-event (after_part d mark) t events)
  where
    of : (o : Option Mark) → applies_event d t event ≡ o → ((mark : Mark) → EachMark is_written (applies_events (after_part d mark) t events).marks)
        → EachMark is_written (write_then event o (λ mark. applies_events (after_part d mark) t events)).marks
    of None is rest = tt
    of (Some mark) is rest = each-front is_written mark (applies_events (after_part d mark) t events).marks (ap is_written (event-written d t event mark is).is) (rest mark)

each-applied : (d : RowPart) (t : ℕ) (events : List Event) → EachMark is_for_applying (applies_events d t events).marks
each-applied d t events = each-map is_written is_for_applying also (applies_events d t events).marks (each-event d t events)
  where
    also : (mark : Mark) → is_written mark ≡ true → is_for_applying mark ≡ true
    also (tabled (wrote of_worker u table key old new)) e = refl
    also _ e = absurd (cc)

gives-ends : (pick : Pick) (tick t many : ℕ) (marks : List Mark) (bad : Option ℕ) → EachMark is_for_applying marks → Gives AnyReply is_for_applying (ends_applying pick tick t many marks bad)
gives-ends pick tick t many marks None all = (tt, each-append is_for_applying marks (ended of_worker t true ∷ noded (applied pick tick) ∷ []) all tt)
gives-ends pick tick t many marks (Some id) all = (tt, each-append is_for_applying marks (ended of_worker t false ∷ []) all tt)

gives-picked : (d : Database) (pick : Pick) (tick : ℕ) (events : List Event) → Gives AnyReply is_for_applying (applies_picked d pick tick events)
gives-picked d pick tick events = of (next_id d.part)
  where
    of : (c : Checked ℕ) → Gives AnyReply is_for_applying (c >>= (λ t. ends_applying pick tick t (length events) (applies_in d.part t events).marks (applies_in d.part t events).bad))
    of (Err refusal) = tt
    of (Ok t) = gives-ends pick tick t (length events) (applies_in d.part t events).marks (applies_in d.part t events).bad (each-applied (after_part d.part (began of_worker t)) t events)

pub gives-applies : (d : Database) (pick : Pick) (tick : ℕ) (events : List Event) → Gives AnyReply is_for_applying (applies_batch d pick tick events)
gives-applies d pick tick events =
    either AnyReply is_for_applying (list_any (is_of_copied d) (picked d.node pick events)) (answers Null) (applies_picked d pick tick (picked d.node pick events)) (tt, tt)
    (gives-picked d pick tick (picked d.node pick events))

-- ---- the tables of events that are picked

-- the table of an event, if it has one, is read-only, and isn't being copied
abbrev pub IsFree : History → Event → Type 0
IsFree h event = IfSome (option_and_then (λ name. place_of name (table_names h)) event.ev_extra1) (λ table. (is_read_only table h ≡ true) × (is_copied table (copies h) ≡ false))

-- a table that is found is one of the leaf
found-among : (name : List ℕ) (ts : List LeafTable) → is_some (find (λ (t : LeafTable). bytes_eq name t.name) ts) ≡ true → is_among name (map LeafTable.name ts) ≡ true
found-among name [] is = absurd (cc)
found-among name (t ∷ ts) is = grind (arith, found-among name ts)

-- so is that of an event that is picked
pub picked-among : (l : Leaf) (pick : Pick) (event : Event) (name : List ℕ) → event.ev_extra1 ≡ Some name → picks l pick event ≡ true → is_among name (leaf_tables (Some (of_leaf l))) ≡ true
picked-among l of_synced event name named is = found-among name l.tables (of (table_of name l) has)
  where
    has : unwrap_or (option_map (λ (t : LeafTable). is_synced t.state) (table_of name l)) false ≡ true
    has = ap (λ o. unwrap_or (option_map (has_synced l) o) false) (sym named) ∙ (and_parts (is_change event) (unwrap_or (option_map (has_synced l) event.ev_extra1) false) is).1

    of : (o : Option LeafTable) → unwrap_or (option_map (λ (t : LeafTable). is_synced t.state) o) false ≡ true → is_some o ≡ true
    of None e = absurd (cc)
    of (Some t) e = refl
picked-among l (copy_of copied) event name named is =
    subst (λ n. is_among n (leaf_tables (Some (of_leaf l))) ≡ true) (same_name copied name one) (found-among copied l.tables (of (table_of copied l) outer.1))
  where
    outer : ((is_change event && is_of_table copied event) ≡ true) × (unwrap_or (option_map (λ s. not (sees s event.ev_txid)) (kept_snapshot l copied)) false ≡ true)
    outer = and_parts (is_change event && is_of_table copied event) _ is

    one : bytes_eq copied name ≡ true
    one = ap (λ o. unwrap_or (option_map (bytes_eq copied) o) false) (sym named) ∙ (and_parts (is_change event) (is_of_table copied event) outer.0).1

    of : (o : Option LeafTable) → unwrap_or (option_map (λ s. not (sees s event.ev_txid)) (option_and_then LeafTable.snapshot o)) false ≡ true → is_some o ≡ true
    of None e = absurd (cc)
    of (Some t) e = refl

-- and there is such a name
pub record IsNamed (l : Leaf) (event : Event) : Type 0 where
  pub name : List ℕ
  pub named : event.ev_extra1 ≡ Some name
  pub among : is_among name (leaf_tables (Some (of_leaf l))) ≡ true

pub picked-named : (l : Leaf) (pick : Pick) (event : Event) → picks l pick event ≡ true → IsNamed l event
picked-named l pick event is = of event.ev_extra1 refl (has-name pick is)
  where
    has-name : (pick : Pick) → picks l pick event ≡ true → is_some event.ev_extra1 ≡ true
    has-name of_synced is = by (has_synced l) event.ev_extra1 (and_parts (is_change event) (unwrap_or (option_map (has_synced l) event.ev_extra1) false) is).1
      where
        by : (p : List ℕ → Bool) (o : Option (List ℕ)) → unwrap_or (option_map p o) false ≡ true → is_some o ≡ true
        by p None e = absurd (cc)
        by p (Some name) e = refl
    has-name (copy_of copied) is = by (bytes_eq copied) event.ev_extra1 (and_parts (is_change event) (is_of_table copied event) (and_parts (is_change event && is_of_table copied event) _ is).0).1
      where
        by : (p : List ℕ → Bool) (o : Option (List ℕ)) → unwrap_or (option_map p o) false ≡ true → is_some o ≡ true
        by p None e = absurd (cc)
        by p (Some name) e = refl

    of : (o : Option (List ℕ)) → event.ev_extra1 ≡ o → is_some o ≡ true → IsNamed l event
    of None named e = absurd (cc)
    of (Some name) named e = record { name = name; named = named; among = picked-among l pick event name named is }

free-picked : (h : History) → LeafGuarded h → (l : Leaf) → node h ≡ Some (of_leaf l) → (pick : Pick) (event : Event) → picks l pick event ≡ true → is_of_copied (database_of h) event ≡ false → IsFree h event
free-picked h guarding l leaf pick event is uncopied = by_name event.ev_extra1 refl uncopied
  where
    by_place : (name : List ℕ) → event.ev_extra1 ≡ Some name → (o : Option ℕ) → place_of name (table_names h) ≡ o → unwrap_or (option_map (λ table. is_copied table (copies h)) o) false ≡ false
        → IfSome o (λ table. (is_read_only table h ≡ true) × (is_copied table (copies h) ≡ false))
    by_place name named None there free = tt
    by_place name named (Some table) there free =
        (guarding table ∙ among-one (table_names h) (leaf_tables (node h)) name table there (ap (λ n. is_among name (leaf_tables n)) leaf ∙ picked-among l pick event name named is), free)

    by_name : (o : Option (List ℕ)) → event.ev_extra1 ≡ o → unwrap_or (option_map (λ table. is_copied table (copies h)) (option_and_then (λ name. place_of name (table_names h)) o)) false ≡ false
        → IfSome (option_and_then (λ name. place_of name (table_names h)) o) (λ table. (is_read_only table h ≡ true) × (is_copied table (copies h) ≡ false))
    by_name None named free = tt
    by_name (Some name) named free = by_place name named (place_of name (table_names h)) refl free

all-free : (h : History) → LeafGuarded h → (l : Leaf) → node h ≡ Some (of_leaf l) → (pick : Pick) (events : List Event) → list_any (is_of_copied (database_of h)) (filter (picks l pick) events) ≡ false
    → All (IsFree h) (filter (picks l pick) events)
all-free h guarding l leaf pick [] free = All-nil (IsFree h)
all-free h guarding l leaf pick (event ∷ events) free =
    by_test (λ b. picks l pick event ≡ b → list_any (is_of_copied (database_of h)) (if b then event ∷ filter (picks l pick) events else filter (picks l pick) events) ≡ false
    → All (IsFree h) (if b then event ∷ filter (picks l pick) events else filter (picks l pick) events)) (picks l pick event)
    (λ _ is free. let parts = or_parts (is_of_copied (database_of h) event) (list_any (is_of_copied (database_of h)) (filter (picks l pick) events)) free in
    All-cons (IsFree h) event (filter (picks l pick) events) (free-picked h guarding l leaf pick event is parts.0) (all-free h guarding l leaf pick events parts.1))
    (λ _ _ free. all-free h guarding l leaf pick events free) refl free

-- the events that a leaf picks are such, if no copy of the table of one runs
pub picked-free : (h : History) → LeafGuarded h → (n : Option Node) → node h ≡ n → (pick : Pick) (events : List Event) → list_any (is_of_copied (database_of h)) (picked n pick events) ≡ false
    → All (IsFree h) (picked n pick events)
picked-free h guarding None is pick events free = All-nil (IsFree h)
picked-free h guarding (Some (of_root r)) is pick events free = All-nil (IsFree h)
picked-free h guarding (Some (of_leaf l)) is pick events free = all-free h guarding l is pick events free

-- ---- they may come

-- a worker's transaction is at work on a leaf: no other one that runs has written a table that is read-only and isn't being copied
pub record AtWork (g : History) (t : ℕ) : Type 0 where
  pub leaf : is_leaf (node g) ≡ true
  pub brief : IsBrief g t
  pub alone : (n : ℕ) → is_read_only n g ≡ true → is_copied n (copies g) ≡ false → (u : ℕ) → contains u (running g) ≡ true → (t == u) ≡ false → wrote_in n u g ≡ false

-- when it has just begun
pub at-work : (h : History) → Legal h → brief h ≡ [] → is_leaf (node h) ≡ true → AtWork (began of_worker (next_txid h) ∷ h) (next_txid h)
at-work h l idle leaf = record {
  leaf = leaf;
  brief = just_begun h (sound h l);
  alone = λ n guarded uncopied u runs other.
      unwritten-by h l n (guarded-unwritten h l idle n (record { guard = record { leaf = leaf; guarded = guarded }; uncopied = uncopied })) u (grind (arith, nat_tests, contains-push u (next_txid h) (running h)));
}

-- a row that was read fits its table
change-fits : (columns : List Column) (event : Event) (change : Change) → change_of columns event ≡ Some change → row_fault columns change.row ≡ None
change-fits columns event change is = by_type event.ev_type is
  where
    read_change : Op → ReadChecked (List Val) → Option Change
    read_change op read = option_and_then (λ row. Some (record { op = op; row = row })) (result_ok read)

    text_change : Op → Option (List ℕ) → Option Change
    text_change op o = option_and_then (λ text. read_change op (read_row columns text)) o

    by_row : (op : Op) (text : List ℕ) (read : ReadChecked (List Val)) → read_row columns text ≡ read → read_change op read ≡ Some change → row_fault columns change.row ≡ None
    by_row op text (Err fault) reads is = absurd (cc)
    by_row op text (Ok row) reads is = let same : row ≡ change.row = cc in ap (row_fault columns) (sym same) ∙ row_fits columns text row reads

    by_text : (op : Op) (o : Option (List ℕ)) → text_change op o ≡ Some change → row_fault columns change.row ≡ None
    by_text op None is = absurd (cc)
    by_text op (Some text) is = by_row op text (read_row columns text) refl is

    by_op : (o : Option Op) → option_and_then (λ op. text_change op event.ev_data) o ≡ Some change → row_fault columns change.row ≡ None
    by_op None is = absurd (cc)
    by_op (Some op) is = by_text op event.ev_data is

    by_type : (o : Option (List ℕ)) → option_and_then (λ name. option_and_then (λ op. text_change op event.ev_data) (op_named name)) o ≡ Some change → row_fault columns change.row ≡ None
    by_type None is = absurd (cc)
    by_type (Some name) is = by_op (op_named name) is

-- what a change leaves under its key is a row that its table may have there
left-fits : (columns : List Column) (op : Op) (row : List Val) → row_fault columns row ≡ None → IfSome (row_left op row) (IsRowOf columns (key_of columns row))
left-fits columns Insert row none = (none, refl)
left-fits columns Update row none = (none, refl)
left-fits columns Delete row none = tt

-- the write of an event that may come, in the transaction at work, which is so still
pub record IsGood (g : History) (t : ℕ) (event : Event) (mark : Mark) : Type 0 where
  pub written : IsWritten (part_of g) t event mark
  pub fine : Fine g (work_write (part_of g) written.table t (change_write (columns_of written.table g) written.change))
  pub still : AtWork (work_write (part_of g) written.table t (change_write (columns_of written.table g) written.change) ∷ g) t

pub event-good : (g : History) (t : ℕ) (event : Event) (mark : Mark) → AtWork g t → IsFree g event → applies_event (part_of g) t event ≡ Some mark → IsGood g t event mark
event-good g t event mark work free is = record { written = w; fine = fine; still = still }
  where
    w : IsWritten (part_of g) t event mark
    w = event-written (part_of g) t event mark is

    columns : List Column
    columns = columns_of w.table g

    key : List Val
    key = key_of columns w.change.row

    mine : (is_read_only w.table g ≡ true) × (is_copied w.table (copies g) ≡ false)
    mine = subst (λ o. IfSome o (λ table. (is_read_only table g ≡ true) × (is_copied table (copies g) ≡ false)))
        (ap (λ o. option_and_then (λ name. place_of name (table_names g)) o) w.named ∙ w.there) free

    fine : Fine g (work_write (part_of g) w.table t (change_write columns w.change))
    fine = applies_row w.table t key (row_for (part_of g) w.table t key) (row_left w.change.op w.change.row) (record {
      within = place_of_within w.name (table_names g) w.table w.there;
      leaf = work.leaf;
      guarded = mine.0;
      uncopied = mine.1;
      brief = work.brief;
      alone = work.alone w.table mine.0 mine.1;
      stands = refl;
      fits = left-fits columns w.change.op w.change.row (change-fits columns event w.change w.changes);
    })

    still : AtWork (work_write (part_of g) w.table t (change_write columns w.change) ∷ g) t
    still = record {
      leaf = work.leaf;
      brief = record { work = record { works = work.brief.work.works; apart = work.brief.work.apart }; brief = work.brief.brief };
      alone = λ n guarded uncopied u runs other. grind (arith, other, work.alone n guarded uncopied u runs other);
    }

-- what is made of events, and then comes with the transaction at work
pub good-events : (g : History) (t : ℕ) (events : List Event) → AtWork g t → All (IsFree g) events → (rest : List Mark) → ((k : History) → AtWork k t → Chain k rest)
    → Chain g ((applies_events (part_of g) t events).marks ++ rest)
good-events g t [] work free rest also = also g work
good-events g t (event ∷ events) work free rest also = of (applies_event (part_of g) t event) refl (λ k at_work are. good-events k t events at_work are rest also)
  where
    of : (o : Option Mark) → applies_event (part_of g) t event ≡ o → ((k : History) → AtWork k t → All (IsFree k) events → Chain k ((applies_events (part_of k) t events).marks ++ rest))
        → Chain g ((write_then event o (λ mark. applies_events (after_part (part_of g) mark) t events)).marks ++ rest)
    of None is ih = also g work
    of (Some mark) is ih =
        subst (λ m. Chain g (m ∷ (applies_events (after_part (part_of g) m) t events).marks ++ rest)) (sym good.written.is)
        (more good.fine (subst (λ d. Chain (write ∷ g) ((applies_events d t events).marks ++ rest)) (part_of-mark g write) (ih (write ∷ g) good.still (All-tail (IsFree g) event events free))))
      where
        good : IsGood g t event mark
        good = event-good g t event mark work (All-head (IsFree g) event events free) is

        write : Mark
        write = work_write (part_of g) good.written.table t (change_write (columns_of good.written.table g) good.written.change)

good-ends : (h : History) → Legal h → (pick : Pick) (tick many : ℕ) (events : List Event) → (bad : Option ℕ) → brief h ≡ [] → is_leaf (node h) ≡ true → All (IsFree h) events
    → Good h 0 (ends_applying pick tick (next_txid h) many (applies_in (part_of h) (next_txid h) events).marks bad)
good-ends h l pick tick many events bad idle leaf free = of bad
  where
    t : ℕ
    t = next_txid h

    g : History
    g = began of_worker t ∷ h

    come : (rest : List Mark) → ((k : History) → AtWork k t → Chain k rest) → Chain h (began of_worker t ∷ (applies_in (part_of h) t events).marks ++ rest)
    come rest also =
        more begins_work (subst (λ d. Chain g ((applies_events d t events).marks ++ rest)) (part_of-mark h (began of_worker t)) (good-events g t events (at-work h l idle leaf) free rest also))

    of : (bad : Option ℕ) → Good h 0 (ends_applying pick tick t many (applies_in (part_of h) t events).marks bad)
    of None = come (ended of_worker t true ∷ noded (applied pick tick) ∷ []) (λ k work. more (ends_work t true work.brief.work) (more (nodes (applied pick tick) tt) done))
    of (Some id) = come (ended of_worker t false ∷ []) (λ k work. more (ends_work t false work.brief.work) done)

good-picked : (h : History) → Legal h → (pick : Pick) (tick : ℕ) (events : List Event) → brief h ≡ [] → is_leaf (node h) ≡ true → All (IsFree h) events
    → Good h 0 (applies_picked (database_of h) pick tick events)
good-picked h l pick tick events idle leaf free = of (nat_le (2 ^ 62) (next_txid h))
  where
    of : (spent : Bool) → Good h 0 ((refused_if spent TxidsSpent >> Ok (next_txid h)) >>= (λ t. ends_applying pick tick t (length events) (applies_in (part_of h) t events).marks (applies_in (part_of h) t events).bad))
    of true = good_refused h 0 TxidsSpent
    of false = good-ends h l pick tick (length events) events (applies_in (part_of h) (next_txid h) events).bad idle leaf free

-- only a leaf applies batches
pub applies-leaf : (pick : Pick) (n : Option Node) → may_apply pick n ≡ true → is_leaf n ≡ true
applies-leaf of_synced None may = absurd (cc)
applies-leaf of_synced (Some (of_root r)) may = absurd (cc)
applies-leaf of_synced (Some (of_leaf l)) may = refl
applies-leaf (copy_of name) None may = absurd (cc)
applies-leaf (copy_of name) (Some (of_root r)) may = absurd (cc)
applies-leaf (copy_of name) (Some (of_leaf l)) may = refl

pub good_applies : (h : History) → Legal h → brief h ≡ [] → LeafGuarded h → (events : List Event) (pick : Pick) (tick : ℕ) → may_apply pick (node h) ≡ true → Good h 0 (applies_batch (database_of h) pick tick events)
good_applies h l idle guarding events pick tick may =
    by_test (λ b. Good h 0 (if b then answers Null else applies_picked (database_of h) pick tick (picked (node h) pick events))) (list_any (is_of_copied (database_of h)) (picked (node h) pick events))
    (λ _. done)
    (λ free. good-picked h l pick tick (picked (node h) pick events) idle (applies-leaf pick (node h) may) (picked-free h guarding (node h) refl pick events free))
