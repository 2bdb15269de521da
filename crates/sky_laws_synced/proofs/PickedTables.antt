-- A worker writes a table, as a batch is applied, only if the table is in sync or has been copied.
use Rattle.std.proofs.Common.{◌≡◌, ℕ, List, [], ◌∷◌, ◌++◌, filter, length, Bool, true, false, not, ◌&&◌, ◌||◌, Option, Some, None, Ok, Err, All, is_some, option_map, unwrap_or, bytes_eq, refl, sym, ap, subst, ◌∙◌, if◌then◌else◌}
use Rattle.std.specs.Option.{option_and_then}
use Rattle.std.specs.List.{list_any}
use Rattle.std.proofs.lemmas.Bool.{and_parts}
use Rattle.std.proofs.lemmas.List.Elements.{All-nil, All-cons, All-head, All-tail}
use Rattle.sky_val.specs.declared.event.Event.{Event}
use Rattle.sky_names.specs.Places.{place_of}
use Rattle.sky_names.proofs.PlaceLemmas.{same_name}
use Rattle.sky_txid.specs.Snapshot.{SnapshotView, sees}
use Rattle.londiste_state.specs.Nodes.{Node, of_root, of_leaf, Leaf, LeafTable, table_of}
use Rattle.sky_model.specs.declared.reply.Reply.TheVariants.{Null}
use Rattle.sky_model.specs.History.{Mark, Pick, of_synced, copy_of, of_worker, began, ended, tabled, wrote, noded, applied, History}
use Rattle.sky_model.specs.Rows.{table_names}
use Rattle.sky_model.specs.Nodes.{node}
use Rattle.sky_model.specs.State.{RowPart, after_part, Database, database_of}
use Rattle.sky_model.specs.Outcome.{Checked, ◌>>=◌, answers, marks_of}
use Rattle.sky_model.specs.OwnTransaction.{next_id}
use Rattle.sky_model.specs.Reader.{part_by_history, database_by_history}
use Rattle.sky_model.specs.Settling.{marked}
use Rattle.sky_model.specs.StepApply.{is_change, is_of_table, is_synced, has_synced, kept_snapshot, picks, may_apply, picked, change_write, work_write, applies_event, write_then, applies_events, applies_in, ends_applying, is_of_copied, applies_picked, applies_batch}
use Rattle.sky_model.specs.StepNode.{NodeCall, applying, node_does}
use Rattle.sky_model.specs.Promises.{after_all}
use Rattle.sky_model.specs.DatabaseCalls.{DatabaseCall, served, database_does, database_part}
use Rattle.sky_model.specs.World.{history_in}
use Rattle.sky_model.specs.Calls.{Call, past_of}
use Rattle.sky_histories.proofs.ApplyCalls.{IsWritten, event-written}
use Rattle.sky_histories.proofs.InCopyTables.{leaf_table}
use Rattle.sky_histories.proofs.Histories.{histories_are_made_by_own_calls}
use Rattle.sky_histories.proofs.Resting.{behind-append}
use Rattle.sky_histories.proofs.StatementMarks.{EachMark, each-map, each-rest, when-true}
use Rattle.sky_model.proofs.Cases.{by_test}
use Rattle.sky_model.specs.CallPermits.{CallMarkKinds, may_be_left, kinds_of_call}
use Rattle.sky_laws_replicas.proofs.CallMarks.{each-does}
use Rattle.sky_laws_replicas.proofs.SessionsMarks.{is_sessions, sessions-does}

-- whether events of a leaf's table may be picked: it is in sync, or has a kept snapshot
abbrev pub may_pick : Option LeafTable → Bool
may_pick None = false
may_pick (Some t) = is_synced t.state || is_some t.snapshot

-- the table of a number is such a one
pub record IsPicked (h : History) (n : ℕ) : Type 0 where
  pub name : List ℕ
  pub there : place_of name (table_names h) ≡ Some n
  pub picked : may_pick (leaf_table name (node h)) ≡ true

-- so it is where a worker writes it, as a batch is applied
abbrev pub MarkPicked : History → Mark → Type 0
MarkPicked h (tabled (wrote of_worker t n key old new)) = IsPicked h n
MarkPicked h mark = Unit {0}

abbrev pub AllPicked : History → Type 0
AllPicked [] = Unit {0}
AllPicked (mark ∷ h) = MarkPicked h mark × AllPicked h

pub picked-below : (later : List Mark) (p : History) → AllPicked (later ++ p) → AllPicked p
picked-below [] p all = all
picked-below (mark ∷ later) p all = picked-below later p all.1

-- ---- other marks

abbrev is_none : Mark → Bool
is_none (tabled (wrote of_worker t n key old new)) = false
is_none mark = true

none-mark : (h : History) (mark : Mark) → is_none mark ≡ true → MarkPicked h mark
none-mark h (tabled (wrote of_worker t n key old new)) e = absurd (cc e)
none-mark h mark e = tt

none-marks : (h : History) (marks : List Mark) → EachMark is_none marks → AllPicked h → AllPicked (marked h marks)
none-marks h [] each all = all
none-marks h (mark ∷ marks) each all = none-marks (mark ∷ h) marks (each-rest is_none mark marks each) (none-mark h mark (when-true (EachMark is_none marks) (is_none mark) each), all)

sessions-none : (mark : Mark) → is_sessions mark ≡ true → is_none mark ≡ true
sessions-none (tabled (wrote of_worker t n key old new)) e = absurd (cc e)
sessions-none mark e = refl

none-if : (k : CallMarkKinds) → k.applies ≡ false → (mark : Mark) → may_be_left k mark ≡ true → is_none mark ≡ true
none-if k none (tabled (wrote of_worker t n key old new)) e = absurd (cc (sym none ∙ e))
none-if k none mark e = refl

-- ---- a batch

-- an event is of a table that may be picked
abbrev OfPicked : History → Event → Type 0
OfPicked h e = (name : List ℕ) → e.ev_extra1 ≡ Some name → may_pick (leaf_table name (node h)) ≡ true

either-way : (b : Bool) → (b || true) ≡ true
either-way true = refl
either-way false = refl

synced-picked : (o : Option LeafTable) → unwrap_or (option_map (λ (t : LeafTable). is_synced t.state) o) false ≡ true → may_pick o ≡ true
synced-picked None e = absurd (cc e)
synced-picked (Some t) e = ap (λ b. b || is_some t.snapshot) e

copied-picked : (f : SnapshotView → Bool) (o : Option LeafTable) → unwrap_or (option_map f (option_and_then LeafTable.snapshot o)) false ≡ true → may_pick o ≡ true
copied-picked f None e = absurd (cc e)
copied-picked f (Some t) e = by t.snapshot e
  where
    by : (s : Option SnapshotView) → unwrap_or (option_map f s) false ≡ true → (is_synced t.state || is_some s) ≡ true
    by None e = absurd (cc e)
    by (Some s) e = either-way (is_synced t.state)

picks-picked : (h : History) (l : Leaf) → node h ≡ Some (of_leaf l) → (pick : Pick) (e : Event) → picks l pick e ≡ true → OfPicked h e
picks-picked h l is of_synced e picks_it name named =
    ap (λ n. may_pick (leaf_table name n)) is
    ∙ synced-picked (table_of name l)
    (ap (λ o. unwrap_or (option_map (has_synced l) o) false) (sym named) ∙ (and_parts (is_change e) (unwrap_or (option_map (has_synced l) e.ev_extra1) false) picks_it).1)
picks-picked h l is (copy_of other) e picks_it name named =
    ap (λ n. may_pick (leaf_table name n)) is ∙ ap (λ x. may_pick (table_of x l)) (sym one)
    ∙ copied-picked (λ s. not (sees s e.ev_txid)) (table_of other l) parts.1
  where
    parts : ((is_change e && is_of_table other e) ≡ true) × (unwrap_or (option_map (λ s. not (sees s e.ev_txid)) (kept_snapshot l other)) false ≡ true)
    parts = and_parts (is_change e && is_of_table other e) (unwrap_or (option_map (λ s. not (sees s e.ev_txid)) (kept_snapshot l other)) false) picks_it

    one : other ≡ name
    one = same_name other name (ap (λ o. unwrap_or (option_map (bytes_eq other) o) false) (sym named) ∙ (and_parts (is_change e) (is_of_table other e) parts.0).1)

filtered : (h : History) (l : Leaf) → node h ≡ Some (of_leaf l) → (pick : Pick) (es : List Event) → All (OfPicked h) (filter (picks l pick) es)
filtered h l is pick [] = All-nil (OfPicked h)
filtered h l is pick (e ∷ es) =
    by_test (λ b. picks l pick e ≡ b → All (OfPicked h) (if b then e ∷ filter (picks l pick) es else filter (picks l pick) es)) (picks l pick e)
    (λ _ its. All-cons (OfPicked h) e (filter (picks l pick) es) (picks-picked h l is pick e its) (filtered h l is pick es)) (λ _ _. filtered h l is pick es) refl

all-of-picked : (h : History) (pick : Pick) (es : List Event) → All (OfPicked h) (picked (node h) pick es)
all-of-picked h pick es = of (node h) refl
  where
    of : (n : Option Node) → node h ≡ n → All (OfPicked h) (picked n pick es)
    of None is = All-nil (OfPicked h)
    of (Some (of_root r)) is = All-nil (OfPicked h)
    of (Some (of_leaf l)) is = filtered h l is pick es

writes-picked : (t : ℕ) (es : List Event) (h : History) (d : RowPart) → d.tables ≡ table_names h → All (OfPicked h) es → AllPicked h → AllPicked (marked h (applies_events d t es).marks)
writes-picked t [] h d names of_picked all = all
writes-picked t (e ∷ es) h d names of_picked all = of (applies_event d t e) refl (writes-picked t es)
  where
    of : (o : Option Mark) → applies_event d t e ≡ o
        → ((g : History) (c : RowPart) → c.tables ≡ table_names g → All (OfPicked g) es → AllPicked g → AllPicked (marked g (applies_events c t es).marks))
        → AllPicked (marked h (write_then e o (λ mark. applies_events (after_part d mark) t es)).marks)
    of None is later = all
    of (Some mark) is later =
        let w : IsWritten d t e mark = event-written d t e mark is in
        let write : Mark = work_write d w.table t (change_write (d.columns w.table) w.change) in
        subst (λ m. AllPicked (marked (m ∷ h) (applies_events (after_part d m) t es).marks)) (sym w.is)
        (later (write ∷ h) (after_part d write) names (All-tail (OfPicked h) e es of_picked)
        (record { name = w.name; there = ap (place_of w.name) (sym names) ∙ w.there; picked = All-head (OfPicked h) e es of_picked w.name w.named }, all))

batch-picked : (h : History) (es : List Event) (pick : Pick) (tick : ℕ) → AllPicked h → AllPicked (marked h (marks_of (node_does (database_of h) (applying es pick tick))))
batch-picked h es pick tick all = by_may (may_apply pick (node h))
  where
    d : Database
    d = database_of h

    chosen : List Event
    chosen = picked (node h) pick es

    ends : (t : ℕ) (marks : List Mark) (bad : Option ℕ) → AllPicked (marked (began of_worker t ∷ h) marks) → AllPicked (marked h (marks_of (ends_applying pick tick t (length chosen) marks bad)))
    ends t marks None now =
        subst AllPicked (sym (behind-append part_by_history (began of_worker t ∷ h) marks (ended of_worker t true ∷ noded (applied pick tick) ∷ []))) (tt, (tt, now))
    ends t marks (Some id) now = subst AllPicked (sym (behind-append part_by_history (began of_worker t ∷ h) marks (ended of_worker t false ∷ []))) (tt, now)

    by_id : (c : Checked ℕ) → AllPicked (marked h (marks_of (c >>= (λ t. ends_applying pick tick t (length chosen) (applies_in d.part t chosen).marks (applies_in d.part t chosen).bad))))
    by_id (Err refusal) = all
    by_id (Ok t) =
        ends t (applies_in d.part t chosen).marks (applies_in d.part t chosen).bad
        (writes-picked t chosen (began of_worker t ∷ h) (after_part d.part (began of_worker t)) refl (all-of-picked h pick es) (tt, all))

    by_copied : (b : Bool) → AllPicked (marked h (marks_of (if b then answers Null else applies_picked d pick tick chosen)))
    by_copied true = all
    by_copied false = by_id (next_id d.part)

    by_may : (b : Bool) → AllPicked (marked h (marks_of (if b then applies_batch d pick tick es else answers Null)))
    by_may true = by_copied (list_any (is_of_copied d) chosen)
    by_may false = all

node-picked : (h : History) (call : NodeCall) → AllPicked h → AllPicked (marked h (marks_of (node_does (database_of h) call)))
node-picked h (applying es pick tick) all = batch-picked h es pick tick all
node-picked h call all = none-marks h (marks_of (node_does (database_of h) call)) (each-does is_none call (none-if (kinds_of_call call) refl) (database_of h)) all

-- ---- all calls

after-sessions : (h : History) (marks : List Mark) → EachMark is_sessions marks → AllPicked h → AllPicked (marked h marks)
after-sessions h marks each all = none-marks h marks (each-map is_sessions is_none sessions-none marks each) all

after-does : (h : History) (call : DatabaseCall) → AllPicked h → AllPicked (marked h (database_does database_by_history h call).marks)
after-does h (served call) all = node-picked h call all
after-does h call all = after-sessions h (database_does database_by_history h call).marks (sessions-does h call refl) all

picked-calls : (calls : List DatabaseCall) → AllPicked (after_all database_part calls)
picked-calls [] = tt
picked-calls (call ∷ calls) = after-does (after_all database_part calls) call (picked-calls calls)

pub picked-past : (calls : List Call) (d : ℕ) → AllPicked (history_in (past_of calls) d)
picked-past calls d = let made = histories_are_made_by_own_calls calls d in subst AllPicked made.make (picked-calls made.own_calls)
