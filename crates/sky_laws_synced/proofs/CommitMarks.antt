-- What comes right above a commit by which a copy ends, or a transaction of a worker that has written rows.
use Rattle.std.proofs.Common.{arith, ◌≡◌, ℕ, ◌==◌, ◌^◌, nat_le, length, List, [], ◌∷◌, ◌++◌, filter, Bool, true, false, not, ◌&&◌, ◌||◌, All, Option, Some, None, Ok, Err, bytes_eq, option_map, unwrap_or, refl, sym, ap, subst, ◌∙◌, if◌then◌else◌}
use Rattle.std.specs.List.{list_any}
use Rattle.std.proofs.lemmas.Bool.{false_from_ne_true, and_parts, or_parts, eqb-true}
use Rattle.std.proofs.lemmas.List.Elements.{All-nil, All-cons, All-head, All-tail}
use Rattle.std.proofs.Math.Bool.{and-false}
use Rattle.sky_val.specs.declared.event.Event.{Event}
use Rattle.sky_names.specs.Places.{place_of}
use Rattle.sky_txid.specs.Ids.{contains}
use Rattle.sky_txid.specs.Snapshot.{SnapshotView, sees}
use Rattle.londiste_state.specs.Nodes.{Node, of_root, of_leaf, Leaf}
use Rattle.sky_model.specs.declared.reply.Reply.TheVariants.{Null}
use Rattle.sky_model.specs.declared.reply.Refusal.TheVariants.{TxidsSpent}
use Rattle.sky_model.specs.History.{Mark, Pick, Whose, of_synced, copy_of, of_session, of_worker, of_copy, began, ended, tabled, wrote, noded, copied, applied, History}
use Rattle.sky_model.specs.Transactions.{next_txid, workers, has_ended}
use Rattle.sky_model.specs.Copies.{copies, copy_txid, is_copied_by, is_copys}
use Rattle.sky_model.specs.Rows.{table_names, columns_of, wrote_in, writes as writes_of}
use Rattle.sky_model.specs.Nodes.{node}
use Rattle.sky_model.specs.State.{RowPart, part_of, after_part, database_of}
use Rattle.sky_model.specs.Outcome.{Outcome, Checked, ◌>>=◌, ◌>>◌, refused_if, answers, marks_of}
use Rattle.sky_model.specs.OwnTransaction.{next_id}
use Rattle.sky_model.specs.Promises.{after_all}
use Rattle.sky_model.specs.Reader.{part_by_history, database_by_history}
use Rattle.sky_model.specs.Settling.{marked}
use Rattle.sky_model.specs.StepCopy.{ends_copy as ends_copying}
use Rattle.sky_model.specs.StepApply.{has_synced, picks, picked, change_write, work_write, applies_event, Applying, write_then, applies_events, applies_in, ends_applying, applies_picked, is_of_copied, kept_snapshot, is_change, is_of_table}
use Rattle.sky_model.specs.StepNode.{NodeCall, ending_copy, applying, if_there, may_serve, call_form, node_does}
use Rattle.sky_model.specs.DatabaseCalls.{DatabaseCall, served, database_does, database_part}
use Rattle.sky_model.specs.HistoryPlaces.{IsPlace}
use Rattle.sky_histories.proofs.Legal.{Fine, begins_work, ends_work, begins_copy, ends_copy, writes, copies_row, applies_row, Legal, legal-below_mark, fine_mark}
use Rattle.sky_histories.proofs.Marks.{part_of-mark}
use Rattle.sky_histories.proofs.Snapshots.{contains-push, contains-filter, copys-of, sound}
use Rattle.sky_histories.proofs.Guarded.{copied_by-push, copied_by-without}
use Rattle.sky_histories.proofs.WrittenTables.{some, is-written}
use Rattle.sky_histories.proofs.RowKeys.{begun}
use Rattle.sky_histories.proofs.ApplyCalls.{IsWritten, event-written}
use Rattle.sky_histories.proofs.Resting.{behind-append}
use Rattle.sky_histories.proofs.Good.{same-session}
use Rattle.sky_histories.proofs.Histories.{legal_calls}
use Rattle.sky_histories.proofs.StatementMarks.{EachMark, each-map, each-rest, when-true}
use Rattle.sky_model.proofs.Cases.{by_test, by_same}
use Rattle.sky_laws.proofs.PendingOwners.{legal-before}
use Rattle.sky_histories.proofs.ApplyingLaws.{all-filter}
use Rattle.sky_laws_replicas.proofs.Copying.{one-table}
use Rattle.sky_laws_replicas.proofs.SessionsMarks.{is_sessions, sessions-does}
use Rattle.sky_laws_synced.specs.LawsOfChanges.{SaysCopied, is_picked, SaysApplied, CopiesWriteOwnTables, CopiesSayThatTheyEnd, BatchesSayThatTheyAreApplied, is_session, CommitsAreFollowed}
use Rattle.sky_model.specs.CallPermits.{CallMarkKinds, may_be_left, kinds_of_call}
use Rattle.sky_laws_replicas.proofs.CallMarks.{each-does}

-- ---- what workers have written

-- but for some transactions, none of a worker that runs has written a table, unless it is a copy of it
abbrev NoneWritten : (ℕ → Bool) → History → Type 0
NoneWritten but h = (table t : ℕ) → but t ≡ false → contains t (workers h) ≡ true → is_copied_by table t (copies h) ≡ false → writes_of table t h ≡ []

-- no worker writes by a mark, or one of those does
abbrev spares_tables : (ℕ → Bool) → Mark → Bool
spares_tables but (tabled (wrote of_worker t table key old new)) = but t
spares_tables but mark = true

none-step : (but : ℕ → Bool) (h : History) → Legal h → (mark : Mark) → Fine h mark → spares_tables but mark ≡ true → NoneWritten but h → NoneWritten but (mark ∷ h)
none-step but h l _ begins_work spared ih table t free works apart =
    by_same (λ b. (contains t (workers h) || b) ≡ true → writes_of table t h ≡ []) t (next_txid h)
    (λ same _. begun h l table t (omega (arith, same))) (λ _ old. ih table t free (grind (arith, old)) apart) (sym (contains-push t (next_txid h) (workers h)) ∙ works)
none-step but h l _ (begins_copy n may) spared ih table t free works apart =
    by_same (λ b. (contains t (workers h) || b) ≡ true → writes_of table t h ≡ []) t (next_txid h)
    (λ same _. begun h l table t (omega (arith, same)))
    (λ _ old. ih table t free (grind (arith, old))
    (or_parts (is_copied_by table t (copies h)) (n == table && next_txid h == t) (sym (copied_by-push table t (copies h) (record { table = n; txid = next_txid h })) ∙ apart)).0)
    (sym (contains-push t (next_txid h) (workers h)) ∙ works)
none-step but h l _ (ends_work u c is) spared ih table t free works apart = ih table t free (grind (arith, contains-filter t u (workers h), works)) apart
none-step but h l _ (ends_copy n u c is) spared ih table t free works apart =
    ih table t free (grind (arith, contains-filter t u (workers h), works)) (grind (arith, contains-filter t u (workers h), works, copied_by-without table u t (copies h), apart))
none-step but h l _ (writes who u n key old new mine unheld stands) spared ih table t free works apart =
    ap (λ b. if b then writes_of table t h ++ record { key = key; row = new } ∷ [] else writes_of table t h) other ∙ ih table t free works apart
  where
    other : (n == table && u == t) ≡ false
    other = by_same (λ b. (n == table && b) ≡ false) u t (λ same. absurd (cc (sym works ∙ (sound h l).nobodys who t (mine ∙ ap Some same)))) (λ _. grind (arith))
none-step but h l _ (copies_row n u key old new is) spared ih table t free works apart =
    ap (λ b. if b then writes_of table t h ++ record { key = key; row = new } ∷ [] else writes_of table t h) other ∙ ih table t free works apart
  where
    other : (n == table && u == t) ≡ false
    other = by_same (λ b. (b && u == t) ≡ false) n table
        (λ one. by_same (λ b. (true && b) ≡ false) u t
        (λ same. absurd (cc (sym is.runs ∙ (ap (λ k. is_copied_by k u (copies h)) one ∙ ap (λ v. is_copied_by table v (copies h)) same) ∙ apart))) (λ _. refl)) (λ _. refl)
none-step but h l _ (applies_row n u key old new is) spared ih table t free works apart =
    ap (λ b. if b then writes_of table t h ++ record { key = key; row = new } ∷ [] else writes_of table t h) other ∙ ih table t free works apart
  where
    other : (n == table && u == t) ≡ false
    other = by_same (λ b. (n == table && b) ≡ false) u t (λ same. absurd (cc (sym spared ∙ ap but same ∙ free))) (λ _. grind (arith))
none-step but h l _ _ spared ih table t free works apart = ih table t free works apart

none-wrote : (h : History) → Legal h → (table t : ℕ) → writes_of table t h ≡ [] → wrote_in table t h ≡ false
none-wrote h l table t none = is-written h l table t ∙ ap (λ ws. not (has_ended h t) && some ws) none ∙ and-false (not (has_ended h t))

-- ---- what a mark above a place is to be

-- right above the commit of a copy, or of a worker
abbrev NextSuits : History → Mark → Type 0
NextSuits (ended (of_copy n) t true ∷ h) next = SaysCopied h n next
NextSuits (ended of_worker t true ∷ h) next = (table : ℕ) → wrote_in table t h ≡ true → SaysApplied h table next
NextSuits _ next = Unit {0}

-- a copy commits that has written its own table
abbrev OwnSuits : History → Mark → Type 0
OwnSuits h (ended (of_copy n) t true) = (table : ℕ) → wrote_in table t h ≡ true → table ≡ n
OwnSuits h mark = Unit {0}

record MarkSuits (h : History) (mark : Mark) : Type 0 where
  next : NextSuits h mark
  own : OwnSuits h mark

abbrev AllSuit : History → Type 0
AllSuit [] = Unit {0}
AllSuit (mark ∷ h) = MarkSuits h mark × AllSuit h

-- any mark may come next
abbrev IsShut : History → Type 0
IsShut (ended (of_copy n) t true ∷ h) = ⊥
IsShut (ended of_worker t true ∷ h) = (table : ℕ) → wrote_in table t h ≡ false
IsShut _ = Unit {0}

shut-suits : (h : History) (next : Mark) → IsShut h → NextSuits h next
shut-suits [] next shut = tt
shut-suits (ended (of_copy n) t true ∷ h) next shut = absurd shut
shut-suits (ended of_worker t true ∷ h) next shut = λ table wrote_it. absurd (cc (sym (shut table) ∙ wrote_it))
shut-suits (_ ∷ h) next shut = tt

-- between calls
record IsBetween (h : History) : Type 0 where
  suit : AllSuit h
  shut : IsShut h
  none : NoneWritten (λ _. false) h

-- ---- marks that are neither such a commit nor a worker's write

abbrev leaves_rows : Mark → Bool
leaves_rows (ended (of_copy n) t true) = false
leaves_rows (tabled (wrote of_worker t table key old new)) = false
leaves_rows mark = true

quiet-own : (h : History) (mark : Mark) → leaves_rows mark ≡ true → OwnSuits h mark
quiet-own h (ended (of_copy n) t true) quiet = absurd (cc quiet)
quiet-own h mark quiet = tt

quiet-spares : (mark : Mark) → leaves_rows mark ≡ true → spares_tables (λ _. false) mark ≡ true
quiet-spares (tabled (wrote of_worker t table key old new)) quiet = absurd (cc quiet)
quiet-spares mark quiet = refl

uncopied : (h : History) (table t : ℕ) → is_copys t (copies h) ≡ false → is_copied_by table t (copies h) ≡ false
uncopied h table t apart = false_from_ne_true (is_copied_by table t (copies h)) (λ runs. cc (sym (copys-of table t (copies h) runs) ∙ apart))

quiet-shut : (h : History) → Legal h → (mark : Mark) → Fine h mark → leaves_rows mark ≡ true → NoneWritten (λ _. false) h → IsShut (mark ∷ h)
quiet-shut h l _ (ends_work t true is) quiet none = λ table. none-wrote h l table t (none table t refl is.works (uncopied h table t is.apart))
quiet-shut h l _ (ends_work t false is) quiet none = tt
quiet-shut h l _ (ends_copy n t true is) quiet none = absurd (cc quiet)
quiet-shut h l _ (ends_copy n t false is) quiet none = tt
quiet-shut h l _ _ quiet none = tt

quiet-step : (h : History) (mark : Mark) → Legal (mark ∷ h) → leaves_rows mark ≡ true → IsBetween h → IsBetween (mark ∷ h)
quiet-step h mark l quiet b =
    let below : Legal h = legal-below_mark l in
    record {
      suit = (record { next = shut-suits h mark b.shut; own = quiet-own h mark quiet }, b.suit);
      shut = quiet-shut h below mark (fine_mark l) quiet b.none;
      none = none-step (λ _. false) h below mark (fine_mark l) (quiet-spares mark quiet) b.none;
    }

quiet-marks : (h : History) (marks : List Mark) → Legal (marked h marks) → EachMark leaves_rows marks → IsBetween h → IsBetween (marked h marks)
quiet-marks h [] l each b = b
quiet-marks h (mark ∷ marks) l each b =
    quiet-marks (mark ∷ h) marks l (each-rest leaves_rows mark marks each) (quiet-step h mark (legal-before (mark ∷ h) marks l) (when-true (EachMark leaves_rows marks) (leaves_rows mark) each) b)

-- so are those of sessions
sessions-quiet : (mark : Mark) → is_sessions mark ≡ true → leaves_rows mark ≡ true
sessions-quiet (ended (of_copy n) t true) is = absurd (cc is)
sessions-quiet (tabled (wrote of_worker t table key old new)) is = absurd (cc is)
sessions-quiet mark is = refl

sessions-marks : (h : History) (marks : List Mark) → Legal (marked h marks) → EachMark is_sessions marks → IsBetween h → IsBetween (marked h marks)
sessions-marks h marks l each b = quiet-marks h marks l (each-map is_sessions leaves_rows sessions-quiet marks each) b

-- ---- and those of most calls for nodes

-- their kinds: no copy ends by them, and no batch is applied
abbrev are_quiet : CallMarkKinds → Bool
are_quiet k = not (k.ends_copy || k.applies)

quiet-if : (k : CallMarkKinds) → are_quiet k ≡ true → (mark : Mark) → may_be_left k mark ≡ true → leaves_rows mark ≡ true
quiet-if k quiet (ended (of_copy n) t true) e = absurd (grind (arith, quiet, e))
quiet-if k quiet (tabled (wrote of_worker t table key old new)) e = absurd (grind (arith, quiet, e))
quiet-if k quiet mark e = refl

quiet-call : (h : History) (call : NodeCall) → are_quiet (kinds_of_call call) ≡ true → Legal (marked h (marks_of (node_does (database_of h) call))) → IsBetween h → IsBetween (marked h (marks_of (node_does (database_of h) call)))
quiet-call h call quiet l b = quiet-marks h (marks_of (node_does (database_of h) call)) l (each-does leaves_rows call (quiet-if (kinds_of_call call) quiet) (database_of h)) b

-- what a call does leaves it so
abbrev StaysBetween : History → Checked Outcome → Type 0
StaysBetween h c = Legal (marked h (marks_of c)) → IsBetween (marked h (marks_of c))

-- ---- a copy ends

ended-copy : (h : History) (name : List ℕ) (table t : ℕ) (under : SnapshotView) (tick : ℕ) → place_of name (table_names h) ≡ Some table → Legal (noded (copied name under tick) ∷ ended (of_copy table) t true ∷ h) → IsBetween h
    → IsBetween (noded (copied name under tick) ∷ ended (of_copy table) t true ∷ h)
ended-copy h name table t under tick there l b = record {
  suit = (record { next = record { name = name; named = there; under = under; tick = tick; is = refl }; own = tt }, (record { next = shut-suits h (ended (of_copy table) t true) b.shut; own = own }, b.suit));
  shut = tt;
  none = none-step (λ _. false) (ended (of_copy table) t true ∷ h) above (noded (copied name under tick)) (fine_mark l) refl (none-step (λ _. false) h below (ended (of_copy table) t true) (fine_mark above) refl b.none);
}
  where
    above : Legal (ended (of_copy table) t true ∷ h)
    above = legal-below_mark l

    below : Legal h
    below = legal-below_mark above

    ran : {n u : ℕ} → Fine h (ended (of_copy n) u true) → is_copied_by n u (copies h) ≡ true
    ran (ends_copy n u c may) = may.runs

    runs : is_copied_by table t (copies h) ≡ true
    runs = ran (fine_mark above)

    own : (n : ℕ) → wrote_in n t h ≡ true → n ≡ table
    own n wrote_it =
        by_test (λ c. is_copied_by n t (copies h) ≡ c → n ≡ table) (is_copied_by n t (copies h)) (λ _ also. one-table h below n table t also runs)
        (λ _ apart. absurd (cc (sym (none-wrote h below n t (b.none n t refl ((sound h below).copying t (copys-of table t (copies h) runs)) apart)) ∙ wrote_it))) refl

ending-call : (h : History) (name : List ℕ) (under : SnapshotView) (tick : ℕ) → Legal (marked h (marks_of (node_does (database_of h) (ending_copy name under tick)))) → IsBetween h
    → IsBetween (marked h (marks_of (node_does (database_of h) (ending_copy name under tick))))
ending-call h name under tick l b = served_by (may_serve (ending_copy name under tick) (node h)) l
  where
    by : (table : ℕ) → place_of name (table_names h) ≡ Some table → (o : Option ℕ) → StaysBetween h (if_there o (λ t. ends_copying table t name under tick))
    by table there None l = b
    by table there (Some t) l = ended-copy h name table t under tick there l b

    of : (o : Option ℕ) → place_of name (table_names h) ≡ o → StaysBetween h (if_there o (λ table. if_there (copy_txid table (copies h)) (λ t. ends_copying table t name under tick)))
    of None there l = b
    of (Some table) there l = by table there (copy_txid table (copies h)) l

    served_by : (may : Bool) → StaysBetween h (if may then call_form (database_of h) (ending_copy name under tick) else answers Null)
    served_by true l = of (place_of name (table_names h)) refl l
    served_by false l = b

-- ---- a batch is applied

-- a batch is one for the table of a number
record IsFor (h : History) (pick : Pick) (table : ℕ) : Type 0 where
  name : List ℕ
  named : place_of name (table_names h) ≡ Some table
  picks : is_picked pick name (node h) ≡ true

-- for that of an event that is picked
abbrev IsForOwn : History → Pick → Event → Type 0
IsForOwn h pick event = (name : List ℕ) → event.ev_extra1 ≡ Some name → is_picked pick name (node h) ≡ true

leaf-picks : (l : Leaf) (pick : Pick) (event : Event) → picks l pick event ≡ true → (name : List ℕ) → event.ev_extra1 ≡ Some name → is_picked pick name (Some (of_leaf l)) ≡ true
leaf-picks l of_synced event is name named =
    sym (ap (λ o. unwrap_or (option_map (has_synced l) o) false) named) ∙ (and_parts (is_change event) (unwrap_or (option_map (has_synced l) event.ev_extra1) false) is).1
leaf-picks l (copy_of table) event is name named =
    let outer = and_parts (is_change event && is_of_table table event) (unwrap_or (option_map (λ s. not (sees s event.ev_txid)) (kept_snapshot l table)) false) is in
    sym (ap (λ o. unwrap_or (option_map (bytes_eq table) o) false) named) ∙ (and_parts (is_change event) (is_of_table table event) outer.0).1

all-own : (h : History) (pick : Pick) (events : List Event) → All (IsForOwn h pick) (picked (node h) pick events)
all-own h pick events = of (node h) refl
  where
    each : (l : Leaf) → node h ≡ Some (of_leaf l) → (es : List Event) → All (λ e. picks l pick e ≡ true) es → All (IsForOwn h pick) es
    each l is [] all = All-nil (IsForOwn h pick)
    each l is (e ∷ es) all =
        All-cons (IsForOwn h pick) e es (λ name named. ap (is_picked pick name) is ∙ leaf-picks l pick e (All-head (λ x. picks l pick x ≡ true) e es all) name named)
        (each l is es (All-tail (λ x. picks l pick x ≡ true) e es all))

    of : (n : Option Node) → node h ≡ n → All (IsForOwn h pick) (picked n pick events)
    of None is = All-nil (IsForOwn h pick)
    of (Some (of_root r)) is = All-nil (IsForOwn h pick)
    of (Some (of_leaf l)) is = each l is (filter (picks l pick) events) (all-filter (picks l pick) events)

-- its transaction is at work
record AtWork (h : History) (pick : Pick) (t : ℕ) (g : History) : Type 0 where
  names : table_names g ≡ table_names h
  nodes : node g ≡ node h
  ready : (next : Mark) → NextSuits g next
  suit : AllSuit g
  none : NoneWritten (λ u. u == t) g
  wrote_for : (table : ℕ) → wrote_in table t g ≡ true → IsFor h pick table

-- an event's write
wrote-event : (h : History) (pick : Pick) (t : ℕ) (g : History) (event : Event) → AtWork h pick t g → IsForOwn h pick event → (mark : Mark) → (x : IsWritten (part_of g) t event mark)
    → (let write : Mark = work_write (part_of g) x.table t (change_write (columns_of x.table g) x.change) in Legal (write ∷ g) → AtWork h pick t (write ∷ g))
wrote-event h pick t g event w own mark x l = record {
  names = w.names;
  nodes = w.nodes;
  ready = λ next. tt;
  suit = (record { next = w.ready write; own = tt }, w.suit);
  none = none-step (λ u. u == t) g (legal-below_mark l) write (fine_mark l) (same-session t) w.none;
  wrote_for = λ table.
      by_test (λ b. (x.table == table) ≡ b → (b && t == t || wrote_in table t g) ≡ true → IsFor h pick table) (x.table == table)
      (λ _ same _. record { name = x.name; named = ap (place_of x.name) (sym w.names) ∙ x.there ∙ ap Some (eqb-true x.table table same); picks = own x.name x.named })
      (λ _ _ before. w.wrote_for table before) refl;
}
  where
    write : Mark
    write = work_write (part_of g) x.table t (change_write (columns_of x.table g) x.change)

went : (h : History) (pick : Pick) (t : ℕ) (g : History) (events : List Event) → AtWork h pick t g → All (IsForOwn h pick) events → Legal (marked g (applies_events (part_of g) t events).marks)
    → AtWork h pick t (marked g (applies_events (part_of g) t events).marks)
went h pick t g [] w all l = w
went h pick t g (event ∷ events) w all l =
    of (applies_event (part_of g) t event) refl (λ k at_work legal. went h pick t k events at_work (All-tail (IsForOwn h pick) event events all) legal) l
  where
    T : Mark → RowPart → Type 0
    T mark d = Legal (marked (mark ∷ g) (applies_events d t events).marks) → AtWork h pick t (marked (mark ∷ g) (applies_events d t events).marks)

    of : (o : Option Mark) → applies_event (part_of g) t event ≡ o
        → ((k : History) → AtWork h pick t k → Legal (marked k (applies_events (part_of k) t events).marks) → AtWork h pick t (marked k (applies_events (part_of k) t events).marks))
        → Legal (marked g (write_then event o (λ mark. applies_events (after_part (part_of g) mark) t events)).marks)
        → AtWork h pick t (marked g (write_then event o (λ mark. applies_events (after_part (part_of g) mark) t events)).marks)
    of None is ih l = w
    of (Some mark) is ih l = subst (λ m. T m (after_part (part_of g) m)) (sym x.is) at_write l
      where
        x : IsWritten (part_of g) t event mark
        x = event-written (part_of g) t event mark is

        write : Mark
        write = work_write (part_of g) x.table t (change_write (columns_of x.table g) x.change)

        at_write : T write (after_part (part_of g) write)
        at_write = subst (T write) (part_of-mark g write) (λ legal.
            ih (write ∷ g) (wrote-event h pick t g event w (All-head (IsForOwn h pick) event events all) mark x (legal-before (write ∷ g) (applies_events (part_of (write ∷ g)) t events).marks legal)) legal)

-- the id that it is given
given-id : (h : History) (t : ℕ) → next_id (part_of h) ≡ Ok t → t ≡ next_txid h
given-id h t = of (nat_le (2 ^ 62) (next_txid h))
  where
    of : (spent : Bool) → (refused_if spent TxidsSpent >> Ok (next_txid h)) ≡ Ok t → t ≡ next_txid h
    of true e = absurd (cc e)
    of false e = let same : next_txid h ≡ t = cc e in sym same

-- no running transaction of a worker has written a table, once it has ended
closed-work : (k : History) (t : ℕ) (c : Bool) → Legal (ended of_worker t c ∷ k) → NoneWritten (λ u. u == t) k → NoneWritten (λ _. false) (ended of_worker t c ∷ k)
closed-work k t c l none table u free works apart =
    by_test (λ b. (u == t) ≡ b → writes_of table u k ≡ []) (u == t) (λ _ same. absurd (cc (sym works ∙ contains-filter u t (workers k) ∙ ap (λ b. contains u (workers k) && not b) same ∙ and-false (contains u (workers k)))))
    (λ _ other. none-step (λ v. v == t) k (legal-below_mark l) (ended of_worker t c) (fine_mark l) refl none table u other works apart) refl

module _ (h : History) (pick : Pick) (tick t : ℕ) where
  end-work : (g k : History) (marks : List Mark) (many : ℕ) (bad : Option ℕ) → g ≡ began of_worker t ∷ h → marked g marks ≡ k → AtWork h pick t k → StaysBetween h (ends_applying pick tick t many marks bad)
  end-work g k marks many None start is w l = subst IsBetween (sym there) (record {
    suit = (record { next = says; own = tt }, (record { next = w.ready (ended of_worker t true); own = tt }, w.suit));
    shut = tt;
    none = none-step (λ _. false) (ended of_worker t true ∷ k) (legal-below_mark legal) (noded (applied pick tick)) (fine_mark legal) refl (closed-work k t true (legal-below_mark legal) w.none);
  })
    where
      there : marked (began of_worker t ∷ h) (marks ++ ended of_worker t true ∷ noded (applied pick tick) ∷ []) ≡ noded (applied pick tick) ∷ ended of_worker t true ∷ k
      there =
          behind-append part_by_history (began of_worker t ∷ h) marks (ended of_worker t true ∷ noded (applied pick tick) ∷ [])
          ∙ ap (λ x. noded (applied pick tick) ∷ ended of_worker t true ∷ x) (ap (λ x. marked x marks) (sym start) ∙ is)

      legal : Legal (noded (applied pick tick) ∷ ended of_worker t true ∷ k)
      legal = subst Legal there l

      says : (table : ℕ) → wrote_in table t k ≡ true → SaysApplied k table (noded (applied pick tick))
      says table wrote_it =
          let x : IsFor h pick table = w.wrote_for table wrote_it in
          record { name = x.name; named = ap (place_of x.name) w.names ∙ x.named; pick = pick; tick = tick; is = refl; picks = ap (is_picked pick x.name) w.nodes ∙ x.picks }
  end-work g k marks many (Some id) start is w l = subst IsBetween (sym there) (record {
    suit = (record { next = w.ready (ended of_worker t false); own = tt }, w.suit);
    shut = tt;
    none = closed-work k t false legal w.none;
  })
    where
      there : marked (began of_worker t ∷ h) (marks ++ ended of_worker t false ∷ []) ≡ ended of_worker t false ∷ k
      there = behind-append part_by_history (began of_worker t ∷ h) marks (ended of_worker t false ∷ []) ∙ ap (λ x. ended of_worker t false ∷ x) (ap (λ x. marked x marks) (sym start) ∙ is)

      legal : Legal (ended of_worker t false ∷ k)
      legal = subst Legal there l

-- the history below some marks of a batch is legal
legal-work : (g : History) (pick : Pick) (tick t many : ℕ) (marks : List Mark) (bad : Option ℕ) → Legal (marked g (marks_of (ends_applying pick tick t many marks bad))) → Legal (marked (began of_worker t ∷ g) marks)
legal-work g pick tick t many marks None l =
    legal-before (marked (began of_worker t ∷ g) marks) (ended of_worker t true ∷ noded (applied pick tick) ∷ [])
    (subst Legal (behind-append part_by_history (began of_worker t ∷ g) marks (ended of_worker t true ∷ noded (applied pick tick) ∷ [])) l)
legal-work g pick tick t many marks (Some id) l =
    legal-before (marked (began of_worker t ∷ g) marks) (ended of_worker t false ∷ []) (subst Legal (behind-append part_by_history (began of_worker t ∷ g) marks (ended of_worker t false ∷ [])) l)

applied-batch : (h : History) → Legal h → (pick : Pick) (tick : ℕ) (events : List Event) → IsBetween h → (t : ℕ) → t ≡ next_txid h
    → (let made : Applying = applies_in (part_of h) t (picked (node h) pick events) in (many : ℕ) → StaysBetween h (ends_applying pick tick t many made.marks made.bad))
applied-batch h l pick tick events b t new many = λ legal.
    let es : List Event = picked (node h) pick events in
    let g : History = began of_worker t ∷ h in
    let d : RowPart = after_part (part_of h) (began of_worker t) in
    let below : Legal (marked g (applies_events d t es).marks) = legal-work h pick tick t many (applies_events d t es).marks (applies_events d t es).bad legal in
    let start : AtWork h pick t g = record {
      names = refl;
      nodes = refl;
      ready = λ next. tt;
      suit = (record { next = shut-suits h (began of_worker t) b.shut; own = tt }, b.suit);
      none = none-step (λ u. u == t) h l (began of_worker t) (fine_mark (legal-before g (applies_events d t es).marks below)) refl (λ table u free works apart. b.none table u refl works apart);
      wrote_for = λ table wrote_it. absurd (cc (sym (none-wrote h l table t (begun h l table t (omega (arith, new)))) ∙ wrote_it));
    } in
    let at_work : AtWork h pick t (marked g (applies_events d t es).marks) =
    subst (λ x. Legal (marked g (applies_events x t es).marks) → AtWork h pick t (marked g (applies_events x t es).marks)) (part_of-mark h (began of_worker t)) (went h pick t g es start (all-own h pick events)) below in
    end-work h pick tick t g (marked g (applies_events d t es).marks) (applies_events d t es).marks many (applies_events d t es).bad refl refl at_work legal

applying-call : (h : History) → Legal h → (events : List Event) (pick : Pick) (tick : ℕ) → Legal (marked h (marks_of (node_does (database_of h) (applying events pick tick)))) → IsBetween h
    → IsBetween (marked h (marks_of (node_does (database_of h) (applying events pick tick))))
applying-call h below events pick tick l b = served_by (may_serve (applying events pick tick) (node h)) l
  where
    es : List Event
    es = picked (node h) pick events

    by : (c : Checked ℕ) → next_id (part_of h) ≡ c → StaysBetween h (c >>= (λ t. ends_applying pick tick t (length es) (applies_in (part_of h) t es).marks (applies_in (part_of h) t es).bad))
    by (Err refusal) is l = b
    by (Ok t) is l = applied-batch h below pick tick events b t (given-id h t is) (length es) l

    of : (some_copied : Bool) → StaysBetween h (if some_copied then answers Null else applies_picked (database_of h) pick tick es)
    of true l = b
    of false l = by (next_id (part_of h)) refl l

    served_by : (may : Bool) → StaysBetween h (if may then call_form (database_of h) (applying events pick tick) else answers Null)
    served_by true l = of (list_any (is_of_copied (database_of h)) es) l
    served_by false l = b

-- ---- call by call

served-call : (h : History) → Legal h → (call : NodeCall) → Legal (marked h (marks_of (node_does (database_of h) call))) → IsBetween h → IsBetween (marked h (marks_of (node_does (database_of h) call)))
served-call h below (ending_copy name under tick) l b = ending-call h name under tick l b
served-call h below (applying events pick tick) l b = applying-call h below events pick tick l b
served-call h below call l b = quiet-call h call refl l b

between-call : (h : History) → Legal h → (call : DatabaseCall) → Legal (marked h (database_does database_by_history h call).marks) → IsBetween h → IsBetween (marked h (database_does database_by_history h call).marks)
between-call h below (served call) l b = served-call h below call l b
between-call h below call l b = sessions-marks h (database_does database_by_history h call).marks l (sessions-does h call refl) b

between-calls : (calls : List DatabaseCall) → IsBetween (after_all database_part calls)
between-calls [] = record { suit = tt; shut = tt; none = λ table t free works apart. absurd (cc works) }
between-calls (call ∷ calls) = between-call (after_all database_part calls) (legal_calls calls) call (legal_calls (call ∷ calls)) (between-calls calls)

-- ---- at each place

suit-below : (later : List Mark) (p : History) → AllSuit (later ++ p) → AllSuit p
suit-below [] p all = all
suit-below (mark ∷ later) p all = suit-below later p all.1

suit-at : (mark : Mark) (h : History) → IsPlace (mark ∷ h) → MarkSuits h mark
suit-at mark h is = (suit-below is.later (mark ∷ h) (subst AllSuit is.below (between-calls is.calls).suit)).0

pub copies_write_own_tables : CopiesWriteOwnTables
copies_write_own_tables n t h is = (suit-at (ended (of_copy n) t true) h is).own

pub copies_say_that_they_end : CopiesSayThatTheyEnd
copies_say_that_they_end next n t h is = (suit-at next (ended (of_copy n) t true ∷ h) is).next

pub batches_say_that_they_are_applied : BatchesSayThatTheyAreApplied
batches_say_that_they_are_applied next t h is = (suit-at next (ended of_worker t true ∷ h) is).next

pub commits_are_followed : CommitsAreFollowed
commits_are_followed calls whose t h is table wrote_it = of whose is
  where
    shut : (y : Whose) → after_all database_part calls ≡ ended y t true ∷ h → IsShut (ended y t true ∷ h)
    shut y same = subst IsShut same (between-calls calls).shut

    of : (y : Whose) → after_all database_part calls ≡ ended y t true ∷ h → is_session y ≡ true
    of (of_session who) same = refl
    of of_worker same = absurd (cc (sym (shut of_worker same table) ∙ wrote_it))
    of (of_copy n) same = absurd (shut (of_copy n) same)
