-- What holds of each stored event still holds when event tables change.
use Rattle.std.proofs.Common.{◌≡◌, ℕ, zero, suc, ℤ, ◌+◌, Bool, true, false, List, [], ◌∷◌, ◌++◌, take, drop, map, get_or, slice_set, refl, sym, subst, Some, Option, Result, IfOk, Global, Vec, if◌then◌else◌}
use Rattle.std.specs.Prelude.{flat_map, find, IfSome, ◌==◌}
use Rattle.std.specs.List.{All}
use Rattle.std.proofs.lemmas.List.Elements.{All-nil, All-cons, All-head, All-tail, All-append, All-set, All-push, All-take, All-drop, All-map, All-weaker, All-pop}
use Rattle.sky_val.specs.declared.event.Event.{Event}
use Rattle.pgq_tables.specs.Tables.{Stored, Tables, new_tables, with_stored, marked_dead, with_dead, without_pending, with_switch, next_table, by_age}
use Rattle.pgq_tables.specs.Views.{TablesView}
use Rattle.pgq_tables.specs.Listed.{listed}
use Rattle.sky_txid.specs.Snapshot.{SnapshotView}
use Rattle.pgq_batch.proofs.Holds.{All-selected, found-selected}
use Rattle.std.proofs.lemmas.Result.{IfOk-weaker}
use Rattle.sky_model.specs.Moment.{HasMoment, IsTime}
use Rattle.sky_model.specs.Queues.{is_pending, without_transaction}
use Rattle.pgq_queue.specs.Stored.{AllStored}

module _ (P : Event → Type 0) where
  abbrev pub Holds : List Stored → Type 0
  Holds list = All (λ s. P s.event) list

  -- of no event of an empty table
  none : Holds []
  none = All-nil (λ s. P s.event)

  at : (lists : List (List Stored)) (i : ℕ) → All Holds lists → Holds (get_or lists i [])
  at [] i all = none
  at (list ∷ lists) zero all = All-head Holds list lists all
  at (list ∷ lists) (suc i) all = at lists i (All-tail Holds list lists all)

  pub stored-new : (t : ℕ) (time : ℤ) → AllStored P (new_tables t time)
  stored-new t time = All-cons Holds [] ([] ∷ [] ∷ []) none (All-cons Holds [] ([] ∷ []) none (All-cons Holds [] [] none (All-nil Holds)))

  -- one more event
  pub stored-one : (e : Event) (ts : Tables) → P e → AllStored P ts → AllStored P (with_stored e ts)
  stored-one e ts is all =
      All-set Holds ts.lists ts.current (get_or ts.lists ts.current [] ++ record { event = e; dead = false } ∷ [])
      (All-push (λ s. P s.event) (get_or ts.lists ts.current []) (record { event = e; dead = false }) (at ts.lists ts.current all) is) all

  -- one less
  pub stored-less : (e : Event) (ts : Tables) → AllStored P (with_stored e ts) → AllStored P ts
  stored-less e ts all = by ts.lists ts.current all
    where
      by : (lists : List (List Stored)) (i : ℕ) → All Holds (slice_set lists i (get_or lists i [] ++ record { event = e; dead = false } ∷ [])) → All Holds lists
      by [] i all = all
      by (list ∷ lists) zero all =
          All-cons Holds list lists (All-pop (λ s. P s.event) (list ++ record { event = e; dead = false } ∷ []) list (Some (record { event = e; dead = false })) refl
          (All-head Holds (list ++ record { event = e; dead = false } ∷ []) lists all)).0 (All-tail Holds (list ++ record { event = e; dead = false } ∷ []) lists all)
      by (list ∷ lists) (suc i) all =
          All-cons Holds list lists (All-head Holds list (slice_set lists i (get_or lists i [] ++ record { event = e; dead = false } ∷ [])) all)
          (by lists i (All-tail Holds list (slice_set lists i (get_or lists i [] ++ record { event = e; dead = false } ∷ [])) all))

  -- those of a transaction are dead, and its switch isn't pending
  pub stored-dead : (t : ℕ) (ts : Tables) → AllStored P ts → AllStored P (with_dead t ts)
  stored-dead t ts all =
      All-map Holds (map (marked_dead t)) ts.lists
      (All-weaker Holds (λ list. Holds (map (marked_dead t) list)) (λ list. All-map (λ s. P s.event) (marked_dead t) list) ts.lists all)

  pub stored-without : (t : ℕ) (ts : Tables) → AllStored P ts → AllStored P (without_transaction t ts)
  stored-without t ts all = stored-dead t (if is_pending t ts then without_pending ts else ts) (by (is_pending t ts))
    where
      by : (b : Bool) → AllStored P (if b then without_pending ts else ts)
      by true = all
      by false = all

  -- the next table is emptied
  pub stored-switched : (time : ℤ) (ts : Tables) → AllStored P ts → AllStored P (with_switch time ts)
  stored-switched time ts all = All-set Holds ts.lists (next_table ts) [] none all

  -- of all tables, the oldest first
  flat : (lists : List (List Stored)) → All Holds lists → Holds (flat_map (λ list. list) lists)
  flat [] all = none
  flat (list ∷ lists) all =
      All-append (λ s. P s.event) list (flat_map (λ l. l) lists) (All-head Holds list lists all) (flat lists (All-tail Holds list lists all))

  pub stored-by_age : (ts : Tables) → AllStored P ts → Holds (by_age ts)
  stored-by_age ts all =
      flat (drop (ts.current + 1) ts.lists ++ take (ts.current + 1) ts.lists)
      (All-append Holds (drop (ts.current + 1) ts.lists) (take (ts.current + 1) ts.lists) (All-drop Holds (ts.current + 1) ts.lists all) (All-take Holds (ts.current + 1) ts.lists all))

  -- the events of a batch, and the one that is found
  pub select-all : {E : Type 0} (from to : SnapshotView) (sub : ℕ) (ts : Tables) (r : Result (Vec Event Global) E) → AllStored P ts → IfOk r (λ events. events.items ≡ listed from to sub ts) → IfOk r (λ events. All P events.items)
  select-all from to sub ts r all is = IfOk-weaker r _ _ (λ events e. All-selected P from to sub ts events.items e (stored-by_age ts all)) is

  pub find-all : {E : Type 0} (from to : SnapshotView) (sub id : ℕ) (ts : Tables) (r : Result (Option Event) E) → AllStored P ts → IfOk r (λ found. found ≡ find (λ e. e.ev_id == id) (listed from to sub ts))
      → IfOk r (λ found. IfSome found P)
  find-all from to sub id ts r all is = IfOk-weaker r _ _ (λ found e. found-selected P from to sub ts id found e (stored-by_age ts all)) is

-- ---- what a queue's event tables keep

-- its events were put at times that are printed, and the last switch was at a moment of the clock
abbrev pub Timed : Tables → Type 0
Timed ts = AllStored (λ e. HasMoment e.ev_time) ts × IsTime ts.switched_at

pub timed-one : (old new : TablesView) (e : Event) → new ≡ record old { tables = with_stored e old.tables } → HasMoment e.ev_time → Timed old.tables → Timed new.tables
timed-one old new e is moment timed = subst (λ (v : TablesView). Timed v.tables) (sym is) (stored-one (λ x. HasMoment x.ev_time) e old.tables moment timed.0, timed.1)

pub timed-less : (old new : TablesView) (e : Event) (ts : Tables) → old.tables ≡ with_stored e ts → new ≡ record old { tables = ts } → Timed old.tables → Timed new.tables
timed-less old new e ts was is timed =
    let all : Timed (with_stored e ts) = subst Timed was timed in
    subst (λ (v : TablesView). Timed v.tables) (sym is) (stored-less (λ x. HasMoment x.ev_time) e ts all.0, all.1)

pub timed-dead : (old new : TablesView) (t : ℕ) → new ≡ record old { tables = with_dead t old.tables } → Timed old.tables → Timed new.tables
timed-dead old new t is timed = subst (λ (v : TablesView). Timed v.tables) (sym is) (stored-dead (λ x. HasMoment x.ev_time) t old.tables timed.0, timed.1)

pub timed-dropped : (old new : TablesView) → new ≡ record old { tables = without_pending old.tables } → Timed old.tables → Timed new.tables
timed-dropped old new is timed = subst (λ (v : TablesView). Timed v.tables) (sym is) timed
