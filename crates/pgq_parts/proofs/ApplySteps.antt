-- What the call gives by which a leaf applies a batch.
use Rattle.std.proofs.Common.{◌≡◌, ℕ, ◌<◌, Bool, true, false, cond, List, [], ◌∷◌, ◌++◌, All, length, filter, map, Option, Some, None, IfSome, Result, ◌↔◌, Ok, Err, option_and_then, refl, sym, ◌∙◌, ap, subst, if◌then◌else◌}
use Rattle.std.specs.Prelude.{option_map, unwrap_or}
use Rattle.std.specs.List.{list_any}
use Rattle.std.proofs.lemmas.List.Elements.{All-nil, All-cons}
use Rattle.std.proofs.lemmas.List.{length-map}
use Rattle.sky_val.specs.declared.val.Val.{Val}
use Rattle.sky_val.specs.declared.event.Event.{Event}
use Rattle.sky_keys.specs.Versions.{version_of, versions_at}
use Rattle.sky_names.specs.Places.{place_of}
use Rattle.sky_names.proofs.PlaceLemmas.{place_of_within}
use Rattle.sky_trans.specs.declared.trans.TransFault.{TransFault}
use Rattle.sky_trans.specs.declared.trans.TransFault.TheVariants as trans
use Rattle.londiste_state.specs.Nodes.{Leaf, Node, of_root, of_leaf}
use Rattle.sky_model.specs.BatchMoves.{events_of_batch}
use Rattle.sky_model.specs.declared.reply.Reply.TheVariants.{Number, Null}
use Rattle.sky_model.specs.declared.reply.Refusal.TheVariants.{TxidsSpent}
use Rattle.sky_model.specs.History.{Mark, Pick, of_synced, copy_of, of_worker, began, ended, noded, applied}
use Rattle.sky_model.specs.Nodes.{after_node}
use Rattle.sky_model.specs.Selection.{selected, selected_in}
use Rattle.sky_model.specs.State.{RowPart, after_part, after_part_marks, Database, after_mark, after_marks}
use Rattle.sky_model.specs.OwnTransaction.{next_id}
use Rattle.sky_model.specs.Outcome.{◌>>=◌, answers, reply_of}
use Rattle.sky_model.specs.StepApply.{picks, picked, applies_event, Applying, write_then, applies_events, applies_in, ends_applying, applies_picked, is_of_copied, bad_event}
use Rattle.sky_model.specs.StepNode.{applying, table_number, may_serve, node_does}
use Rattle.sky_model.specs.DatabaseSteps.{IsMade}
use Rattle.sky_model.proofs.Cases.{by_test}
use Rattle.sky_histories.proofs.ApplyCalls.{event-written}
use Rattle.sky_histories.proofs.DatabaseStanding.{after_marks-append}
use Rattle.sky_histories.proofs.NodeDeeds.{is-served}
use Rattle.sky_histories.proofs.MadeCopies.{CopyMayBegin, picked-may-write, picked-uncopied}
use Rattle.sky_state.specs.Views.{RowStateView}
use Rattle.sky_state.specs.Seen.{seen}
use Rattle.pgq_tables.specs.Tables.{recorded_part}
use Rattle.pgq_queues.specs.Views.{QueuesView}
use Rattle.pgq_queues.specs.Seen.{queue_at, Beside, seen_with, seen_batch, batch_at}
use Rattle.pgq_queue.specs.Seen.{seen_span}
use Rattle.pgq_queues.specs.declared.batch.Batch as read
use Rattle.pgq_queue.specs.declared.span.Span.{Span}
use Rattle.pgq_queues.specs.EventRule.{event_rule}
use Rattle.londiste_calls.specs.Faults.{apply_fault_of}
use Rattle.londiste_apply.specs.Applying.{MayWriteFor, Works}
use Rattle.sky_store.specs.Applying.{IsBad, ApplyRefused}
use Rattle.pgq_parts.specs.Copying.{MayWrite}
use Rattle.pgq_parts.specs.Seen.{with_node, seen_database}
use Rattle.sky_store.specs.Served.{Serves}
use Rattle.pgq_parts.specs.Views.{DbView}
use Rattle.londiste_apply.specs.declared.apply.Work.{Work}
use Rattle.londiste_calls.specs.declared.faults.ApplyFault.{ApplyFault}
use Rattle.pgq_parts.proofs.CopySteps.{own-fresh, contains-last, next-is}
use Rattle.pgq_parts.proofs.EventsAlike.{undone-shown}
use Rattle.pgq_parts.proofs.NodeSteps.{serves-by}
use Rattle.sky_store.proofs.Serving.{serves-steps}

-- ---- the transaction begins

-- it may write a table whose keys no session holds, and in which it has no version
begun-may : (d : RowPart) (t : ℕ) → t ≡ d.next → (table : ℕ) → table < length d.tables → ((key : List Val) → d.holder table key ≡ None)
    → ((key : List Val) → version_of d.next (versions_at key (d.versions table)) ≡ None) → MayWrite (after_part d (began of_worker t)) table t
begun-may d t next table low free fresh = record {
  within = low;
  runs = contains-last t d.workers;
  free = free;
  last = λ key. own-fresh t (versions_at key (d.versions table)) (ap (λ u. version_of u (versions_at key (d.versions table))) next ∙ fresh key);
}

module _ (d : Database) (made : IsMade d) (l : Leaf) (leaf : d.node ≡ Some (of_leaf l)) (pick : Pick) (t : ℕ) (next : t ≡ d.part.next) where
  begun-one : (event : Event) → picks l pick event ≡ true → MayWriteFor (after_part d.part (began of_worker t)) t event
  begun-one event is = by_name event.ev_extra1 refl
    where
      by_place : (name : List ℕ) → event.ev_extra1 ≡ Some name → (o : Option ℕ) → table_number d name ≡ o → IfSome o (λ table. MayWrite (after_part d.part (began of_worker t)) table t)
      by_place name named None there = tt
      by_place name named (Some table) there =
          let begins : CopyMayBegin d table = picked-may-write d made l leaf pick event is name named table there in
          begun-may d.part t next table (place_of_within name d.part.tables table there) begins.free begins.fresh

      by_name : (o : Option (List ℕ)) → event.ev_extra1 ≡ o → IfSome (option_and_then (λ name. place_of name d.part.tables) o) (λ table. MayWrite (after_part d.part (began of_worker t)) table t)
      by_name None named = tt
      by_name (Some name) named = by_place name named (table_number d name) refl

  begun-each : (events : List Event) → All (MayWriteFor (after_part d.part (began of_worker t)) t) (filter (picks l pick) events)
  begun-each [] = All-nil (MayWriteFor (after_part d.part (began of_worker t)) t)
  begun-each (event ∷ events) =
      by_test (λ b. All (MayWriteFor (after_part d.part (began of_worker t)) t) (cond b (event ∷ filter (picks l pick) events) (filter (picks l pick) events))) (picks l pick event)
      (λ is. All-cons (MayWriteFor (after_part d.part (began of_worker t)) t) event (filter (picks l pick) events) (begun-one event is) (begun-each events))
      (λ _. begun-each events)

-- it may write the tables of all events that a node picks
begun-picked : (d : Database) → IsMade d → (n : Option Node) → d.node ≡ n → (pick : Pick) (t : ℕ) → t ≡ d.part.next → (events : List Event) → All (MayWriteFor (after_part d.part (began of_worker t)) t) (picked n pick events)
begun-picked d made None is pick t next events = All-nil (MayWriteFor (after_part d.part (began of_worker t)) t)
begun-picked d made (Some (of_root r)) is pick t next events = All-nil (MayWriteFor (after_part d.part (began of_worker t)) t)
begun-picked d made (Some (of_leaf l)) is pick t next events = begun-each d made l is pick t next events

pub begun-all : (v now : DbView) → v ≡ now → IsMade (seen_database now) → (t : ℕ) → next_id (seen v.rows) ≡ Ok t → (begun : RowStateView) → seen begun ≡ after_part (seen v.rows) (began of_worker t) → (pick : Pick) (events : List Event)
    → All (MayWriteFor (seen begun) t) (picked v.node.own pick events)
begun-all v now same made t left begun begins pick events =
    subst (λ (d : RowPart). All (MayWriteFor d t) (picked v.node.own pick events)) (sym begins)
    (begun-picked (seen_database v) (subst (λ (w : DbView). IsMade (seen_database w)) (sym same) made) v.node.own refl pick t (next-is (seen v.rows) t left) events)

-- ---- it ends

pub committed-work : (v now : DbView) (rows : RowStateView) (node : Option Node) (t : ℕ) (pick : Pick) (tick : ℕ) → v ≡ now → seen rows ≡ after_part (seen v.rows) (ended of_worker t true) → node ≡ after_node (applied pick tick) v.node.own
    → seen_database (record v { rows = rows; node = record v.node { own = node } }) ≡ after_marks (seen_database now) (ended of_worker t true ∷ noded (applied pick tick) ∷ [])
committed-work v now rows node t pick tick same part stored =
    (λ i. seen_with (with_node (record v.node { own = stored i }) (part i)) v.queues) ∙ ap (λ (w : DbView). after_marks (seen_database w) (ended of_worker t true ∷ noded (applied pick tick) ∷ [])) same

pub aborted-work : (v now : DbView) (rows : RowStateView) (queues : QueuesView) (t : ℕ) → v ≡ now → seen rows ≡ after_part (seen v.rows) (ended of_worker t false) → queues ≡ event_rule.undone v.queues t
    → seen_database (record v { rows = rows; queues = queues }) ≡ after_mark (seen_database now) (ended of_worker t false)
aborted-work v now rows queues t same part undone =
    (λ i. seen_with (with_node v.node (part i)) (undone i)) ∙ sym (undone-shown v.node (seen v.rows) v.queues of_worker t) ∙ ap (λ (w : DbView). after_mark (seen_database w) (ended of_worker t false)) same

-- ---- what the call gives

-- the marks of events leave the row part alone changed
worked-marks : (d : Database) (t : ℕ) (events : List Event) → after_marks d (applies_events d.part t events).marks ≡ record d { part = after_part_marks d.part (applies_events d.part t events).marks }
worked-marks d t [] = refl
worked-marks d t (event ∷ events) = of (applies_event d.part t event) refl (λ mark. worked-marks (record d { part = after_part d.part mark }) t events)
  where
    rest : Mark → Applying
    rest mark = applies_events (after_part d.part mark) t events

    of : (o : Option Mark) → applies_event d.part t event ≡ o
        → ((mark : Mark) → after_marks (record d { part = after_part d.part mark }) (rest mark).marks ≡ record d { part = after_part_marks (after_part d.part mark) (rest mark).marks })
        → after_marks d (write_then event o rest).marks ≡ record d { part = after_part_marks d.part (write_then event o rest).marks }
    of None is ih = refl
    of (Some mark) is ih =
        ap (λ (x : Database). after_marks x (rest mark).marks) (subst (λ m. after_mark d m ≡ record d { part = after_part d.part m }) (sym (event-written d.part t event mark is).is) refl) ∙ ih mark

module _ (v : DbView) (events : List Event) (pick : Pick) (tick : ℕ)
    (may : may_serve (applying events pick tick) (seen_database v).node ≡ true) (idle : list_any (is_of_copied (seen_database v)) (picked v.node.own pick events) ≡ false) where
  abbrev d : Database
  d = seen_database v

  abbrev chosen : List Event
  chosen = picked v.node.own pick events

  is-applied : node_does d (applying events pick tick) ≡ applies_picked d pick tick chosen
  is-applied = is-served d (applying events pick tick) may ∙ ap (λ b. if b then answers Null else applies_picked d pick tick chosen) idle

  -- it is refused if there is no id
  spent-here : next_id (seen v.rows) ≡ Err TxidsSpent → node_does d (applying events pick tick) ≡ Err TxidsSpent
  spent-here spent =
      is-applied ∙ ap (λ c. c >>= (λ t. ends_applying pick tick t (length chosen) (applies_in d.part t chosen).marks (applies_in d.part t chosen).bad)) spent

  module _ (t : ℕ) (left : next_id (seen v.rows) ≡ Ok t) (begun after : RowStateView) (begins : seen begun ≡ after_part (seen v.rows) (began of_worker t)) (work : Work) (works : Works work (seen begun) (seen after) t chosen) where
    abbrev writes : List Mark
    writes = (applies_in d.part t chosen).marks

    does-by : (bad : Option ℕ) → work.bad ≡ bad → node_does d (applying events pick tick) ≡ ends_applying pick tick t (length chosen) writes bad
    does-by bad is =
        is-applied
        ∙ ap (λ c. c >>= (λ u. ends_applying pick tick u (length chosen) (applies_in d.part u chosen).marks (applies_in d.part u chosen).bad)) left
        ∙ ap (ends_applying pick tick t (length chosen) writes) (sym (works.bad ∙ ap (λ p. (applies_events p t chosen).bad) begins) ∙ is)

    -- the database before the transaction ends
    worked : seen_database (record v { rows = after }) ≡ after_marks d (began of_worker t ∷ writes)
    worked =
        (λ i. seen_with (with_node v.node (part i)) v.queues) ∙ sym (worked-marks (after_mark d (began of_worker t)) t chosen)
      where
        part : seen after ≡ after_part_marks (after_part d.part (began of_worker t)) writes
        part = works.left ∙ (λ i. after_part_marks (begins i) (applies_events (begins i) t chosen).marks)

    then-marks : (new : Database) (ends : List Mark) → new ≡ after_marks (seen_database (record v { rows = after })) ends → new ≡ after_marks d (began of_worker t ∷ writes ++ ends)
    then-marks new ends is = is ∙ ap (λ (x : Database). after_marks x ends) worked ∙ sym (after_marks-append d (began of_worker t ∷ writes) ends)

    committed-here : work.bad ≡ None → (new : Database) → new ≡ after_marks (seen_database (record v { rows = after })) (ended of_worker t true ∷ noded (applied pick tick) ∷ [])
        → Serves d new (applying events pick tick)
    committed-here none new is = serves-by d new (applying events pick tick) _ (does-by None none) (then-marks new (ended of_worker t true ∷ noded (applied pick tick) ∷ []) is)

    answered-here : work.bad ≡ None → reply_of (node_does d (applying events pick tick)) ≡ Number work.many
    answered-here none = ap reply_of (does-by None none) ∙ ap Number (sym (works.many none))

    bad-here : (id : ℕ) → work.bad ≡ Some id → (new : Database) → new ≡ after_mark (seen_database (record v { rows = after })) (ended of_worker t false) → IsBad id d new events pick tick
    bad-here id bad new is = record { first = first; serves = serves; steps = serves-steps d new (applying events pick tick) serves }
      where
        first : bad_event d pick events ≡ Some id
        first = ap (λ u. (applies_in d.part u chosen).bad) (sym (next-is (seen v.rows) t left)) ∙ sym (works.bad ∙ ap (λ p. (applies_events p t chosen).bad) begins) ∙ bad

        serves : Serves d new (applying events pick tick)
        serves = serves-by d new (applying events pick tick) _ (does-by (Some id) bad) (then-marks new (ended of_worker t false ∷ []) is)

-- of the database that the call gets
module _ (v now : DbView) (same : v ≡ now) (events : List Event) (pick : Pick) (tick : ℕ)
    (may : may_serve (applying events pick tick) (seen_database now).node ≡ true) (made : IsMade (seen_database now)) where
  -- what holds of it, as it is kept
  here : (P : DbView → Type 0) → (may_serve (applying events pick tick) (seen_database v).node ≡ true → list_any (is_of_copied (seen_database v)) (picked v.node.own pick events) ≡ false → P v) → P now
  here P from = subst P same
      (from (subst (λ (w : DbView). may_serve (applying events pick tick) (seen_database w).node ≡ true) (sym same) may)
      (subst (λ (w : DbView). list_any (is_of_copied (seen_database w)) (picked (seen_database w).node pick events) ≡ false) (sym same) (picked-uncopied (seen_database now) made pick events)))

  pub apply-refused : (r : Result ℕ TransFault) (fault : TransFault) (to : ApplyFault) (rows : RowStateView) → r ≡ Err fault → ((r ≡ Err trans.TxidsSpent) ↔ (next_id (seen v.rows) ≡ Err TxidsSpent))
      → seen rows ≡ seen v.rows → to ≡ apply_fault_of fault → ApplyRefused to (seen_database now) (seen_database (record v { rows = rows })) events pick tick
  apply-refused r trans.TxidsSpent to rows is spent kept given = subst (λ f. ApplyRefused f (seen_database now) (seen_database (record v { rows = rows })) events pick tick) (sym given) (record {
    refused = here (λ w. node_does (seen_database w) (applying events pick tick) ≡ Err TxidsSpent) (λ m i. spent-here v events pick tick m i (spent.0 is));
    same = (λ i. seen_with (with_node v.node (kept i)) v.queues) ∙ ap seen_database same;
  })
  apply-refused r trans.NoMemory to rows is spent kept given = subst (λ f. ApplyRefused f (seen_database now) (seen_database (record v { rows = rows })) events pick tick) (sym given) tt

  module _ (t : ℕ) (left : next_id (seen v.rows) ≡ Ok t) (begun after : RowStateView) (begins : seen begun ≡ after_part (seen v.rows) (began of_worker t)) (work : Work) (works : Works work (seen begun) (seen after) t (picked v.node.own pick events)) where
    pub apply-serves : work.bad ≡ None → (new : Database) → new ≡ after_marks (seen_database (record v { rows = after })) (ended of_worker t true ∷ noded (applied pick tick) ∷ [])
        → Serves (seen_database now) new (applying events pick tick)
    apply-serves none new is = here (λ w. Serves (seen_database w) new (applying events pick tick)) (λ m i. committed-here v events pick tick m i t left begun after begins work works none new is)

    pub apply-answers : work.bad ≡ None → reply_of (node_does (seen_database now) (applying events pick tick)) ≡ Number work.many
    apply-answers none = here (λ w. reply_of (node_does (seen_database w) (applying events pick tick)) ≡ Number work.many) (λ m i. answered-here v events pick tick m i t left begun after begins work works none)

    pub apply-bad : (id : ℕ) → work.bad ≡ Some id → (new : Database) → new ≡ after_mark (seen_database (record v { rows = after })) (ended of_worker t false)
        → IsBad id (seen_database now) new events pick tick
    apply-bad id bad new is = here (λ w. IsBad id (seen_database w) new events pick tick) (λ m i. bad-here v events pick tick m i t left begun after begins work works id bad new is)

-- ---- what events record is applied as they are

picks-recorded : (l : Leaf) (pick : Pick) (event : Event) → picks l pick (recorded_part event) ≡ picks l pick event
picks-recorded l of_synced event = refl
picks-recorded l (copy_of name) event = refl

picked-of : (l : Leaf) (pick : Pick) (events : List Event) → filter (picks l pick) (map recorded_part events) ≡ map recorded_part (filter (picks l pick) events)
picked-of l pick [] = refl
picked-of l pick (event ∷ events) =
    ap (λ b. if b then recorded_part event ∷ filter (picks l pick) (map recorded_part events) else filter (picks l pick) (map recorded_part events)) (picks-recorded l pick event)
    ∙ by (picks l pick event) (picked-of l pick events)
  where
    by : (b : Bool) → filter (picks l pick) (map recorded_part events) ≡ map recorded_part (filter (picks l pick) events)
        → (if b then recorded_part event ∷ filter (picks l pick) (map recorded_part events) else filter (picks l pick) (map recorded_part events)) ≡ map recorded_part (if b then event ∷ filter (picks l pick) events else filter (picks l pick) events)
    by true rest = ap (λ es. recorded_part event ∷ es) rest
    by false rest = rest

picked-recorded : (n : Option Node) (pick : Pick) (events : List Event) → picked n pick (map recorded_part events) ≡ map recorded_part (picked n pick events)
picked-recorded None pick events = refl
picked-recorded (Some (of_root r)) pick events = refl
picked-recorded (Some (of_leaf l)) pick events = picked-of l pick events

applies-recorded : (d : RowPart) (t : ℕ) (events : List Event) → applies_events d t (map recorded_part events) ≡ applies_events d t events
applies-recorded d t [] = refl
applies-recorded d t (event ∷ events) = by (λ mark. applies-recorded (after_part d mark) t events) (applies_event d t event)
  where
    by : ((mark : Mark) → applies_events (after_part d mark) t (map recorded_part events) ≡ applies_events (after_part d mark) t events) → (o : Option Mark)
        → write_then (recorded_part event) o (λ mark. applies_events (after_part d mark) t (map recorded_part events)) ≡ write_then event o (λ mark. applies_events (after_part d mark) t events)
    by rest None = refl
    by rest (Some mark) = ap (λ (a : Applying). record { marks = mark ∷ a.marks; bad = a.bad }) (rest mark)

pub works-recorded : (work : Work) (old new : RowPart) (t : ℕ) (n : Option Node) (pick : Pick) (recorded events : List Event) → recorded ≡ map recorded_part events → Works work old new t (picked n pick recorded)
    → Works work old new t (picked n pick events)
works-recorded work old new t n pick recorded events is works = as-they-are (subst (λ es. Works work old new t es) (ap (picked n pick) is ∙ picked-recorded n pick events) works)
  where
    as-they-are : Works work old new t (map recorded_part (picked n pick events)) → Works work old new t (picked n pick events)
    as-they-are w = record {
      runs = w.runs;
      left = w.left ∙ ap (λ (a : Applying). after_part_marks old a.marks) (applies-recorded old t (picked n pick events));
      bad = w.bad ∙ ap Applying.bad (applies-recorded old t (picked n pick events));
      many = λ none. w.many none ∙ length-map (picked n pick events) recorded_part;
    }

-- ---- what the events of a batch record

module _ (v now : DbView) (same : v ≡ now) (id : ℕ) where
  -- one that is active, whose events were looked at
  pub batch-recorded : (batch : read.Batch) (span : Span) (looked : QueuesView) (recorded : List Event) → Some (seen_batch batch) ≡ batch_at v.queues id
      → span ≡ record { queue = batch.queue; sub = batch.sub; prev = batch.prev; cur = batch.cur } → ((beside : Beside) → seen_with beside looked ≡ seen_with beside v.queues)
      → ((beside : Beside) → recorded ≡ map recorded_part (selected (seen_with beside looked) (seen_span span))) → recorded ≡ map recorded_part (events_of_batch (seen_database now) id)
  batch-recorded batch span looked recorded there spans stays are =
      are (with_node v.node (seen v.rows))
      ∙ ap (λ (d : Database). map recorded_part (selected d (seen_span span))) (stays (with_node v.node (seen v.rows)))
      ∙ ap (λ (s : Span). map recorded_part (selected (seen_database v) (seen_span s))) spans
      ∙ ap (λ o. map recorded_part (unwrap_or (option_map (selected (seen_database v)) o) [])) there
      ∙ ap (λ (w : DbView). map recorded_part (events_of_batch (seen_database w) id)) same

  pub batch-listed : (batch : read.Batch) (span : Span) → Some (seen_batch batch) ≡ batch_at v.queues id → span ≡ record { queue = batch.queue; sub = batch.sub; prev = batch.prev; cur = batch.cur }
      → selected_in (queue_at v.queues span.queue) (seen_span span) ≡ events_of_batch (seen_database now) id
  batch-listed batch span there spans =
      ap (λ (s : Span). selected (seen_database v) (seen_span s)) spans ∙ ap (λ o. unwrap_or (option_map (selected (seen_database v)) o) []) there
      ∙ ap (λ (w : DbView). events_of_batch (seen_database w) id) same

  -- one that isn't active has none
  pub none-recorded : None ≡ batch_at v.queues id → [] ≡ map recorded_part (events_of_batch (seen_database now) id)
  none-recorded none =
      ap (λ o. map recorded_part (unwrap_or (option_map (selected (seen_database v)) o) [])) none ∙ ap (λ (w : DbView). map recorded_part (events_of_batch (seen_database w) id)) same
