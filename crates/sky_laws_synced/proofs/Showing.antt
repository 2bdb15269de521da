-- What a table of a leaf has of its provider's, from one batch to the next.
use Rattle.std.proofs.Common.{◌≡◌, ℕ, ◌≤◌, ◌^◌, nat_le, Bool, true, false, List, [], ◌∷◌, Some, None, length, sym, ◌∙◌, ap, subst, inl, inr, if◌then◌else◌}
use Rattle.std.proofs.lemmas.List.Elements.{All-nil, All-cons}
use Rattle.sky_val.specs.declared.event.Event.{Event}
use Rattle.sky_names.specs.Places.{place_of}
use Rattle.sky_names.proofs.PlaceLemmas.{place_of_within}
use Rattle.sky_urlenc.specs.Changes.{put, applies}
use Rattle.londiste_state.specs.declared.state.TableState.{TableState}
use Rattle.londiste_state.specs.declared.state.TableState.TheVariants.{WannaSync, DoSync, Synced}
use Rattle.londiste_state.specs.Nodes.{LeafTable}
use Rattle.sky_model.specs.declared.reply.Reply.TheVariants.{Number, Refused}
use Rattle.sky_model.specs.declared.reply.Refusal.TheVariants.{TxidsSpent}
use Rattle.sky_model.specs.History.{Batch, Mark, Pick, History}
use Rattle.sky_model.specs.Transactions.{snapshot, next_txid}
use Rattle.sky_model.specs.Rows.{table_names, columns_of, rows}
use Rattle.sky_model.specs.Queues.{tick, at_tick}
use Rattle.sky_model.specs.Batches.{batch_events}
use Rattle.sky_model.specs.Nodes.{node}
use Rattle.sky_model.specs.State.{database_of}
use Rattle.sky_model.specs.Outcome.{marks_of}
use Rattle.sky_model.specs.Settling.{marked}
use Rattle.sky_model.specs.StepApply.{may_apply, picked, bad_event}
use Rattle.sky_model.specs.StepNode.{applying, node_does}
use Rattle.sky_model.specs.Promises.{after_all}
use Rattle.sky_model.specs.DatabaseCalls.{DatabaseCall, database_part}
use Rattle.sky_model.specs.HistoryPlaces.{IsPlace}
use Rattle.sky_model.specs.LawsOfApplying.{picked_of, IsApplied}
use Rattle.sky_histories.proofs.ApplyingLaws.{batches_put_their_events, good_batches_are_applied}
use Rattle.sky_histories.proofs.SnapshotLaws.{legal_place}
use Rattle.sky_histories.proofs.TickOrder.{is_made, is_made-tick}
use Rattle.sky_histories.proofs.RowSights.{Since, here, later, ended-since}
use Rattle.sky_laws.proofs.Listings.{made_since}
use Rattle.sky_laws_changes.specs.Listing.{later_of, StaysListed, is_unlisting}
use Rattle.sky_laws_changes.specs.TableEvents.{table_events, unseen_events}
use Rattle.sky_laws_changes.specs.LawsOfChanges.{Give}
use Rattle.sky_laws_changes.proofs.Places.{from-below, to-below, since-joined, since-or}
use Rattle.sky_laws_changes.proofs.TickPlaces.{tick-since, ticks_are_in_order}
use Rattle.sky_laws_changes.proofs.BatchLaws.{unseen_events_lead_on}
use Rattle.sky_laws_changes.proofs.ListedTables.{place-kept, columns-kept}
use Rattle.sky_laws_changes.proofs.StayingListed.{tables_stay_in_sets}
use Rattle.sky_laws_synced.proofs.Covering.{tick-stays, later-above, later-below, EndedBy}

-- whether a table waits to be handed over, is handed over, or is in sync
abbrev pub is_late : TableState → Bool
is_late (WannaSync tick) = true
is_late (DoSync tick) = true
is_late Synced = true
is_late state = false

-- a table of a leaf, whose history is `h`, has the rows of its provider's, whose history is `k`, at the tick to which it has come
pub record Shows (h k : History) (come : ℕ) (t : LeafTable) : Type 0 where
  pub queue : ℕ
  -- the place at which the snapshot of its copy was taken
  pub held : History
  pub below : Since held k
  pub under : t.snapshot ≡ Some (snapshot held)
  pub listed : StaysListed held k queue t.name
  pub made : is_made queue come k ≡ true
  pub table : ℕ
  pub named : place_of t.name (table_names h) ≡ Some table
  pub source : ℕ
  pub source_named : place_of t.name (table_names held) ≡ Some source
  pub alike : columns_of table h ≡ columns_of source held
  pub same : rows table h ≡ rows source (later_of held (at_tick queue come k))
  -- once it has caught up, all that had ended when it was copied has ended at the tick
  pub covered : is_late t.state ≡ true → EndedBy held (at_tick queue come k)

-- ---- the provider's history goes on

-- a table that is in a set at each place up to one is so at one place more
pub listed-above : {p k : History} (mark : Mark) → IsPlace (mark ∷ k) → (queue : ℕ) (name : List ℕ) → Since p k → is_unlisting name mark ≡ false → StaysListed p k queue name → StaysListed p (mark ∷ k) queue name
listed-above {p = p} {k = k} mark place queue name p_k stays listed x up down = elim (since-or x mark k (from-below x (mark ∷ k) down)) [
  | inl same ↦ tables_stay_in_sets (mark ∷ []) k place queue name (listed k (to-below p_k) (to-below here)) (All-cons (λ m. is_unlisting name m ≡ false) mark [] stays (All-nil (λ m. is_unlisting name m ≡ false)))
      x (to-below (subst (Since k) (sym same) (later here))) (to-below (subst (λ y. Since y (mark ∷ k)) (sym same) here))
  | inr lower ↦ listed x up (to-below lower)
]

abbrev pub shows-above : {h k : History} {come : ℕ} {t : LeafTable} (mark : Mark) → IsPlace (mark ∷ k) → is_unlisting t.name mark ≡ false → Shows h k come t → Shows h (mark ∷ k) come t
shows-above {h = h} {k = k} {come = come} {t = t} mark place stays x = record {
  queue = x.queue;
  held = x.held;
  below = later x.below;
  under = x.under;
  listed = listed-above mark place x.queue t.name x.below stays x.listed;
  made = made_since x.queue come (mark ∷ []) k x.made;
  table = x.table;
  named = x.named;
  source = x.source;
  source_named = x.source_named;
  alike = x.alike;
  same = x.same ∙ ap (λ a. rows x.source (later_of x.held a)) (sym still);
  covered = λ is. subst (EndedBy x.held) (sym still) (x.covered is);
}
  where
    still : at_tick x.queue come (mark ∷ k) ≡ at_tick x.queue come k
    still = tick-stays (legal_place (mark ∷ k) place) x.queue come x.made

-- ---- the leaf's goes on

-- the table has come to a tick, and has its rows
pub record ComesTo {h k : History} {come : ℕ} {t : LeafTable} (x : Shows h k come t) (g : History) (to : ℕ) : Type 0 where
  pub made : is_made x.queue to k ≡ true
  pub named : place_of t.name (table_names g) ≡ Some x.table
  pub alike : columns_of x.table g ≡ columns_of x.table h
  pub same : rows x.table g ≡ rows x.source (later_of x.held (at_tick x.queue to k))

abbrev pub shows-at : {h k g : History} {come to : ℕ} {t u : LeafTable} (x : Shows h k come t) → ComesTo x g to → u.name ≡ t.name → u.snapshot ≡ t.snapshot
    → (is_late u.state ≡ true → EndedBy x.held (at_tick x.queue to k)) → Shows g k to u
shows-at {k = k} {g = g} x comes name_is snapshot_is covered = record {
  queue = x.queue;
  held = x.held;
  below = x.below;
  under = snapshot_is ∙ x.under;
  listed = subst (StaysListed x.held k x.queue) (sym name_is) x.listed;
  made = comes.made;
  table = x.table;
  named = ap (λ n. place_of n (table_names g)) name_is ∙ comes.named;
  source = x.source;
  source_named = ap (λ n. place_of n (table_names x.held)) name_is ∙ x.source_named;
  alike = comes.alike ∙ x.alike;
  same = comes.same;
  covered = covered;
}

-- ---- a batch

-- the events of a batch that the snapshot of a copy doesn't see lead from the later of its place and the opening tick to the later of it and the closing one
pub batch-leads : (k held : History) → IsPlace k → Since held k → (b : Batch) → b.prev ≤ b.cur → is_made b.queue b.cur k ≡ true → (source : ℕ) (name : List ℕ)
    → place_of name (table_names held) ≡ Some source → StaysListed held k b.queue name
    → Give (columns_of source held) (rows source (later_of held (at_tick b.queue b.prev k))) (unseen_events (snapshot held) (table_events name (batch_events k b)))
    (rows source (later_of held (at_tick b.queue b.cur k)))
batch-leads k held place held_k b le made_it source name named listed =
    subst (λ cs. Give cs (rows source x) (unseen_events (snapshot held) (table_events name (batch_events k b))) (rows source y))
    (columns-kept source above (place_of_within name (table_names held) source named))
    (unseen_events_lead_on k held place (to-below held_k) b le (is_made-tick k b.queue b.cur ∙ made_it) source name (place-kept name source above named) stays)
  where
    a_k : Since (at_tick b.queue b.prev k) k
    a_k = tick-since b.queue b.prev k

    c_k : Since (at_tick b.queue b.cur k) k
    c_k = tick-since b.queue b.cur k

    x : History
    x = later_of held (at_tick b.queue b.prev k)

    y : History
    y = later_of held (at_tick b.queue b.cur k)

    above : Since held x
    above = later-above held_k a_k

    stays : StaysListed x y b.queue name
    stays z up down = listed z (to-below (since-joined above (from-below x z up))) (to-below (since-joined (from-below z y down) (later-below held_k c_k)))

-- so they apply to the rows of a table that has come to the opening tick, if these are the ones that are picked, and give those at the closing tick
pub picked-give : {h k : History} {come : ℕ} {t : LeafTable} (x : Shows h k come t) → IsPlace k → (b : Batch) → b.queue ≡ x.queue → b.prev ≡ come → b.prev ≤ b.cur → is_made b.queue b.cur k ≡ true
    → (es : List Event) → es ≡ unseen_events (snapshot x.held) (table_events t.name (batch_events k b))
    → Give (columns_of x.table h) (rows x.table h) es (rows x.source (later_of x.held (at_tick x.queue b.cur k)))
picked-give {h = h} {k = k} {come = come} {t = t} x place b of_queue from le made_it es are =
    record { apply = (λ i. applies (x.alike i) (start i) (are i)) ∙ lead.apply; give = (λ i. put (x.alike i) (start i) (are i)) ∙ lead.give ∙ ap (λ q. rows x.source (later_of x.held (at_tick q b.cur k))) of_queue }
  where
    lead : Give (columns_of x.source x.held) (rows x.source (later_of x.held (at_tick b.queue b.prev k))) (unseen_events (snapshot x.held) (table_events t.name (batch_events k b)))
        (rows x.source (later_of x.held (at_tick b.queue b.cur k)))
    lead = batch-leads k x.held place x.below b le made_it x.source t.name x.source_named (subst (λ q. StaysListed x.held k q t.name) (sym of_queue) x.listed)

    start : rows x.table h ≡ rows x.source (later_of x.held (at_tick b.queue b.prev k))
    start = x.same ∙ (λ i. rows x.source (later_of x.held (at_tick (sym of_queue i) (sym from i) k)))

-- what had ended at a place had ended at the closing tick, if it had at the opening one
pub ended-on : (k : History) → IsPlace k → (held : History) (q from to : ℕ) → from ≤ to → is_made q to k ≡ true → EndedBy held (at_tick q from k) → EndedBy held (at_tick q to k)
ended-on k place held q from to le made_it over t is =
    ended-since (from-below (at_tick q from k) (at_tick q to k) (ticks_are_in_order k place q from to le (is_made-tick k q to ∙ made_it))) t (over t is)

-- ---- a batch is applied

-- a history that calls of a database have made
pub record IsBetween (h : History) : Type 0 where
  pub calls : List DatabaseCall
  pub make : after_all database_part calls ≡ h

-- the picked events of each table apply to its rows
abbrev pub AllFit : History → List Event → Pick → Type 0
AllFit h events pick = (name : List ℕ) (table : ℕ) → place_of name (table_names h) ≡ Some table → applies (columns_of table h) (rows table h) (picked_of h pick name events) ≡ true

-- then none is bad
pub none-bad : (h : History) → IsBetween h → (events : List Event) (pick : Pick) → may_apply pick (node h) ≡ true → AllFit h events pick → bad_event (database_of h) pick events ≡ None
none-bad h m events pick =
    subst (λ g. may_apply pick (node g) ≡ true → AllFit g events pick → bad_event (database_of g) pick events ≡ None) m.make
    (λ may fit. (good_batches_are_applied m.calls events pick 0 may fit).0)

-- and the batch is applied, if a transaction id is left
pub applied-at : (h : History) → IsBetween h → (events : List Event) (pick : Pick) (tick : ℕ) → may_apply pick (node h) ≡ true → AllFit h events pick → nat_le (2 ^ 62) (next_txid h) ≡ false
    → IsApplied h (marked h (marks_of (node_does (database_of h) (applying events pick tick)))) events pick tick
applied-at h m events pick tick =
    subst (λ g. may_apply pick (node g) ≡ true → AllFit g events pick → nat_le (2 ^ 62) (next_txid g) ≡ false → IsApplied g (marked g (marks_of (node_does (database_of g) (applying events pick tick)))) events pick tick)
    m.make (λ may fit unspent.
    (batches_put_their_events m.calls events pick tick (length (picked (node (after_all database_part m.calls)) pick events))
    ((good_batches_are_applied m.calls events pick tick may fit).1
    ∙ ap (λ b. if b then Refused TxidsSpent else Number (length (picked (node (after_all database_part m.calls)) pick events))) unspent)).1)
