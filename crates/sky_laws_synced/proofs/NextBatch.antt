-- What a batch that comes next is for the tables of a leaf: the picked events of each can be applied, and give the rows that its provider's table had at the closing tick.
use Rattle.std.proofs.Common.{◌≡◌, ℕ, ◌≤◌, List, [], Bool, true, false, Option, Some, None, All, is_some, option_map, unwrap_or, bytes_eq, refl, sym, ap, subst, ◌∙◌}
use Rattle.std.specs.Option.{option_and_then}
use Rattle.std.proofs.lemmas.Bool.{false_from_ne_true}
use Rattle.sky_val.specs.declared.event.Event.{Event}
use Rattle.sky_names.specs.Places.{place_of}
use Rattle.sky_names.proofs.PlaceLemmas.{same_name}
use Rattle.sky_urlenc.specs.Changes.{applies}
use Rattle.londiste_state.specs.declared.state.TableState.{TableState}
use Rattle.londiste_state.specs.declared.state.TableState.TheVariants.{Absent, InCopy, Synced}
use Rattle.londiste_state.specs.Nodes.{Node, of_root, of_leaf, Leaf, LeafTable, table_of}
use Rattle.sky_model.specs.History.{Batch, Pick, of_synced, copy_of, History, Past}
use Rattle.sky_model.specs.Transactions.{snapshot}
use Rattle.sky_model.specs.Rows.{table_names, columns_of, rows}
use Rattle.sky_model.specs.Queues.{events, at_tick}
use Rattle.sky_model.specs.Batches.{batch_events}
use Rattle.sky_model.specs.Nodes.{node, is_leaf}
use Rattle.sky_model.specs.State.{database_of}
use Rattle.sky_model.specs.StepApply.{is_synced, may_apply}
use Rattle.sky_model.specs.StepNode.{set_queue}
use Rattle.sky_model.specs.World.{history_in}
use Rattle.sky_model.specs.HistoryPlaces.{IsPlace}
use Rattle.sky_model.specs.LawsOfApplying.{picked_of}
use Rattle.sky_histories.proofs.Legal.{Legal}
use Rattle.sky_histories.proofs.SnapshotLaws.{legal_place}
use Rattle.sky_histories.proofs.TickOrder.{is_made, is_made-tick}
use Rattle.sky_histories.proofs.RowSights.{Since}
use Rattle.sky_histories.proofs.InCopyTables.{leaf_table, is_past_copy}
use Rattle.sky_model.proofs.Cases.{by_test}
use Rattle.sky_laws_changes.specs.Listing.{later_of}
use Rattle.sky_laws_changes.specs.TableEvents.{table_events, unseen_events}
use Rattle.sky_laws_changes.specs.LawsOfChanges.{Give}
use Rattle.sky_laws_changes.proofs.Places.{from-below}
use Rattle.sky_laws_changes.proofs.TickPlaces.{tick-since, ticks_are_in_order}
use Rattle.sky_laws_replicas.proofs.NodeNames.{source_of}
use Rattle.sky_laws_synced.specs.Tables.{has_own_tick, tick_in}
use Rattle.sky_laws_synced.proofs.Covering.{EndedBy}
use Rattle.sky_laws_synced.proofs.PickedEvents.{IsNotOwn, InBatch, in-batch, unseen-all, picked-synced, picked-unsynced, picked-copy, picked-other}
use Rattle.sky_laws_synced.proofs.ChangedTables.{leafs_tick, table-named}
use Rattle.sky_laws_synced.proofs.RestingTables.{Rests, leaf-found}
use Rattle.sky_laws_synced.proofs.Showing.{is_late, Shows, picked-give, AllFit}
use Rattle.sky_laws_synced.proofs.Going.{come, ShowsIn, Goes, listed-now}

-- ---- what is applied

-- a batch of the queue of a provider's set, from a tick to the next one, of a subscription that no event has as its owner
pub record IsNext (past : Past) (p : ℕ) (b : Batch) : Type 0 where
  pub of_set : set_queue (database_of (history_in past p)) ≡ Some b.queue
  pub onward : b.prev ≤ b.cur
  pub made : is_made b.queue b.cur (history_in past p) ≡ true
  pub unowned : All (IsNotOwn b.sub) (events b.queue (history_in past p))

-- a leaf has come to a tick, or the copy of one of its tables has
abbrev pub HasCome : Option Node → Pick → ℕ → Type 0
HasCome n of_synced tick = (is_leaf n ≡ true) × (leafs_tick n ≡ tick)
HasCome n (copy_of name) tick = (t : LeafTable) × (leaf_table name n ≡ Some t) × (has_own_tick t.state ≡ true) × (t.tick ≡ tick)

-- the state of a table that goes through batches of its own, or of the leaf's
pub copied-along : (state : TableState) → has_own_tick state ≡ true → is_past_copy state ≡ true
copied-along Absent e = absurd (cc e)
copied-along InCopy e = absurd (cc e)
copied-along state e = refl

synced-along : (state : TableState) → is_synced state ≡ true → is_past_copy state ≡ true
synced-along Synced e = refl
synced-along state e = absurd (cc e)

pub own-come : (state : TableState) (leafs tick : ℕ) → has_own_tick state ≡ true → tick_in state leafs tick ≡ tick
own-come Synced leafs tick e = absurd (cc e)
own-come state leafs tick e = refl

pub leafs-come : (state : TableState) (leafs tick : ℕ) → is_synced state ≡ true → tick_in state leafs tick ≡ leafs
leafs-come Synced leafs tick e = refl
leafs-come state leafs tick e = absurd (cc e)

pub synced-late : (state : TableState) → is_synced state ≡ true → is_late state ≡ true
synced-late Synced e = refl
synced-late state e = absurd (cc e)

pub same-come : (state : TableState) (leafs more tick : ℕ) → is_synced state ≡ false → tick_in state leafs tick ≡ tick_in state more tick
same-come Synced leafs more tick e = absurd (cc e)
same-come state leafs more tick e = refl

-- the leaf that a node is
pub record IsThisLeaf (n : Option Node) : Type 0 where
  pub l : Leaf
  pub is : n ≡ Some (of_leaf l)

pub this-leaf : (n : Option Node) → is_leaf n ≡ true → IsThisLeaf n
this-leaf None e = absurd (cc e)
this-leaf (Some (of_root r)) e = absurd (cc e)
this-leaf (Some (of_leaf l)) e = record { l = l; is = refl }

module _ (past : Past) (d p : ℕ) (b : Batch) (pick : Pick) (g : Goes past) (from : source_of past d ≡ Some p) (place : IsPlace (history_in past p)) (next : IsNext past p b) (has : HasCome (node (history_in past d)) pick b.prev) where
  abbrev pub h : History
  h = history_in past d

  abbrev pub k : History
  k = history_in past p

  abbrev pub es : List Event
  es = batch_events k b

  legal : Legal k
  legal = legal_place k place

  in_batch : All (InBatch k b) es
  in_batch = in-batch k b next.unowned

  pub leaf-is : is_leaf (node h) ≡ true
  leaf-is = of pick has
    where
      of : (x : Pick) → HasCome (node h) x b.prev → is_leaf (node h) ≡ true
      of of_synced is = is.0
      of (copy_of name) is = leaf-found name (node h) is.0 is.1

  abbrev pub own_leaf : IsThisLeaf (node h)
  own_leaf = this-leaf (node h) leaf-is

  abbrev pub l : Leaf
  l = own_leaf.l

  -- what a table shows of this provider
  pub record ShowsHere (t : LeafTable) : Type 0 where
    pub shows : Shows h k (come (node h) t) t
    pub rests : Rests h shows.table
    pub of_queue : b.queue ≡ shows.queue

  pub shows-here : (name : List ℕ) (t : LeafTable) → leaf_table name (node h) ≡ Some t → is_past_copy t.state ≡ true → ShowsHere t
  shows-here name t there along = record { shows = both.0; rests = both.1; of_queue = cc (sym next.of_set ∙ (listed-now both.0.below both.0.listed).set) }
    where
      s : ShowsIn past d h t
      s = g.shown d name t there along

      same : s.p ≡ p
      same = cc (sym s.from ∙ from)

      both : (x : Shows h k (come (node h) t) t) × Rests h x.table
      both = subst (λ q. (x : Shows h (history_in past q) (come (node h) t) t) × Rests h x.table) same (s.shows, s.rests)

  abbrev pub at_closing : (t : LeafTable) → ShowsHere t → History
  at_closing t s = later_of s.shows.held (at_tick s.shows.queue b.cur k)

  -- the rows that it has once the batch is applied
  abbrev pub RowsGiven : (t : LeafTable) → ShowsHere t → Type 0
  RowsGiven t s = Give (columns_of s.shows.table h) (rows s.shows.table h) (picked_of h pick t.name es) (rows s.shows.source (at_closing t s))

  ticks-rise : (t : LeafTable) (s : ShowsHere t) → Since (at_tick b.queue b.prev k) (at_tick b.queue b.cur k)
  ticks-rise t s = from-below (at_tick b.queue b.prev k) (at_tick b.queue b.cur k) (ticks_are_in_order k place b.queue b.prev b.cur next.onward (is_made-tick k b.queue b.cur ∙ next.made))

  -- whether a table picks events of it
  abbrev pub picks_for : Pick → LeafTable → Bool
  picks_for of_synced t = is_synced t.state
  picks_for (copy_of name) t = bytes_eq name t.name

  -- it has come to the opening tick
  pub record IsPicked (t : LeafTable) : Type 0 where
    pub along : is_past_copy t.state ≡ true
    pub at_prev : come (node h) t ≡ b.prev
    pub events_are : (s : ShowsHere t) → picked_of h pick t.name es ≡ unseen_events (snapshot s.shows.held) (table_events t.name es)

  pub is-picked : (name : List ℕ) (t : LeafTable) → leaf_table name (node h) ≡ Some t → picks_for pick t ≡ true → IsPicked t
  is-picked name t there sure = of pick refl has sure
    where
      named : t.name ≡ name
      named = table-named name (node h) t there

      found : table_of t.name l ≡ Some t
      found = ap (λ n. table_of n l) named ∙ sym (ap (leaf_table name) own_leaf.is) ∙ there

      of : (x : Pick) → pick ≡ x → HasCome (node h) x b.prev → picks_for x t ≡ true → IsPicked t
      of of_synced is come_is sure = record {
        along = synced-along t.state sure;
        at_prev = leafs-come t.state (leafs_tick (node h)) t.tick sure ∙ come_is.1;
        events_are = λ s.
            ap (λ x. picked_of h x t.name es) is ∙ picked-synced h k b l own_leaf.is t.name es in_batch t found sure
            ∙ sym (unseen-all k legal b s.shows.held s.shows.below (ticks-rise t s) (tick-since b.queue b.cur k)
            (λ u over. subst (λ q. EndedBy s.shows.held (at_tick q b.prev k)) (sym s.of_queue)
            (subst (λ n. EndedBy s.shows.held (at_tick s.shows.queue n k)) (leafs-come t.state (leafs_tick (node h)) t.tick sure ∙ come_is.1) (s.shows.covered (synced-late t.state sure))) u over)
            t.name es in_batch);
      }
      of (copy_of other) is come_is sure =
          let one : other ≡ t.name = same_name other t.name sure in
          let table_is : Some come_is.0 ≡ Some t = sym come_is.1 ∙ ap (λ n. leaf_table n (node h)) (one ∙ named) ∙ there in
          let same : come_is.0 ≡ t = cc table_is in
          let copied : has_own_tick t.state ≡ true = ap (λ (x : LeafTable). has_own_tick x.state) (sym same) ∙ come_is.2 in
          record {
            along = copied-along t.state copied;
            at_prev = own-come t.state (leafs_tick (node h)) t.tick copied ∙ ap LeafTable.tick (sym same) ∙ come_is.3;
            events_are = λ s. ap (λ x. picked_of h x t.name es) (is ∙ ap copy_of one) ∙ picked-copy h k b l own_leaf.is t.name es in_batch t found (snapshot s.shows.held) s.shows.under;
          }

  pub gives : (name : List ℕ) (t : LeafTable) → leaf_table name (node h) ≡ Some t → picks_for pick t ≡ true → (s : ShowsHere t) → RowsGiven t s
  gives name t there sure s =
      let i : IsPicked t = is-picked name t there sure in
      picked-give s.shows place b s.of_queue (sym i.at_prev) next.onward next.made (picked_of h pick t.name es) (i.events_are s)

  -- of other tables nothing is picked
  unsynced : (o : Option LeafTable) → ((t : LeafTable) → o ≡ Some t → is_synced t.state ≡ false) → unwrap_or (option_map (λ (t : LeafTable). is_synced t.state) o) false ≡ false
  unsynced None isnt = refl
  unsynced (Some t) isnt = isnt t refl

  pub none-picked : (name : List ℕ) → ((t : LeafTable) → leaf_table name (node h) ≡ Some t → picks_for pick t ≡ false) → picked_of h pick name es ≡ []
  none-picked name isnt = of pick refl has isnt
    where
      found : (t : LeafTable) → table_of name l ≡ Some t → leaf_table name (node h) ≡ Some t
      found t is = ap (leaf_table name) own_leaf.is ∙ is

      of : (x : Pick) → pick ≡ x → HasCome (node h) x b.prev → ((t : LeafTable) → leaf_table name (node h) ≡ Some t → picks_for x t ≡ false) → picked_of h pick name es ≡ []
      of of_synced is come_is isnt = ap (λ x. picked_of h x name es) is ∙ picked-unsynced h k b l own_leaf.is name es in_batch (unsynced (table_of name l) (λ t at. isnt t (found t at)))
      of (copy_of other) is come_is isnt =
          ap (λ x. picked_of h x name es) is
          ∙ picked-other h k b l own_leaf.is name es in_batch other (false_from_ne_true (bytes_eq other name) (λ same.
          let one : other ≡ name = same_name other name same in
          let there : leaf_table name (node h) ≡ Some come_is.0 = ap (λ n. leaf_table n (node h)) (sym one) ∙ come_is.1 in
          cc (sym (isnt come_is.0 there) ∙ ap (bytes_eq other) (table-named name (node h) come_is.0 there) ∙ same)))

  -- so all of its events can be applied
  pub all-fit : AllFit h es pick
  all-fit name table there = of (leaf_table name (node h)) refl
    where
      nothing : picked_of h pick name es ≡ [] → applies (columns_of table h) (rows table h) (picked_of h pick name es) ≡ true
      nothing none = ap (applies (columns_of table h) (rows table h)) none

      of : (o : Option LeafTable) → leaf_table name (node h) ≡ o → applies (columns_of table h) (rows table h) (picked_of h pick name es) ≡ true
      of None is = nothing (none-picked name (λ t at. absurd (cc (sym is ∙ at))))
      of (Some t) is =
          by_test (λ c. picks_for pick t ≡ c → applies (columns_of table h) (rows table h) (picked_of h pick name es) ≡ true) (picks_for pick t)
          (λ _ sure.
          let s : ShowsHere t = shows-here name t is (is-picked name t is sure).along in
          let named : t.name ≡ name = table-named name (node h) t is in
          let number : Some s.shows.table ≡ Some table = sym s.shows.named ∙ ap (λ n. place_of n (table_names h)) named ∙ there in
          let one : s.shows.table ≡ table = cc number in
          (λ i. applies (columns_of (sym one i) h) (rows (sym one i) h) (picked_of h pick (sym named i) es)) ∙ (gives name t is sure s).apply)
          (λ _ unpicked. nothing (none-picked name (λ u at. let both : Some t ≡ Some u = sym is ∙ at in let same : t ≡ u = cc both in ap (picks_for pick) (sym same) ∙ unpicked))) refl

  -- and the leaf may apply it
  pub may-apply : may_apply pick (node h) ≡ true
  may-apply = of pick has
    where
      of : (x : Pick) → HasCome (node h) x b.prev → may_apply x (node h) ≡ true
      of of_synced is = ap (may_apply of_synced) own_leaf.is
      of (copy_of name) is =
          let s : ShowsHere is.0 = shows-here name is.0 is.1 (copied-along is.0.state is.2) in
          ap (may_apply (copy_of name)) own_leaf.is
          ∙ ap (λ o. is_some (option_and_then LeafTable.snapshot o)) (sym (ap (leaf_table name) own_leaf.is) ∙ is.1)
          ∙ ap is_some s.shows.under
