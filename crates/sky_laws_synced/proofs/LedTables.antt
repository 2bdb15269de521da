-- A batch leads each table on for which it is.
use Rattle.std.proofs.Common.{◌≡◌, ℕ, List, true, Some, bytes_eq, sym, ap, subst, ◌∙◌}
use Rattle.sky_names.specs.Places.{place_of}
use Rattle.sky_urlenc.specs.Changes.{put}
use Rattle.londiste_state.specs.Nodes.{of_leaf, Leaf, LeafTable, table_of}
use Rattle.sky_model.specs.History.{Batch, Pick, of_synced, copy_of, History, Past}
use Rattle.sky_model.specs.Transactions.{has_ended}
use Rattle.sky_model.specs.Rows.{table_names, columns_of, rows}
use Rattle.sky_model.specs.Queues.{at_tick}
use Rattle.sky_model.specs.Batches.{batch_events}
use Rattle.sky_model.specs.Nodes.{node}
use Rattle.sky_model.specs.World.{history_in}
use Rattle.sky_model.specs.HistoryPlaces.{IsPlace}
use Rattle.sky_model.specs.LawsOfApplying.{picked_of, IsApplied}
use Rattle.sky_histories.proofs.SnapshotLaws.{legal_place}
use Rattle.sky_histories.proofs.InCopyTables.{leaf_table}
use Rattle.sky_laws_changes.specs.Listing.{later_of}
use Rattle.sky_laws_changes.proofs.Places.{to-below}
use Rattle.sky_laws_changes.proofs.TickPlaces.{tick-since}
use Rattle.sky_laws_replicas.proofs.NodeNames.{source_of}
use Rattle.sky_laws_synced.specs.Tables.{tick_in}
use Rattle.sky_laws_synced.specs.LawsOfSynced.{ShowsProvider}
use Rattle.sky_laws_synced.specs.LawsOfChanges.{is_picked, IsLedOn}
use Rattle.sky_laws_synced.proofs.Covering.{later-rows}
use Rattle.sky_laws_synced.proofs.ChangedTables.{leafs_tick, table-named}
use Rattle.sky_laws_synced.proofs.Showing.{Shows}
use Rattle.sky_laws_synced.proofs.ReachedTicks.{is-for}
use Rattle.sky_laws_synced.proofs.Going.{come, Goes, listed-now}
use Rattle.sky_laws_synced.proofs.NextBatch.{IsNext, HasCome, leafs-come, synced-late, ShowsHere, shows-here, picks_for, RowsGiven, is-picked, gives, all-fit}

-- what a table shows of its provider's
abbrev pub shows-provider : (h k : History) (leaf : Leaf) (t : LeafTable) → node h ≡ Some (of_leaf leaf) → IsPlace k → Shows h k (come (node h) t) t → ShowsProvider h k leaf t
shows-provider h k leaf t is place x = record {
  queue = x.queue;
  of_set = (listed-now x.below x.listed).set;
  held = x.held;
  below = to-below x.below;
  under = x.under;
  listed = x.listed;
  table = x.table;
  named = x.named;
  source = x.source;
  source_named = x.source_named;
  alike = x.alike;
  same = x.same ∙ ap (λ n. rows x.source (later_of x.held (at_tick x.queue (tick_in t.state (leafs_tick n) t.tick) k))) is;
  synced = λ sync.
      x.same ∙ ap (λ n. rows x.source (later_of x.held (at_tick x.queue n k))) (leafs-come t.state (leafs_tick (node h)) t.tick sync ∙ ap leafs_tick is)
      ∙ later-rows x.source x.below (tick-since x.queue leaf.tick k) (legal_place k place)
      (λ u over. subst (λ n. has_ended (at_tick x.queue n k) u ≡ true) (leafs-come t.state (leafs_tick (node h)) t.tick sync ∙ ap leafs_tick is) (x.covered (synced-late t.state sync) u over));
}

module _ (past : Past) (d p : ℕ) (b : Batch) (pick : Pick) (g : Goes past) (from : source_of past d ≡ Some p) (place : IsPlace (history_in past p)) (next : IsNext past p b) (has : HasCome (node (history_in past d)) pick b.prev)
    (leaf : Leaf) (is : node (history_in past d) ≡ Some (of_leaf leaf)) (after : History) (applied_is : IsApplied (history_in past d) after (batch_events (history_in past p) b) pick b.cur) where
  abbrev h : History
  h = history_in past d

  abbrev k : History
  k = history_in past p

  pub led-on : (name : List ℕ) (t : LeafTable) → table_of name leaf ≡ Some t → is_picked pick name (node h) ≡ true → IsLedOn h after k leaf t (picked_of h pick name (batch_events k b)) b.cur
  led-on name t there sure = record {
    before = shows-provider h k leaf t is place s.shows;
    led = record { apply = all-fit past d p b pick g from place next has name s.shows.table named; give = sym puts };
    after = puts ∙ ap (λ n. put (columns_of s.shows.table h) (rows s.shows.table h) (picked_of h pick n (batch_events k b))) (sym one) ∙ give.give;
  }
    where
      in_table : leaf_table name (node h) ≡ Some t
      in_table = ap (leaf_table name) is ∙ there

      one : t.name ≡ name
      one = table-named name (node h) t in_table

      for_it : picks_for past d p b pick g from place next has pick t ≡ true
      for_it = of pick sure
        where
          of : (y : Pick) → is_picked y name (node h) ≡ true → picks_for past d p b pick g from place next has y t ≡ true
          of of_synced e = sym (is-for h leaf is name t in_table) ∙ e
          of (copy_of other) e = ap (bytes_eq other) one ∙ e

      s : ShowsHere past d p b pick g from place next has t
      s = shows-here past d p b pick g from place next has name t in_table (is-picked past d p b pick g from place next has name t in_table for_it).along

      give : RowsGiven past d p b pick g from place next has t s
      give = gives past d p b pick g from place next has name t in_table for_it s

      named : place_of name (table_names h) ≡ Some s.shows.table
      named = ap (λ n. place_of n (table_names h)) (sym one) ∙ s.shows.named

      puts : rows s.shows.table after ≡ put (columns_of s.shows.table h) (rows s.shows.table h) (picked_of h pick name (batch_events k b))
      puts = applied_is.puts name s.shows.table named
