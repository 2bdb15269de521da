-- A batch is applied: each table that picks its events has then come to its closing tick.
use Rattle.std.proofs.Common.{◌≡◌, ℕ, ◌==◌, ◌^◌, nat_le, List, [], ◌∷◌, true, false, Some, None, map, option_map, bytes_eq, refl, sym, ap, subst, ◌∙◌, if◌then◌else◌}
use Rattle.sky_val.specs.declared.event.Event.{Event}
use Rattle.sky_names.specs.Places.{place_of}
use Rattle.sky_names.proofs.PlaceLemmas.{place_of_within, same_name}
use Rattle.sky_urlenc.specs.Changes.{put}
use Rattle.londiste_state.specs.declared.state.TableState.TheVariants.{DoSync}
use Rattle.londiste_state.specs.Nodes.{LeafTable, with_tick}
use Rattle.sky_model.specs.declared.reply.Reply.TheVariants.{Null}
use Rattle.sky_model.specs.History.{Batch, Mark, Pick, of_synced, copy_of, of_worker, began, ended, applied, noded, set_removed, leaf_added, History, within, Past}
use Rattle.sky_model.specs.Transactions.{next_txid}
use Rattle.sky_model.specs.Rows.{table_names, columns_of, rows}
use Rattle.sky_model.specs.Queues.{at_tick}
use Rattle.sky_model.specs.Batches.{batch_events}
use Rattle.sky_model.specs.Nodes.{after_node, node, is_leaf}
use Rattle.sky_model.specs.State.{database_of}
use Rattle.sky_model.specs.Outcome.{answers, marks_of}
use Rattle.sky_model.specs.Settling.{marked}
use Rattle.sky_model.specs.StepApply.{is_synced, may_apply, applies_batch}
use Rattle.sky_model.specs.StepNode.{set_queue, applying, node_does}
use Rattle.sky_model.specs.DatabaseCalls.{served}
use Rattle.sky_model.specs.World.{history_in, batches, on_top}
use Rattle.sky_model.specs.HistoryPlaces.{IsPlace}
use Rattle.sky_model.specs.LawsOfApplying.{picked_of, IsApplied}
use Rattle.sky_histories.proofs.Legal.{Legal}
use Rattle.sky_histories.proofs.SnapshotLaws.{legal_place}
use Rattle.sky_histories.proofs.TickOrder.{is_made}
use Rattle.sky_histories.proofs.RowSights.{Since, here, later}
use Rattle.sky_histories.proofs.InCopyTables.{leaf_table, changed_by, is_past_copy}
use Rattle.sky_histories.proofs.ApplyCalls.{is_for_applying, gives-applies}
use Rattle.sky_histories.proofs.StatementMarks.{EachMark, each-rest, each-given, when-true, AnyReply, either}
use Rattle.sky_histories.proofs.PastHistories.{history-marks}
use Rattle.sky_histories.proofs.Good.{same-session}
use Rattle.sky_model.proofs.Cases.{by_test, by_same}
use Rattle.sky_laws_changes.specs.Listing.{later_of, IsListed}
use Rattle.sky_laws_changes.proofs.Places.{since-joined}
use Rattle.sky_laws_changes.proofs.ListedTables.{place-kept, columns-kept}
use Rattle.sky_laws_replicas.proofs.NodeNames.{source_of}
use Rattle.sky_laws_replicas.proofs.CallPasts.{call_marks, called}
use Rattle.sky_laws_replicas.proofs.KeptCalls.{HasSource, has-source}
use Rattle.sky_laws_replicas.proofs.Sources.{root-has}
use Rattle.sky_laws_synced.specs.Tables.{has_own_tick, tick_in}
use Rattle.sky_laws_synced.specs.LawsOfChanges.{is_picked, reached, IsLedOn, WasApplied}
use Rattle.sky_laws_synced.proofs.Covering.{EndedBy}
use Rattle.sky_laws_synced.proofs.ChangedTables.{leafs_tick, tick_after, Was, was, table-named}
use Rattle.sky_laws_synced.proofs.RestingTables.{Rests, rests-between}
use Rattle.sky_laws_synced.proofs.Showing.{is_late, Shows, ComesTo, shows-at, ended-on, IsBetween, none-bad, applied-at}
use Rattle.sky_laws_synced.proofs.ReachedTicks.{Reaches, AllReach, work_marks, each-work, to_tick, after-applied, reached-applied, is-for}
use Rattle.sky_laws_synced.proofs.LedMarks.{AllApplied, all-on-top, all-written, IsAbove, is-above}
use Rattle.sky_laws_synced.proofs.LedTables.{led-on}
use Rattle.sky_laws_synced.proofs.Going.{AllPlaces, places-under, come, ShowsIn, HandedAt, Based, Goes, BaseSuits, based-within, source-stays, apart, apart-root, listed-now}
use Rattle.sky_laws_synced.proofs.NextBatch.{IsNext, HasCome, IsThisLeaf, this-leaf, own-come, leafs-come, same-come, ShowsHere, leaf-is, shows-here, picks_for, is-picked, gives, none-picked, all-fit, may-apply}
use Rattle.sky_laws_synced.proofs.FollowPasts.{batches-marks}

-- ---- the marks of it

applying-based : (past : Past) (e : ℕ) (mark : Mark) → is_for_applying mark ≡ true → BaseSuits past e mark
applying-based past e (noded (set_removed name)) is = absurd (cc is)
applying-based past e (noded (leaf_added name)) is = absurd (cc is)
applying-based past e mark is = tt

-- they leave the tables offered, and each leaf its provider
record StillBased (past now : Past) : Type 0 where
  base : Based now
  sources : (d p : ℕ) → source_of past d ≡ Some p → source_of now d ≡ Some p

still-based : (past : Past) (e : ℕ) (marks : List Mark) → EachMark is_for_applying marks → AllPlaces (on_top past (map (within e) marks)) → Based past → StillBased past (on_top past (map (within e) marks))
still-based past e [] each all base = record { base = base; sources = λ d p from. from }
still-based past e (mark ∷ marks) each all base =
    let now : AllPlaces (within e mark ∷ past) = places-under (within e mark ∷ past) (map (within e) marks) all in
    let suits : BaseSuits past e mark = applying-based past e mark (when-true (EachMark is_for_applying marks) (is_for_applying mark) each) in
    let rest : StillBased (within e mark ∷ past) (on_top (within e mark ∷ past) (map (within e) marks)) =
    still-based (within e mark ∷ past) e marks (each-rest is_for_applying mark marks each) all (based-within past e mark now base suits) in
    record { base = rest.base; sources = λ d p from. rest.sources d p (source-stays past e mark now base suits d p from) }

each-applying : (h : History) (es : List Event) (pick : Pick) (tick : ℕ) → EachMark is_for_applying (call_marks h (applying es pick tick))
each-applying h es pick tick =
    each-given AnyReply is_for_applying (node_does (database_of h) (applying es pick tick))
    (either AnyReply is_for_applying (may_apply pick (node h)) (applies_batch (database_of h) pick tick es) (answers Null) (gives-applies (database_of h) pick tick es) (tt, tt))

since-marked : (marks : List Mark) (h : History) → Since h (marked h marks)
since-marked [] h = here
since-marked (mark ∷ marks) h = since-joined (later here) (since-marked marks (mark ∷ h))

-- ---- the leaf after it

module _ (past : Past) (d p : ℕ) (b : Batch) (pick : Pick) (g : Goes past) (from : source_of past d ≡ Some p) (all : AllPlaces (called past d (applying (batch_events (history_in past p) b) pick b.cur))) (next : IsNext past p b)
    (has : HasCome (node (history_in past d)) pick b.prev) (between : IsBetween (history_in past d)) (unspent : nat_le (2 ^ 62) (next_txid (history_in past d)) ≡ false) where
  abbrev h : History
  h = history_in past d

  abbrev k : History
  k = history_in past p

  abbrev es : List Event
  es = batch_events k b

  abbrev marks : List Mark
  marks = call_marks h (applying es pick b.cur)

  abbrev now : Past
  now = called past d (applying es pick b.cur)

  abbrev after : History
  after = marked h marks

  place : IsPlace k
  place = places-under past (map (within d) marks) all p

  applied_is : IsApplied h after es pick b.cur
  applied_is = applied-at h between es pick b.cur (may-apply past d p b pick g from place next has) (all-fit past d p b pick g from place next has) unspent

  after-between : IsBetween after
  after-between = record {
    calls = served (applying es pick b.cur) ∷ between.calls;
    make = λ i. marked (between.make i) (marks_of (node_does (database_of (between.make i)) (applying es pick b.cur)));
  }

  based : StillBased past now
  based = still-based past d marks (each-applying h es pick b.cur) all g.base

  own-after : history_in now d ≡ after
  own-after = history-marks past d marks d ∙ ap (λ c. if c then after else h) (same-session d)

  other-after : (x : ℕ) → (d == x) ≡ false → history_in now x ≡ history_in past x
  other-after x other = history-marks past d marks x ∙ ap (λ c. if c then marked (history_in past x) marks else history_in past x) other

  leaf : is_leaf (node h) ≡ true
  leaf = leaf-is past d p b pick g from place next has

  -- the provider's database is another one
  provider-same : (q queue : ℕ) (name : List ℕ) → IsListed (history_in past q) queue name → history_in now q ≡ history_in past q
  provider-same q queue name is = other-after q (apart past d q queue name is leaf)

  same-p : history_in now p ≡ k
  same-p = other-after p (apart-root past d p (root-has (database_of k) (node k) b.queue next.of_set) leaf)

  -- ---- a table of the leaf

  -- it was there
  module _ (name : List ℕ) (u : LeafTable) (there : leaf_table name (node after) ≡ Some u) (along : is_past_copy u.state ≡ true) where
    w : Was (node h) (applied pick b.cur) name u
    w = was h (applied pick b.cur) tt name u (ap (leaf_table name) (sym applied_is.stored) ∙ there) along

    abbrev t : LeafTable
    t = w.t

    -- with the same name, state and snapshot
    record IsSame (x : LeafTable) : Type 0 where
      names : x.name ≡ t.name
      states : x.state ≡ t.state
      snapshots : x.snapshot ≡ t.snapshot

    u-is : IsSame u
    u-is = of pick refl
      where
        of : (x : Pick) → pick ≡ x → IsSame u
        of of_synced is = let same : u ≡ t = w.is ∙ ap (λ y. changed_by (applied y b.cur) t) is in record { names = ap LeafTable.name same; states = ap LeafTable.state same; snapshots = ap LeafTable.snapshot same }
        of (copy_of other) is =
            subst IsSame (sym (w.is ∙ ap (λ y. changed_by (applied y b.cur) t) is))
            (by_test (λ c. IsSame (if c then with_tick b.cur t else t)) (bytes_eq other t.name) (λ _. record { names = refl; states = refl; snapshots = refl }) (λ _. record { names = refl; states = refl; snapshots = refl }))

    t-along : is_past_copy t.state ≡ true
    t-along = ap is_past_copy (sym u-is.states) ∙ along

    s : ShowsHere past d p b pick g from place next has t
    s = shows-here past d p b pick g from place next has name t w.there t-along

    -- the tick to which it has come
    come-is : come (node after) u ≡ (if picks_for past d p b pick g from place next has pick t then b.cur else come (node h) t)
    come-is = ap (λ n. come n u) applied_is.stored ∙ ap (λ x. tick_in x (leafs_tick (after_node (applied pick b.cur) (node h))) u.tick) u-is.states ∙ ap (λ x. tick_in t.state x u.tick) w.come ∙ of pick w.is has
      where
        of : (x : Pick) → u ≡ changed_by (applied x b.cur) t → HasCome (node h) x b.prev
            → tick_in t.state (tick_after (applied x b.cur) (leafs_tick (node h))) u.tick ≡ (if picks_for past d p b pick g from place next has x t then b.cur else come (node h) t)
        of of_synced is come_here =
            by_test (λ c. is_synced t.state ≡ c → tick_in t.state b.cur u.tick ≡ (if c then b.cur else come (node h) t)) (is_synced t.state) (λ _ sure. leafs-come t.state b.cur u.tick sure)
            (λ _ unpicked. same-come t.state b.cur (leafs_tick (node h)) u.tick unpicked ∙ ap (λ (x : LeafTable). tick_in t.state (leafs_tick (node h)) x.tick) is) refl
        of (copy_of other) is come_here =
            by_test (λ c. bytes_eq other t.name ≡ c → u ≡ (if c then with_tick b.cur t else t) → tick_in t.state (leafs_tick (node h)) u.tick ≡ (if c then b.cur else come (node h) t)) (bytes_eq other t.name)
            (λ _ its same.
            let table_is : Some come_here.0 ≡ Some t = sym come_here.1 ∙ ap (λ n. leaf_table n (node h)) (same_name other t.name its ∙ table-named name (node h) t w.there) ∙ w.there in
            let one : come_here.0 ≡ t = cc table_is in
            own-come t.state (leafs_tick (node h)) u.tick (ap (λ (x : LeafTable). has_own_tick x.state) (sym one) ∙ come_here.2) ∙ ap LeafTable.tick same)
            (λ _ _ same. ap (λ (x : LeafTable). tick_in t.state (leafs_tick (node h)) x.tick) same) refl is

    above : Since h after
    above = since-marked marks h

    rows-after : rows s.shows.table after ≡ put (columns_of s.shows.table h) (rows s.shows.table h) (picked_of h pick t.name es)
    rows-after = applied_is.puts t.name s.shows.table s.shows.named

    comes-to : (to : ℕ) → is_made s.shows.queue to k ≡ true → rows s.shows.table after ≡ rows s.shows.source (later_of s.shows.held (at_tick s.shows.queue to k)) → ComesTo s.shows after to
    comes-to to made same = record {
      made = made;
      named = place-kept t.name s.shows.table above s.shows.named;
      alike = columns-kept s.shows.table above (place_of_within t.name (table_names h) s.shows.table s.shows.named);
      same = same;
    }

    late-before : is_late u.state ≡ true → is_late t.state ≡ true
    late-before late = ap is_late (sym u-is.states) ∙ late

    shows-after : Shows after k (come (node after) u) u
    shows-after =
        subst (λ to. Shows after k to u) (sym come-is)
        (by_test (λ c. picks_for past d p b pick g from place next has pick t ≡ c → Shows after k (if c then b.cur else come (node h) t) u) (picks_for past d p b pick g from place next has pick t)
        (λ _ sure.
        let give = gives past d p b pick g from place next has name t w.there sure s in
        let i = is-picked past d p b pick g from place next has name t w.there sure in
        let made : is_made s.shows.queue b.cur k ≡ true = ap (λ q. is_made q b.cur k) (sym s.of_queue) ∙ next.made in
        shows-at s.shows (comes-to b.cur made (rows-after ∙ give.give)) u-is.names u-is.snapshots
        (λ late. ended-on k place s.shows.held s.shows.queue b.prev b.cur next.onward made
        (subst (λ n. EndedBy s.shows.held (at_tick s.shows.queue n k)) i.at_prev (s.shows.covered (late-before late)))))
        (λ _ unpicked.
        let none : picked_of h pick t.name es ≡ [] =
        none-picked past d p b pick g from place next has t.name (λ v at.
        let both : Some t ≡ Some v = sym w.there ∙ ap (λ n. leaf_table n (node h)) (sym (table-named name (node h) t w.there)) ∙ at in
        let same : t ≡ v = cc both in
        ap (picks_for past d p b pick g from place next has pick) (sym same) ∙ unpicked) in
        shows-at s.shows (comes-to (come (node h) t) s.shows.made (rows-after ∙ ap (put (columns_of s.shows.table h) (rows s.shows.table h)) none ∙ s.shows.same)) u-is.names u-is.snapshots
        (λ late. s.shows.covered (late-before late))) refl)

    shown-after : ShowsIn now d after u
    shown-after = record { p = p; from = based.sources d p from; shows = both.0; rests = both.1 }
      where
        rests : Rests after shows-after.table
        rests = rests-between after after-between name u there along shows-after.table (ap (λ n. place_of n (table_names after)) (sym (table-named name (node after) u there)) ∙ shows-after.named)

        both : (x : Shows after (history_in now p) (come (node after) u) u) × Rests after x.table
        both = subst (λ q. (x : Shows after q (come (node after) u) u) × Rests after x.table) (sym same-p) (shows-after, rests)

    -- its marks say the same
    reaches-after : Reaches after name u
    reaches-after = record {
      under = r.under;
      taken = u-is.snapshots ∙ r.taken;
      is = reached-applied name h (legal_place h (places-under past (map (within d) marks) all d)) es pick b.cur (may-apply past d p b pick g from place next has) unspent
          (none-bad h between es pick (may-apply past d p b pick g from place next has) (all-fit past d p b pick g from place next has))
          ∙ ap (λ c. if c then option_map (to_tick b.cur) (reached name h) else reached name h) (is-own pick has)
          ∙ by_test (λ c. (if c then option_map (to_tick b.cur) (reached name h) else reached name h) ≡ Some (record { under = r.under; tick = if c then b.cur else come (node h) t }))
          (picks_for past d p b pick g from place next has pick t) (λ _. ap (option_map (to_tick b.cur)) r.is) (λ _. r.is)
          ∙ ap (λ n. Some (record { under = r.under; tick = n })) (sym come-is);
    }
      where
        r : Reaches h name t
        r = g.reached d name t w.there t-along

        l : IsThisLeaf (node h)
        l = this-leaf (node h) leaf

        is-own : (x : Pick) → HasCome (node h) x b.prev → is_picked x name (node h) ≡ picks_for past d p b pick g from place next has x t
        is-own of_synced is = is-for h l.l l.is name t w.there
        is-own (copy_of other) is = ap (bytes_eq other) (sym (table-named name (node h) t w.there))

  -- the mark that says so, and those of batches before it
  legal_h : Legal h
  legal_h = legal_place h (places-under past (map (within d) marks) all d)

  ends_with : after ≡ noded (applied pick b.cur) ∷ ended of_worker (next_txid h) true ∷ marked (began of_worker (next_txid h) ∷ h) (work_marks h es pick)
  ends_with = after-applied h legal_h es pick b.cur (may-apply past d p b pick g from place next has) unspent
      (none-bad h between es pick (may-apply past d p b pick g from place next has) (all-fit past d p b pick g from place next has))

  applied-after : AllApplied now d after
  applied-after = subst (AllApplied now d) (sym ends_with) (last, all-written now d (began of_worker (next_txid h) ∷ h) (work_marks h es pick) (each-work h es pick) (all-on-top past (map (within d) marks) d h (g.batches_applied d)))
    where
      s : HasSource past d p
      s = has-source past d p from

      above : IsAbove past now
      above = is-above past (map (within d) marks)

      below : History
      below = ended of_worker (next_txid h) true ∷ marked (began of_worker (next_txid h) ∷ h) (work_marks h es pick)

      last : WasApplied now d below pick b.cur
      last = record {
        before = past;
        later = above.later;
        reaches = above.reaches;
        leaf = s.leaf;
        is_leaf = s.is_leaf;
        provider = s.provider;
        found = s.found;
        batch = b;
        of_set = ap (λ x. set_queue (database_of (history_in past x))) s.is ∙ next.of_set;
        closing = refl;
        puts = subst (λ (y : History × ℕ). IsApplied h y.0 (batch_events (history_in past y.1) b) pick b.cur) (λ i. (ends_with i, sym s.is i)) applied_is;
        led = λ name t there sure. subst (λ (y : History × ℕ). IsLedOn h y.0 (history_in past y.1) s.leaf t (picked_of h pick name (batch_events (history_in past y.1) b)) b.cur) (λ i. (ends_with i, sym s.is i))
            (led-on past d p b pick g from place next has s.leaf s.is_leaf after applied_is name t there sure);
      }

  -- a table of another leaf
  shown-other : (x : ℕ) → (d == x) ≡ false → (name : List ℕ) (t : LeafTable) → leaf_table name (node (history_in past x)) ≡ Some t → is_past_copy t.state ≡ true → ShowsIn now x (history_in past x) t
  shown-other x other name t there along = record { p = s.p; from = based.sources x s.p s.from; shows = both.0; rests = both.1 }
    where
      s : ShowsIn past x (history_in past x) t
      s = g.shown x name t there along

      both : (y : Shows (history_in past x) (history_in now s.p) (come (node (history_in past x)) t) t) × Rests (history_in past x) y.table
      both = subst (λ q. (y : Shows (history_in past x) q (come (node (history_in past x)) t) t) × Rests (history_in past x) y.table)
          (sym (provider-same s.p s.shows.queue t.name (listed-now s.shows.below s.shows.listed))) (s.shows, s.rests)

  -- nothing is handed over meanwhile, unless it is by its own copy
  handed-own : (pick ≡ of_synced → (name : List ℕ) (t : LeafTable) (tick : ℕ) → leaf_table name (node h) ≡ Some t → t.state ≡ DoSync tick → ⊥) → (name : List ℕ) (u : LeafTable) (tick : ℕ)
      → leaf_table name (node after) ≡ Some u → u.state ≡ DoSync tick → (leafs_tick (node after) ≡ tick) × (batches past d ≡ None)
  handed-own none name u tick there state = of pick refl (was h (applied pick b.cur) tt name u (ap (leaf_table name) (sym applied_is.stored) ∙ there) (ap is_past_copy state))
    where
      of : (x : Pick) → pick ≡ x → Was (node h) (applied pick b.cur) name u → (leafs_tick (node after) ≡ tick) × (batches past d ≡ None)
      of of_synced is v = absurd (none is name v.t tick v.there (ap LeafTable.state (sym (v.is ∙ ap (λ y. changed_by (applied y b.cur) v.t) is)) ∙ state))
      of (copy_of other) is v =
          let kept : v.t.state ≡ DoSync tick =
          by_test (λ c. u ≡ (if c then with_tick b.cur v.t else v.t) → v.t.state ≡ DoSync tick) (bytes_eq other v.t.name) (λ _ same. ap LeafTable.state (sym same) ∙ state) (λ _ same. ap LeafTable.state (sym same) ∙ state)
          (v.is ∙ ap (λ y. changed_by (applied y b.cur) v.t) is) in
          let at : HandedAt past d tick = g.handed d name v.t tick v.there kept in
          (ap leafs_tick applied_is.stored ∙ v.come ∙ ap (λ y. tick_after (applied y b.cur) (leafs_tick (node h))) is ∙ at.leafs, at.idle)

  pub goes-applied : (pick ≡ of_synced → (name : List ℕ) (t : LeafTable) (tick : ℕ) → leaf_table name (node h) ≡ Some t → t.state ≡ DoSync tick → ⊥) → Goes now
  goes-applied none = record {
    base = based.base;
    shown = λ x name t there along.
        by_same (λ c. history_in now x ≡ (if c then marked (history_in past x) marks else history_in past x) → ShowsIn now x (history_in now x) t) d x
        (λ same e.
        subst (λ y. ShowsIn now y (history_in now y) t) same
        (subst (λ y. ShowsIn now d y t) (sym own-after) (shown-after name t (sym (ap (λ y. leaf_table name (node y)) own-after) ∙ ap (λ y. leaf_table name (node (history_in now y))) same ∙ there) along)))
        (λ other e.
        let same = other-after x other in
        subst (λ y. ShowsIn now x y t) (sym same) (shown-other x other name t (sym (ap (λ y. leaf_table name (node y)) same) ∙ there) along)) (history-marks past d marks x);
    handed = λ x name t tick there state.
        by_same (λ c. history_in now x ≡ (if c then marked (history_in past x) marks else history_in past x) → HandedAt now x tick) d x
        (λ same e.
        let both = handed-own none name t tick (sym (ap (λ y. leaf_table name (node y)) own-after) ∙ ap (λ y. leaf_table name (node (history_in now y))) same ∙ there) state in
        subst (λ y. HandedAt now y tick) same (record { leafs = ap (λ y. leafs_tick (node y)) own-after ∙ both.0; idle = ap (λ f. f d) (batches-marks past d marks) ∙ both.1 }))
        (λ other e.
        let same = other-after x other in
        let at : HandedAt past x tick = g.handed x name t tick (sym (ap (λ y. leaf_table name (node y)) same) ∙ there) state in
        record { leafs = ap (λ y. leafs_tick (node y)) same ∙ at.leafs; idle = ap (λ f. f x) (batches-marks past d marks) ∙ at.idle }) (history-marks past d marks x);
    reached = λ x.
        by_same (λ c. history_in now x ≡ (if c then marked (history_in past x) marks else history_in past x) → AllReach (history_in now x)) d x
        (λ same e. subst (λ y. AllReach (history_in now y)) same (subst AllReach (sym own-after) reaches-after)) (λ other e. subst AllReach (sym (other-after x other)) (g.reached x)) (history-marks past d marks x);
    batches_applied = λ x.
        by_same (λ c. history_in now x ≡ (if c then marked (history_in past x) marks else history_in past x) → AllApplied now x (history_in now x)) d x
        (λ same e. subst (λ y. AllApplied now y (history_in now y)) same (subst (AllApplied now d) (sym own-after) applied-after))
        (λ other e. subst (AllApplied now x) (sym (other-after x other)) (all-on-top past (map (within d) marks) x (history_in past x) (g.batches_applied x))) (history-marks past d marks x);
  }
