-- What holds of all tables of leaves that were copied, fact by fact.
use Rattle.std.proofs.Common.{arith, ◌≡◌, ℕ, ◌==◌, List, [], ◌∷◌, ◌++◌, Bool, true, false, not, ◌&&◌, ◌||◌, Option, Some, None, is_some, option_map, unwrap_or, bytes_eq, ◌⊎◌, inl, inr, refl, sym, ap, subst, ◌∙◌, if◌then◌else◌}
use Rattle.std.proofs.lemmas.List.Folds.{list_any-append}
use Rattle.std.proofs.lemmas.Bool.{and_parts, eqb-true}
use Rattle.sky_names.specs.Places.{place_of}
use Rattle.sky_names.proofs.PlaceLemmas.{place_of_within, same_name}
use Rattle.sky_txid.specs.Snapshot.{SnapshotView}
use Rattle.londiste_state.specs.declared.state.TableState.{TableState}
use Rattle.londiste_state.specs.declared.state.TableState.TheVariants.{Absent, InCopy, CatchingUp, WannaSync, DoSync, Synced}
use Rattle.londiste_state.specs.Moves.{is_allowed}
use Rattle.londiste_state.specs.Nodes.{Node, of_root, of_leaf, Leaf, LeafTable, is_among, table_of, in_state, with_copy}
use Rattle.sky_model.specs.History.{Mark, of_copy, of_worker, began, ended, tabled, wrote, noded, NodeMark, root_made, leaf_made, set_added, set_removed, leaf_added, leaf_removed, state_set, copied, applied, History, Fact, within, node_made, batch_in_hand, Past}
use Rattle.sky_model.specs.Transactions.{snapshot}
use Rattle.sky_model.specs.Copies.{copies, is_copied_by}
use Rattle.sky_model.specs.Rows.{table_names, columns_of, rows}
use Rattle.sky_model.specs.Queues.{at_tick}
use Rattle.sky_model.specs.Nodes.{after_node, node, is_root, is_leaf, leaf_tables}
use Rattle.sky_model.specs.State.{database_of}
use Rattle.sky_model.specs.StepNode.{is_in_copy, may_copy}
use Rattle.sky_model.specs.World.{history_in, batches, on_top}
use Rattle.sky_model.specs.HistoryPlaces.{IsPlace}
use Rattle.sky_histories.proofs.Legal.{Fine, NodeFits, Legal, begins_copy, legal-below_mark, fine_mark}
use Rattle.sky_histories.proofs.SnapshotLaws.{legal_place}
use Rattle.sky_histories.proofs.TickOrder.{is_made}
use Rattle.sky_histories.proofs.RowSights.{Since, here, later}
use Rattle.sky_histories.proofs.Guarded.{copied_by-push, copied_by-without, copied-by}
use Rattle.sky_histories.proofs.NodeTables.{one-place}
use Rattle.sky_histories.proofs.NodeReadings.{leaf-other, leaf-added, leaf-removed, same-tables}
use Rattle.sky_histories.proofs.InCopyTables.{leaf_table, IsInCopy, copies-in-copy, may-allowed, is_past_copy}
use Rattle.sky_histories.proofs.Good.{same-session}
use Rattle.sky_model.proofs.Cases.{by_test, by_same}
use Rattle.sky_laws_changes.specs.Listing.{later_of, IsListed, StaysListed, is_unlisting}
use Rattle.sky_laws_changes.proofs.Places.{to-below, from-below, since-joined, one-place as one-only}
use Rattle.sky_laws_changes.proofs.ListedTables.{place-kept, columns-kept, fits-of}
use Rattle.sky_laws_replicas.proofs.NodeNames.{source_of}
use Rattle.sky_laws_replicas.proofs.Keeping.{Noded, source-within, source-made, noded-within, made-noded}
use Rattle.sky_laws_replicas.proofs.Sources.{root-has}
use Rattle.sky_laws_replicas.proofs.ProvidedTables.{IsUnused, among-all}
use Rattle.sky_laws_synced.specs.Tables.{tick_in}
use Rattle.sky_laws_synced.proofs.Covering.{place-below, EndedBy}
use Rattle.sky_laws_synced.proofs.ChangedTables.{leafs_tick, Was, was, table-named}
use Rattle.sky_laws_synced.proofs.RestingTables.{Rests, applies_to, rests-step, rows-stay, among-found, leaf-found}
use Rattle.sky_laws_synced.proofs.Showing.{is_late, Shows, listed-above, shows-above, ComesTo, shows-at}
use Rattle.sky_laws_synced.proofs.LedMarks.{AllApplied, all-above}
use Rattle.sky_laws_synced.proofs.ReachedTicks.{AllReach, TickSuits, reach-mark}

-- ---- places

abbrev pub AllPlaces : Past → Type 0
AllPlaces past = (d : ℕ) → IsPlace (history_in past d)

pub places-below : (past : Past) (fact : Fact) → AllPlaces (fact ∷ past) → AllPlaces past
places-below past (within e mark) all d =
    by_test (λ b. IsPlace (if b then mark ∷ history_in past d else history_in past d) → IsPlace (history_in past d)) (e == d) (λ _ is. place-below mark (history_in past d) is) (λ _ is. is) (all d)
places-below past _ all d = all d

pub places-under : (past : Past) (facts : List Fact) → AllPlaces (on_top past facts) → AllPlaces past
places-under past [] all = all
places-under past (fact ∷ facts) all = places-below past fact (places-under (fact ∷ past) facts all)

-- after a mark in its database
abbrev own : Past → ℕ → Mark → ℕ → Bool → History
own past e mark d b = if b then mark ∷ history_in past d else history_in past d

pub place-at : (past : Past) (e : ℕ) (mark : Mark) → AllPlaces (within e mark ∷ past) → IsPlace (mark ∷ history_in past e)
place-at past e mark all = subst (λ b. IsPlace (own past e mark e b)) (same-session e) (all e)

-- ---- what holds

-- the tick to which a table has come
abbrev pub come : Option Node → LeafTable → ℕ
come n t = tick_in t.state (leafs_tick n) t.tick

-- a table of a leaf whose history is `h` has the rows of its provider's, and keeps them
pub record ShowsIn (past : Past) (d : ℕ) (h : History) (t : LeafTable) : Type 0 where
  pub p : ℕ
  pub from : source_of past d ≡ Some p
  pub shows : Shows h (history_in past p) (come (node h) t) t
  pub rests : Rests h shows.table

-- a table of a leaf is in its provider's set
pub record IsOffered (past : Past) (d : ℕ) (name : List ℕ) : Type 0 where
  pub p : ℕ
  pub from : source_of past d ≡ Some p
  pub queue : ℕ
  pub listed : IsListed (history_in past p) queue name

-- it has been so since its copy began, by this transaction
pub record Began (past : Past) (d table t : ℕ) : Type 0 where
  pub p : ℕ
  pub from : source_of past d ≡ Some p
  pub name : List ℕ
  pub named : place_of name (table_names (history_in past d)) ≡ Some table
  pub later : List Fact
  pub start : Past
  pub is : past ≡ later ++ within d (began (of_copy table) t) ∷ start
  pub below : Since (history_in start p) (history_in past p)
  pub queue : ℕ
  pub listed : StaysListed (history_in start p) (history_in past p) queue name

-- a table that is handed over is so at the leaf's tick, and the leaf's worker has nothing in hand
pub record HandedAt (past : Past) (d tick : ℕ) : Type 0 where
  pub leafs : leafs_tick (node (history_in past d)) ≡ tick
  pub idle : batches past d ≡ None

-- the tables of leaves are offered, and have been since their copies began
pub record Based (past : Past) : Type 0 where
  pub all_noded : Noded past
  pub offered : (d : ℕ) (name : List ℕ) → is_among name (leaf_tables (node (history_in past d))) ≡ true → IsOffered past d name
  pub begun : (d table t : ℕ) → is_copied_by table t (copies (history_in past d)) ≡ true → Began past d table t

pub record Goes (past : Past) : Type 0 where
  pub base : Based past
  pub shown : (d : ℕ) (name : List ℕ) (t : LeafTable) → leaf_table name (node (history_in past d)) ≡ Some t → is_past_copy t.state ≡ true → ShowsIn past d (history_in past d) t
  pub handed : (d : ℕ) (name : List ℕ) (t : LeafTable) (tick : ℕ) → leaf_table name (node (history_in past d)) ≡ Some t → t.state ≡ DoSync tick → HandedAt past d tick
  pub reached : (d : ℕ) → AllReach (history_in past d)
  pub batches_applied : (d : ℕ) → AllApplied past d (history_in past d)

-- the database of a leaf isn't its provider's
rooted : (k : History) (queue : ℕ) (name : List ℕ) → IsListed k queue name → is_root (node k) ≡ true
rooted k queue name is = root-has (database_of k) (node k) queue is.set

not-both : (n : Option Node) → is_root n ≡ true → is_leaf n ≡ true → ⊥
not-both None e is = cc e
not-both (Some (of_root r)) e is = cc is
not-both (Some (of_leaf l)) e is = cc e

pub apart-root : (past : Past) (d p : ℕ) → is_root (node (history_in past p)) ≡ true → is_leaf (node (history_in past d)) ≡ true → (d == p) ≡ false
apart-root past d p root leaf = by_same (λ b. b ≡ false) d p (λ same. absurd (not-both (node (history_in past d)) (ap (λ k. is_root (node (history_in past k))) same ∙ root) leaf)) (λ _. refl)

pub apart : (past : Past) (d p : ℕ) (queue : ℕ) (name : List ℕ) → IsListed (history_in past p) queue name → is_leaf (node (history_in past d)) ≡ true → (d == p) ≡ false
apart past d p queue name is leaf = apart-root past d p (rooted (history_in past p) queue name is) leaf

-- at the present place it is listed
pub listed-now : {p k : History} {queue : ℕ} {name : List ℕ} → Since p k → StaysListed p k queue name → IsListed k queue name
listed-now {k = k} below stays = stays k (to-below below) (to-below here)

-- ---- what a mark is to be

-- a copy of the table of a name has just ended in a database, and left it the rows of its provider's
pub record CopyLeft (past : Past) (d : ℕ) (name : List ℕ) (under : SnapshotView) (tick : ℕ) : Type 0 where
  pub p : ℕ
  pub from : source_of past d ≡ Some p
  pub queue : ℕ
  pub held : History
  pub below : Since held (history_in past p)
  pub taken : snapshot held ≡ under
  pub listed : StaysListed held (history_in past p) queue name
  pub made : is_made queue tick (history_in past p) ≡ true
  pub table : ℕ
  pub named : place_of name (table_names (history_in past d)) ≡ Some table
  pub source : ℕ
  pub source_named : place_of name (table_names held) ≡ Some source
  pub alike : columns_of table (history_in past d) ≡ columns_of source held
  pub same : rows table (history_in past d) ≡ rows source held
  pub later_is : later_of held (at_tick queue tick (history_in past p)) ≡ held
  pub rests : Rests (history_in past d) table

-- the table of a name goes into a state: one that waits to be handed over has caught up; it is handed over at the leaf's tick; and it is in sync once its
-- own tick is that one
abbrev pub MayGo : Past → (e : ℕ) → (name : List ℕ) → TableState → Type 0
MayGo past e name CatchingUp = ⊥
MayGo past e name (WannaSync bound) =
    (t : LeafTable) → leaf_table name (node (history_in past e)) ≡ Some t → (s : ShowsIn past e (history_in past e) t) → EndedBy s.shows.held (at_tick s.shows.queue t.tick (history_in past s.p))
MayGo past e name (DoSync tick) = HandedAt past e tick
MayGo past e name Synced = (t : LeafTable) → leaf_table name (node (history_in past e)) ≡ Some t → (tick : ℕ) → t.state ≡ DoSync tick → t.tick ≡ tick
MayGo past e name state = Unit {0}

abbrev pub MarkSuits : Past → ℕ → Mark → Type 0
MarkSuits past e (noded (set_removed name)) = IsUnused past e name
MarkSuits past e (noded (leaf_added name)) = IsOffered (within e (noded (leaf_added name)) ∷ past) e name
MarkSuits past e (noded (state_set name state)) = MayGo past e name state
MarkSuits past e (noded (copied name under tick)) = CopyLeft (within e (noded (copied name under tick)) ∷ past) e name under tick
MarkSuits past e (noded (applied pick tick)) = ⊥
MarkSuits past e (tabled (wrote of_worker t table key old new)) = ⊥
MarkSuits past e mark = Unit {0}

-- so much is asked for the base alone
abbrev pub BaseSuits : Past → ℕ → Mark → Type 0
BaseSuits past e (noded (set_removed name)) = IsUnused past e name
BaseSuits past e (noded (leaf_added name)) = IsOffered (within e (noded (leaf_added name)) ∷ past) e name
BaseSuits past e mark = Unit {0}

base-suits : (past : Past) (e : ℕ) (mark : Mark) → MarkSuits past e mark → BaseSuits past e mark
base-suits past e (noded (set_removed name)) suits = suits
base-suits past e (noded (leaf_added name)) suits = suits
base-suits past e mark suits = tt

-- a table that is being copied is a leaf's
pub record Found (name : List ℕ) (h : History) : Type 0 where
  pub t : LeafTable
  pub is : leaf_table name (node h) ≡ Some t

pub found-copied : (name : List ℕ) (h : History) → may_copy name (node h) ≡ true → Found name h
found-copied name h may = of (node h) refl may
  where
    at : (l : Leaf) → node h ≡ Some (of_leaf l) → (o : Option LeafTable) → table_of name l ≡ o → unwrap_or (option_map (λ (t : LeafTable). is_in_copy t.state) o) false ≡ true → Found name h
    at l leaf None is e = absurd (cc e)
    at l leaf (Some t) is e = record { t = t; is = ap (leaf_table name) leaf ∙ is }

    of : (n : Option Node) → node h ≡ n → may_copy name n ≡ true → Found name h
    of None is e = absurd (cc e)
    of (Some (of_root r)) is e = absurd (cc e)
    of (Some (of_leaf l)) is e = at l is (table_of name l) refl e

among-copied : (name : List ℕ) (h : History) → may_copy name (node h) ≡ true → is_among name (leaf_tables (node h)) ≡ true
among-copied name h may = let f : Found name h = found-copied name h may in among-found name (node h) f.t f.is

-- a table of a leaf was one, or has just joined
was-among : (h : History) (m : NodeMark) → NodeFits h m → (name : List ℕ) → is_among name (leaf_tables (after_node m (node h))) ≡ true → (is_among name (leaf_tables (node h)) ≡ true) ⊎ (m ≡ leaf_added name)
was-among h (root_made other queue) fits name is = absurd (cc is)
was-among h (leaf_made other provider tick) fits name is = absurd (cc is)
was-among h (set_added other) fits name is = inl (sym (ap (is_among name) (leaf-other _ (node h))) ∙ is)
was-among h (set_removed other) fits name is = inl (sym (ap (is_among name) (leaf-other _ (node h))) ∙ is)
was-among h (leaf_removed other) fits name is = inl (among-all name other (leaf_tables (node h)) (sym (ap (is_among name) (leaf-removed (node h) other)) ∙ is))
was-among h (leaf_added other) fits name is =
    by_test (λ b. bytes_eq name other ≡ b → (is_among name (leaf_tables (node h)) || (b || false)) ≡ true → (is_among name (leaf_tables (node h)) ≡ true) ⊎ (leaf_added other ≡ leaf_added name)) (bytes_eq name other)
    (λ _ same _. inr (ap leaf_added (sym (same_name name other same)))) (λ _ _ old. inl (grind (arith, old))) refl
    (sym (ap (is_among name) (leaf-added (node h) other (and_parts (is_leaf (node h)) (not (is_among other (leaf_tables (node h)))) fits.may).0) ∙ list_any-append (bytes_eq name) (leaf_tables (node h)) (other ∷ [])) ∙ is)
was-among h m fits name is = inl (sym (ap (is_among name) (same-tables m refl (node h)).leaf) ∙ is)

-- ---- mark by mark

module _ (past : Past) (e : ℕ) (mark : Mark) (all : AllPlaces (within e mark ∷ past)) (g : Based past) (suits : BaseSuits past e mark) where
  abbrev now : Past
  now = within e mark ∷ past

  place : IsPlace (mark ∷ history_in past e)
  place = place-at past e mark all

  legal : Legal (mark ∷ history_in past e)
  legal = legal_place (mark ∷ history_in past e) place

  fine : Fine (history_in past e) mark
  fine = fine_mark legal

  own-is : history_in now e ≡ mark ∷ history_in past e
  own-is = ap (own past e mark e) (same-session e)

  other-is : (d : ℕ) → (e == d) ≡ false → history_in now d ≡ history_in past d
  other-is d other = ap (own past e mark d) other

  pub source-stays : (d p : ℕ) → source_of past d ≡ Some p → source_of now d ≡ Some p
  source-stays d p from = source-within past e mark d p g.all_noded fine from

  -- a history goes on
  since-now : (d : ℕ) → Since (history_in past d) (history_in now d)
  since-now d = by_test (λ b. Since (history_in past d) (own past e mark d b)) (e == d) (λ _. later here) (λ _. here)

  -- a table of a leaf of this root isn't taken out of the set
  unused-stays : (d : ℕ) (name : List ℕ) → source_of past d ≡ Some e → is_among name (leaf_tables (node (history_in past d))) ≡ true → is_unlisting name mark ≡ false
  unused-stays d name from among = of mark suits
    where
      of : (m : Mark) → BaseSuits past e m → is_unlisting name m ≡ false
      of (noded (set_removed other)) none =
          by_test (λ b. bytes_eq name other ≡ b → b ≡ false) (bytes_eq name other)
          (λ _ same. absurd (cc (sym (none d from) ∙ ap (λ x. is_among x (leaf_tables (node (history_in past d)))) (sym (same_name name other same)) ∙ among))) (λ _ _. refl) refl
      of _ none = refl

  -- so it stays listed
  stays-now : (d p : ℕ) (name : List ℕ) (queue : ℕ) (k : History) → source_of past d ≡ Some p → is_among name (leaf_tables (node (history_in past d))) ≡ true → Since k (history_in past p)
      → StaysListed k (history_in past p) queue name → StaysListed k (history_in now p) queue name
  stays-now d p name queue k from among below stays =
      by_same (λ b. StaysListed k (own past e mark p b) queue name) e p
      (λ same. subst (λ x. StaysListed k (mark ∷ history_in past x) queue name) same
      (listed-above mark place queue name (subst (λ x. Since k (history_in past x)) (sym same) below) (unused-stays d name (from ∙ ap Some (sym same)) among)
      (subst (λ x. StaysListed k (history_in past x) queue name) (sym same) stays))) (λ _. stays)

  -- ---- a table elsewhere

  shown-elsewhere : (d : ℕ) (name : List ℕ) (t : LeafTable) → leaf_table name (node (history_in past d)) ≡ Some t → ShowsIn past d (history_in past d) t → ShowsIn now d (history_in past d) t
  shown-elsewhere d name t there s = record {
    p = s.p;
    from = source-stays d s.p s.from;
    shows = both.0;
    rests = both.1;
  }
    where
      same_table : t.name ≡ name
      same_table = table-named name (node (history_in past d)) t there

      P : History → Type 0
      P k = (x : Shows (history_in past d) k (come (node (history_in past d)) t) t) × Rests (history_in past d) x.table

      out : e ≡ s.p → is_unlisting t.name mark ≡ false
      out same = ap (λ n. is_unlisting n mark) same_table ∙ unused-stays d name (s.from ∙ ap Some (sym same)) (among-found name (node (history_in past d)) t there)

      both : P (history_in now s.p)
      both = by_same (λ b. P (own past e mark s.p b)) e s.p
          (λ same. (shows-above mark (subst (λ x. IsPlace (mark ∷ history_in past x)) same place) (out same) s.shows, s.rests)) (λ _. (s.shows, s.rests))

  -- a table of a leaf that was one is offered still
  offered-still : (d : ℕ) (name : List ℕ) → is_among name (leaf_tables (node (history_in past d))) ≡ true → IsOffered now d name
  offered-still d name among =
      let o : IsOffered past d name = g.offered d name among in
      let k : History = history_in past o.p in
      record {
        p = o.p;
        from = source-stays d o.p o.from;
        queue = o.queue;
        listed = listed-now (since-now o.p)
            (stays-now d o.p name o.queue k o.from among here (λ x up down. subst (λ y. IsListed y o.queue name) (one-only (from-below k x up) (from-below x k down)) o.listed));
      }

  offered-here : (m : Mark) → m ≡ mark → (name : List ℕ) → is_among name (leaf_tables (node (m ∷ history_in past e))) ≡ true → IsOffered now e name
  offered-here (noded m) same name among = elim (was-among (history_in past e) m (fits-of (subst (Fine (history_in past e)) (sym same) fine)) name among) [
    | inl old ↦ offered-still e name old
    | inr new ↦
        let is : mark ≡ noded (leaf_added name) = sym same ∙ ap noded new in
        subst (λ x. IsOffered (within e x ∷ past) e name) (sym is) (subst (BaseSuits past e) is suits)
  ]
  offered-here m same name among = offered-still e name among

  -- a copy that ran runs still
  began-still : (d table t : ℕ) → is_copied_by table t (copies (history_in past d)) ≡ true → Began now d table t
  began-still d table t runs = record {
    p = b.p;
    from = source-stays d b.p b.from;
    name = b.name;
    named = place-kept b.name table (since-now d) b.named;
    later = within e mark ∷ b.later;
    is = ap (λ q. within e mark ∷ q) b.is;
    start = b.start;
    below = since-joined b.below (since-now b.p);
    queue = b.queue;
    listed = stays-now d b.p b.name b.queue (history_in b.start b.p) b.from among b.below b.listed;
  }
    where
      b : Began past d table t
      b = g.begun d table t runs

      among : is_among b.name (leaf_tables (node (history_in past d))) ≡ true
      among =
          let h : History = history_in past d in
          let c : IsInCopy h table = copies-in-copy h (legal_place h (places-below past (within e mark) all d)) table (copied-by table t (copies h) runs) in
          ap (λ x. is_among x (leaf_tables (node h))) (one-place b.name c.name (table_names h) table b.named c.there) ∙ among-found c.name (node h) c.t c.found

  began-new : (n u : ℕ) → Fine (history_in past e) (began (of_copy n) u) → mark ≡ began (of_copy n) u → Began now e n u
  began-new _ _ (begins_copy n may) is =
      let o : IsOffered past e may.name = g.offered e may.name among in
      let k : History = history_in past o.p in
      record {
        p = o.p;
        from = source-stays e o.p o.from;
        name = may.name;
        named = place-kept may.name n (since-now e) may.there;
        later = [];
        start = past;
        is = ap (λ m. within e m ∷ past) is;
        below = since-now o.p;
        queue = o.queue;
        listed = stays-now e o.p may.name o.queue k o.from among here (λ x up down. subst (λ y. IsListed y o.queue may.name) (one-only (from-below k x up) (from-below x k down)) o.listed);
      }
    where
      among : is_among may.name (leaf_tables (node (history_in past e))) ≡ true
      among = among-copied may.name (history_in past e) may.may

  began-here : (m : Mark) → m ≡ mark → (table t : ℕ) → is_copied_by table t (copies (m ∷ history_in past e)) ≡ true → Began now e table t
  began-here (began (of_copy n) u) same table t runs =
      by_test (λ b. (n == table && u == t) ≡ b → (is_copied_by table t (copies (history_in past e)) || b) ≡ true → Began now e table t) (n == table && u == t)
      (λ _ new _.
      let parts = and_parts (n == table) (u == t) new in
      subst (λ x. Began now e x t) (eqb-true n table parts.0) (subst (Began now e n) (eqb-true u t parts.1)
      (began-new n u (subst (Fine (history_in past e)) (sym same) fine) (sym same))))
      (λ _ _ old. began-still e table t (grind (arith, old))) refl (sym (copied_by-push table t (copies (history_in past e)) (record { table = n; txid = u })) ∙ runs)
  began-here (ended (of_copy n) u c) same table t runs =
      began-still e table t (and_parts (is_copied_by table t (copies (history_in past e))) (not (t == u)) (sym (copied_by-without table u t (copies (history_in past e))) ∙ runs)).0
  began-here m same table t runs = began-still e table t runs

  pub based-within : Based now
  based-within = record {
    all_noded = noded-within past e mark fine g.all_noded;
    offered = λ d name among.
        by_same (λ b. is_among name (leaf_tables (node (own past e mark d b))) ≡ true → IsOffered now d name) e d
        (λ same is. subst (λ x. IsOffered now x name) same (offered-here mark refl name (ap (λ x. is_among name (leaf_tables (node (mark ∷ history_in past x)))) same ∙ is)))
        (λ _ is. offered-still d name is) among;
    begun = λ d table t runs.
        by_same (λ b. is_copied_by table t (copies (own past e mark d b)) ≡ true → Began now d table t) e d
        (λ same is. subst (λ x. Began now x table t) same (began-here mark refl table t (ap (λ x. is_copied_by table t (copies (mark ∷ history_in past x))) same ∙ is)))
        (λ _ is. began-still d table t is) runs;
  }

-- ---- a table of the database

module _ (past : Past) (e : ℕ) (mark : Mark) (all : AllPlaces (within e mark ∷ past)) (g : Goes past) (suits : MarkSuits past e mark) where
  shown-own : (name : List ℕ) (t u : LeafTable) → leaf_table name (node (history_in past e)) ≡ Some t → is_past_copy t.state ≡ true → (s : ShowsIn past e (history_in past e) t) → u.name ≡ t.name → u.snapshot ≡ t.snapshot
      → come (node (mark ∷ history_in past e)) u ≡ come (node (history_in past e)) t
      → (is_late u.state ≡ true → EndedBy s.shows.held (at_tick s.shows.queue (come (node (history_in past e)) t) (history_in past s.p))) → ShowsIn (within e mark ∷ past) e (mark ∷ history_in past e) u
  shown-own name t u there along s names under comes covered = record {
    p = s.p;
    from = source-stays past e mark all g.base (base-suits past e mark suits) e s.p s.from;
    shows = moved.0;
    rests = moved.1;
  }
    where
      h : History
      h = history_in past e

      x : Shows h (history_in past s.p) (come (node h) t) t
      x = s.shows

      differ : (e == s.p) ≡ false
      differ = apart past e s.p x.queue t.name (listed-now x.below x.listed) (leaf-found name (node h) t there)

      named : place_of name (table_names h) ≡ Some x.table
      named = ap (λ n. place_of n (table_names h)) (sym (table-named name (node h) t there)) ∙ x.named

      above : Since h (mark ∷ h)
      above = later here

      kept : ComesTo x (mark ∷ h) (come (node h) t)
      kept = record {
        made = x.made;
        named = place-kept t.name x.table above x.named;
        alike = columns-kept x.table above (place_of_within t.name (table_names h) x.table x.named);
        same = rows-stay h (legal-below_mark (legal past e mark all g.base (base-suits past e mark suits))) mark (fine past e mark all g.base (base-suits past e mark suits)) x.table s.rests ∙ x.same;
      }

      unapplied : (m : Mark) → MarkSuits past e m → applies_to x.table m ≡ false
      unapplied (tabled (wrote of_worker v m key old new)) none = absurd none
      unapplied _ none = refl

      P : ℕ → History → Type 0
      P to k = (y : Shows (mark ∷ h) k to u) × Rests (mark ∷ h) y.table

      moved : P (come (node (mark ∷ h)) u) (history_in (within e mark ∷ past) s.p)
      moved = subst (λ k. P (come (node (mark ∷ h)) u) k) (sym (other-is past e mark all g.base (base-suits past e mark suits) s.p differ)) (subst (λ to. P to (history_in past s.p)) (sym comes)
          (shows-at x kept names under covered, rests-step h name t there along x.table named mark (fine past e mark all g.base (base-suits past e mark suits)) (unapplied mark suits) s.rests))

  -- by a mark that leaves it as it is
  shown-plain : (name : List ℕ) (t : LeafTable) → leaf_table name (node (history_in past e)) ≡ Some t → is_past_copy t.state ≡ true → leafs_tick (node (mark ∷ history_in past e)) ≡ leafs_tick (node (history_in past e))
      → ShowsIn (within e mark ∷ past) e (mark ∷ history_in past e) t
  shown-plain name t there along same =
      let s : ShowsIn past e (history_in past e) t = g.shown e name t there along in
      shown-own name t t there along s refl refl (ap (λ n. tick_in t.state n t.tick) same) s.shows.covered

  -- by a mark of the node: it was copied, it goes into a state, or it stays as it is
  shown-copied : (name : List ℕ) (under : SnapshotView) (tick : ℕ) → mark ≡ noded (copied name under tick) → (u : LeafTable) → u.name ≡ name → u.state ≡ CatchingUp → u.snapshot ≡ Some under → u.tick ≡ tick
      → ShowsIn (within e mark ∷ past) e (mark ∷ history_in past e) u
  shown-copied name under tick is u names state snapshot_is tick_is = record {
    p = c.p;
    from = c.from;
    shows = record {
      queue = c.queue;
      held = c.held;
      below = c.below;
      under = snapshot_is ∙ ap Some (sym c.taken);
      listed = subst (StaysListed c.held (history_in (within e mark ∷ past) c.p) c.queue) (sym names) c.listed;
      made = subst (λ n. is_made c.queue n (history_in (within e mark ∷ past) c.p) ≡ true) (sym come_is) c.made;
      table = c.table;
      named = ap (λ n. place_of n (table_names (mark ∷ history_in past e))) names ∙ sym (ap (λ h. place_of name (table_names h)) (own-is past e mark all g.base (base-suits past e mark suits))) ∙ c.named;
      source = c.source;
      source_named = ap (λ n. place_of n (table_names c.held)) names ∙ c.source_named;
      alike = sym (ap (columns_of c.table) (own-is past e mark all g.base (base-suits past e mark suits))) ∙ c.alike;
      same = sym (ap (rows c.table) (own-is past e mark all g.base (base-suits past e mark suits))) ∙ c.same ∙ sym (ap (rows c.source) (ap (λ n. later_of c.held (at_tick c.queue n (history_in (within e mark ∷ past) c.p))) come_is ∙ c.later_is));
      covered = λ late. absurd (cc (sym late ∙ ap is_late state));
    };
    rests = subst (λ h. Rests h c.table) (own-is past e mark all g.base (base-suits past e mark suits)) c.rests;
  }
    where
      c : CopyLeft (within e mark ∷ past) e name under tick
      c = subst (λ m. CopyLeft (within e m ∷ past) e name under tick) (sym is) (subst (MarkSuits past e) is suits)

      come_is : come (node (mark ∷ history_in past e)) u ≡ tick
      come_is = ap (λ s. tick_in s (leafs_tick (node (mark ∷ history_in past e))) u.tick) state ∙ tick_is

  -- into a state
  shown-moved : (name : List ℕ) (state : TableState) → MayGo past e name state → (t : LeafTable) → leaf_table name (node (history_in past e)) ≡ Some t → is_allowed t.state state ≡ true → is_past_copy state ≡ true
      → leafs_tick (node (mark ∷ history_in past e)) ≡ leafs_tick (node (history_in past e)) → ShowsIn (within e mark ∷ past) e (mark ∷ history_in past e) (in_state state t)
  shown-moved name state goes t there allowed along leafs = of t.state refl state goes allowed along
    where
      h : History
      h = history_in past e

      of : (old : TableState) → t.state ≡ old → (new : TableState) → MayGo past e name new → is_allowed old new ≡ true → is_past_copy new ≡ true → ShowsIn (within e mark ∷ past) e (mark ∷ h) (in_state new t)
      of CatchingUp was (WannaSync bound) may ok also =
          let s : ShowsIn past e h t = g.shown e name t there (ap is_past_copy was) in
          let own_tick : come (node h) t ≡ t.tick = ap (λ x. tick_in x (leafs_tick (node h)) t.tick) was in
          shown-own name t (in_state (WannaSync bound) t) there (ap is_past_copy was) s refl refl (sym own_tick)
          (λ _. subst (λ n. EndedBy s.shows.held (at_tick s.shows.queue n (history_in past s.p))) (sym own_tick) (may t there s))
      of (WannaSync bound) was (DoSync tick) may ok also =
          let s : ShowsIn past e h t = g.shown e name t there (ap is_past_copy was) in
          shown-own name t (in_state (DoSync tick) t) there (ap is_past_copy was) s refl refl (sym (ap (λ x. tick_in x (leafs_tick (node h)) t.tick) was)) (λ _. s.shows.covered (ap is_late was))
      of (DoSync tick) was Synced may ok also =
          let s : ShowsIn past e h t = g.shown e name t there (ap is_past_copy was) in
          let at : HandedAt past e tick = g.handed e name t tick there was in
          shown-own name t (in_state Synced t) there (ap is_past_copy was) s refl refl
          (leafs ∙ at.leafs ∙ sym (may t there tick was) ∙ sym (ap (λ x. tick_in x (leafs_tick (node h)) t.tick) was)) (λ _. s.shows.covered (ap is_late was))
      of InCopy was CatchingUp may ok also = absurd may
      of old was Absent may ok also = absurd (cc also)
      of old was InCopy may ok also = absurd (cc also)
      of Absent was CatchingUp may ok also = absurd may
      of CatchingUp was CatchingUp may ok also = absurd may
      of (WannaSync bound) was CatchingUp may ok also = absurd may
      of (DoSync tick) was CatchingUp may ok also = absurd may
      of Synced was CatchingUp may ok also = absurd may
      of Absent was (WannaSync bound) may ok also = absurd (cc ok)
      of InCopy was (WannaSync bound) may ok also = absurd (cc ok)
      of (WannaSync other) was (WannaSync bound) may ok also = absurd (cc ok)
      of (DoSync tick) was (WannaSync bound) may ok also = absurd (cc ok)
      of Synced was (WannaSync bound) may ok also = absurd (cc ok)
      of Absent was (DoSync tick) may ok also = absurd (cc ok)
      of InCopy was (DoSync tick) may ok also = absurd (cc ok)
      of CatchingUp was (DoSync tick) may ok also = absurd (cc ok)
      of (DoSync other) was (DoSync tick) may ok also = absurd (cc ok)
      of Synced was (DoSync tick) may ok also = absurd (cc ok)
      of Absent was Synced may ok also = absurd (cc ok)
      of InCopy was Synced may ok also = absurd (cc ok)
      of CatchingUp was Synced may ok also = absurd (cc ok)
      of (WannaSync bound) was Synced may ok also = absurd (cc ok)
      of Synced was Synced may ok also = absurd (cc ok)

module _ (past : Past) (e : ℕ) where
  abbrev h : History
  h = history_in past e

  -- by a mark of the node
  shown-noded : (m : NodeMark) (all : AllPlaces (within e (noded m) ∷ past)) (g : Goes past) → MarkSuits past e (noded m) → NodeFits h m → (name : List ℕ) (u : LeafTable) → leaf_table name (after_node m (node h)) ≡ Some u
      → is_past_copy u.state ≡ true → ShowsIn (within e (noded m) ∷ past) e (noded m ∷ h) u
  shown-noded m all g suits fits name u is along = of m all suits fits (was h m fits name u is along)
    where
      T : NodeMark → Type 0
      T m = ShowsIn (within e (noded m) ∷ past) e (noded m ∷ h) u

      plain : (m : NodeMark) → AllPlaces (within e (noded m) ∷ past) → MarkSuits past e (noded m) → (t : LeafTable) → leaf_table name (node h) ≡ Some t → u ≡ t → leafs_tick (after_node m (node h)) ≡ leafs_tick (node h) → T m
      plain m all suits t there same leafs =
          subst (ShowsIn (within e (noded m) ∷ past) e (noded m ∷ h)) (sym same)
          (shown-plain past e (noded m) all g suits name t there (ap (λ (x : LeafTable). is_past_copy x.state) (sym same) ∙ along) leafs)

      of : (m : NodeMark) → AllPlaces (within e (noded m) ∷ past) → MarkSuits past e (noded m) → NodeFits h m → Was (node h) m name u → T m
      of (copied other under tick) all suits fits w =
          by_test (λ b. bytes_eq other w.t.name ≡ b → u ≡ (if b then with_copy under tick w.t else w.t) → T (copied other under tick)) (bytes_eq other w.t.name)
          (λ _ its same. shown-copied past e (noded (copied other under tick)) all g suits other under tick refl u (ap LeafTable.name same ∙ sym (same_name other w.t.name its)) (ap LeafTable.state same)
          (ap LeafTable.snapshot same) (ap LeafTable.tick same))
          (λ _ _ same. plain (copied other under tick) all suits w.t w.there same w.come) refl w.is
      of (state_set other state) all suits fits w =
          by_test (λ b. bytes_eq other w.t.name ≡ b → u ≡ (if b then in_state state w.t else w.t) → T (state_set other state)) (bytes_eq other w.t.name)
          (λ _ its same.
          let one : other ≡ name = same_name other w.t.name its ∙ table-named name (node h) w.t w.there in
          let there : leaf_table other (node h) ≡ Some w.t = ap (λ x. leaf_table x (node h)) one ∙ w.there in
          subst (ShowsIn (within e (noded (state_set other state)) ∷ past) e (noded (state_set other state) ∷ h)) (sym same)
          (shown-moved past e (noded (state_set other state)) all g suits other state suits w.t there (may-allowed other state (node h) w.t there fits.may)
          (ap (λ (x : LeafTable). is_past_copy x.state) (sym same) ∙ along) w.come))
          (λ _ _ same. plain (state_set other state) all suits w.t w.there same w.come) refl w.is
      of (applied pick tick) all suits fits w = absurd suits
      of m all suits fits w = plain m all suits w.t w.there w.is w.come

  -- by any mark
  shown-mark : (mark : Mark) (all : AllPlaces (within e mark ∷ past)) (g : Goes past) → MarkSuits past e mark → Fine h mark → (name : List ℕ) (u : LeafTable) → leaf_table name (node (mark ∷ h)) ≡ Some u
      → is_past_copy u.state ≡ true → ShowsIn (within e mark ∷ past) e (mark ∷ h) u
  shown-mark (noded m) all g suits is_fine name u is along = shown-noded m all g suits (fits-of is_fine) name u is along
  shown-mark mark all g suits is_fine name u is along = shown-plain past e mark all g suits name u is along refl

  -- ---- a table that is handed over

  handed-noded : (m : NodeMark) (g : Goes past) → MarkSuits past e (noded m) → NodeFits h m → (name : List ℕ) (u : LeafTable) (tick : ℕ) → leaf_table name (after_node m (node h)) ≡ Some u → u.state ≡ DoSync tick
      → (leafs_tick (after_node m (node h)) ≡ tick) × (batches past e ≡ None)
  handed-noded m g suits fits name u tick is state = of m suits (was h m fits name u is (ap is_past_copy state))
    where
      T : NodeMark → Type 0
      T m = (leafs_tick (after_node m (node h)) ≡ tick) × (batches past e ≡ None)

      plain : (m : NodeMark) (t : LeafTable) → leaf_table name (node h) ≡ Some t → u ≡ t → leafs_tick (after_node m (node h)) ≡ leafs_tick (node h) → T m
      plain m t there same leafs = let at : HandedAt past e tick = g.handed e name t tick there (ap LeafTable.state (sym same) ∙ state) in (leafs ∙ at.leafs, at.idle)

      of : (m : NodeMark) → MarkSuits past e (noded m) → Was (node h) m name u → T m
      of (copied other under last) suits w =
          by_test (λ b. u ≡ (if b then with_copy under last w.t else w.t) → T (copied other under last)) (bytes_eq other w.t.name)
          (λ _ same. absurd (cc (ap is_late (sym (ap LeafTable.state same) ∙ state)))) (λ _ same. plain (copied other under last) w.t w.there same w.come) w.is
      of (state_set other new) suits w =
          by_test (λ b. u ≡ (if b then in_state new w.t else w.t) → T (state_set other new)) (bytes_eq other w.t.name)
          (λ _ same. let at : HandedAt past e tick = subst (MayGo past e other) (sym (ap LeafTable.state same) ∙ state) suits in (w.come ∙ at.leafs, at.idle))
          (λ _ same. plain (state_set other new) w.t w.there same w.come) w.is
      of (applied pick last) suits w = absurd suits
      of m suits w = plain m w.t w.there w.is w.come

  handed-mark : (mark : Mark) (g : Goes past) → MarkSuits past e mark → Fine h mark → (name : List ℕ) (u : LeafTable) (tick : ℕ) → leaf_table name (node (mark ∷ h)) ≡ Some u → u.state ≡ DoSync tick
      → (leafs_tick (node (mark ∷ h)) ≡ tick) × (batches past e ≡ None)
  handed-mark (noded m) g suits is_fine name u tick is state = handed-noded m g suits (fits-of is_fine) name u tick is state
  handed-mark mark g suits is_fine name u tick is state = let at : HandedAt past e tick = g.handed e name u tick is state in (at.leafs, at.idle)

-- a table goes into sync at the leaf's tick
tick-suits : (past : Past) (e : ℕ) (mark : Mark) → Goes past → MarkSuits past e mark → TickSuits (history_in past e) mark
tick-suits past e (noded (state_set name CatchingUp)) g suits = suits
tick-suits past e (noded (state_set name Synced)) g suits = λ t tick there was. suits t there tick was ∙ sym (g.handed e name t tick there was).leafs
tick-suits past e (noded (applied pick tick)) g suits = suits
tick-suits past e mark g suits = tt

-- no batch is applied by it
unapplied-mark : (past : Past) (e : ℕ) (mark : Mark) → MarkSuits past e mark → AllApplied (within e mark ∷ past) e (history_in past e) → AllApplied (within e mark ∷ past) e (mark ∷ history_in past e)
unapplied-mark past e (noded (applied pick tick)) suits all = absurd suits
unapplied-mark past e mark suits all = all

-- all of it
pub goes-within : (past : Past) (e : ℕ) (mark : Mark) (all : AllPlaces (within e mark ∷ past)) (g : Goes past) → MarkSuits past e mark → Goes (within e mark ∷ past)
goes-within past e mark all g suits = record {
  base = based-within past e mark all g.base base;
  shown = λ d name t there along.
      by_same (λ b. leaf_table name (node (own past e mark d b)) ≡ Some t → ShowsIn (within e mark ∷ past) d (own past e mark d b) t) e d
      (λ same is. subst (λ x. ShowsIn (within e mark ∷ past) x (mark ∷ history_in past x) t) same
      (shown-mark past e mark all g suits (fine past e mark all g.base base) name t (ap (λ x. leaf_table name (node (mark ∷ history_in past x))) same ∙ is) along))
      (λ _ is. shown-elsewhere past e mark all g.base base d name t is (g.shown d name t is along)) there;
  handed = λ d name t tick there state.
      let both : (leafs_tick (node (history_in (within e mark ∷ past) d)) ≡ tick) × (batches past d ≡ None) =
      by_same (λ b. leaf_table name (node (own past e mark d b)) ≡ Some t → (leafs_tick (node (own past e mark d b)) ≡ tick) × (batches past d ≡ None)) e d
      (λ same is. subst (λ x. (leafs_tick (node (mark ∷ history_in past x)) ≡ tick) × (batches past x ≡ None)) same
      (handed-mark past e mark g suits (fine past e mark all g.base base) name t tick (ap (λ x. leaf_table name (node (mark ∷ history_in past x))) same ∙ is) state))
      (λ _ is. let at : HandedAt past d tick = g.handed d name t tick is state in (at.leafs, at.idle)) there in
      record { leafs = both.0; idle = both.1 };
  reached = λ d. by_same (λ b. AllReach (own past e mark d b)) e d
      (λ same. subst (λ x. AllReach (mark ∷ history_in past x)) same (reach-mark (history_in past e) mark (fine past e mark all g.base base) (tick-suits past e mark g suits) (g.reached e))) (λ _. g.reached d);
  batches_applied = λ d. by_same (λ b. AllApplied (within e mark ∷ past) d (own past e mark d b)) e d
      (λ same. subst (λ x. AllApplied (within e mark ∷ past) x (mark ∷ history_in past x)) same (unapplied-mark past e mark suits (all-above past (within e mark) e (history_in past e) (g.batches_applied e))))
      (λ _. all-above past (within e mark) d (history_in past d) (g.batches_applied d));
}
  where
    base : BaseSuits past e mark
    base = base-suits past e mark suits

-- ---- facts one after another

-- as long as the histories are places of databases
abbrev pub KeptGoes : Past → Type 0
KeptGoes past = AllPlaces past → Goes past

-- a fact leaves it so
abbrev pub FactSuits : Past → Fact → Type 0
FactSuits past (within e mark) = AllPlaces (within e mark ∷ past) → Goes past → MarkSuits past e mark
FactSuits past (node_made d) = is_some (node (history_in past d)) ≡ true
FactSuits past (batch_in_hand d batch) = Goes past → (name : List ℕ) (t : LeafTable) (tick : ℕ) → leaf_table name (node (history_in past d)) ≡ Some t → t.state ≡ DoSync tick → batch ≡ None
FactSuits past fact = Unit {0}

-- if it changes no history
goes-beside : (past : Past) (fact : Fact) → ((d : ℕ) → history_in (fact ∷ past) d ≡ history_in past d) → Noded (fact ∷ past) → ((d p : ℕ) → source_of past d ≡ Some p → source_of (fact ∷ past) d ≡ Some p)
    → ((d : ℕ) (name : List ℕ) (t : LeafTable) (tick : ℕ) → leaf_table name (node (history_in past d)) ≡ Some t → t.state ≡ DoSync tick → batches (fact ∷ past) d ≡ None) → Goes past → Goes (fact ∷ past)
goes-beside past fact same noded_still sources idle g = record {
  base = record { all_noded = noded_still; offered = offered; begun = begun };
  shown = λ d name t there along.
      let s = g.shown d name t (ap (λ h. leaf_table name (node h)) (sym (same d)) ∙ there) along in
      let both : (x : Shows (history_in (fact ∷ past) d) (history_in (fact ∷ past) s.p) (come (node (history_in (fact ∷ past) d)) t) t) × Rests (history_in (fact ∷ past) d) x.table =
      subst (λ h. (x : Shows h (history_in (fact ∷ past) s.p) (come (node h) t) t) × Rests h x.table) (sym (same d))
      (subst (λ k. (x : Shows (history_in past d) k (come (node (history_in past d)) t) t) × Rests (history_in past d) x.table) (sym (same s.p)) (s.shows, s.rests)) in
      record { p = s.p; from = sources d s.p s.from; shows = both.0; rests = both.1 };
  handed = λ d name t tick there state.
      let was = ap (λ h. leaf_table name (node h)) (sym (same d)) ∙ there in
      record { leafs = ap (λ h. leafs_tick (node h)) (same d) ∙ (g.handed d name t tick was state).leafs; idle = idle d name t tick was state };
  reached = λ d. subst AllReach (sym (same d)) (g.reached d);
  batches_applied = λ d. subst (AllApplied (fact ∷ past) d) (sym (same d)) (all-above past fact d (history_in past d) (g.batches_applied d));
}
  where
    offered : (d : ℕ) (name : List ℕ) → is_among name (leaf_tables (node (history_in (fact ∷ past) d))) ≡ true → IsOffered (fact ∷ past) d name
    offered d name among =
        let o : IsOffered past d name = g.base.offered d name (ap (λ h. is_among name (leaf_tables (node h))) (sym (same d)) ∙ among) in
        record { p = o.p; from = sources d o.p o.from; queue = o.queue; listed = subst (λ h. IsListed h o.queue name) (sym (same o.p)) o.listed }

    begun : (d table t : ℕ) → is_copied_by table t (copies (history_in (fact ∷ past) d)) ≡ true → Began (fact ∷ past) d table t
    begun d table t runs =
        let b : Began past d table t = g.base.begun d table t (ap (λ h. is_copied_by table t (copies h)) (sym (same d)) ∙ runs) in
        record {
          p = b.p;
          from = sources d b.p b.from;
          name = b.name;
          named = ap (λ h. place_of b.name (table_names h)) (same d) ∙ b.named;
          later = fact ∷ b.later;
          start = b.start;
          is = ap (λ q. fact ∷ q) b.is;
          below = subst (Since (history_in b.start b.p)) (sym (same b.p)) b.below;
          queue = b.queue;
          listed = subst (λ k. StaysListed (history_in b.start b.p) k b.queue b.name) (sym (same b.p)) b.listed;
        }

pub suits-step : (past : Past) (fact : Fact) → FactSuits past fact → KeptGoes past → KeptGoes (fact ∷ past)
suits-step past (within e mark) suits kept all = let g : Goes past = kept (places-below past (within e mark) all) in goes-within past e mark all g (suits all g)
suits-step past (node_made e) has kept all =
    let g : Goes past = kept all in
    goes-beside past (node_made e) (λ d. refl) (made-noded past e has g.base.all_noded) (λ d p from. source-made past e d p from) (λ d name t tick there state. (g.handed d name t tick there state).idle) g
suits-step past (batch_in_hand e batch) idle kept all =
    let g : Goes past = kept all in
    goes-beside past (batch_in_hand e batch) (λ d. refl) g.base.all_noded (λ d p from. from)
    (λ d name t tick there state.
    by_same (λ b. (if b then batch else batches past d) ≡ None) e d (λ same. idle g name t tick (ap (λ x. leaf_table name (node (history_in past x))) same ∙ there) state) (λ _. (g.handed d name t tick there state).idle)) g
suits-step past fact suits kept all =
    let g : Goes past = kept (λ d. all d) in goes-beside past fact (λ d. refl) g.base.all_noded (λ d p from. from) (λ d name t tick there state. (g.handed d name t tick there state).idle) g

abbrev pub FactsSuit : Past → List Fact → Type 0
FactsSuit past [] = Unit {0}
FactsSuit past (fact ∷ facts) = FactSuits past fact × FactsSuit (fact ∷ past) facts

pub suits-steps : (past : Past) (facts : List Fact) → FactsSuit past facts → KeptGoes past → KeptGoes (on_top past facts)
suits-steps past [] suit kept = kept
suits-steps past (fact ∷ facts) suit kept = suits-steps (fact ∷ past) facts suit.1 (suits-step past fact suit.0 kept)
