-- Which events of a batch a leaf picks for one of its tables.
use Rattle.std.proofs.Common.{◌≡◌, ℕ, ◌==◌, Bool, true, false, not, ◌&&◌, List, [], ◌∷◌, Option, Some, None, All, is_none, option_map, unwrap_or, filter, bytes_eq, refl, sym, ◌∙◌, ap, if◌then◌else◌}
use Rattle.std.specs.Option.{option_and_then}
use Rattle.std.proofs.lemmas.Bool.{and_parts, false_from_ne_true}
use Rattle.std.proofs.lemmas.List.Elements.{All-nil, All-cons, All-head, All-tail}
use Rattle.std.proofs.Math.Bool.{and-false}
use Rattle.sky_val.specs.declared.event.Event.{Event}
use Rattle.sky_names.proofs.PlaceLemmas.{same_name}
use Rattle.sky_txid.specs.Snapshot.{SnapshotView, sees}
use Rattle.pgq_tables.specs.Listed.{is_for}
use Rattle.londiste_state.specs.Nodes.{of_leaf, Leaf, LeafTable, table_of}
use Rattle.sky_model.specs.History.{Batch, of_synced, copy_of, History}
use Rattle.sky_model.specs.Transactions.{has_committed, snapshot}
use Rattle.sky_model.specs.Queues.{events, at_tick}
use Rattle.sky_model.specs.Batches.{batch_events}
use Rattle.sky_model.specs.Nodes.{node}
use Rattle.sky_model.specs.StepApply.{is_change, is_of_table, is_synced, has_synced, kept_snapshot, picks, picked}
use Rattle.sky_model.specs.LawsOfApplying.{picked_of}
use Rattle.sky_histories.proofs.Legal.{Legal}
use Rattle.sky_histories.proofs.Snapshots.{sees-snapshot}
use Rattle.sky_histories.proofs.RowSights.{Since, legal-since}
use Rattle.sky_model.proofs.Cases.{by_test}
use Rattle.sky_histories.proofs.RetriesBack.{all-by_id_onto}
use Rattle.sky_laws_changes.specs.TableEvents as changes
use Rattle.sky_laws_changes.specs.TableEvents.{is_name, table_events, unseen_events}
use Rattle.sky_laws_changes.proofs.Places.{committed-then}
use Rattle.sky_laws_synced.proofs.Covering.{EndedBy}

-- ---- lists of events

-- what holds of those that pass a test, and of all
passed : (P Q : Event → Type 0) (p : Event → Bool) → ((e : Event) → P e → p e ≡ true → Q e) → (es : List Event) → All P es → All Q (filter p es)
passed P Q p gives [] all = All-nil Q
passed P Q p gives (e ∷ es) all =
    by_test (λ b. p e ≡ b → All Q (if b then e ∷ filter p es else filter p es)) (p e)
    (λ _ is. All-cons Q e (filter p es) (gives e (All-head P e es all) is) (passed P Q p gives es (All-tail P e es all))) (λ _ _. passed P Q p gives es (All-tail P e es all)) refl

-- two tests that are the same for events of a kind
same-filter : (P : Event → Type 0) (p q : Event → Bool) → ((e : Event) → P e → p e ≡ q e) → (es : List Event) → All P es → filter p es ≡ filter q es
same-filter P p q same [] all = refl
same-filter P p q same (e ∷ es) all =
    ap (λ b. if b then e ∷ filter p es else filter p es) (same e (All-head P e es all)) ∙ ap (λ xs. if q e then e ∷ xs else xs) (same-filter P p q same es (All-tail P e es all))

none-passes : (p : Event → Bool) → ((e : Event) → p e ≡ false) → (es : List Event) → filter p es ≡ []
none-passes p none [] = refl
none-passes p none (e ∷ es) = ap (λ b. if b then e ∷ filter p es else filter p es) (none e) ∙ none-passes p none es

both-tests : (s u : Event → Bool) (es : List Event) → filter u (filter s es) ≡ filter (λ e. s e && u e) es
both-tests s u [] = refl
both-tests s u (e ∷ es) =
    by_test (λ b. filter u (if b then e ∷ filter s es else filter s es) ≡ (if b && u e then e ∷ filter (λ x. s x && u x) es else filter (λ x. s x && u x) es)) (s e)
    (λ _. ap (λ xs. if u e then e ∷ xs else xs) (both-tests s u es)) (λ _. both-tests s u es)

-- ---- the events of a batch

-- an event isn't a subscription's own
abbrev pub IsNotOwn : ℕ → Event → Type 0
IsNotOwn sub e = unwrap_or (option_map (λ owner. owner == sub) e.ev_owner) false ≡ false

-- what is so of each event of a batch: it has no owner, and its transaction had committed at the closing tick, and hadn't at the opening one
pub record InBatch (k : History) (b : Batch) (e : Event) : Type 0 where
  pub unowned : is_none e.ev_owner ≡ true
  pub after : has_committed (at_tick b.queue b.cur k) e.ev_txid ≡ true
  pub before : has_committed (at_tick b.queue b.prev k) e.ev_txid ≡ false

pub in-batch : (k : History) (b : Batch) → All (IsNotOwn b.sub) (events b.queue k) → All (InBatch k b) (batch_events k b)
in-batch k b none = all-by_id_onto (InBatch k b) [] (filter stands (events b.queue k)) (All-nil (InBatch k b)) (passed (IsNotOwn b.sub) (InBatch k b) stands each (events b.queue k) none)
  where
    a : History
    a = at_tick b.queue b.prev k

    c : History
    c = at_tick b.queue b.cur k

    stands : Event → Bool
    stands e = has_committed c e.ev_txid && not (has_committed a e.ev_txid) && is_for b.sub e.ev_owner

    alone : (o : Option ℕ) → unwrap_or (option_map (λ owner. owner == b.sub) o) false ≡ false → is_for b.sub o ≡ true → is_none o ≡ true
    alone None own is = refl
    alone (Some owner) own is = absurd (cc (sym own ∙ is))

    negated : (x : Bool) → not x ≡ true → x ≡ false
    negated true e = absurd (cc e)
    negated false e = refl

    each : (e : Event) → IsNotOwn b.sub e → stands e ≡ true → InBatch k b e
    each e own is =
        let outer = and_parts (has_committed c e.ev_txid && not (has_committed a e.ev_txid)) (is_for b.sub e.ev_owner) is in
        let inner = and_parts (has_committed c e.ev_txid) (not (has_committed a e.ev_txid)) outer.0 in
        record { unowned = alone e.ev_owner own outer.1; after = inner.0; before = negated (has_committed a e.ev_txid) inner.1 }

-- if all that had ended at a place had ended at the opening tick, its snapshot sees none of them
pub unseen-all : (k : History) → Legal k → (b : Batch) (s : History) → Since s k → Since (at_tick b.queue b.prev k) (at_tick b.queue b.cur k) → Since (at_tick b.queue b.cur k) k → EndedBy s (at_tick b.queue b.prev k)
    → (name : List ℕ) (es : List Event) → All (InBatch k b) es → unseen_events (snapshot s) (table_events name es) ≡ table_events name es
unseen-all k l b s s_k a_c c_k over name es all =
    both-tests own (λ e. not (sees (snapshot s) e.ev_txid)) es ∙ same-filter (InBatch k b) (λ e. own e && not (sees (snapshot s) e.ev_txid)) own (λ e is. alone (own e) (unseen e is)) es all
  where
    own : Event → Bool
    own e = is_none e.ev_owner && changes.changes_table name e

    unseen : (e : Event) → InBatch k b e → sees (snapshot s) e.ev_txid ≡ false
    unseen e is = false_from_ne_true (sees (snapshot s) e.ev_txid) (λ seen.
        cc (sym is.before ∙ committed-then a_c (legal-since c_k l) e.ev_txid (over e.ev_txid (sym (sees-snapshot s (legal-since s_k l) e.ev_txid) ∙ seen)) is.after))

    alone : {seen : Bool} (x : Bool) → seen ≡ false → (x && not seen) ≡ x
    alone true none = ap not none
    alone false none = refl

-- ---- those that are picked

module _ (h k : History) (b : Batch) (l : Leaf) (leaf : node h ≡ Some (of_leaf l)) (name : List ℕ) (es : List Event) (all : All (InBatch k b) es) where
  -- an event without an owner, by its test and the table's name
  of-table : (e : Event) → is_none e.ev_owner ≡ true → (is_none e.ev_owner && changes.changes_table name e) ≡ (is_change e && is_name name e.ev_extra1)
  of-table e none = ap (λ x. x && changes.changes_table name e) none

  -- of a table in sync, all
  pub picked-synced : (t : LeafTable) → table_of name l ≡ Some t → is_synced t.state ≡ true → picked_of h of_synced name es ≡ table_events name es
  picked-synced t found synced =
      ap (λ n. filter (is_of_table name) (picked n of_synced es)) leaf ∙ both-tests (picks l of_synced) (is_of_table name) es
      ∙ same-filter (InBatch k b) (λ e. picks l of_synced e && is_of_table name e) (λ e. is_none e.ev_owner && changes.changes_table name e)
      (λ e is. by (is_change e) e.ev_extra1 ∙ sym (of-table e is.unowned)) es all
    where
      has : has_synced l name ≡ true
      has = ap (λ o. unwrap_or (option_map (λ (x : LeafTable). is_synced x.state) o) false) found ∙ synced

      by : (c : Bool) (o : Option (List ℕ)) → ((c && unwrap_or (option_map (has_synced l) o) false) && unwrap_or (option_map (bytes_eq name) o) false) ≡ (c && is_name name o)
      by true None = refl
      by false o = refl
      by true (Some other) =
          by_test (λ x. bytes_eq name other ≡ x → (has_synced l other && x) ≡ x) (bytes_eq name other) (λ _ same. ap (λ n. has_synced l n && true) (sym (same_name name other same)) ∙ ap (λ x. x && true) has)
          (λ _ _. and-false (has_synced l other)) refl

  -- of one that isn't, none
  pub picked-unsynced : has_synced l name ≡ false → picked_of h of_synced name es ≡ []
  picked-unsynced isnt =
      ap (λ n. filter (is_of_table name) (picked n of_synced es)) leaf ∙ both-tests (picks l of_synced) (is_of_table name) es
      ∙ none-passes (λ e. picks l of_synced e && is_of_table name e) (λ e. by (is_change e) e.ev_extra1) es
    where
      by : (c : Bool) (o : Option (List ℕ)) → ((c && unwrap_or (option_map (has_synced l) o) false) && unwrap_or (option_map (bytes_eq name) o) false) ≡ false
      by true None = refl
      by false o = refl
      by true (Some other) =
          by_test (λ x. bytes_eq name other ≡ x → (has_synced l other && x) ≡ false) (bytes_eq name other) (λ _ same. ap (λ n. has_synced l n && true) (sym (same_name name other same)) ∙ ap (λ x. x && true) isnt)
          (λ _ _. and-false (has_synced l other)) refl

  -- of the table whose copy it is, those that the snapshot of the copy doesn't see
  pub picked-copy : (t : LeafTable) → table_of name l ≡ Some t → (s : SnapshotView) → t.snapshot ≡ Some s → picked_of h (copy_of name) name es ≡ unseen_events s (table_events name es)
  picked-copy t found s under =
      ap (λ n. filter (is_of_table name) (picked n (copy_of name) es)) leaf ∙ both-tests (picks l (copy_of name)) (is_of_table name) es
      ∙ same-filter (InBatch k b) (λ e. picks l (copy_of name) e && is_of_table name e) (λ e. (is_none e.ev_owner && changes.changes_table name e) && not (sees s e.ev_txid))
      (λ e is. by (is_change e) e.ev_extra1 (λ x. not (sees x e.ev_txid)) ∙ ap (λ x. x && not (sees s e.ev_txid)) (sym (of-table e is.unowned))) es all
      ∙ sym (both-tests (λ e. is_none e.ev_owner && changes.changes_table name e) (λ e. not (sees s e.ev_txid)) es)
    where
      kept : kept_snapshot l name ≡ Some s
      kept = ap (option_and_then LeafTable.snapshot) found ∙ under

      flat : (x y : Bool) → ((x && y) && x) ≡ (x && y)
      flat true true = refl
      flat true false = refl
      flat false y = refl

      by : (c : Bool) (o : Option (List ℕ)) (unseen : SnapshotView → Bool)
          → (((c && unwrap_or (option_map (bytes_eq name) o) false) && unwrap_or (option_map unseen (kept_snapshot l name)) false) && unwrap_or (option_map (bytes_eq name) o) false)
          ≡ ((c && is_name name o) && unseen s)
      by false o unseen = refl
      by true None unseen = refl
      by true (Some other) unseen = ap (λ x. (bytes_eq name other && unwrap_or (option_map unseen x) false) && bytes_eq name other) kept ∙ flat (bytes_eq name other) (unseen s)

  -- and of another one, none
  pub picked-other : (other : List ℕ) → bytes_eq other name ≡ false → picked_of h (copy_of other) name es ≡ []
  picked-other other apart =
      ap (λ n. filter (is_of_table name) (picked n (copy_of other) es)) leaf ∙ both-tests (picks l (copy_of other)) (is_of_table name) es
      ∙ none-passes (λ e. picks l (copy_of other) e && is_of_table name e) (λ e. by (is_change e) e.ev_extra1 (unwrap_or (option_map (λ s. not (sees s e.ev_txid)) (kept_snapshot l other)) false)) es
    where
      by : (c : Bool) (o : Option (List ℕ)) (unseen : Bool) → (((c && unwrap_or (option_map (bytes_eq other) o) false) && unseen) && unwrap_or (option_map (bytes_eq name) o) false) ≡ false
      by false o unseen = refl
      by true None unseen = refl
      by true (Some x) unseen =
          by_test (λ y. bytes_eq name x ≡ y → ((bytes_eq other x && unseen) && y) ≡ false) (bytes_eq name x)
          (λ _ same. ap (λ n. (bytes_eq other n && unseen) && true) (sym (same_name name x same)) ∙ ap (λ y. (y && unseen) && true) apart) (λ _ _. and-false (bytes_eq other x && unseen)) refl
