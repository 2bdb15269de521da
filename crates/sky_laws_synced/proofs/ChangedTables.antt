-- What a mark of a leaf makes of its tables.
use Rattle.std.proofs.Common.{◌≡◌, ℕ, List, Bool, true, false, Option, Some, None, option_map, bytes_eq, ◌⊎◌, inl, inr, refl, sym, ap, ◌∙◌, if◌then◌else◌}
use Rattle.std.specs.Option.{option_or}
use Rattle.sky_names.proofs.PlaceLemmas.{same_name}
use Rattle.sky_txid.specs.Snapshot.{SnapshotView}
use Rattle.londiste_state.specs.Nodes.{Root, Leaf, LeafTable, Node, of_root, of_leaf, new_table, in_state, with_copy, with_tick}
use Rattle.sky_model.specs.History.{of_synced, copy_of, NodeMark, root_made, set_added, set_removed, joined, parted, leaf_made, leaf_added, leaf_removed, state_set, copied, applied, restarted, hold_begun, hold_ended, History}
use Rattle.sky_model.specs.Nodes.{after_node, at_root, at_leaf, node}
use Rattle.sky_histories.proofs.InCopyTables.{leaf_table, found, found-push, found-less, found-gone, found-changed, changed_by, map-same, table-root, table-leaf, table-named as has-name, is_past_copy}
use Rattle.sky_histories.proofs.Legal.{NodeFits}
use Rattle.sky_model.proofs.Cases.{by_test}

-- a table of a leaf has its name
pub table-named : (name : List ℕ) (n : Option Node) (t : LeafTable) → leaf_table name n ≡ Some t → t.name ≡ name
table-named name n t is = sym (same_name name t.name (has-name name n t is))

-- the tick of a leaf
abbrev pub leafs_tick : Option Node → ℕ
leafs_tick (Some (of_leaf l)) = l.tick
leafs_tick n = 0

-- what a mark makes of a leaf's tick
abbrev pub tick_after : NodeMark → ℕ → ℕ
tick_after (applied of_synced tick) old = tick
tick_after _ old = old

-- whether the table of a name leaves by it
abbrev pub leaves : List ℕ → NodeMark → Bool
leaves name (leaf_removed other) = bytes_eq name other
leaves name mark = false

-- a table that is there after a mark, and was copied, was there before it
pub record Was (n : Option Node) (mark : NodeMark) (name : List ℕ) (now : LeafTable) : Type 0 where
  pub t : LeafTable
  pub there : leaf_table name n ≡ Some t
  pub is : now ≡ changed_by mark t
  pub come : leafs_tick (after_node mark n) ≡ tick_after mark (leafs_tick n)
  pub stays : leaves name mark ≡ false

-- by what it becomes
was-mapped : (n : Option Node) (mark : NodeMark) (name : List ℕ) (now : LeafTable) → leafs_tick (after_node mark n) ≡ tick_after mark (leafs_tick n) → leaves name mark ≡ false
    → leaf_table name (after_node mark n) ≡ option_map (changed_by mark) (leaf_table name n) → leaf_table name (after_node mark n) ≡ Some now → Was n mark name now
was-mapped n mark name now come stays maps is = of (leaf_table name n) refl (sym maps ∙ is)
  where
    of : (o : Option LeafTable) → leaf_table name n ≡ o → option_map (changed_by mark) o ≡ Some now → Was n mark name now
    of None there e = absurd (cc e)
    of (Some t) there e = record { t = t; there = there; is = sym (let one : changed_by mark t ≡ now = cc e in one); come = come; stays = stays }

root-tick : (f : Root → Root) (n : Option Node) → leafs_tick (option_map (at_root f) n) ≡ leafs_tick n
root-tick f None = refl
root-tick f (Some (of_root r)) = refl
root-tick f (Some (of_leaf l)) = refl

leaf-tick : (f : Leaf → Leaf) → ((l : Leaf) → (f l).tick ≡ l.tick) → (n : Option Node) → leafs_tick (option_map (at_leaf f) n) ≡ leafs_tick n
leaf-tick f same None = refl
leaf-tick f same (Some (of_root r)) = refl
leaf-tick f same (Some (of_leaf l)) = same l

-- a table that has just left isn't there
pub just-gone : (name : List ℕ) (n : Option Node) → leaf_table name (after_node (leaf_removed name) n) ≡ None
just-gone name None = refl
just-gone name (Some (of_root r)) = refl
just-gone name (Some (of_leaf l)) = found-gone name l.tables

-- one that has just joined
pub record IsNew (t : LeafTable) : Type 0 where
  pub name : List ℕ
  pub is : t ≡ new_table name

-- one that is there after a mark was there before it, or has just joined
pub was-or-new : (h : History) (mark : NodeMark) → NodeFits h mark → (name : List ℕ) (now : LeafTable) → leaf_table name (after_node mark (node h)) ≡ Some now → Was (node h) mark name now ⊎ IsNew now
was-or-new h (root_made other queue) fits name now is = absurd (cc is)
was-or-new h (leaf_made other provider tick) fits name now is = absurd (cc is)
was-or-new h (set_added other) fits name now is = inl (was-mapped (node h) (set_added other) name now (root-tick _ (node h)) refl (table-root _ name (node h) ∙ map-same (leaf_table name (node h))) is)
was-or-new h (set_removed other) fits name now is = inl (was-mapped (node h) (set_removed other) name now (root-tick _ (node h)) refl (table-root _ name (node h) ∙ map-same (leaf_table name (node h))) is)
was-or-new h (joined consumer) fits name now is = inl (was-mapped (node h) (joined consumer) name now (root-tick _ (node h)) refl (table-root _ name (node h) ∙ map-same (leaf_table name (node h))) is)
was-or-new h (parted consumer) fits name now is = inl (was-mapped (node h) (parted consumer) name now (root-tick _ (node h)) refl (table-root _ name (node h) ∙ map-same (leaf_table name (node h))) is)
was-or-new h (leaf_added other) fits name now is = of (node h) is
  where
    of : (n : Option Node) → leaf_table name (after_node (leaf_added other) n) ≡ Some now → Was n (leaf_added other) name now ⊎ IsNew now
    of None e = absurd (cc e)
    of (Some (of_root r)) e = absurd (cc e)
    of (Some (of_leaf l)) e = by (found name l.tables) refl (bytes_eq name other) (sym (found-push name l.tables (new_table other)) ∙ e)
      where
        by : (o : Option LeafTable) → found name l.tables ≡ o → (b : Bool) → option_or o (if b then Some (new_table other) else None) ≡ Some now → Was (Some (of_leaf l)) (leaf_added other) name now ⊎ IsNew now
        by None there true e = let one : new_table other ≡ now = cc e in inr (record { name = other; is = sym one })
        by None there false e = absurd (cc e)
        by (Some t) there b e = inl (record { t = t; there = there; is = sym (let one : t ≡ now = cc e in one); come = refl; stays = refl })
was-or-new h (leaf_removed other) fits name now is =
    by_test (λ b. bytes_eq name other ≡ b → Was (node h) (leaf_removed other) name now ⊎ IsNew now) (bytes_eq name other)
    (λ _ same. absurd (cc (sym is ∙ ap (λ x. leaf_table name (after_node (leaf_removed x) (node h))) (sym (same_name name other same)) ∙ just-gone name (node h))))
    (λ _ differ.
    inl (was-mapped (node h) (leaf_removed other) name now (leaf-tick _ (λ l. refl) (node h)) differ (table-leaf _ (λ t. t) name (λ l. found-less name other l.tables differ ∙ map-same (found name l.tables)) (node h)) is)) refl
was-or-new h (state_set other state) fits name now is =
    inl (was-mapped (node h) (state_set other state) name now (leaf-tick _ (λ l. refl) (node h)) refl (table-leaf _ _ name (λ l. found-changed name other (in_state state) (λ t. refl) l.tables) (node h)) is)
was-or-new h (copied other under tick) fits name now is =
    inl (was-mapped (node h) (copied other under tick) name now (leaf-tick _ (λ l. refl) (node h)) refl (table-leaf _ _ name (λ l. found-changed name other (with_copy under tick) (λ t. refl) l.tables) (node h)) is)
was-or-new h (applied of_synced tick) fits name now is = of (node h) is
  where
    of : (n : Option Node) → leaf_table name (after_node (applied of_synced tick) n) ≡ Some now → Was n (applied of_synced tick) name now ⊎ IsNew now
    of None e = absurd (cc e)
    of (Some (of_root r)) e = absurd (cc e)
    of (Some (of_leaf l)) e = inl (record { t = now; there = e; is = refl; come = refl; stays = refl })
was-or-new h (applied (copy_of other) tick) fits name now is =
    inl (was-mapped (node h) (applied (copy_of other) tick) name now (leaf-tick _ (λ l. refl) (node h)) refl (table-leaf _ _ name (λ l. found-changed name other (with_tick tick) (λ t. refl) l.tables) (node h)) is)
was-or-new h (restarted table) fits name now is = inl (was-mapped (node h) (restarted table) name now refl refl (map-same (leaf_table name (node h))) is)
was-or-new h (hold_begun hold) fits name now is = inl (was-mapped (node h) (hold_begun hold) name now refl refl (map-same (leaf_table name (node h))) is)
was-or-new h (hold_ended hold) fits name now is = inl (was-mapped (node h) (hold_ended hold) name now refl refl (map-same (leaf_table name (node h))) is)

-- so one that was copied was there
pub was : (h : History) (mark : NodeMark) → NodeFits h mark → (name : List ℕ) (now : LeafTable) → leaf_table name (after_node mark (node h)) ≡ Some now → is_past_copy now.state ≡ true → Was (node h) mark name now
was h mark fits name now is along = elim (was-or-new h mark fits name now is) [
  | inl w ↦ w
  | inr new ↦ absurd (cc (sym along ∙ ap (λ (t : LeafTable). is_past_copy t.state) new.is))
]

-- a table whose copy has just ended
pub copied-there : (name : List ℕ) (under : SnapshotView) (tick : ℕ) (n : Option Node) (t : LeafTable) → leaf_table name n ≡ Some t → leaf_table name (after_node (copied name under tick) n) ≡ Some (with_copy under tick t)
copied-there name under tick n t is =
    table-leaf _ _ name (λ l. found-changed name name (with_copy under tick) (λ x. refl) l.tables) n ∙ ap (option_map (λ (x : LeafTable). if bytes_eq name x.name then with_copy under tick x else x)) is
    ∙ ap (λ b. Some (if b then with_copy under tick t else t)) (has-name name n t is)
