-- What marks of a node leave of it: whether it is a root or a leaf, its tables, and the queue of its set.
use Rattle.std.proofs.Common.{◌≡◌, ◌⊎◌, inl, inr, ℕ, Bool, true, false, not, List, [], ◌∷◌, ◌++◌, Option, Some, None, is_none, option_map, map, filter, bytes_eq, refl, sym, ◌∙◌, ap, if◌then◌else◌}
use Rattle.londiste_state.specs.Nodes.{LeafTable, Root, Leaf, Node, of_root, of_leaf, all_but, changed_in, new_table}
use Rattle.sky_model.specs.History.{NodeMark, root_made, set_added, set_removed, joined, parted, leaf_made, leaf_added, leaf_removed, state_set, copied, applied, restarted, of_synced, copy_of, History, hold_begun, hold_ended}
use Rattle.sky_model.specs.Nodes.{at_root, at_leaf, after_node, node, is_root, is_leaf, set_tables, leaf_tables}
use Rattle.sky_model.specs.Queues.{NamedQueue, queue_number}
use Rattle.sky_model.specs.State.{Database}
use Rattle.sky_model.specs.StepNode.{set_queue, set_queue_of}
use Rattle.sky_histories.proofs.Legal.{queue_of_set, AllWritable, NodeFits}
use Rattle.sky_model.proofs.Cases.{by_test}

-- the queue of a database's set is that of its node's
set-of : (d : Database) (n : Option Node) → set_queue_of d n ≡ queue_of_set d.queues n
set-of d None = refl
set-of d (Some (of_root r)) = refl
set-of d (Some (of_leaf l)) = refl

pub set-number : (d : Database) → set_queue d ≡ queue_of_set d.queues d.node
set-number d = set-of d d.node

-- none is no node
pub no-node : (n : Option Node) → is_none n ≡ true → n ≡ None
no-node None is = refl
no-node (Some n) is = absurd (cc)

-- ---- a change of a root, or of a leaf

-- a node is of the same kind, and its set has the same queue
pub record IsSameNode (n m : Option Node) : Type 0 where
  pub root : is_root m ≡ is_root n
  pub leaf : is_leaf m ≡ is_leaf n
  pub set : (queues : List NamedQueue) → queue_of_set queues m ≡ queue_of_set queues n

itself : (n : Option Node) → IsSameNode n n
itself n = record { root = refl; leaf = refl; set = λ queues. refl }

root-changed : (f : Root → Root) → ((r : Root) → (f r).queue ≡ r.queue) → (n : Option Node) → IsSameNode n (option_map (at_root f) n)
root-changed f same None = itself None
root-changed f same (Some (of_root r)) = record { root = refl; leaf = refl; set = λ queues. ap (λ name. queue_number name queues) (same r) }
root-changed f same (Some (of_leaf l)) = itself (Some (of_leaf l))

leaf-changed : (f : Leaf → Leaf) → (n : Option Node) → IsSameNode n (option_map (at_leaf f) n)
leaf-changed f None = itself None
leaf-changed f (Some (of_root r)) = itself (Some (of_root r))
leaf-changed f (Some (of_leaf l)) = record { root = refl; leaf = refl; set = λ queues. refl }

-- whether a mark makes no node
abbrev pub is_change : NodeMark → Bool
is_change (root_made name queue) = false
is_change (leaf_made name provider tick) = false
is_change _ = true

pub same-node : (mark : NodeMark) → is_change mark ≡ true → (n : Option Node) → IsSameNode n (after_node mark n)
same-node (root_made name queue) e n = absurd (cc)
same-node (leaf_made name provider tick) e n = absurd (cc)
same-node (set_added table) e n = root-changed _ (λ r. refl) n
same-node (set_removed table) e n = root-changed _ (λ r. refl) n
same-node (joined consumer) e n = root-changed _ (λ r. refl) n
same-node (parted consumer) e n = root-changed _ (λ r. refl) n
same-node (leaf_added table) e n = leaf-changed _ n
same-node (leaf_removed table) e n = leaf-changed _ n
same-node (state_set table state) e n = leaf-changed _ n
same-node (copied table snapshot tick) e n = leaf-changed _ n
same-node (applied pick tick) e n = leaf-changed _ n
same-node (restarted table) e n = itself n
same-node (hold_begun hold) e n = itself n
same-node (hold_ended hold) e n = itself n

-- a leaf was one before, or nothing was read-only
pub leaf-before : (h : History) (mark : NodeMark) → NodeFits h mark → is_leaf (after_node mark (node h)) ≡ true → (is_leaf (node h) ≡ true) ⊎ AllWritable h
leaf-before h (root_made name queue) fits leaf = absurd (cc)
leaf-before h (leaf_made name provider tick) fits leaf = inr fits.1
leaf-before h (set_added table) fits leaf = inl (sym (same-node (set_added table) refl (node h)).leaf ∙ leaf)
leaf-before h (set_removed table) fits leaf = inl (sym (same-node (set_removed table) refl (node h)).leaf ∙ leaf)
leaf-before h (joined consumer) fits leaf = inl (sym (same-node (joined consumer) refl (node h)).leaf ∙ leaf)
leaf-before h (parted consumer) fits leaf = inl (sym (same-node (parted consumer) refl (node h)).leaf ∙ leaf)
leaf-before h (leaf_added table) fits leaf = inl (sym (same-node (leaf_added table) refl (node h)).leaf ∙ leaf)
leaf-before h (leaf_removed table) fits leaf = inl (sym (same-node (leaf_removed table) refl (node h)).leaf ∙ leaf)
leaf-before h (state_set table state) fits leaf = inl (sym (same-node (state_set table state) refl (node h)).leaf ∙ leaf)
leaf-before h (copied table snapshot tick) fits leaf = inl (sym (same-node (copied table snapshot tick) refl (node h)).leaf ∙ leaf)
leaf-before h (applied pick tick) fits leaf = inl (sym (same-node (applied pick tick) refl (node h)).leaf ∙ leaf)
leaf-before h (restarted table) fits leaf = inl leaf
leaf-before h (hold_begun hold) fits leaf = inl leaf
leaf-before h (hold_ended hold) fits leaf = inl leaf

-- a leaf stays one
pub leaf-stays : (h : History) (mark : NodeMark) → NodeFits h mark → is_leaf (node h) ≡ true → is_leaf (after_node mark (node h)) ≡ true
leaf-stays h (root_made name queue) fits leaf = absurd (cc (sym leaf ∙ ap is_leaf fits.0))
leaf-stays h (leaf_made name provider tick) fits leaf = absurd (cc (sym leaf ∙ ap is_leaf fits.0))
leaf-stays h mark fits leaf = (same-node mark refl (node h)).leaf ∙ leaf

-- ---- the tables of a node

map-push : (ts : List LeafTable) (t : LeafTable) → map LeafTable.name (ts ++ t ∷ []) ≡ map LeafTable.name ts ++ t.name ∷ []
map-push [] t = refl
map-push (x ∷ xs) t = ap (λ names. x.name ∷ names) (map-push xs t)

map-removed : (name : List ℕ) (ts : List LeafTable) → map LeafTable.name (filter (λ t. not (bytes_eq name t.name)) ts) ≡ all_but name (map LeafTable.name ts)
map-removed name [] = refl
map-removed name (x ∷ xs) =
    by_test (λ b. map LeafTable.name (if b then x ∷ filter (λ t. not (bytes_eq name t.name)) xs else filter (λ t. not (bytes_eq name t.name)) xs)
    ≡ (if b then x.name ∷ all_but name (map LeafTable.name xs) else all_but name (map LeafTable.name xs))) (not (bytes_eq name x.name))
    (λ _. ap (λ names. x.name ∷ names) (map-removed name xs)) (λ _. map-removed name xs)

map-changed : (name : List ℕ) (change : LeafTable → LeafTable) → ((t : LeafTable) → (change t).name ≡ t.name) → (ts : List LeafTable) → map LeafTable.name (changed_in name change ts) ≡ map LeafTable.name ts
map-changed name change same [] = refl
map-changed name change same (x ∷ xs) = λ i. first (bytes_eq name x.name) i ∷ map-changed name change same xs i
  where
    first : (b : Bool) → (if b then change x else x).name ≡ x.name
    first true = same x
    first false = refl

pub set-listed : (n : Option Node) (table : List ℕ) → is_root n ≡ true → set_tables (after_node (set_added table) n) ≡ set_tables n ++ table ∷ []
set-listed None table is = absurd (cc)
set-listed (Some (of_root r)) table is = refl
set-listed (Some (of_leaf l)) table is = absurd (cc)

pub set-unlisted : (n : Option Node) (table : List ℕ) → set_tables (after_node (set_removed table) n) ≡ all_but table (set_tables n)
set-unlisted None table = refl
set-unlisted (Some (of_root r)) table = refl
set-unlisted (Some (of_leaf l)) table = refl

pub leaf-added : (n : Option Node) (table : List ℕ) → is_leaf n ≡ true → leaf_tables (after_node (leaf_added table) n) ≡ leaf_tables n ++ table ∷ []
leaf-added None table is = absurd (cc)
leaf-added (Some (of_root r)) table is = absurd (cc)
leaf-added (Some (of_leaf l)) table is = map-push l.tables (new_table table)

pub leaf-removed : (n : Option Node) (table : List ℕ) → leaf_tables (after_node (leaf_removed table) n) ≡ all_but table (leaf_tables n)
leaf-removed None table = refl
leaf-removed (Some (of_root r)) table = refl
leaf-removed (Some (of_leaf l)) table = map-removed table l.tables

-- both have the tables that they had
pub record HasSameTables (n m : Option Node) : Type 0 where
  pub set : set_tables m ≡ set_tables n
  pub leaf : leaf_tables m ≡ leaf_tables n

-- a root's mark leaves the tables of a leaf, and a leaf's those of a set
pub leaf-other : (f : Root → Root) (n : Option Node) → leaf_tables (option_map (at_root f) n) ≡ leaf_tables n
leaf-other f None = refl
leaf-other f (Some (of_root r)) = refl
leaf-other f (Some (of_leaf l)) = refl

pub set-other : (f : Leaf → Leaf) (n : Option Node) → set_tables (option_map (at_leaf f) n) ≡ set_tables n
set-other f None = refl
set-other f (Some (of_root r)) = refl
set-other f (Some (of_leaf l)) = refl

same-itself : (n : Option Node) → HasSameTables n n
same-itself n = record { set = refl; leaf = refl }

consumers-changed : (f : Root → Root) → ((r : Root) → (f r).tables ≡ r.tables) → (n : Option Node) → HasSameTables n (option_map (at_root f) n)
consumers-changed f same None = same-itself None
consumers-changed f same (Some (of_root r)) = record { set = same r; leaf = refl }
consumers-changed f same (Some (of_leaf l)) = same-itself (Some (of_leaf l))

states-changed : (f : Leaf → Leaf) → ((l : Leaf) → map LeafTable.name (f l).tables ≡ map LeafTable.name l.tables) → (n : Option Node) → HasSameTables n (option_map (at_leaf f) n)
states-changed f same None = same-itself None
states-changed f same (Some (of_root r)) = same-itself (Some (of_root r))
states-changed f same (Some (of_leaf l)) = record { set = refl; leaf = same l }

-- whether by a mark no node is made, and no table joins or leaves
abbrev pub keeps_tables : NodeMark → Bool
keeps_tables (joined consumer) = true
keeps_tables (parted consumer) = true
keeps_tables (state_set table state) = true
keeps_tables (copied table snapshot tick) = true
keeps_tables (applied pick tick) = true
keeps_tables (restarted table) = true
keeps_tables (hold_begun hold) = true
keeps_tables (hold_ended hold) = true
keeps_tables _ = false

pub same-tables : (mark : NodeMark) → keeps_tables mark ≡ true → (n : Option Node) → HasSameTables n (after_node mark n)
same-tables (joined consumer) e n = consumers-changed _ (λ r. refl) n
same-tables (parted consumer) e n = consumers-changed _ (λ r. refl) n
same-tables (state_set table state) e n = states-changed _ (λ l. map-changed table _ (λ t. refl) l.tables) n
same-tables (copied table snapshot tick) e n = states-changed _ (λ l. map-changed table _ (λ t. refl) l.tables) n
same-tables (applied of_synced tick) e n = states-changed _ (λ l. refl) n
same-tables (applied (copy_of table) tick) e n = states-changed _ (λ l. map-changed table _ (λ t. refl) l.tables) n
same-tables (restarted table) e n = same-itself n
same-tables (hold_begun hold) e n = same-itself n
same-tables (hold_ended hold) e n = same-itself n
same-tables _ e n = absurd (cc)
