-- Where a consumer of a set's queue is that has come to a tick, and the marks that leave it there.
use Rattle.std.proofs.Common.{arith, ◌≡◌, ℕ, ◌==◌, ◌+◌, ◌≤◌, List, [], ◌∷◌, Bool, true, false, not, ◌&&◌, Option, Some, None, IfSome, option_map, bytes_eq, refl, sym, ap, subst, ◌∙◌, if◌then◌else◌}
use Rattle.std.proofs.lemmas.Bool.{not-true}
use Rattle.londiste_state.specs.Nodes.{Root, Leaf, Node, of_root, of_leaf, is_among}
use Rattle.sky_names.proofs.PlaceLemmas.{bytes_eq_refl}
use Rattle.sky_model.specs.History.{Batch, Mark, queued, registered, moved, unregistered, closed, noded, NodeMark, root_made, leaf_made, set_added, set_removed, joined, parted, leaf_added, leaf_removed, state_set, copied, applied, restarted, hold_begun, hold_ended, History}
use Rattle.sky_model.specs.Hands.{BatchHand}
use Rattle.sky_model.specs.Queues.{queues_made, queues}
use Rattle.sky_model.specs.Consumers.{subscription_id, position, last_batch, active_batch, of_another}
use Rattle.sky_model.specs.Nodes.{at_root, at_leaf, after_node, node}
use Rattle.sky_model.specs.Settling.{marked}
use Rattle.sky_histories.proofs.Legal.{queue_of_set, NodeFits, makes, moves, unregisters, opens, closes, drops, nodes, Legal, start, next}
use Rattle.sky_histories.proofs.NodeReadings.{same-node}
use Rattle.sky_histories.proofs.NodeTables.{has-queue}
use Rattle.sky_histories.proofs.SetQueues.{set-made, set-dropped}
use Rattle.sky_histories.proofs.ActiveBatches.{of_another-is}
use Rattle.sky_histories.proofs.TickOrder.{is_made}
use Rattle.sky_histories.proofs.Good.{same-session}
use Rattle.sky_histories.proofs.StatementMarks.{EachMark, each-rest, when-true}
use Rattle.sky_model.proofs.Cases.{by_test, by_same}
use Rattle.sky_laws.proofs.PendingOwners.{legal-before}
use Rattle.sky_laws.proofs.Listings.{made_since}
use Rattle.sky_laws_replicas.proofs.ProvidedTables.{among-push, among-less}
use Rattle.sky_laws_synced.specs.LawsOfOwners.{set_consumers}

-- ---- marks that leave a consumer where it is

-- a consumer is a node's: it is one of the root's
abbrev pub is_of_node : List ℕ → Option Node → Bool
is_of_node c n = is_among c (set_consumers n)

-- whether a mark is none of a consumer of a queue: by it the consumer neither registers nor leaves, and is neither moved nor done with a batch
abbrev pub spares_consumer : ℕ → List ℕ → Mark → Bool
spares_consumer q c (queued (registered p name sub tick)) = not (p == q && bytes_eq c name)
spares_consumer q c (queued (moved p name tick)) = not (p == q && bytes_eq c name)
spares_consumer q c (queued (unregistered p name sub)) = not (p == q && bytes_eq c name)
spares_consumer q c (queued (closed batch)) = not (batch.queue == q && bytes_eq c batch.consumer)
spares_consumer q c (noded (parted name)) = not (bytes_eq name c)
spares_consumer q c mark = true

pub itself : (q : ℕ) (name : List ℕ) → (q == q && bytes_eq name name) ≡ true
itself q name = λ i. same-session q i && bytes_eq_refl name i

-- its subscription and its position are as before
pub record StaysAt (q : ℕ) (c : List ℕ) (h g : History) : Type 0 where
  pub sub : subscription_id q c g ≡ subscription_id q c h
  pub position : position q c g ≡ position q c h

pub stays-at : (q : ℕ) (c : List ℕ) (h : History) (mark : Mark) → spares_consumer q c mark ≡ true → StaysAt q c h (mark ∷ h)
stays-at q c h (queued (registered p name sub tick)) e =
    let other : (p == q && bytes_eq c name) ≡ false = not-true (p == q && bytes_eq c name) e in
    record { sub = ap (λ b. if b then Some sub else subscription_id q c h) other; position = ap (λ b. if b then tick else position q c h) other }
stays-at q c h (queued (moved p name tick)) e =
    let other : (p == q && bytes_eq c name) ≡ false = not-true (p == q && bytes_eq c name) e in
    record { sub = refl; position = ap (λ b. if b then tick else position q c h) other }
stays-at q c h (queued (unregistered p name sub)) e =
    let other : (p == q && bytes_eq c name) ≡ false = not-true (p == q && bytes_eq c name) e in
    record { sub = ap (λ b. if b then None else subscription_id q c h) other; position = ap (λ b. if b then 0 else position q c h) other }
stays-at q c h (queued (closed batch)) e =
    let other : (batch.queue == q && bytes_eq c batch.consumer) ≡ false = not-true (batch.queue == q && bytes_eq c batch.consumer) e in
    record { sub = refl; position = ap (λ b. if b then batch.cur else position q c h) other }
stays-at q c h mark e = record { sub = refl; position = refl }

-- the queue of a set stays
set-noded : (h : History) (mark : NodeMark) → NodeFits h mark → (q : ℕ) → queue_of_set (queues h) (node h) ≡ Some q → queue_of_set (queues h) (after_node mark (node h)) ≡ Some q
set-noded h (root_made name queue) fits q is = absurd (cc (sym is ∙ ap (queue_of_set (queues h)) fits.0))
set-noded h (leaf_made name provider tick) fits q is = absurd (cc (sym is ∙ ap (queue_of_set (queues h)) fits.0))
set-noded h mark fits q is = (same-node mark refl (node h)).set (queues h) ∙ is

pub set-stays : (h : History) (mark : Mark) → Legal (mark ∷ h) → (q : ℕ) → queue_of_set (queues h) (node h) ≡ Some q → queue_of_set (queues (mark ∷ h)) (node (mark ∷ h)) ≡ Some q
set-stays h _ (next l (nodes mark fits)) q is = set-noded h mark fits q is
set-stays h _ (next l (makes name t time new)) q is = set-made (queues h) (record { number = queues_made h; name = name }) (node h) (has-queue h l) ∙ is
set-stays h _ (next l (drops p none untold idle aside)) q is = set-dropped (queues h) p (node h) (has-queue h l) aside ∙ is
set-stays h _ (next l _) q is = is

-- ids of active batches were given
given-batch : (h : History) → Legal h → (id : ℕ) (b : Batch) → active_batch id h ≡ Some b → id ≤ last_batch h
given-batch [] start id b is = absurd (cc is)
given-batch _ (next {h = h} l (opens new o)) id b is =
    by_same (λ x. (if x then Some new else active_batch id h) ≡ Some b → id ≤ new.id) new.id id (λ same _. omega (arith, same))
    (λ _ was. let low = given-batch h l id b was in omega (arith, low, o.fresh)) is
given-batch _ (next {h = h} l (closes last was)) id b is =
    by_test (λ x. (if x then None else active_batch id h) ≡ Some b → id ≤ last_batch h) (last.id == id) (λ _ none. absurd (cc none)) (λ _ there. given-batch h l id b there) is
given-batch _ (next {h = h} l (moves p name sub t i has least most low)) id b is = given-batch h l id b (of_another-is p name (active_batch id h) b is).0
given-batch _ (next {h = h} l (unregisters p name sub i has)) id b is = given-batch h l id b (of_another-is p name (active_batch id h) b is).0
given-batch _ (next {h = h} l _) id b is = given-batch h l id b is

-- an active batch stays
pub active-stays : (h : History) (mark : Mark) → Legal (mark ∷ h) → (id : ℕ) (b : Batch) → spares_consumer b.queue b.consumer mark ≡ true → active_batch id h ≡ Some b → active_batch id (mark ∷ h) ≡ Some b
active-stays h _ (next l (opens new o)) id b e is =
    by_same (λ x. (if x then Some new else active_batch id h) ≡ Some b) new.id id (λ same. let low = given-batch h l id b is in absurd (omega (arith, same, low, o.fresh))) (λ _. is)
active-stays h _ (next l (closes last was)) id b e is =
    by_same (λ x. (if x then None else active_batch id h) ≡ Some b) last.id id
    (λ same.
    let one : last ≡ b = cc (sym was ∙ ap (λ n. active_batch n h) same ∙ is) in
    absurd (cc (sym (not-true (last.queue == b.queue && bytes_eq b.consumer last.consumer) e) ∙ ap (λ (x : Batch). x.queue == b.queue && bytes_eq b.consumer x.consumer) one ∙ itself b.queue b.consumer)))
    (λ _. is)
active-stays h _ (next l (moves p name sub t i has least most low)) id b e is =
    ap (of_another p name) is ∙ ap (λ x. if x then None else Some b) (not-true (p == b.queue && bytes_eq b.consumer name) e)
active-stays h _ (next l (unregisters p name sub i has)) id b e is =
    ap (of_another p name) is ∙ ap (λ x. if x then None else Some b) (not-true (p == b.queue && bytes_eq b.consumer name) e)
active-stays h _ (next l _) id b e is = is

-- a node's consumer stays one
root-keeps : (c : List ℕ) (f : Root → Root) (n : Option Node) → ((r : Root) → is_among c r.consumers ≡ true → is_among c (f r).consumers ≡ true) → is_of_node c n ≡ true → is_of_node c (option_map (at_root f) n) ≡ true
root-keeps c f None keeps is = absurd (cc is)
root-keeps c f (Some (of_leaf l)) keeps is = absurd (cc is)
root-keeps c f (Some (of_root r)) keeps is = keeps r is

leaf-keeps : (c : List ℕ) (f : Leaf → Leaf) (n : Option Node) → is_of_node c n ≡ true → is_of_node c (option_map (at_leaf f) n) ≡ true
leaf-keeps c f None is = absurd (cc is)
leaf-keeps c f (Some (of_root r)) is = is
leaf-keeps c f (Some (of_leaf l)) is = absurd (cc is)

node-noded : (h : History) (mark : NodeMark) → NodeFits h mark → (q : ℕ) (c : List ℕ) → spares_consumer q c (noded mark) ≡ true → is_of_node c (node h) ≡ true → is_of_node c (after_node mark (node h)) ≡ true
node-noded h (root_made name queue) fits q c e is = absurd (cc (sym is ∙ ap (is_of_node c) fits.0))
node-noded h (leaf_made name provider tick) fits q c e is = absurd (cc (sym is ∙ ap (is_of_node c) fits.0))
node-noded h (set_added table) fits q c e is = root-keeps c _ (node h) (λ r among. among) is
node-noded h (set_removed table) fits q c e is = root-keeps c _ (node h) (λ r among. among) is
node-noded h (joined name) fits q c e is = root-keeps c _ (node h) (λ r among. among-push c name r.consumers among) is
node-noded h (parted name) fits q c e is = root-keeps c _ (node h) (λ r among. among-less c name r.consumers (not-true (bytes_eq name c) e) among) is
node-noded h (leaf_added table) fits q c e is = leaf-keeps c _ (node h) is
node-noded h (leaf_removed table) fits q c e is = leaf-keeps c _ (node h) is
node-noded h (state_set table state) fits q c e is = leaf-keeps c _ (node h) is
node-noded h (copied table snapshot tick) fits q c e is = leaf-keeps c _ (node h) is
node-noded h (applied pick tick) fits q c e is = leaf-keeps c _ (node h) is
node-noded h (restarted table) fits q c e is = is
node-noded h (hold_begun hold) fits q c e is = is
node-noded h (hold_ended hold) fits q c e is = is

pub node-stays : (h : History) (mark : Mark) → Legal (mark ∷ h) → (q : ℕ) (c : List ℕ) → spares_consumer q c mark ≡ true → is_of_node c (node h) ≡ true → is_of_node c (node (mark ∷ h)) ≡ true
node-stays h _ (next l (nodes mark fits)) q c e is = node-noded h mark fits q c e is
node-stays h _ (next l _) q c e is = is

-- ---- a consumer that has come to a tick

-- what its worker has in hand is its active batch; if that is done, the tick is the closing one
pub record InHand (h : History) (q : ℕ) (c : List ℕ) (sub tick : ℕ) (b : BatchHand) : Type 0 where
  pub active : active_batch b.id h ≡ Some (record { id = b.id; queue = q; consumer = c; sub = sub; prev = b.prev; cur = b.cur })
  pub done : b.is_done ≡ true → tick ≡ b.cur

-- a node's consumer is registered at the set's queue; the tick is its position or the next one, and was made
pub record Following (h : History) (q : ℕ) (c : List ℕ) (tick : ℕ) (hand : Option BatchHand) : Type 0 where
  pub of_set : queue_of_set (queues h) (node h) ≡ Some q
  pub is_nodes : is_of_node c (node h) ≡ true
  pub sub : ℕ
  pub registered : subscription_id q c h ≡ Some sub
  pub from : position q c h ≤ tick
  pub upto : tick ≤ position q c h + 1
  pub made : is_made q tick h ≡ true
  pub in_hand : IfSome hand (InHand h q c sub tick)

hand-stays : (h : History) (mark : Mark) → Legal (mark ∷ h) → (q : ℕ) (c : List ℕ) (sub tick : ℕ) (hand : Option BatchHand) → spares_consumer q c mark ≡ true → IfSome hand (InHand h q c sub tick)
    → IfSome hand (InHand (mark ∷ h) q c sub tick)
hand-stays h mark l q c sub tick None e in_hand = tt
hand-stays h mark l q c sub tick (Some b) e in_hand = record { active = active-stays h mark l b.id _ e in_hand.active; done = in_hand.done }

pub following-mark : (h : History) (mark : Mark) (q : ℕ) (c : List ℕ) (tick : ℕ) (hand : Option BatchHand) → Legal (mark ∷ h) → spares_consumer q c mark ≡ true → Following h q c tick hand → Following (mark ∷ h) q c tick hand
following-mark h mark q c tick hand l e f =
    let s : StaysAt q c h (mark ∷ h) = stays-at q c h mark e in
    record {
      of_set = set-stays h mark l q f.of_set;
      is_nodes = node-stays h mark l q c e f.is_nodes;
      sub = f.sub;
      registered = s.sub ∙ f.registered;
      from = subst (λ n. n ≤ tick) (sym s.position) f.from;
      upto = subst (λ n. tick ≤ n + 1) (sym s.position) f.upto;
      made = made_since q tick (mark ∷ []) h f.made;
      in_hand = hand-stays h mark l q c f.sub tick hand e f.in_hand;
    }

pub following-marks : (h : History) (marks : List Mark) (q : ℕ) (c : List ℕ) (tick : ℕ) (hand : Option BatchHand) → Legal (marked h marks) → EachMark (spares_consumer q c) marks → Following h q c tick hand → Following (marked h marks) q c tick hand
following-marks h [] q c tick hand l each f = f
following-marks h (mark ∷ marks) q c tick hand l each f =
    following-marks (mark ∷ h) marks q c tick hand l (each-rest (spares_consumer q c) mark marks each)
    (following-mark h mark q c tick hand (legal-before (mark ∷ h) marks l) (when-true (EachMark (spares_consumer q c) marks) (spares_consumer q c mark) each) f)

-- a worker that has lost what it had in hand
pub empty-handed : (h : History) (q : ℕ) (c : List ℕ) (tick : ℕ) (hand : Option BatchHand) → Following h q c tick hand → Following h q c tick None
empty-handed h q c tick hand f = record { of_set = f.of_set; is_nodes = f.is_nodes; sub = f.sub; registered = f.registered; from = f.from; upto = f.upto; made = f.made; in_hand = tt }
