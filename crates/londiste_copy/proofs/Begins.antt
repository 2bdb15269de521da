-- A copy begins: what its calls leave in the two databases.
use Rattle.std.proofs.Common.{◌≡◌, ℕ, ◌+◌, ◌<◌, ◌^◌, Bool, true, false, not, ◌&&◌, ◌==◌, nat_le, List, [], ◌∷◌, ◌++◌, map, length, find, Option, Some, None, is_some, option_map, option_and_then, unwrap_or, Ok, Err, refl, sym, ◌∙◌, ap, subst, arith, if◌then◌else◌}
use Rattle.std.specs.Result.{is_ok}
use Rattle.std.proofs.lemmas.Bool.Decides.{nat_tests}
use Rattle.sky_names.specs.Places.{place_of}
use Rattle.sky_names.proofs.PlaceLemmas.{bytes_eq_refl}
use Rattle.sky_txid.specs.Ids.{contains}
use Rattle.sky_txid.specs.Snapshot.{SnapshotView}
use Rattle.londiste_state.specs.Nodes.{Node, of_root, of_leaf, all_but}
use Rattle.sky_model.specs.declared.reply.Limit.TheVariants.{Consumers}
use Rattle.sky_model.specs.declared.reply.Refusal.{Refusal}
use Rattle.sky_model.specs.declared.reply.Refusal.TheVariants.{ConsumerExists, IdsSpent, TooMany}
use Rattle.sky_model.specs.declared.reply.Reply.TheVariants.{Done, Number}
use Rattle.sky_model.specs.History.{of_copy, began, queued, registered, noded, joined, parted}
use Rattle.sky_model.specs.Rows.{Write}
use Rattle.sky_model.specs.Nodes.{after_node}
use Rattle.sky_model.specs.Queues.{queue_number}
use Rattle.sky_model.specs.Consumers.{Subscription}
use Rattle.sky_model.specs.Copies.{copy_txid, Hold, least_free}
use Rattle.sky_model.specs.State.{Queue, RowPart, after_part, after_part_marks, Database, changed_at, changed_for, after_mark, after_marks}
use Rattle.sky_model.specs.ShownRows.{snapshot_now}
use Rattle.sky_model.specs.OwnTransaction.{next_id}
use Rattle.sky_model.specs.Outcome.{Outcome, Checked, ◌>>=◌, ◌>>◌, refused_if, does_marks, reply_of, marks_of}
use Rattle.sky_model.specs.StepQueue.{newest_id}
use Rattle.sky_model.specs.StepConsumer.{sub_ids_spent}
use Rattle.sky_model.specs.StepCopy.{copy_write, copy_writes, deletions, rows_now, begins_copy}
use Rattle.sky_model.specs.StepNode.{joining, parting, holding, beginning_copy, joins, parts, set_queue, set_queue_of, is_full, table_number, may_copy, if_there, node_does}
use Rattle.sky_model.specs.NodesOfWorld.{columns_called}
use Rattle.sky_model.specs.Hands.{CopyHand}
use Rattle.sky_model.specs.WorkerMoves.{Move, behind_calls}
use Rattle.sky_model.specs.CopyMoves.{held_snapshot, newest_of, first_hand, copy_consumer, next_piece, starts_copy}
use Rattle.sky_model.specs.DatabaseSteps.{IsMade}
use Rattle.sky_model.proofs.LeastNumbers.{least-free}
use Rattle.sky_histories.proofs.NodeDeeds.{is-served}
use Rattle.sky_histories.proofs.MadeCopies.{room-without}
use Rattle.londiste_calls.specs.declared.faults.JoinFault.{JoinFault}
use Rattle.londiste_calls.specs.declared.faults.JoinFault.TheVariants as join
use Rattle.sky_store.specs.Served.{Serves, JoinRefused}
use Rattle.sky_store.proofs.Writing.{tabled-marks}
use Rattle.londiste_batches.specs.Moved.{ServesAll}
use Rattle.londiste_copy.specs.Copying.{SameTable, Begun}
use Rattle.londiste_batches.proofs.Calls.{serves-one, serves-then}

-- ---- the consumer leaves the set's queue

-- then it is registered no longer, and there is room for it; the rows, the holds and the newest tick are as they were
record Parted (p s : Database) (q : ℕ) (consumer : List ℕ) : Type 0 where
  pub part : s.part ≡ p.part
  pub holds : s.holds ≡ p.holds
  pub set : set_queue s ≡ Some q
  pub newest : newest_id (s.queue q) ≡ newest_id (p.queue q)
  pub gone : (s.queue q).sub consumer ≡ None
  pub room : nat_le 256 (length (s.queue q).members) ≡ false
  pub ids : s.last_sub_id ≡ p.last_sub_id

itself : (n : ℕ) → (n == n) ≡ true
itself n = grind (arith, nat_tests)

full-at : (p : Database) (q : ℕ) (consumer : List ℕ) → set_queue p ≡ Some q → is_full p consumer ≡ false → (nat_le 256 (length (p.queue q).members) && not (is_some ((p.queue q).sub consumer))) ≡ false
full-at p q consumer set free =
    sym (ap (λ o. unwrap_or (option_map (λ queue. nat_le 256 (length (p.queue queue).members) && not (is_some ((p.queue queue).sub consumer))) o) false) set) ∙ free

room-none : (b : Bool) (o : Option Subscription) → (b && not (is_some o)) ≡ false → o ≡ None → b ≡ false
room-none true o free none = absurd (let taken : (true && not (is_some o)) ≡ true = ap (λ x. not (is_some x)) none in cc)
room-none false o free none = refl

set-left : (d e : Database) (n : Option Node) (consumer : List ℕ) → e.queues ≡ d.queues → set_queue_of e (after_node (parted consumer) n) ≡ set_queue_of d n
set-left d e None consumer same = refl
set-left d e (Some (of_root r)) consumer same = ap (queue_number r.queue) same
set-left d e (Some (of_leaf l)) consumer same = refl

abbrev left_by : List ℕ → Queue → Queue
left_by consumer x = record x { members = all_but consumer x.members; sub = changed_for consumer (λ _. None) x.sub }

module _ (p : Database) (made : IsMade p) (q : ℕ) (consumer : List ℕ) (set : set_queue p ≡ Some q) (free : is_full p consumer ≡ false) where
  parted-by : (o : Option Subscription) → (p.queue q).sub consumer ≡ o → Parted p (after_marks p (marks_of (parts q consumer o))) q consumer
  parted-by None at = record {
    part = refl;
    holds = refl;
    set = set;
    newest = refl;
    gone = at;
    room = room-none (nat_le 256 (length (p.queue q).members)) ((p.queue q).sub consumer) (full-at p q consumer set free) at;
    ids = refl;
  }
  parted-by (Some sub) at =
      let there : changed_at q (left_by consumer) p.queue q ≡ left_by consumer (p.queue q) = ap (λ b. if b then left_by consumer (p.queue q) else p.queue q) (itself q) in
      let few : length (all_but consumer (p.queue q).members) < 256 = room-without p made q consumer (full-at p q consumer set free) in
      let room : nat_le 256 (length (all_but consumer (p.queue q).members)) ≡ false = grind (arith, nat_tests) in record {
        part = refl;
        holds = refl;
        set = set-left p (after_marks p (marks_of (parts q consumer (Some sub)))) p.node consumer refl ∙ set;
        newest = ap newest_id there;
        gone = ap (λ (x : Queue). x.sub consumer) there ∙ ap (λ b. if b then None else (p.queue q).sub consumer) (bytes_eq_refl consumer);
        room = ap (λ (x : Queue). nat_le 256 (length x.members)) there ∙ room;
        ids = refl;
      }

  parted-as : (s : Database) → Serves p s (parting consumer) → Parted p s q consumer
  parted-as s serves =
      subst (λ d. Parted p d q consumer) (sym (serves.changed ∙ ap (λ o. after_marks p (marks_of (if_there o (λ queue. parts queue consumer ((p.queue queue).sub consumer))))) set))
      (parted-by ((p.queue q).sub consumer) refl)

-- ---- it joins again

-- as nothing refuses it
join-does : (p s : Database) (q : ℕ) (consumer : List ℕ) → Parted p s q consumer → sub_ids_spent p ≡ false → node_does s (joining consumer)
    ≡ does_marks (Number (newest_id (s.queue q))) (queued (registered q consumer (s.last_sub_id + 1) (newest_id (s.queue q))) ∷ noded (joined consumer) ∷ [])
join-does p s q consumer is unspent =
    ap (λ o. if_there o (λ queue. joins s queue consumer)) is.set
    ∙ (λ i. refused_if (is_some (is.gone i)) (ConsumerExists consumer) >> ((refused_if (is.room i) (TooMany Consumers) >> (refused_if (left i) IdsSpent >> registering)) >>= next))
  where
    left : nat_le (2 ^ 64) (s.last_sub_id + 1) ≡ false
    left = ap (λ n. nat_le (2 ^ 64) (n + 1)) is.ids ∙ unspent

    registering : Checked Outcome
    registering = does_marks (Number 1) (queued (registered q consumer (s.last_sub_id + 1) (newest_id (s.queue q))) ∷ [])

    next : Outcome → Checked Outcome
    next o = does_marks (Number (newest_id (s.queue q))) (o.marks ++ noded (joined consumer) ∷ [])

never-refused : (p s : Database) (q : ℕ) (consumer : List ℕ) (refusal : Refusal) → Parted p s q consumer → sub_ids_spent p ≡ false → node_does s (joining consumer) ≡ Err refusal → ⊥
never-refused p s q consumer refusal is unspent refused = let same = sym (join-does p s q consumer is unspent) ∙ refused in absurd (cc)

-- ---- and the present snapshot is held

-- the rows are as they were, and one hold is new, of the present snapshot
record Held (p s : Database) : Type 0 where
  pub rows : s.part ≡ p.part
  pub held : held_snapshot s (least_free (map Hold.number p.holds)) ≡ Some (snapshot_now p.part)

-- the last of some holds has a number that none of the others has
find-new : (n : ℕ) (snapshot : SnapshotView) (holds : List Hold) → contains n (map Hold.number holds) ≡ false
    → option_map Hold.snapshot (find (λ (x : Hold). x.number == n) (holds ++ record { number = n; snapshot = snapshot } ∷ [])) ≡ Some snapshot
find-new n snapshot [] new = ap (λ b. option_map Hold.snapshot (if b then Some (record { number = n; snapshot = snapshot }) else None)) (itself n)
find-new n snapshot (x ∷ holds) new = by (find-new n snapshot holds) (x.number == n) refl
  where
    by : (contains n (map Hold.number holds) ≡ false → option_map Hold.snapshot (find (λ (y : Hold). y.number == n) (holds ++ record { number = n; snapshot = snapshot } ∷ [])) ≡ Some snapshot)
        → (b : Bool) → (x.number == n) ≡ b → option_map Hold.snapshot (find (λ (y : Hold). y.number == n) (x ∷ holds ++ record { number = n; snapshot = snapshot } ∷ [])) ≡ Some snapshot
    by rest true same = let there : contains n (map Hold.number (x ∷ holds)) ≡ true = grind (arith, nat_tests, same) in absurd (cc)
    by rest false other =
        let free : contains n (map Hold.number holds) ≡ false = grind (arith, nat_tests, new) in
        ap (λ b. option_map Hold.snapshot (if b then Some x else find (λ (y : Hold). y.number == n) (holds ++ record { number = n; snapshot = snapshot } ∷ []))) other ∙ rest free

module _ (p s j h : Database) (q : ℕ) (consumer : List ℕ) (is : Parted p s q consumer) (unspent : sub_ids_spent p ≡ false) (returns : Serves s j (joining consumer)) where
  joined-to : j ≡ after_marks s (queued (registered q consumer (s.last_sub_id + 1) (newest_id (s.queue q))) ∷ noded (joined consumer) ∷ [])
  joined-to = returns.changed ∙ ap (λ c. after_marks s (marks_of c)) (join-does p s q consumer is unspent)

  joined-part : j.part ≡ p.part
  joined-part = ap Database.part joined-to ∙ is.part

  joined-holds : j.holds ≡ p.holds
  joined-holds = ap Database.holds joined-to ∙ is.holds

  held-as : Serves j h holding → Held p h
  held-as holds = record {
    rows = ap Database.part holds.changed ∙ joined-part;
    held = ap (λ (d : Database). held_snapshot d (least_free (map Hold.number p.holds))) holds.changed
        ∙ (λ i. option_map Hold.snapshot (find (λ (x : Hold). x.number == least_free (map Hold.number p.holds)) (joined-holds i ++ record { number = least_free (map Hold.number (joined-holds i)); snapshot = snapshot_now (joined-part i) } ∷ [])))
        ∙ find-new (least_free (map Hold.number p.holds)) (snapshot_now p.part) p.holds (least-free (map Hold.number p.holds)).0;
  }

  -- its number
  hold-first : (number : ℕ) → reply_of (node_does j holding) ≡ Number number → number ≡ least_free (map Hold.number p.holds)
  hold-first number answered = let same : least_free (map Hold.number j.holds) ≡ number = cc in sym same ∙ ap (λ hs. least_free (map Hold.number hs)) joined-holds

  -- the tick
  tick-first : (tick : ℕ) → set_queue p ≡ Some q → option_map (λ queue. newest_id (s.queue queue)) (set_queue s) ≡ Some tick → tick ≡ newest_of p
  tick-first tick set newest =
      let same : newest_id (s.queue q) ≡ tick = let at = sym (ap (option_map (λ queue. newest_id (s.queue queue))) is.set) ∙ newest in cc in
      sym same ∙ is.newest ∙ sym (ap (λ o. unwrap_or (option_map (λ queue. newest_id (p.queue queue)) o) 0) set)

-- ---- the rows of the replica's table are deleted

written-tables : (d : RowPart) (table t : ℕ) (ws : List Write) → (after_part_marks d (copy_writes d table t ws)).tables ≡ d.tables
written-tables d table t [] = refl
written-tables d table t (w ∷ ws) = written-tables (after_part d (copy_write d table t w)) table t ws

written-columns : (d : RowPart) (table t : ℕ) (ws : List Write) → (after_part_marks d (copy_writes d table t ws)).columns ≡ d.columns
written-columns d table t [] = refl
written-columns d table t (w ∷ ws) = written-columns (after_part d (copy_write d table t w)) table t ws

written-called : (d : Database) (table t : ℕ) (ws : List Write) (name : List ℕ) → columns_called name (after_marks d (copy_writes d.part table t ws)) ≡ columns_called name d
written-called d table t ws name =
    ap (columns_called name) (tabled-marks d table t ws) ∙ (λ i. option_map (written-columns d.part table t ws i) (place_of name (written-tables d.part table t ws i)))

pub written-names : (d : Database) (table t : ℕ) (ws : List Write) → (after_marks d (copy_writes d.part table t ws)).part.tables ≡ d.part.tables
written-names d table t ws = ap (λ (x : Database). x.part.tables) (tabled-marks d table t ws) ∙ written-tables d.part table t ws

pub written-node : (d : Database) (table t : ℕ) (ws : List Write) → (after_marks d (copy_writes d.part table t ws)).node ≡ d.node
written-node d table t ws = ap Database.node (tabled-marks d table t ws)

-- neither the node nor the tables' names and columns change
record Cleared (r s : Database) (name : List ℕ) : Type 0 where
  pub t : ℕ
  pub left : next_id r.part ≡ Ok t
  pub node : s.node ≡ r.node
  pub tables : s.part.tables ≡ r.part.tables
  pub columns : columns_called name s ≡ columns_called name r

module _ (r : Database) (name : List ℕ) (table : ℕ) (number : table_number r name ≡ Some table) (may : may_copy name r.node ≡ true) (idle : copy_txid table r.copies ≡ None) where
  begins-there : node_does r (beginning_copy name) ≡ begins_copy r table None
  begins-there =
      is-served r (beginning_copy name) may ∙ ap (λ o. if_there o (λ n. begins_copy r n (copy_txid n r.copies))) number ∙ ap (begins_copy r table) idle

  begins-with : (c : Checked ℕ) → next_id r.part ≡ c → node_does r (beginning_copy name)
      ≡ (c >>= (λ u. does_marks Done (began (of_copy table) u ∷ copy_writes (after_part r.part (began (of_copy table) u)) table u (deletions (rows_now r.part table)))))
  begins-with c left =
      begins-there
      ∙ ap (λ x. x >>= (λ u. does_marks Done (began (of_copy table) u ∷ copy_writes (after_part r.part (began (of_copy table) u)) table u (deletions (rows_now r.part table))))) left

  cleared-by : (c : Checked ℕ) → next_id r.part ≡ c → (s : Database) → Serves r s (beginning_copy name) → Cleared r s name
  cleared-by (Err refusal) left s serves = absurd (let none : is_ok (node_does r (beginning_copy name)) ≡ false = ap is_ok (begins-with (Err refusal) left) in cc)
  cleared-by (Ok t) left s serves =
      let one : Database = after_mark r (began (of_copy table) t) in
      let ws : List Write = deletions (rows_now r.part table) in
      let to : s ≡ after_marks one (copy_writes one.part table t ws) = serves.changed ∙ ap (λ c. after_marks r (marks_of c)) (begins-with (Ok t) left) in record {
        t = t;
        left = left;
        node = ap Database.node to ∙ written-node one table t ws;
        tables = ap (λ (x : Database). x.part.tables) to ∙ written-names one table t ws;
        columns = ap (columns_called name) to ∙ written-called one table t ws name;
      }

  cleared : (s : Database) → Serves r s (beginning_copy name) → Cleared r s name
  cleared s serves = cleared-by (next_id r.part) refl s serves

-- ---- all of this together

module _ (p r : Database) (name : List ℕ) where
  abbrev first_move : CopyHand → Move CopyHand
  first_move hand =
      behind_calls (parting (copy_consumer r.node) ∷ joining (copy_consumer r.node) ∷ holding ∷ []) (beginning_copy name ∷ []) (next_piece p name (snapshot_now p.part) hand)

  starts-well : is_full p (copy_consumer r.node) ≡ false → sub_ids_spent p ≡ false → (t : ℕ) → next_id r.part ≡ Ok t → starts_copy p r name ≡ Ok (first_move (first_hand p))
  starts-well free unspent t left = λ i. refused_if (free i) (TooMany Consumers) >> (refused_if (unspent i) IdsSpent >> (left i >>= (λ u. Ok (first_move (first_hand p)))))

module _ (p r : Database) (name consumer : List ℕ) (made : IsMade p) (root : is_some (set_queue p) ≡ true) (of_node : consumer ≡ copy_consumer r.node) (free : is_full p consumer ≡ false) (unspent : sub_ids_spent p ≡ false) where
  refused-not : (s : Database) → Serves p s (parting consumer) → (refusal : Refusal) → node_does s (joining consumer) ≡ Err refusal → ⊥
  refused-not s leaves refusal refused = at (set_queue p) refl root
    where
      at : (o : Option ℕ) → set_queue p ≡ o → is_some o ≡ true → ⊥
      at None set there = absurd (cc)
      at (Some q) set there = never-refused p s q consumer refusal (parted-as p made q consumer set free s leaves) unspent refused

  -- only memory can have run out
  pub not-refused : (s j : Database) → Serves p s (parting consumer) → (fault : JoinFault) → (fault ≡ join.NoMemory → ⊥) → JoinRefused fault s j consumer → ⊥
  not-refused s j leaves join.ConsumerExists other refuses = refused-not s leaves (ConsumerExists consumer) refuses.refused
  not-refused s j leaves join.TooManyConsumers other refuses = refused-not s leaves (TooMany Consumers) refuses.refused
  not-refused s j leaves join.IdsSpent other refuses = refused-not s leaves IdsSpent refuses.refused
  not-refused s j leaves join.NoMemory other refuses = other refl

  module _ (from to : ℕ) (same : SameTable p r name from to) (idle : copy_txid to r.copies ≡ None) (may : may_copy name r.node ≡ true) (s j h c : Database) (number tick : ℕ) (begins : Serves r c (beginning_copy name)) (leaves : Serves p s (parting consumer))
      (newest : option_map (λ queue. newest_id (s.queue queue)) (set_queue s) ≡ Some tick) (returns : Serves s j (joining consumer)) (answered : reply_of (node_does j holding) ≡ Number number) (holds : Serves j h holding) where
    begun-at : (q : ℕ) → set_queue p ≡ Some q → Begun p h r c name (record { hold = number; tick = tick; last = None })
    begun-at q set =
        let is : Parted p s q consumer = parted-as p made q consumer set free s leaves in
        let held : Held p h = held-as p s j h q consumer is unspent returns holds in
        let clear : Cleared r c name = cleared r name to same.here may idle c begins in
        let numbered : number ≡ least_free (map Hold.number p.holds) = hold-first p s j h q consumer is unspent returns number answered in
        let ticked : tick ≡ newest_of p = tick-first p s j h q consumer is unspent returns tick set newest in
        let first : ◌≡◌ {A = CopyHand} (record { hold = number; tick = tick; last = None }) (first_hand p) = (λ i. record { hold = numbered i; tick = ticked i; last = None }) in record {
          allowed = starts-well p r name (subst (λ x. is_full p x ≡ false) of_node free) unspent clear.t clear.left ∙ ap (λ hand. Ok (first_move p r name hand)) (sym first);
          provider = subst (λ x. ServesAll p h (parting x ∷ joining x ∷ holding ∷ [])) of_node
              (serves-then p s h (parting consumer) (joining consumer ∷ holding ∷ []) leaves (serves-then s j h (joining consumer) (holding ∷ []) returns (serves-one j h holding holds)));
          replica = serves-one r c (beginning_copy name) begins;
          first = first;
          held = ap (held_snapshot h) numbered ∙ held.held;
          rows = held.rows;
          node = clear.node;
          tables = clear.tables;
          columns = clear.columns;
        }

    pub begun-as : Begun p h r c name (record { hold = number; tick = tick; last = None })
    begun-as = at (set_queue p) refl root
      where
        at : (o : Option ℕ) → set_queue p ≡ o → is_some o ≡ true → Begun p h r c name (record { hold = number; tick = tick; last = None })
        at None set there = absurd (cc)
        at (Some q) set there = begun-at q set
