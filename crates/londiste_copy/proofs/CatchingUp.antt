-- Moves of a table that catches up and is handed over, and a whole move by what is done in the table's state.
use Rattle.std.proofs.Common.{◌≡◌, ◌↔◌, ℕ, zero, suc, ◌+◌, ◌<◌, Bool, true, false, not, ◌||◌, ◌&&◌, List, [], ◌∷◌, Option, Some, None, is_some, option_map, option_and_then, ◌==◌, Result, IfOk, unwrap_or, find, bytes_eq, Ok, Err, refl, sym, ◌∙◌, ap, subst, arith, if◌then◌else◌}
use Rattle.std.specs.Prelude.{IsTrue, IfErr, get_or}
use Rattle.std.specs.Result.{IsErrAnd}
use Rattle.std.specs.List.{list_all, range_with_len}
use Rattle.std.proofs.lemmas.Bool.Decides.{nat_tests}
use Rattle.std.proofs.lemmas.List.Folds.{list_all_at}
use Rattle.std.proofs.lemmas.List.FromFn.{length-range_with_len, get_or-range_with_len}
use Rattle.sky_names.proofs.PlaceLemmas.{same_name}
use Rattle.sky_txid.specs.Snapshot.{SnapshotView, is_snapshot, sees, Covers}
use Rattle.londiste_state.specs.declared.state.TableState.{TableState}
use Rattle.londiste_state.specs.declared.state.TableState.TheVariants.{Absent, InCopy, CatchingUp, WannaSync, DoSync, Synced}
use Rattle.londiste_state.specs.Nodes.{LeafTable, Node, of_root, of_leaf, table_of, new_table}
use Rattle.sky_model.specs.declared.reply.Reply.{Reply}
use Rattle.sky_model.specs.declared.reply.Reply.TheVariants.{AwaitsTable, TableMoved}
use Rattle.sky_model.specs.Hands.{BatchHand, Hand, of_copy, of_batch, copy_in, batch_in}
use Rattle.sky_model.specs.History.{copy_of}
use Rattle.sky_model.specs.Outcome.{Checked}
use Rattle.sky_model.specs.State.{Database}
use Rattle.sky_model.specs.StepNode.{moving, parting}
use Rattle.sky_model.specs.StepApply.{may_apply}
use Rattle.sky_model.specs.WorkerMoves.{Move, handing, moves_to, only_prints}
use Rattle.sky_model.specs.BatchMoves.{Follower, goes_through, takes_next}
use Rattle.sky_model.specs.CopyMoves.{catches_up, copier, copy_consumer, copy_running, covers, starts_or_continues, hands_over, has_caught_up, if_copied, table_at, table_move, moves_in, copy_move, goes_through_or}
use Rattle.sky_model.proofs.Cases.{by_test}
use Rattle.londiste_calls.specs.declared.faults.WorkerFault.{WorkerFault}
use Rattle.londiste_calls.specs.declared.faults.WorkerFault.TheVariants as fault
use Rattle.sky_store.specs.Served.{Serves}
use Rattle.londiste_batches.specs.Moved.{ServesAll, MovesBy, MoveRefused}
use Rattle.londiste_batches.proofs.Calls.{serves-none, serves-one}
use Rattle.londiste_copy.specs.CatchingUp.{is_following, the_table, without_batch}

-- ---- whether a snapshot covers another

all-range : (p : ℕ → Bool) → ((t : ℕ) → p t ≡ true) → (a n : ℕ) → list_all p (range_with_len a n) ≡ true
all-range p holds a zero = refl
all-range p holds a (suc n) = λ i. holds a i && all-range p holds (a + 1) n i

-- a snapshot sees only ids below its upper bound
seen-below : (s : SnapshotView) → is_snapshot s ≡ true → (t : ℕ) → sees s t ≡ true → t < s.xmax
seen-below s sound t seen = grind (arith, nat_tests, sound, seen)

-- so those below decide
pub covers-is : (a b : SnapshotView) → is_snapshot b ≡ true → (r : Bool) → (IsTrue r ↔ Covers a b) → r ≡ covers a b
covers-is a b sound true says = sym (all-range (λ t. not (sees b t) || sees a t) (λ t. by_test (λ x. sees b t ≡ x → (not x || sees a t) ≡ true) (sees b t) (λ _ seen. says.0 refl t seen) (λ _ _. refl) refl) 0 b.xmax)
covers-is a b sound false says =
    by_test (λ x. covers a b ≡ x → false ≡ x) (covers a b)
    (λ _ is. says.1 (λ t seen. by_test (λ x. sees a t ≡ x → x ≡ true) (sees a t) (λ _ _. refl) (λ _ unseen.
    let below = seen-below b sound t seen in
    let plus : 0 + t ≡ t = omega arith in
    let there : get_or (range_with_len 0 b.xmax) t 0 ≡ t = get_or-range_with_len 0 b.xmax t 0 below ∙ plus in
    let fails : (not (sees b t) || sees a t) ≡ false = (λ i. not (seen i) || unseen i) in
    absurd (cc (sym is ∙ list_all_at (λ t. not (sees b t) || sees a t) (range_with_len 0 b.xmax) t 0 (subst (λ n. t < n) (sym (length-range_with_len 0 b.xmax)) below) (ap (λ u. not (sees b u) || sees a u) there ∙ fails)))) refl)) (λ _ _. refl) refl

-- ---- the table

found-named : (name : List ℕ) (ts : List LeafTable) (t : LeafTable) → find (λ (x : LeafTable). bytes_eq name x.name) ts ≡ Some t → t.name ≡ name
found-named name [] t is = absurd (cc)
found-named name (x ∷ ts) t is =
    by_test (λ b. bytes_eq name x.name ≡ b → (if b then Some x else find (λ (y : LeafTable). bytes_eq name y.name) ts) ≡ Some t → t.name ≡ name) (bytes_eq name x.name)
    (λ _ here is. let same : x ≡ t = cc in ap LeafTable.name (sym same) ∙ sym (same_name name x.name here)) (λ _ _ is. found-named name ts t is) refl is

-- it has the name
pub name-of : (table : List ℕ) (n : Option Node) → (the_table table n).name ≡ table
name-of table None = refl
name-of table (Some (of_root r)) = refl
name-of table (Some (of_leaf l)) = by (table_of table l) refl
  where
    by : (o : Option LeafTable) → table_of table l ≡ o → (unwrap_or o (new_table table)).name ≡ table
    by None is = refl
    by (Some t) is = found-named table l.tables t is

-- ---- what is done with nothing in hand

module _ (p r : Database) (t : LeafTable) where
  pub waits-now : has_caught_up p t ≡ true → catches_up p r t ≡ moves_to (WannaSync t.tick) t.name
  waits-now is = ap (λ b. if b then moves_to (WannaSync t.tick) t.name else takes_next p (copier r.node t)) is

  abbrev leaves : Checked (Move BatchHand)
  leaves = Ok (record { provider = parting (copy_consumer r.node) ∷ []; replica = moving t.name Synced ∷ []; replies = TableMoved t.name Synced ∷ []; hand = None })

  pub leaves-now : (tick : ℕ) → t.tick ≡ tick → hands_over p r tick t ≡ leaves
  leaves-now tick is = let same : (t.tick == tick) ≡ true = grind (arith, nat_tests, is) in ap (λ b. if b then leaves else takes_next p (copier r.node t)) same

-- ---- a whole move

-- is what is done in its state
pub move-in : (p r : Database) (table : List ℕ) (hand : Option Hand) (state : TableState) → (the_table table r.node).state ≡ state
    → copy_move p r table hand ≡ moves_in state p r (the_table table r.node) hand
move-in p r table hand state is = by (table_at table r.node) ∙ ap (λ s. moves_in s p r (the_table table r.node) hand) is
  where
    by : (o : Option LeafTable) → table_move p r table o hand ≡ moves_in (unwrap_or o (new_table table)).state p r (unwrap_or o (new_table table)) hand
    by None = refl
    by (Some t) = refl

-- of a table that goes through batches
pub move-following : (p r : Database) (table : List ℕ) (hand : Option Hand) (state : TableState) → (the_table table r.node).state ≡ state → is_following state ≡ true
    → copy_move p r table hand ≡ if_copied (the_table table r.node) hand (goes_through_or p r (the_table table r.node) (batch_in hand) (without_batch state p r (the_table table r.node)))
move-following p r table hand state is follows = move-in p r table hand state is ∙ by state follows
  where
    by : (s : TableState) → is_following s ≡ true
        → moves_in s p r (the_table table r.node) hand ≡ if_copied (the_table table r.node) hand (goes_through_or p r (the_table table r.node) (batch_in hand) (without_batch s p r (the_table table r.node)))
    by CatchingUp follows = refl
    by (DoSync tick) follows = refl
    by Absent follows = absurd (cc)
    by InCopy follows = absurd (cc)
    by (WannaSync bound) follows = absurd (cc)
    by Synced follows = absurd (cc)

-- with what is in hand said another way
pub handed : {H I : Type 0} (kind : H → I) (checked : Checked (Move H)) (p p_new r r_new : Database) (replies : List Reply) (hand : Option H) (now : Option I) → now ≡ option_map kind hand
    → MovesBy checked p p_new r r_new replies hand → MovesBy (handing kind checked) p p_new r r_new replies now
handed kind checked p p_new r r_new replies hand now same moves =
    let m = moves.move in record {
      move = record { provider = m.provider; replica = m.replica; replies = m.replies; hand = option_map kind m.hand };
      is = ap (handing kind) moves.is;
      moved = record {
        provider = moves.moved.provider;
        replica = moves.moved.replica;
        printed = moves.moved.printed;
        in_hand = same ∙ ap (option_map kind) moves.moved.in_hand;
      };
    }

-- or it is refused
pub handed-refused : {H I : Type 0} (kind : H → I) (f : WorkerFault) (checked : Checked (Move H)) (p p_new r r_new : Database) (hand : Option H) (other : Option I)
    → MoveRefused f checked p p_new r r_new hand hand → MoveRefused f (handing kind checked) p p_new r r_new other other
handed-refused kind fault.TooManyConsumers checked p p_new r r_new hand other refused = record { refused = ap (handing kind) refused.refused; same = λ i. ((refused.same i).0, (refused.same i).1, other) }
handed-refused kind fault.IdsSpent checked p p_new r r_new hand other refused = record { refused = ap (handing kind) refused.refused; same = λ i. ((refused.same i).0, (refused.same i).1, other) }
handed-refused kind fault.TxidsSpent checked p p_new r r_new hand other refused = record { refused = ap (handing kind) refused.refused; same = λ i. ((refused.same i).0, (refused.same i).1, other) }
handed-refused kind fault.NoMemory checked p p_new r r_new hand other refused = tt

-- a copy that runs
pub copies-as : (p r : Database) (table : List ℕ) (hand : Option Hand) → (the_table table r.node).state ≡ InCopy → copy_move p r table hand ≡ handing of_copy (starts_or_continues p r table (copy_in hand) (copy_running r table))
copies-as p r table hand is = move-in p r table hand InCopy is ∙ ap (λ name. handing of_copy (starts_or_continues p r name (copy_in hand) (copy_running r name))) (name-of table r.node)

-- a table that was copied
module _ (t : LeafTable) (hand : Option Hand) (move : Checked (Move BatchHand)) where
  pub if-kept : is_some t.snapshot ≡ true → if_copied t hand move ≡ handing of_batch move
  if-kept kept = ap (λ b. if b then handing of_batch move else only_prints (AwaitsTable t.name) hand) kept

  -- or not
  if-missing : is_some t.snapshot ≡ false → if_copied t hand move ≡ only_prints (AwaitsTable t.name) hand
  if-missing missing = ap (λ b. if b then handing of_batch move else only_prints (AwaitsTable t.name) hand) missing

-- to one that was batches may be applied
pub may-apply-to : (table : List ℕ) (n : Option Node) → is_some (the_table table n).snapshot ≡ true → may_apply (copy_of table) n ≡ true
may-apply-to table None kept = kept
may-apply-to table (Some (of_root r)) kept = kept
may-apply-to table (Some (of_leaf l)) kept = by (table_of table l) kept
  where
    by : (o : Option LeafTable) → is_some (unwrap_or o (new_table table)).snapshot ≡ true → is_some (option_and_then LeafTable.snapshot o) ≡ true
    by None kept = kept
    by (Some t) kept = kept

-- a table for which nothing is done
awaits-in : (state : TableState) → (state ≡ InCopy → ⊥) → (state ≡ CatchingUp → ⊥) → ((tick : ℕ) → state ≡ DoSync tick → ⊥) → (state ≡ Synced → ⊥) → (p r : Database) (t : LeafTable) (hand : Option Hand)
    → moves_in state p r t hand ≡ only_prints (AwaitsTable t.name) hand
awaits-in Absent copying catching over synced p r t hand = refl
awaits-in (WannaSync bound) copying catching over synced p r t hand = refl
awaits-in InCopy copying catching over synced p r t hand = absurd (copying refl)
awaits-in CatchingUp copying catching over synced p r t hand = absurd (catching refl)
awaits-in (DoSync tick) copying catching over synced p r t hand = absurd (over tick refl)
awaits-in Synced copying catching over synced p r t hand = absurd (synced refl)

module _ (p r : Database) (table : List ℕ) (hand now : Option Hand) (replies : List Reply) (same : now ≡ hand) (printed : replies ≡ AwaitsTable table ∷ []) where
  awaits-by : copy_move p r table hand ≡ only_prints (AwaitsTable (the_table table r.node).name) hand → MovesBy (copy_move p r table hand) p p r r replies now
  awaits-by is = record {
    move = record { provider = []; replica = []; replies = AwaitsTable table ∷ []; hand = hand };
    is = is ∙ ap (λ name. only_prints (AwaitsTable name) hand) (name-of table r.node);
    moved = record { provider = serves-none p; replica = serves-none r; printed = printed; in_hand = same };
  }

  pub awaits : (state : TableState) → (the_table table r.node).state ≡ state → (state ≡ InCopy → ⊥) → (state ≡ CatchingUp → ⊥) → ((tick : ℕ) → state ≡ DoSync tick → ⊥) → (state ≡ Synced → ⊥)
      → MovesBy (copy_move p r table hand) p p r r replies now
  awaits state is copying catching over synced = awaits-by (move-in p r table hand state is ∙ awaits-in state copying catching over synced p r (the_table table r.node) hand)

  -- one that wasn't copied
  pub awaits-copy : (move : Checked (Move BatchHand)) → copy_move p r table hand ≡ if_copied (the_table table r.node) hand move → is_some (the_table table r.node).snapshot ≡ false → MovesBy (copy_move p r table hand) p p r r replies now
  awaits-copy move is missing = awaits-by (is ∙ if-missing (the_table table r.node) hand move missing)

-- ---- a batch in hand

module _ (p r : Database) (table : List ℕ) (hand : BatchHand) (tick : ℕ) (name : List ℕ) (come : tick ≡ (the_table table r.node).tick) (named : name ≡ table) where
  abbrev goes-on_as : Follower
  goes-on_as = copier r.node (the_table table r.node)

  same-copier : ◌≡◌ {A = Follower} (record { consumer = copy_consumer r.node; tick = tick; pick = copy_of name }) goes-on_as
  same-copier = λ i. record { consumer = copy_consumer r.node; tick = come i; pick = copy_of ((named ∙ sym (name-of table r.node)) i) }

  pub through-moves : (result : Result (Option BatchHand) WorkerFault) (p_new r_new : Database) (replies : List Reply)
      → IfOk result (λ now. (consumer : List ℕ) → MovesBy (goes_through p r (record { consumer = consumer; tick = tick; pick = copy_of name }) hand) p p_new r r_new replies now)
      → IfOk result (λ now. MovesBy (goes_through p r goes-on_as hand) p p_new r r_new replies now)
  through-moves (Ok now) p_new r_new replies moves = subst (λ f. MovesBy (goes_through p r f hand) p p_new r r_new replies now) same-copier (moves (copy_consumer r.node))
  through-moves (Err f) p_new r_new replies moves = tt

  pub through-refused : (result : Result (Option BatchHand) WorkerFault) (p_new r_new : Database) (was now : Option BatchHand)
      → IfErr result (λ f. (consumer : List ℕ) → MoveRefused f (goes_through p r (record { consumer = consumer; tick = tick; pick = copy_of name }) hand) p p_new r r_new was now)
      → IfErr result (λ f. MoveRefused f (goes_through p r goes-on_as hand) p p_new r r_new was now)
  through-refused (Ok hand) p_new r_new was now refused = tt
  through-refused (Err f) p_new r_new was now refused = subst (λ x. MoveRefused f (goes_through p r x hand) p p_new r r_new was now) same-copier (refused (copy_consumer r.node))

-- ---- without one

-- a table that isn't handed over catches up
pub catching : (state : TableState) → is_following state ≡ true → ((tick : ℕ) → state ≡ DoSync tick → ⊥) → state ≡ CatchingUp
catching CatchingUp follows other = refl
catching (DoSync tick) follows other = absurd (other tick refl)
catching Absent follows other = absurd (cc)
catching InCopy follows other = absurd (cc)
catching (WannaSync bound) follows other = absurd (cc)
catching Synced follows other = absurd (cc)

-- the table is in sync
pub leaves-moves : (p p_new r r_new : Database) (table consumer name : List ℕ) (tick : ℕ) (replies : List Reply) → (the_table table r.node).tick ≡ tick → consumer ≡ copy_consumer r.node → name ≡ table → Serves p p_new (parting consumer)
    → MovesBy {H = BatchHand} (moves_to Synced name) p p r r_new replies None → MovesBy (hands_over p r tick (the_table table r.node)) p p_new r r_new replies None
leaves-moves p p_new r r_new table consumer name tick replies come named same parts moves = record {
  move = record { provider = parting (copy_consumer r.node) ∷ []; replica = moving (the_table table r.node).name Synced ∷ []; replies = TableMoved (the_table table r.node).name Synced ∷ []; hand = None };
  is = leaves-now p r (the_table table r.node) tick come;
  moved = record {
    provider = serves-one p p_new (parting (copy_consumer r.node)) (subst (λ x. Serves p p_new (parting x)) named parts);
    replica = subst (λ x. ServesAll r r_new (moving x Synced ∷ [])) called (subst (λ (m : Move BatchHand). ServesAll r r_new m.replica) (sym one) moves.moved.replica);
    printed = moves.moved.printed ∙ ap Move.replies (sym one) ∙ ap (λ x. TableMoved x Synced ∷ []) called;
    in_hand = refl;
  };
}
  where
    called : name ≡ (the_table table r.node).name
    called = same ∙ sym (name-of table r.node)

    one : ◌≡◌ {A = Move BatchHand} (record { provider = []; replica = moving name Synced ∷ []; replies = TableMoved name Synced ∷ []; hand = None }) moves.move
    one = let is = moves.is in cc

-- a move by what is done with a batch
pub batch-moves : (p p_new r r_new : Database) (table : List ℕ) (hand left : Option Hand) (batch now : Option BatchHand) (other : Checked (Move BatchHand)) (replies : List Reply)
    → copy_move p r table hand ≡ if_copied (the_table table r.node) hand (goes_through_or p r (the_table table r.node) (batch_in hand) other) → is_some (the_table table r.node).snapshot ≡ true → batch ≡ batch_in hand
    → left ≡ option_map of_batch now → MovesBy (goes_through_or p r (the_table table r.node) batch other) p p_new r r_new replies now → MovesBy (copy_move p r table hand) p p_new r r_new replies left
batch-moves p p_new r r_new table hand left batch now other replies is kept same to moves =
    subst (λ checked. MovesBy checked p p_new r r_new replies left) (sym (is ∙ if-kept (the_table table r.node) hand (goes_through_or p r (the_table table r.node) (batch_in hand) other) kept))
    (handed of_batch (goes_through_or p r (the_table table r.node) (batch_in hand) other) p p_new r r_new replies now left to
    (subst (λ b. MovesBy (goes_through_or p r (the_table table r.node) b other) p p_new r r_new replies now) same moves))

-- an error that is handed on
pub err-same : {T E : Type 0} (Q : E → Type 0) (result : Result T E) (e : E) → IsErrAnd result (λ x. x ≡ e) → Q e → IfErr result Q
err-same Q (Ok x) e is q = absurd is
err-same Q (Err x) e is q = subst Q (sym is) q
