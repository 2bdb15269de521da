-- What the world shows after a worker went by two databases.
use Rattle.std.proofs.Common.{◌≡◌, ℕ, ◌<◌, ◌==◌, List, [], ◌∷◌, Bool, true, false, length, get_or, All, Option, None, Result, Ok, Err, IfOk, IfErr, is_ok, refl, sym, ◌∙◌, ap, subst, arith}
use Rattle.std.specs.Result.{OnOk, OnErr}
use Rattle.sky_model.specs.declared.reply.Reply.{Reply}
use Rattle.sky_model.specs.declared.reply.Refusal.{Refusal}
use Rattle.sky_model.specs.declared.reply.Refusal.TheVariants.{IdsSpent, TooMany, TxidsSpent}
use Rattle.sky_model.specs.declared.reply.Limit.TheVariants.{Consumers}
use Rattle.sky_model.specs.declared.stop.Stop.{Stop}
use Rattle.sky_model.specs.declared.stop.Stop.TheVariants as stop
use Rattle.sky_model.specs.Hands.{BatchHand, Hand}
use Rattle.sky_model.specs.History.{Fact, in_hand, batch_in_hand}
use Rattle.sky_model.specs.State.{Database, after_marks, changed_at, changed_for}
use Rattle.sky_model.specs.Printed.{ReplyHasMoments}
use Rattle.sky_model.specs.Outcome.{Outcome, Checked, marks_of}
use Rattle.sky_model.specs.StepNode.{NodeCall, node_does}
use Rattle.sky_model.specs.WorkerMoves.{Move}
use Rattle.sky_model.specs.CopyMoves.{copy_move, gives_up_in}
use Rattle.sky_model.specs.ReplayMoves.{replay_move}
use Rattle.sky_model.specs.Stops.{Refuses}
use Rattle.sky_model.specs.World.{World, after_fact}
use Rattle.sky_model.specs.WorkersOfWorld.{move_facts, moves, restarting}
use Rattle.sky_model.specs.NodesOfWorld.{WorldOutcome}
use Rattle.londiste_calls.specs.declared.faults.WorkerFault.{WorkerFault}
use Rattle.londiste_calls.specs.declared.faults.WorkerFault.TheVariants as fault
use Rattle.londiste_batches.specs.Moved.{after_call, after_calls, MovesAs, MovesBy, MoveRefused}
use Rattle.sky_databases.specs.Databases.{with_stores}
use Rattle.sky_databases.specs.Hands.{HandAt, IsPlaceOf, hand_at, worker_at, with_hand, batch_at}
use Rattle.sky_world.specs.Views.{StateView}
use Rattle.sky_world.specs.Seen.{seen_state}
use Rattle.sky_world.specs.Whole.{IsWholeIn, AreWhole, IsWhole}
use Rattle.sky_world.specs.Nodes.{Happened, DoesAll, Stays, Stopped}
use Rattle.sky_world.specs.Workers.{leaf_in, stop_of, stopping}
use Rattle.sky_world.proofs.Whole.{HasWhole, whole-served}
use Rattle.sky_databases.proofs.HandsAt.{put-back, batch-back, hand-there, hand-moved}
use Rattle.sky_world.proofs.TwoDatabases.{PutInHand, with_both, both-kept-as, is-there, both-kept, moved-there}
use Rattle.sky_world.proofs.MoveMoments.{moments-moved, moments-replayed}

-- ---- calls in each of two databases

pub record Both (p p_new d d_new : Database) : Type 0 where
  pub ps : List NodeCall
  pub ds : List NodeCall
  pub provider : p_new ≡ after_calls p ps
  pub replica : d_new ≡ after_calls d ds

-- a database is whole after each call, refused or not
whole-call : (sessions : ℕ) (d : Database) (call : NodeCall) → IsWholeIn sessions d → IsWholeIn sessions (after_call d call)
whole-call sessions d call whole = by (node_does d call) refl
  where
    by : (c : Checked Outcome) → node_does d call ≡ c → IsWholeIn sessions (after_marks d (marks_of c))
    by (Ok outcome) is = whole-served sessions d (after_marks d outcome.marks) call (record { accepted = ap is_ok is; changed = ap (λ c. after_marks d (marks_of c)) (sym is) }) whole
    by (Err refusal) is = whole

whole-calls : (sessions : ℕ) (old new : Database) (calls : List NodeCall) → new ≡ after_calls old calls → IsWholeIn sessions old → IsWholeIn sessions new
whole-calls sessions old new [] is whole = subst (IsWholeIn sessions) (sym is) whole
whole-calls sessions old new (call ∷ calls) is whole = whole-calls sessions (after_call old call) new calls is (whole-call sessions old call whole)

module _ {D : Type 0} where
  -- two databases were lent, as they stood among all of them
  pub record Lent (v : StateView D) (stores : List D) (p d : ℕ) (p_old d_old : D) : Type 0 where
    pub all : stores ≡ v.databases.values
    pub p_lt : p < length v.databases.values
    pub d_lt : d < length v.databases.values
    pub apart : (p == d) ≡ false
    pub p_at : p_old ≡ get_or v.databases.values p p_old
    pub d_at : d_old ≡ get_or v.databases.values d d_old

  -- so they were, as the code finds it
  pub lent-as : (v now : StateView D) (stores : List D) (p d : ℕ) (p_old d_old : D) → v ≡ now → stores ≡ v.databases.values → length v.databases.values ≡ length v.databases.names
      → p < length now.databases.names → d < length now.databases.names → (p == d) ≡ false → p_old ≡ get_or stores p p_old → d_old ≡ get_or stores d d_old → Lent v stores p d p_old d_old
  lent-as v now stores p d p_old d_old same all as_many p_lt d_lt apart p_at d_at =
      let names : length v.databases.values ≡ length now.databases.names = as_many ∙ ap (λ (w : StateView D). length w.databases.names) same in record {
        all = all;
        p_lt = omega (arith, names, p_lt);
        d_lt = omega (arith, names, d_lt);
        apart = apart;
        p_at = p_at ∙ ap (λ xs. get_or xs p p_old) all;
        d_at = d_at ∙ ap (λ xs. get_or xs d d_old) all;
      }

module _ {D : Type 0} {seen : D → Database} where
  -- what holds of all databases still does
  whole-both : (sessions : ℕ) (v : StateView D) (stores : List D) (p d : ℕ) (p_old p_new d_old d_new : D) → Lent v stores p d p_old d_old → Both (seen p_old) (seen p_new) (seen d_old) (seen d_new)
      → AreWhole seen sessions v.databases.values → AreWhole seen sessions (with_both v.databases.values p d p_new d_new)
  whole-both sessions v stores p d p_old p_new d_old d_new lent both whole = record {
    each = both-kept (HasWhole seen sessions) v.databases.values p d p_old p_new d_old d_new lent.p_lt lent.d_lt lent.p_at lent.d_at
        (whole-calls sessions (seen p_old) (seen p_new) both.ps both.provider) (whole-calls sessions (seen d_old) (seen d_new) both.ds both.replica) whole.each;
  }

-- ---- the workers

-- a worker of a leaf: what it does with what it has in hand, what the world says that it has, and the fact by which it has something from then on. What it
-- has is put back by its fact, and the answers of its moves have no moments
pub record Worker (H : Type 0) : Type 0 where
  pub does : (p r : Database) → Option H → Checked (Move H)
  pub has : World → Option H
  pub handed : Option H → Fact
  pub back : (w : World) → after_fact w (handed (has w)) ≡ w
  pub moments : (p r : Database) (hand : Option H) → IfOk (does p r hand) (λ move. All ReplyHasMoments move.replies)

-- the one that copies a table of a database
abbrev pub copier_of : (d : ℕ) → (table : List ℕ) → Worker Hand
copier_of d table = record {
  does = λ p r hand. copy_move p r table hand;
  has = λ w. w.hands d table;
  handed = λ hand. in_hand d table hand;
  back = λ w i. record w { hands = put-back d table (w.hands d table) w.hands refl i };
  moments = λ p r hand. moments-moved p r table hand;
}

-- that of the leaf of a database
abbrev pub replayer_of : (d : ℕ) → Worker BatchHand
replayer_of d = record {
  does = λ p r hand. replay_move p r (leaf_in r.node) hand;
  has = λ w. w.batches d;
  handed = λ hand. batch_in_hand d hand;
  back = λ w i. record w { batches = batch-back d (w.batches d) w.batches refl i };
  moments = λ p r hand. moments-replayed p r (leaf_in r.node) hand;
}

-- one move of a worker of a leaf of database `d`, by database `p`
abbrev pub steps : {H : Type 0} → Worker H → World → (p d : ℕ) → Checked WorldOutcome
steps k w p d = moves w p d k.handed (k.does (w.database p) (w.database d) (k.has w))

-- ---- a move that was tried

-- whether memory ran out
abbrev run_out : {A : Type 0} → Result A Stop → Bool
run_out (Ok a) = false
run_out (Err stop.NoMemory) = true
run_out (Err (stop.Refused refusal)) = false

-- what it gave, or else this; and why it stopped
abbrev value_or : {A : Type 0} → A → Result A Stop → A
value_or x (Ok a) = a
value_or x (Err s) = x

abbrev stop_in : {A : Type 0} → Result A Stop → Stop
stop_in (Ok a) = stop.NoMemory
stop_in (Err s) = s

-- if memory didn't run out, what is in hand was kept
pub kept-moved : {A E : Type 0} (kept : Result (Unit {0}) E) (moved : Result A WorkerFault) (given : Result A Stop) → OnOk kept (given ≡ stopping moved) → OnErr kept (given ≡ Err stop.NoMemory) → run_out given ≡ false
    → (given ≡ stopping moved) × (is_ok kept ≡ true)
kept-moved (Ok _) moved given same lost sound = (same, refl)
kept-moved (Err e) moved given same lost sound = absurd (cc (sym sound ∙ ap run_out lost))

-- in hand then is what was put there
pub put-then : {E : Type 0} (kept : Result (Unit {0}) E) {T : Type 0} → is_ok kept ≡ true → OnOk kept T → T
put-then (Ok _) ok t = t
put-then (Err e) ok t = absurd (cc)

module _ {D : Type 0} (seen : D → Database) where
  -- ---- what it did

  -- the world as it is kept is the one that is shown, with these databases and this in hand
  shown-parts : {H : Type 0} (k : Worker H) (v : StateView D) (stores : List D) (p d : ℕ) (p_old d_old : D) (hand : Option H) → Lent v stores p d p_old d_old → hand ≡ k.has (seen_state seen v)
      → k.does (seen p_old) (seen d_old) hand ≡ k.does ((seen_state seen v).database p) ((seen_state seen v).database d) (k.has (seen_state seen v))
  shown-parts k v stores p d p_old d_old hand lent in_hand_is = λ i.
      k.does (sym (is-there seen v.databases.values p p_old lent.p_lt lent.p_at) i) (sym (is-there seen v.databases.values d d_old lent.d_lt lent.d_at) i) (in_hand_is i)

module _ {D : Type 0} where
  -- the world after a move
  abbrev after_step : (v : StateView D) (stores : List D) (p d : ℕ) (p_new d_new : D) (hands : List HandAt) (batches : List (ℕ × BatchHand)) → StateView D
  after_step v stores p d p_new d_new hands batches = record v { databases = with_stores v.databases (with_both stores p d p_new d_new); hands = hands; batches = batches }

module _ {D : Type 0} {seen : D → Database} where
  module _ {H : Type 0} (k : Worker H) (v now : StateView D) (stores : List D) (p d : ℕ) (p_old p_new d_old d_new : D) (hand hand_new : Option H) (hands : List HandAt) (batches : List (ℕ × BatchHand)) (same : v ≡ now) (whole : IsWhole seen now)
      (lent : Lent v stores p d p_old d_old) (was : hand ≡ k.has (seen_state seen v)) (put : PutInHand seen v hands batches (k.handed hand_new)) where
    abbrev new : StateView D
    new = after_step v stores p d p_new d_new hands batches

    parts : k.does (seen p_old) (seen d_old) hand ≡ k.does ((seen_state seen now).database p) ((seen_state seen now).database d) (k.has (seen_state seen now))
    parts = shown-parts seen k v stores p d p_old d_old hand lent was ∙ ap (λ (w : StateView D). k.does ((seen_state seen w).database p) ((seen_state seen w).database d) (k.has (seen_state seen w))) same

    -- a move
    happens : (move : Move H) → seen p_new ≡ after_calls (seen p_old) move.provider → seen d_new ≡ after_calls (seen d_old) move.replica → hand_new ≡ move.hand
        → Happened seen now new (move_facts (seen_state seen now) p d k.handed move)
    happens move p_is d_is in_hand_is =
        subst (λ n. Happened seen now (record v { databases = n; hands = hands; batches = batches }) (move_facts (seen_state seen now) p d k.handed move)) (sym (both-kept-as v stores p d p_new d_new lent.all))
        (moved-there v now p d k.handed move p_old p_new d_old d_new hands batches same lent.p_lt lent.d_lt lent.apart lent.p_at lent.d_at p_is d_is (subst (λ h. PutInHand seen v hands batches (k.handed h)) in_hand_is put)
        (whole-both (length v.sessions.names) v stores p d p_old p_new d_old d_new lent (record { ps = move.provider; ds = move.replica; provider = p_is; replica = d_is }) (subst (IsWhole seen) (sym same) whole)))

    pub step-done : (replies : List Reply) → MovesBy (k.does (seen p_old) (seen d_old) hand) (seen p_old) (seen p_new) (seen d_old) (seen d_new) replies hand_new
        → DoesAll seen now new replies (steps k (seen_state seen now) p d)
    step-done replies by = record {
      facts = move_facts (seen_state seen now) p d k.handed by.move;
      outcome = ap (moves (seen_state seen now) p d k.handed) (sym parts ∙ by.is) ∙ ap (λ rs. Ok (record { replies = rs; facts = move_facts (seen_state seen now) p d k.handed by.move })) (sym by.moved.printed);
      moments = subst (All ReplyHasMoments) (sym by.moved.printed) (subst (λ c. IfOk c (λ move. All ReplyHasMoments move.replies)) by.is (k.moments (seen p_old) (seen d_old) hand));
      happened = happens by.move by.moved.provider.changed by.moved.replica.changed by.moved.in_hand;
    }

    -- nothing
    stays : seen p_new ≡ seen p_old → seen d_new ≡ seen d_old → hand_new ≡ hand → Stays seen now new
    stays p_is d_is in_hand_is =
        let nothing : Move H = record { provider = []; replica = []; replies = []; hand = hand_new } in
        let happened : Happened seen now new (k.handed hand_new ∷ []) = happens nothing p_is d_is refl in record {
          shown = happened.changed ∙ ap (λ h. after_fact (seen_state seen now) (k.handed h)) (in_hand_is ∙ was ∙ ap (λ (w : StateView D). k.has (seen_state seen w)) same) ∙ k.back (seen_state seen now);
          whole = happened.whole;
        }

    refused-as : (refusal : Refusal)
        → Refuses {S = Database × Database × Option H} (seen p_old, seen d_old, hand) (seen p_new, seen d_new, hand_new) refusal (k.does (seen p_old) (seen d_old) hand)
        → (steps k (seen_state seen now) p d ≡ Err refusal) × Stays seen now new
    refused-as refusal not =
        (ap (moves (seen_state seen now) p d k.handed) (sym parts ∙ not.refused), stays (ap (λ all. all.0) not.same) (ap (λ all. all.1) not.same) (ap (λ all. all.2) not.same))

    pub step-refused : (f : WorkerFault) → MoveRefused f (k.does (seen p_old) (seen d_old) hand) (seen p_old) (seen p_new) (seen d_old) (seen d_new) hand hand_new
        → Stopped seen now new (stop_of f) (steps k (seen_state seen now) p d)
    step-refused fault.TooManyConsumers not = refused-as (TooMany Consumers) not
    step-refused fault.IdsSpent not = refused-as IdsSpent not
    step-refused fault.TxidsSpent not = refused-as TxidsSpent not
    step-refused fault.NoMemory not = tt

module _ {D : Type 0} (seen : D → Database) where
  -- ---- a move as the code makes it

  pub record Tried {H A E : Type 0} (k : Worker H) (v now : StateView D) (stores : List D) (p d : ℕ) (p_old p_new d_old d_new : D) (hand hand_new : Option H) (hands : List HandAt) (batches : List (ℕ × BatchHand))
      (items : A → List Reply) (moved : Result A WorkerFault) (given : Result A Stop) (kept : Result (Unit {0}) E) : Type 0 where
    pub same : v ≡ now
    pub whole : IsWhole seen now
    pub lent : Lent v stores p d p_old d_old
    pub was : hand ≡ k.has (seen_state seen v)
    pub put : OnOk kept (PutInHand seen v hands batches (k.handed hand_new))
    pub keeps : OnOk kept (given ≡ stopping moved)
    pub lost : OnErr kept (given ≡ Err stop.NoMemory)
    pub moves : IfOk moved (λ a. MovesBy (k.does (seen p_old) (seen d_old) hand) (seen p_old) (seen p_new) (seen d_old) (seen d_new) (items a) hand_new)
    pub stops : IfErr moved (λ f. MoveRefused f (k.does (seen p_old) (seen d_old) hand) (seen p_old) (seen p_new) (seen d_old) (seen d_new) hand hand_new)

module _ {D : Type 0} {seen : D → Database} where
  module _ {H A E : Type 0} {k : Worker H} {v now : StateView D} {stores : List D} {p d : ℕ} {p_old p_new d_old d_new : D} {hand hand_new : Option H} {hands : List HandAt} {batches : List (ℕ × BatchHand)}
      {items : A → List Reply} {moved : Result A WorkerFault} {given : Result A Stop} {kept : Result (Unit {0}) E} (tried : Tried seen k v now stores p d p_old p_new d_old d_new hand hand_new hands batches items moved given kept) where
    kept-given : run_out given ≡ false → (given ≡ stopping moved) × (is_ok kept ≡ true)
    kept-given sound = kept-moved kept moved given tried.keeps tried.lost sound

    abbrev after : StateView D
    after = after_step v stores p d p_new d_new hands batches

    pub tried-ok : IfOk given (λ a. DoesAll seen now after (items a) (steps k (seen_state seen now) p d))
    tried-ok = by given refl
      where
        done : (a : A) (m : Result A WorkerFault) → moved ≡ m → given ≡ Ok a → stopping m ≡ Ok a → is_ok kept ≡ true → DoesAll seen now after (items a) (steps k (seen_state seen now) p d)
        done a (Ok b) same is e ok =
            subst (λ x. DoesAll seen now after (items x) (steps k (seen_state seen now) p d)) (ap (value_or b) e)
            (step-done k v now stores p d p_old p_new d_old d_new hand hand_new hands batches tried.same tried.whole tried.lent tried.was (put-then kept ok tried.put) (items b)
            (subst (λ m. IfOk m (λ x. MovesBy (k.does (seen p_old) (seen d_old) hand) (seen p_old) (seen p_new) (seen d_old) (seen d_new) (items x) hand_new)) same tried.moves))
        done a (Err f) same is e ok = absurd (cc)

        by : (g : Result A Stop) → given ≡ g → IfOk g (λ a. DoesAll seen now after (items a) (steps k (seen_state seen now) p d))
        by (Err s) is = tt
        by (Ok a) is = let both = kept-given (ap run_out is) in done a moved refl is (sym both.0 ∙ is) both.1

    pub tried-err : IfErr given (λ s. Stopped seen now after s (steps k (seen_state seen now) p d))
    tried-err = by given refl
      where
        refused : (refusal : Refusal) (m : Result A WorkerFault) → moved ≡ m → given ≡ Err (stop.Refused refusal) → stopping m ≡ Err (stop.Refused refusal) → is_ok kept ≡ true
            → Stopped seen now after (stop.Refused refusal) (steps k (seen_state seen now) p d)
        refused refusal (Ok a) same is e ok = absurd (cc)
        refused refusal (Err f) same is e ok =
            subst (λ s. Stopped seen now after s (steps k (seen_state seen now) p d)) (ap stop_in e)
            (step-refused k v now stores p d p_old p_new d_old d_new hand hand_new hands batches tried.same tried.whole tried.lent tried.was (put-then kept ok tried.put) f
            (subst (λ m. IfErr m (λ x. MoveRefused x (k.does (seen p_old) (seen d_old) hand) (seen p_old) (seen p_new) (seen d_old) (seen d_new) hand hand_new)) same tried.stops))

        by : (g : Result A Stop) → given ≡ g → IfErr g (λ s. Stopped seen now after s (steps k (seen_state seen now) p d))
        by (Ok a) is = tt
        by (Err stop.NoMemory) is = tt
        by (Err (stop.Refused refusal)) is = let both = kept-given (ap run_out is) in refused refusal moved refl is (sym both.0 ∙ is) both.1

  -- so it was tried, as the code finds it
  tried-as : {H A E : Type 0} (k : Worker H) (v now : StateView D) (stores : List D) (p d : ℕ) (p_old p_new d_old d_new : D) (hand hand_new : Option H) (hands : List HandAt) (batches : List (ℕ × BatchHand))
      (items : A → List Reply) (moved : Result A WorkerFault) (given : Result A Stop) (kept : Result (Unit {0}) E) → v ≡ now → IsWhole seen now → Lent v stores p d p_old d_old → hand ≡ k.has (seen_state seen v)
      → OnOk kept (PutInHand seen v hands batches (k.handed hand_new)) → OnOk kept (given ≡ stopping moved) → OnErr kept (given ≡ Err stop.NoMemory)
      → IfOk moved (λ a. MovesBy (k.does (seen p_old) (seen d_old) hand) (seen p_old) (seen p_new) (seen d_old) (seen d_new) (items a) hand_new)
      → IfErr moved (λ f. MoveRefused f (k.does (seen p_old) (seen d_old) hand) (seen p_old) (seen p_new) (seen d_old) (seen d_new) hand hand_new)
      → Tried seen k v now stores p d p_old p_new d_old d_new hand hand_new hands batches items moved given kept
  tried-as k v now stores p d p_old p_new d_old d_new hand hand_new hands batches items moved given kept same whole lent was put keeps lost by not = record {
    same = same;
    whole = whole;
    lent = lent;
    was = was;
    put = put;
    keeps = keeps;
    lost = lost;
    moves = by;
    stops = not;
  }

module _ {D : Type 0} (seen : D → Database) where
  -- a copy's worker put down what it has, where it took up what it had
  put-copy : (v : StateView D) (d : ℕ) (table : List ℕ) (set hand_new : Option Hand) (placed taken hands : List HandAt) (place : ℕ) → hand_at placed ≡ hand_at v.hands → IsPlaceOf placed d table place → taken ≡ with_hand placed place None
      → set ≡ hand_new → hands ≡ with_hand taken place set → PutInHand seen v hands v.batches (in_hand d table hand_new)
  put-copy v d table set hand_new placed taken hands place same at took is put = λ stores i.
      record (seen_state seen v) { database = stores; hands = (hand-moved d table set placed taken hands place at took put ∙ (λ j. changed_at d (changed_for table (λ _. is j)) (same j))) i }

-- that can't fail
abbrev pub kept-there : Result (Unit {0}) (Unit {0})
kept-there = Ok tt

module _ {D : Type 0} {seen : D → Database} where
  -- so it was tried for a table
  pub copy-tried : {A : Type 0} (v now : StateView D) (stores : List D) (p d : ℕ) (table : List ℕ) (p_old p_new d_old d_new : D) (hand hand_new set : Option Hand) (placed taken hands : List HandAt) (place : ℕ) (items : A → List Reply)
      (moved : Result A WorkerFault) (given : Result A Stop) → v ≡ now → IsWhole seen now → Lent v stores p d p_old d_old → hand_at placed ≡ hand_at v.hands → IsPlaceOf placed d table place → hand ≡ (worker_at placed place).hand
      → taken ≡ with_hand placed place None → set ≡ hand_new → hands ≡ with_hand taken place set → given ≡ stopping moved
      → IfOk moved (λ a. MovesBy (copy_move (seen p_old) (seen d_old) table hand) (seen p_old) (seen p_new) (seen d_old) (seen d_new) (items a) hand_new)
      → IfErr moved (λ f. MoveRefused f (copy_move (seen p_old) (seen d_old) table hand) (seen p_old) (seen p_new) (seen d_old) (seen d_new) hand hand_new)
      → Tried seen (copier_of d table) v now stores p d p_old p_new d_old d_new hand hand_new hands v.batches items moved given kept-there
  copy-tried v now stores p d table p_old p_new d_old d_new hand hand_new set placed taken hands place items moved given same whole lent same_hands at hand_is took is put stops =
      tried-as (copier_of d table) v now stores p d p_old p_new d_old d_new hand hand_new hands v.batches items moved given kept-there same whole lent (hand_is ∙ sym (hand-there d table placed place at) ∙ ap (λ f. f d table) same_hands)
      (put-copy seen v d table set hand_new placed taken hands place same_hands at took is put) stops tt

module _ {D : Type 0} (seen : D → Database) where
  -- a leaf's worker put down what it has
  put-batch : {E : Type 0} (kept : Result (Unit {0}) E) (v : StateView D) (d : ℕ) (set hand_new : Option BatchHand) (batches : List (ℕ × BatchHand)) → set ≡ hand_new
      → OnOk kept (batch_at batches ≡ changed_at d (λ _. set) (batch_at v.batches)) → OnOk kept (PutInHand seen v v.hands batches (batch_in_hand d hand_new))
  put-batch (Err e) v d set hand_new batches is put = tt
  put-batch (Ok _) v d set hand_new batches is put = λ stores i. record (seen_state seen v) { database = stores; batches = (put ∙ ap (λ h. changed_at d (λ _. h) (batch_at v.batches)) is) i }

module _ {D : Type 0} {seen : D → Database} where
  -- so it was tried for a leaf
  pub batch-tried : {A E : Type 0} (v now : StateView D) (stores : List D) (p d : ℕ) (p_old p_new d_old d_new : D) (hand hand_new set : Option BatchHand) (batches : List (ℕ × BatchHand)) (items : A → List Reply)
      (moved : Result A WorkerFault) (given : Result A Stop) (kept : Result (Unit {0}) E) → v ≡ now → IsWhole seen now → Lent v stores p d p_old d_old → hand ≡ batch_at v.batches d
      → set ≡ hand_new → OnOk kept (batch_at batches ≡ changed_at d (λ _. set) (batch_at v.batches)) → OnOk kept (given ≡ stopping moved)
      → OnErr kept (given ≡ Err stop.NoMemory)
      → IfOk moved (λ a. MovesBy (replay_move (seen p_old) (seen d_old) (leaf_in (seen d_old).node) hand) (seen p_old) (seen p_new) (seen d_old) (seen d_new) (items a) hand_new)
      → IfErr moved (λ f. MoveRefused f (replay_move (seen p_old) (seen d_old) (leaf_in (seen d_old).node) hand) (seen p_old) (seen p_new) (seen d_old) (seen d_new) hand hand_new)
      → Tried seen (replayer_of d) v now stores p d p_old p_new d_old d_new hand hand_new v.hands batches items moved given kept
  batch-tried v now stores p d p_old p_new d_old d_new hand hand_new set batches items moved given kept same whole lent was is put =
      tried-as (replayer_of d) v now stores p d p_old p_new d_old d_new hand hand_new v.hands batches items moved given kept same whole lent was (put-batch seen kept v d set hand_new batches is put)

  -- ---- what is in hand is lost

  pub restart-there : (v now : StateView D) (stores : List D) (p d : ℕ) (table : List ℕ) (p_old p_new d_old d_new : D) (hand hand_new : Option Hand) (hands : List HandAt) → v ≡ now → IsWhole seen now
      → Lent v stores p d p_old d_old → hand ≡ hand_at v.hands d table → hand_at hands ≡ changed_at d (changed_for table (λ _. None)) (hand_at v.hands)
      → MovesAs (gives_up_in table hand) (seen p_old) (seen p_new) (seen d_old) (seen d_new) [] hand_new
      → Happened seen now (after_step v stores p d p_new d_new hands v.batches) (move_facts (seen_state seen now) p d (in_hand d table) (restarting table (hand_at now.hands d table)))
  restart-there v now stores p d table p_old p_new d_old d_new hand hand_new hands same whole lent was took moved =
      subst (λ o. Happened seen now (after_step v stores p d p_new d_new hands v.batches) (move_facts (seen_state seen now) p d (in_hand d table) (restarting table o))) (was ∙ ap (λ (w : StateView D). hand_at w.hands d table) same)
      (happens (copier_of d table) v now stores p d p_old p_new d_old d_new hand None hands v.batches same whole lent was (λ stores i. record (seen_state seen v) { database = stores; hands = took i })
      (restarting table hand) moved.provider.changed moved.replica.changed refl)
