-- A worker that goes through batches stays where its consumer is.
use Rattle.std.proofs.Common.{◌≡◌, ◌⊎◌, inl, inr, ℕ, nat_lt, List, [], ◌∷◌, length, Bool, true, false, Option, Some, None, Ok, Err, IfOk, bytes_eq, refl, if◌then◌else◌}
use Rattle.sky_model.specs.History.{Batch, applied, History}
use Rattle.sky_model.specs.Hands.{BatchHand}
use Rattle.sky_model.specs.Nodes.{after_node, node}
use Rattle.sky_model.specs.State.{part_of, database_of, after_marks}
use Rattle.sky_model.specs.Outcome.{Outcome, Checked, ◌>>=◌, marks_of}
use Rattle.sky_model.specs.OwnTransaction.{next_id}
use Rattle.sky_model.specs.StepApply.{may_apply, picked, bad_event}
use Rattle.sky_model.specs.StepNode.{NodeCall, fetching, applying, node_does}
use Rattle.sky_model.specs.WorkerMoves.{Move}
use Rattle.sky_model.specs.BatchMoves.{Follower, events_of_batch, has_applied, applies_in_hand, skips_in_hand, finishes_in_hand, taken, takes, takes_next, goes_through}
use Rattle.sky_histories.proofs.Legal.{Legal}
use Rattle.sky_histories.proofs.StatementMarks.{EachMark}
use Rattle.sky_laws.proofs.PendingOwners.{legal-before}
use Rattle.sky_laws_synced.proofs.Following.{spares_consumer, Following, following-marks}
use Rattle.sky_laws_synced.proofs.FollowingCalls.{after_call, spares-fetching, following-fetched, following-applied, following-skipped, following-finished, spares-finishing}
use Rattle.sky_laws_synced.proofs.LeafFollows.{KeptAt}
use Rattle.sky_laws_synced.proofs.LeafNodes.{IsOfCalls, leaf-applied, leaf-unapplied}

-- ---- calls one after another

abbrev pub after_each : History → List NodeCall → History
after_each h [] = h
after_each h (call ∷ calls) = after_each (after_call h call) calls

-- each of them leaves a consumer where it is
abbrev pub SparesEach : History → ℕ → List ℕ → List NodeCall → Type 0
SparesEach h q c [] = Unit {0}
SparesEach h q c (call ∷ calls) = EachMark (spares_consumer q c) (marks_of (node_does (database_of h) call)) × SparesEach (after_call h call) q c calls

pub legal-each : (h : History) (calls : List NodeCall) → Legal (after_each h calls) → Legal h
legal-each h [] l = l
legal-each h (call ∷ calls) l = legal-before h (marks_of (node_does (database_of h) call)) (legal-each (after_call h call) calls l)

pub kept-each : (h : History) (q : ℕ) (c : List ℕ) (calls : List NodeCall) → Legal (after_each h calls) → SparesEach h q c calls → KeptAt h (after_each h calls) q c
kept-each h q c [] l each tick hand f = f
kept-each h q c (call ∷ calls) l each tick hand f =
    kept-each (after_call h call) q c calls l each.1 tick hand
    (following-marks h (marks_of (node_does (database_of h) call)) q c tick hand (legal-each (after_call h call) calls l) each.0 f)

-- ---- one move

-- the worker's tick stays, and so does the node of its database; or a batch is applied up to a tick
abbrev pub TickGoes : (k g : History) → Follower → ℕ → Type 0
TickGoes k g f tick = ((tick ≡ f.tick) × (node g ≡ node k)) ⊎ (node g ≡ after_node (applied f.pick tick) (node k))

pub record Goes (h k : History) (q : ℕ) (f : Follower) (move : Move BatchHand) : Type 0 where
  pub spared : (c : List ℕ) → bytes_eq c f.consumer ≡ false → SparesEach h q c move.provider
  pub tick : ℕ
  pub follows : Legal (after_each h move.provider) → Following (after_each h move.provider) q f.consumer tick move.hand
  pub tick_goes : TickGoes k (after_each k move.replica) f tick

abbrev GoesIf : (h k : History) → ℕ → Follower → Checked (Move BatchHand) → Type 0
GoesIf h k q f c = IfOk c (Goes h k q f)

goes-finished : (h k : History) (q : ℕ) (f : Follower) (b : BatchHand) → b.is_done ≡ true → Following h q f.consumer f.tick (Some b) → GoesIf h k q f (finishes_in_hand b)
goes-finished h k q f b is_done at = record {
  spared = λ c other. (spares-finishing h q c b.id _ at.in_hand.active other, tt);
  tick = f.tick;
  follows = λ l. following-finished h q f.consumer f.tick b is_done at;
  tick_goes = inl (refl, refl);
}

goes-skipped : (h k : History) (q : ℕ) (f : Follower) (b : BatchHand) → Legal h → nat_lt f.tick b.cur ≡ false → Following h q f.consumer f.tick (Some b) → GoesIf h k q f (skips_in_hand b)
goes-skipped h k q f b legal over at = record { spared = λ c other. tt; tick = f.tick; follows = λ l. following-skipped h legal q f.consumer f.tick b over at; tick_goes = inl (refl, refl) }

goes-applied : (h k : History) (q : ℕ) (f : Follower) (b : BatchHand) → Legal h → IsOfCalls k → may_apply f.pick (node k) ≡ true → Following h q f.consumer f.tick (Some b) → GoesIf h k q f (applies_in_hand (database_of h) (database_of k) f b)
goes-applied h k q f b legal made may at = of (next_id (part_of k)) refl
  where
    call : NodeCall
    call = applying (events_of_batch (database_of h) b.id) f.pick b.cur

    many : ℕ
    many = length (picked (node k) f.pick (events_of_batch (database_of h) b.id))

    -- or an event can't be applied, and it stays where it is
    or_bad : (t : ℕ) → next_id (part_of k) ≡ Ok t → (o : Option ℕ) → bad_event (database_of k) f.pick (events_of_batch (database_of h) b.id) ≡ o → Goes h k q f (has_applied call b many o)
    or_bad t free None good = record {
      spared = λ c other. tt;
      tick = b.cur;
      follows = λ l. following-applied h legal q f.consumer f.tick b at;
      tick_goes = inr (leaf-applied k made (events_of_batch (database_of h) b.id) f.pick b.cur t may free good);
    }
    or_bad t free (Some id) bad = record {
      spared = λ c other. tt;
      tick = f.tick;
      follows = λ l. at;
      tick_goes = inl (refl, leaf-unapplied k made (events_of_batch (database_of h) b.id) f.pick b.cur t id may free bad);
    }

    of : (c : Checked ℕ) → next_id (part_of k) ≡ c → GoesIf h k q f (c >>= (λ t. Ok (has_applied call b many (bad_event (database_of k) f.pick (events_of_batch (database_of h) b.id)))))
    of (Err refusal) is = tt
    of (Ok t) is = or_bad t is (bad_event (database_of k) f.pick (events_of_batch (database_of h) b.id)) refl

-- the worker may apply what it has in hand
pub record MayGo (k : History) (f : Follower) : Type 0 where
  pub made : IsOfCalls k
  pub may : may_apply f.pick (node k) ≡ true

goes-if : (h k : History) (q : ℕ) (f : Follower) (b : Bool) (x y : Checked (Move BatchHand)) → (b ≡ true → GoesIf h k q f x) → (b ≡ false → GoesIf h k q f y) → GoesIf h k q f (if b then x else y)
goes-if h k q f true x y here there = here refl
goes-if h k q f false x y here there = there refl

pub goes-through : (h k : History) (q : ℕ) (f : Follower) (b : BatchHand) → Legal h → MayGo k f → Following h q f.consumer f.tick (Some b) → GoesIf h k q f (goes_through (database_of h) (database_of k) f b)
goes-through h k q f b legal may at =
    goes-if h k q f b.is_done (finishes_in_hand b) _ (λ is. goes-finished h k q f b is at) (λ _.
    goes-if h k q f (nat_lt f.tick b.cur) (applies_in_hand (database_of h) (database_of k) f b) (skips_in_hand b)
    (λ less. goes-applied h k q f b legal may.made may.may at) (λ over. goes-skipped h k q f b legal over at))

pub goes-next : (h k : History) (q : ℕ) (f : Follower) → Following h q f.consumer f.tick None → GoesIf h k q f (takes_next (database_of h) f)
goes-next h k q f at = of (node_does (database_of h) (fetching f.consumer)) refl
  where
    with_one : (out : Outcome) → node_does (database_of h) (fetching f.consumer) ≡ Ok out → (o : Option Batch) → taken (after_marks (database_of h) out.marks) out.reply ≡ o → GoesIf h k q f (takes f o)
    with_one out does None is = record { spared = λ c other. tt; tick = f.tick; follows = λ l. at; tick_goes = inl (refl, refl) }
    with_one out does (Some b) is = record {
      spared = λ c other. (spares-fetching (database_of h) q c f.consumer, tt);
      tick = f.tick;
      follows = λ l. following-fetched h q f.consumer f.tick l at out does b is;
      tick_goes = inl (refl, refl);
    }

    of : (x : Checked Outcome) → node_does (database_of h) (fetching f.consumer) ≡ x → GoesIf h k q f (x >>= (λ asked. takes f (taken (after_marks (database_of h) asked.marks) asked.reply)))
    of (Err refusal) does = tt
    of (Ok out) does = with_one out does (taken (after_marks (database_of h) out.marks) out.reply) refl
