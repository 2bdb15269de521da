-- A table leaves a leaf, step by step.
use Rattle.std.proofs.Common.{◌≡◌, ℕ, ◌==◌, List, [], ◌∷◌, ◌++◌, Bool, true, false, append-nil, Option, Some, None, Ok, option_map, is_some, refl, sym, ◌∙◌, ap, subst, if◌then◌else◌}
use Rattle.std.specs.List.{list_any}
use Rattle.sky_model.specs.declared.reply.Reply.TheVariants.{Done, Null}
use Rattle.sky_model.specs.Hands.{CopyHand, Hand, copy_in}
use Rattle.sky_model.specs.History.{Fact, Mark, in_hand, noded, hold_ended}
use Rattle.sky_model.specs.Copies.{Hold}
use Rattle.sky_model.specs.State.{Database, after_marks}
use Rattle.sky_model.specs.Outcome.{answers, does_marks, marks_of}
use Rattle.sky_model.specs.StepNode.{NodeCall, removing, set_queue}
use Rattle.sky_model.specs.World.{World, after_fact, after_facts}
use Rattle.sky_model.specs.CopyMoves.{lets_go_for}
use Rattle.sky_model.specs.WorkersOfWorld.{call_facts, calls_facts, move_facts, moves}
use Rattle.londiste_batches.specs.Moved.{after_calls}
use Rattle.sky_world.specs.Views.{StateView}
use Rattle.sky_world.specs.Seen.{seen_state}
use Rattle.sky_world.specs.Nodes.{Happened, Does}
use Rattle.sky_world.specs.Workers.{lets_go_with, parts_with, leaving}
use Rattle.sky_world.proofs.Worlds.{after_facts-append, after_facts-within}
use Rattle.sky_world.proofs.CallsInTurn.{marks_of_all, after-all, facts-all, changed-there, unchanged-there}

module _ {D : Type 0} {seen : D → Database} where
  -- one call as a list
  pub happened-one : (old new : StateView D) (d : ℕ) (call : NodeCall) → Happened seen old new (call_facts (seen_state seen old) d call) → Happened seen old new (calls_facts (seen_state seen old) d (call ∷ []))
  happened-one old new d call happened = subst (Happened seen old new) (sym (append-nil (call_facts (seen_state seen old) d call))) happened

-- calls, and then others
calls-then : (w : World) (d : ℕ) (calls others : List NodeCall)
    → after_facts w (calls_facts w d (calls ++ others)) ≡ after_facts (after_facts w (calls_facts w d calls)) (calls_facts (after_facts w (calls_facts w d calls)) d others)
calls-then w d [] others = refl
calls-then w d (call ∷ calls) others =
    after_facts-append w front (calls_facts v d (calls ++ others))
    ∙ calls-then v d calls others
    ∙ ap (λ x. after_facts x (calls_facts x d others)) (sym (after_facts-append w front (calls_facts v d calls)))
  where
    front : List Fact
    front = call_facts w d call

    v : World
    v = after_facts w front

-- calls after a worker's hand was emptied
handed-first : (w : World) (d : ℕ) (table : List ℕ) (n : ℕ) (calls : List NodeCall)
    → after_facts (after_fact w (in_hand d table None)) (calls_facts (after_fact w (in_hand d table None)) n calls) ≡ after_fact (after_facts w (calls_facts w n calls)) (in_hand d table None)
handed-first w d table n calls =
    ap (after_facts emptied) (facts-all emptied n calls)
    ∙ after_facts-within emptied n marks
    ∙ ap (λ x. after_fact x (in_hand d table None)) (sym (ap (after_facts w) (facts-all w n calls) ∙ after_facts-within w n marks))
  where
    emptied : World
    emptied = after_fact w (in_hand d table None)

    marks : List Mark
    marks = marks_of_all (w.database n) calls

module _ {D : Type 0} {seen : D → Database} where
  -- ---- what the steps find

  -- a database after calls in it
  after-happened : (old new : StateView D) (d : ℕ) (calls : List NodeCall) → Happened seen old new (calls_facts (seen_state seen old) d calls) → (seen_state seen new).database d ≡ after_calls ((seen_state seen old).database d) calls
  after-happened old new d calls happened =
      ap (λ (w : World). w.database d) (happened.changed ∙ ap (after_facts (seen_state seen old)) (facts-all (seen_state seen old) d calls))
      ∙ changed-there (seen_state seen old) d (marks_of_all ((seen_state seen old).database d) calls)
      ∙ sym (after-all ((seen_state seen old).database d) calls)

  -- and another one
  pub other-happened : (old new : StateView D) (p d : ℕ) (calls : List NodeCall) → (p == d) ≡ false → Happened seen old new (calls_facts (seen_state seen old) p calls) → (seen_state seen new).database d ≡ (seen_state seen old).database d
  other-happened old new p d calls apart happened =
      ap (λ (w : World). w.database d) (happened.changed ∙ ap (after_facts (seen_state seen old)) (facts-all (seen_state seen old) p calls))
      ∙ unchanged-there (seen_state seen old) p d (marks_of_all ((seen_state seen old).database p) calls) apart

  -- any database after a worker's hand was emptied
  pub hand-happened : (old new : StateView D) (d : ℕ) (table : List ℕ) (n : ℕ) → Happened seen old new (in_hand d table None ∷ []) → (seen_state seen new).database n ≡ (seen_state seen old).database n
  hand-happened old new d table n happened = ap (λ (w : World). w.database n) happened.changed

-- a hold that is let go leaves the set's queue
queue-kept : (d : Database) (hold : Option ℕ) → set_queue (after_calls d (lets_go_with hold)) ≡ set_queue d
queue-kept d None = refl
queue-kept d (Some hold) = by (list_any (λ (x : Hold). x.number == hold) d.holds)
  where
    by : (b : Bool) → set_queue (after_marks d (marks_of (if b then does_marks Done (noded (hold_ended hold) ∷ []) else answers Null))) ≡ set_queue d
    by true = refl
    by false = refl

module _ {D : Type 0} {seen : D → Database} where
  pub queue-happened : (old new : StateView D) (p : ℕ) (hold : Option ℕ) → Happened seen old new (calls_facts (seen_state seen old) p (lets_go_with hold)) → is_some (set_queue ((seen_state seen old).database p)) ≡ true
      → is_some (set_queue ((seen_state seen new).database p)) ≡ true
  queue-happened old new p hold happened root = ap (λ d. is_some (set_queue d)) (after-happened old new p (lets_go_with hold) happened) ∙ ap is_some (queue-kept ((seen_state seen old).database p) hold) ∙ root

-- ---- all of them

lets-go : (copy : Option CopyHand) → lets_go_with (option_map CopyHand.hold copy) ≡ lets_go_for copy
lets-go None = refl
lets-go (Some copy) = refl

module _ {D : Type 0} {seen : D → Database} where
  pub left-leaf : (old a b c new : StateView D) (p d : ℕ) (table : List ℕ) (hold : Option ℕ) (consumer : Option (List ℕ)) (hand : Option Hand) → hold ≡ option_map CopyHand.hold (copy_in hand)
      → Happened seen old a (in_hand d table None ∷ []) → Happened seen a b (calls_facts (seen_state seen a) p (lets_go_with hold)) → Happened seen b c (calls_facts (seen_state seen b) p (parts_with consumer)) → Happened seen c new (call_facts (seen_state seen c) d (removing table))
      → Does seen old new Done (moves (seen_state seen old) p d (in_hand d table) (Ok (leaving table consumer hand)))
  left-leaf old a b c new p d table hold consumer hand is first second third last = record {
    facts = move_facts w p d (in_hand d table) (leaving table consumer hand);
    outcome = refl;
    moments = tt;
    happened = record {
      changed = dropped.changed ∙ ap (λ x. after_facts x (calls_facts x d (removing table ∷ []))) (both ∙ handed-first w d table p calls) ∙ handed-first v d table d (removing table ∷ []) ∙ sym whole;
      sessions = last.sessions ∙ third.sessions ∙ second.sessions ∙ first.sessions;
      databases = last.databases ∙ third.databases ∙ second.databases ∙ first.databases;
      whole = last.whole;
    };
  }
    where
      w : World
      w = seen_state seen old

      emptied : World
      emptied = after_fact w (in_hand d table None)

      calls : List NodeCall
      calls = lets_go_for (copy_in hand) ++ parts_with consumer

      v : World
      v = after_facts w (calls_facts w p calls)

      dropped : Happened seen c new (calls_facts (seen_state seen c) d (removing table ∷ []))
      dropped = happened-one c new d (removing table) last

      both : seen_state seen c ≡ after_facts emptied (calls_facts emptied p calls)
      both =
          third.changed ∙ ap (λ x. after_facts x (calls_facts x p (parts_with consumer))) (second.changed ∙ ap (λ x. after_facts x (calls_facts x p (lets_go_with hold))) first.changed)
          ∙ sym (calls-then emptied p (lets_go_with hold) (parts_with consumer))
          ∙ ap (λ xs. after_facts emptied (calls_facts emptied p (xs ++ parts_with consumer))) (ap lets_go_with is ∙ lets-go (copy_in hand))

      whole : after_facts w (move_facts w p d (in_hand d table) (leaving table consumer hand)) ≡ after_fact (after_facts v (calls_facts v d (removing table ∷ []))) (in_hand d table None)
      whole =
          after_facts-append w (calls_facts w p calls) (calls_facts v d (removing table ∷ []) ++ in_hand d table None ∷ [])
          ∙ after_facts-append v (calls_facts v d (removing table ∷ [])) (in_hand d table None ∷ [])
