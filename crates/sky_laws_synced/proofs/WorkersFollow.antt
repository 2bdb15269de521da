-- The laws on workers that go through the batches of a provider's queue.
use Rattle.std.proofs.Common.{arith, ◌≡◌, ℕ, List, true, Option, Some, None, IfSome, All, is_some, option_map, refl, sym, ap, subst, ◌∙◌}
use Rattle.std.specs.Option.{option_and_then}
use Rattle.sky_names.proofs.PlaceLemmas.{same_name}
use Rattle.londiste_state.specs.Nodes.{of_leaf, Leaf, LeafTable, table_of}
use Rattle.sky_model.specs.History.{History, Past}
use Rattle.sky_model.specs.Hands.{BatchHand, batch_in}
use Rattle.sky_model.specs.Queues.{Tick, tick, kept_ticks}
use Rattle.sky_model.specs.Consumers.{position, active, Subscription}
use Rattle.sky_model.specs.Nodes.{node}
use Rattle.sky_model.specs.State.{database_of}
use Rattle.sky_model.specs.BatchMoves.{Follower}
use Rattle.sky_model.specs.ReplayMoves.{replayer}
use Rattle.sky_model.specs.CopyMoves.{copy_consumer, copier}
use Rattle.sky_model.specs.NodesOfWorld.{Located, node_called}
use Rattle.sky_model.specs.World.{world_of, history_in, nodes, hands, batches}
use Rattle.sky_model.specs.Calls.{Call, past_of}
use Rattle.sky_model.specs.Steps.{IsCallInForm}
use Rattle.sky_histories.proofs.Legal.{Legal}
use Rattle.sky_histories.proofs.Histories.{legal_past}
use Rattle.sky_histories.proofs.TickOrder.{is_made-tick}
use Rattle.sky_histories.proofs.KeptTicks.{position-later}
use Rattle.sky_histories.proofs.InCopyTables.{found-named}
use Rattle.sky_laws_replicas.proofs.NodeNames.{provider_of, database_among, names_in, source_of, called-database}
use Rattle.sky_laws_synced.specs.Tables.{has_own_tick}
use Rattle.sky_laws_synced.specs.LawsOfFollowing.{IsActive, Follows, LeavesFollow, CopiesFollow}
use Rattle.sky_laws_synced.proofs.Following.{is_of_node, InHand, Following}
use Rattle.sky_laws_synced.proofs.FollowingCalls.{set-is, LeadsOn, leads-on}
use Rattle.sky_laws_synced.proofs.LeafFollows.{CopyOf, LeafFollows}
use Rattle.sky_laws_synced.proofs.FollowPasts.{AtSource}
use Rattle.sky_laws_synced.proofs.FollowEachCall.{follow-calls}

some-map : {A B : Type 0} (f : A → B) (o : Option A) → is_some (option_map f o) ≡ is_some o
some-map f None = refl
some-map f (Some a) = refl

follows-of : (h : History) (q : ℕ) (f : Follower) (hand : Option BatchHand) → Legal h → Following h q f.consumer f.tick hand → Follows (database_of h) f hand
follows-of h q f hand l at = record {
  queue = q;
  sub = s;
  of_set = set-is h q at.of_set;
  registered = ap (option_map (λ id. record { id = id; position = position q f.consumer h; active = active q f.consumer h })) at.registered;
  from = at.from;
  upto = at.upto;
  kept = ap (λ o. is_some (option_and_then (λ queue. option_map Tick.snapshot (tick f.tick ((database_of h).queue queue).tick_list)) o)) (set-is h q at.of_set) ∙ some-map Tick.snapshot (tick f.tick (kept_ticks q h))
      ∙ ap is_some (position-later h l q f.consumer at.sub at.registered f.tick at.from) ∙ is_made-tick h q f.tick ∙ at.made;
  in_hand = of hand at.in_hand;
}
  where
    s : Subscription
    s = record { id = at.sub; position = position q f.consumer h; active = active q f.consumer h }

    of : (o : Option BatchHand) → IfSome o (InHand h q f.consumer at.sub f.tick) → IfSome o (IsActive (database_of h) q s f)
    of None i = tt
    of (Some b) i =
        let on : LeadsOn h q f.consumer b = leads-on h l q f.consumer at.sub f.tick b i in
        record { active = i.active; from = sym on.from; upto = omega (arith, on.from, on.upto); done = i.done }

-- the workers of a leaf, by the history of its provider's database
record AtProvider (past : Past) (d p : ℕ) (l : Leaf) : Type 0 where
  queue : ℕ
  follows : LeafFollows (history_in past p) queue l (batches past d) (hands past d)

at-provider : (calls : List Call) → All IsCallInForm calls → (d : ℕ) (l : Leaf) (provider : Located) → node (history_in (past_of calls) d) ≡ Some (of_leaf l) → node_called (world_of (past_of calls)) l.provider ≡ Some provider
    → AtProvider (past_of calls) d provider.database l
at-provider calls in_form d l provider is found =
    let past : Past = past_of calls in
    let a : AtSource past d l = (follow-calls calls in_form (legal_past calls)).leaves d l is in
    let from : source_of past d ≡ Some provider.database =
    ap (λ n. option_and_then (λ x. database_among (names_in past) x (nodes past)) (provider_of n)) is ∙ sym (called-database past l.provider) ∙ ap (option_map Located.database) found in
    let same : a.p ≡ provider.database = cc (sym a.from ∙ from) in
    record { queue = a.queue; follows = subst (λ n. LeafFollows (history_in past n) a.queue l (batches past d) (hands past d)) same a.follows }

pub leaves_follow : LeavesFollow
leaves_follow calls in_form d l provider is found =
    let a : AtProvider (past_of calls) d provider.database l = at-provider calls in_form d l provider is found in
    follows-of (history_in (past_of calls) provider.database) a.queue (replayer l) (batches (past_of calls) d) (legal_past calls provider.database) a.follows.replays

pub copies_follow : CopiesFollow
copies_follow calls in_form d l provider name t is found has =
    let past : Past = past_of calls in
    let a : AtProvider past d provider.database l = at-provider calls in_form d l provider is found in
    let named : name ≡ t.name = same_name name t.name (found-named name l.tables t has) in
    let c : CopyOf (history_in past provider.database) a.queue l t (hands past d t.name) = subst (λ n. CopyOf (history_in past provider.database) a.queue l t (hands past d n)) named (a.follows.copies name t has) in
    record {
      follows = λ copied.
          follows-of (history_in past provider.database) a.queue (copier (node (history_in past d)) t) (batch_in (hands past d t.name)) (legal_past calls provider.database)
          (subst (λ x. Following (history_in past provider.database) a.queue x t.tick (batch_in (hands past d t.name))) (sym (ap copy_consumer is)) (c.follows copied));
      others = c.others;
      under = c.under;
    }

-- the consumers of both are among the root's
pub leaf_is_nodes : (calls : List Call) → All IsCallInForm calls → (d : ℕ) (l : Leaf) (provider : Located) → node (history_in (past_of calls) d) ≡ Some (of_leaf l) → node_called (world_of (past_of calls)) l.provider ≡ Some provider
    → is_of_node l.name (node (history_in (past_of calls) provider.database)) ≡ true
leaf_is_nodes calls in_form d l provider is found = (at-provider calls in_form d l provider is found).follows.replays.is_nodes

pub copy_is_nodes : (calls : List Call) → All IsCallInForm calls → (d : ℕ) (l : Leaf) (provider : Located) (name : List ℕ) (t : LeafTable) → node (history_in (past_of calls) d) ≡ Some (of_leaf l)
    → node_called (world_of (past_of calls)) l.provider ≡ Some provider → table_of name l ≡ Some t → has_own_tick t.state ≡ true
    → is_of_node (copy_consumer (node (history_in (past_of calls) d))) (node (history_in (past_of calls) provider.database)) ≡ true
copy_is_nodes calls in_form d l provider name t is found has copied =
    ap (λ n. is_of_node (copy_consumer n) (node (history_in (past_of calls) provider.database))) is ∙ (((at-provider calls in_form d l provider is found).follows.copies name t has).follows copied).is_nodes
