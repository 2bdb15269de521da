-- The provider of each leaf is found.
use Rattle.std.proofs.Common.{◌≡◌, ℕ, List, true, Option, Some, None, Ok, All, [], is_some, option_map, refl, sym, ap, ◌∙◌}
use Rattle.std.specs.Option.{option_and_then}
use Rattle.londiste_state.specs.Nodes.{Root, Node, of_root, of_leaf, Leaf, node_name}
use Rattle.sky_model.specs.declared.reply.Refusal.TheVariants.{NoNode, NotProvider}
use Rattle.sky_model.specs.History.{batch_in_hand, Past}
use Rattle.sky_model.specs.Nodes.{node, is_root, is_leaf}
use Rattle.sky_model.specs.Outcome.{◌>>=◌, found_or}
use Rattle.sky_model.specs.StepNode.{set_queue}
use Rattle.sky_model.specs.ReplayMoves.{replay_move}
use Rattle.sky_model.specs.NodesOfWorld.{Located, node_called}
use Rattle.sky_model.specs.WorkersOfWorld.{moves, leaf_steps, londiste_step}
use Rattle.sky_model.specs.World.{World, world_of, history_in, nodes}
use Rattle.sky_model.specs.Calls.{Call, past_of}
use Rattle.sky_model.specs.Steps.{IsCallInForm}
use Rattle.sky_histories.proofs.NodeDeeds.{called-there}
use Rattle.sky_laws.proofs.NodeLaws.{sets_have_queues}
use Rattle.sky_histories.proofs.Histories.{world_place, legal_past}
use Rattle.sky_laws_replicas.proofs.NodeNames.{provider_of as name_of_provider, database_among, names_in, source_of, called-database, among-named}
use Rattle.sky_laws_replicas.proofs.ProvidedTables.{TablesOffered}
use Rattle.sky_laws_replicas.proofs.ProvidedCalls.{kept-provided}
use Rattle.sky_laws_synced.specs.LawsOfProviders.{HasProvider, LeavesHaveProviders, StepsFindProviders}

-- the root that a node is
record IsThisRoot (n : Option Node) : Type 0 where
  r : Root
  is : n ≡ Some (of_root r)

this-root : (n : Option Node) → is_root n ≡ true → IsThisRoot n
this-root None e = absurd (cc e)
this-root (Some (of_leaf l)) e = absurd (cc e)
this-root (Some (of_root r)) e = record { r = r; is = refl }

-- the queue that a set has
record HasQueue (o : Option ℕ) : Type 0 where
  queue : ℕ
  is : o ≡ Some queue

this-queue : (o : Option ℕ) → is_some o ≡ true → HasQueue o
this-queue None e = absurd (cc e)
this-queue (Some queue) e = record { queue = queue; is = refl }

-- the provider of a leaf, whose database is the one of its name
pub record IsProvided (past : Past) (d : ℕ) (leaf : Leaf) : Type 0 where
  pub provider : HasProvider (world_of past) d leaf
  pub from : source_of past d ≡ Some provider.database

pub is-provided : (calls : List Call) → All IsCallInForm calls → (d : ℕ) (leaf : Leaf) → node (history_in (past_of calls) d) ≡ Some (of_leaf leaf) → IsProvided (past_of calls) d leaf
is-provided calls in_form d leaf stands = record {
  provider = record {
    database = c.p;
    found = at (node_called w leaf.provider) refl;
    root = root.r;
    is_root = root.is;
    named = cc (sym (ap (option_map node_name) root.is) ∙ among-named (names_in past) leaf.provider (nodes past) c.p (sym (called-database past leaf.provider) ∙ there));
    queue = queue.queue;
    of_set = queue.is;
    other = λ same. cc (sym (ap is_leaf stands) ∙ ap (λ x. is_leaf (node (history_in past x))) (sym same) ∙ ap is_leaf root.is);
  };
  from = c.from;
}
  where
    past : Past
    past = past_of calls

    w : World
    w = world_of past

    c : TablesOffered past d
    c = (kept-provided calls (legal_past calls)).leaves d (ap is_leaf stands)

    root : IsThisRoot (node (history_in past c.p))
    root = this-root (node (history_in past c.p)) c.root

    queue : HasQueue (set_queue (w.database c.p))
    queue = this-queue (set_queue (w.database c.p)) (sets_have_queues (history_in past c.p) (world_place calls c.p [] (history_in past c.p) in_form refl) c.root)

    -- the provider's database is the one of its name
    there : option_map Located.database (node_called w leaf.provider) ≡ Some c.p
    there = called-database past leaf.provider ∙ sym (ap (λ k. option_and_then (λ x. database_among (names_in past) x (nodes past)) (name_of_provider k)) stands) ∙ c.from

    at : (x : Option Located) → node_called w leaf.provider ≡ x
        → (found_or x (NoNode leaf.provider) >>= (λ n. found_or (set_queue (w.database n.database)) (NotProvider leaf.provider) >>= (λ q. Ok n.database))) ≡ Ok c.p
    at None found = absurd (cc (sym there ∙ ap (option_map Located.database) found))
    at (Some m) found =
        ap (λ p. found_or (set_queue (w.database p)) (NotProvider leaf.provider) >>= (λ q. Ok p)) (let same : m.database ≡ c.p = cc (sym (ap (option_map Located.database) found) ∙ there) in same)
        ∙ ap (λ o. found_or o (NotProvider leaf.provider) >>= (λ q. Ok c.p)) queue.is

pub leaves_have_providers : LeavesHaveProviders
leaves_have_providers calls in_form d leaf stands = (is-provided calls in_form d leaf stands).provider

-- a step of the leaf's worker finds it
pub step-is : (past : Past) (name : List ℕ) (n : Located) (leaf : Leaf) → node_called (world_of past) name ≡ Some n → n.node ≡ of_leaf leaf → (provider : HasProvider (world_of past) n.database leaf)
    → (let w : World = world_of past in
    londiste_step w name ≡ moves w provider.database n.database (batch_in_hand n.database) (replay_move (w.database provider.database) (w.database n.database) leaf (w.batches n.database)))
step-is past name n leaf called is provider =
    ap (λ o. found_or o (NoNode name) >>= (λ m. leaf_steps w m.database name m.node)) called ∙ ap (leaf_steps w n.database name) is
    ∙ ap (λ c. c >>= (λ p. moves w p n.database (batch_in_hand n.database) (replay_move (w.database p) (w.database n.database) leaf (w.batches n.database)))) provider.found
  where
    w : World
    w = world_of past

pub steps_find_providers : StepsFindProviders
steps_find_providers calls in_form name n leaf called is = record { provider = p; steps = step-is (past_of calls) name n leaf called is p }
  where
    p : HasProvider (world_of (past_of calls)) n.database leaf
    p = leaves_have_providers calls in_form n.database leaf (called-there (world_of (past_of calls)) name n called ∙ ap Some is)
