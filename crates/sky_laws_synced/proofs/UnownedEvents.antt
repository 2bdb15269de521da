-- No event of a set's queue is for the subscription of a leaf's worker alone, nor for that of the copy of a table.
use Rattle.std.proofs.Common.{◌≡◌, ℕ, ◌==◌, List, Option, Some, None, All, option_map, unwrap_or, true, false, refl, ap, subst}
use Rattle.std.proofs.lemmas.Bool.{false_from_ne_true, eqb-true}
use Rattle.std.proofs.lemmas.List.Elements.{All-weaker}
use Rattle.londiste_state.specs.Nodes.{of_leaf, is_among, Leaf, LeafTable, table_of}
use Rattle.sky_val.specs.declared.event.Event.{Event}
use Rattle.sky_model.specs.Hands.{BatchHand, batch_in}
use Rattle.sky_model.specs.History.{History}
use Rattle.sky_model.specs.Queues.{events}
use Rattle.sky_model.specs.Consumers.{subscription_id, position, active, Subscription}
use Rattle.sky_model.specs.Nodes.{node}
use Rattle.sky_model.specs.State.{database_of}
use Rattle.sky_model.specs.StepNode.{set_queue}
use Rattle.sky_model.specs.BatchMoves.{Follower}
use Rattle.sky_model.specs.ReplayMoves.{replayer}
use Rattle.sky_model.specs.CopyMoves.{copier}
use Rattle.sky_model.specs.NodesOfWorld.{Located, node_called}
use Rattle.sky_model.specs.World.{world_of, history_in, hands, batches}
use Rattle.sky_model.specs.Calls.{Call, past_of}
use Rattle.sky_model.specs.Steps.{IsCallInForm}
use Rattle.sky_model.specs.LawsOfHistories.{IsMadeByOwnCalls}
use Rattle.sky_histories.proofs.Histories.{histories_are_made_by_own_calls}
use Rattle.sky_laws_synced.specs.Tables.{has_own_tick}
use Rattle.sky_laws_synced.specs.LawsOfFollowing.{Follows}
use Rattle.sky_laws_synced.specs.LawsOfOwners.{set_consumers}
use Rattle.sky_laws_synced.proofs.Following.{is_of_node}
use Rattle.sky_laws_synced.proofs.PickedEvents.{IsNotOwn}
use Rattle.sky_laws_synced.proofs.WorkersFollow.{leaf_is_nodes, copy_is_nodes}
use Rattle.sky_laws_synced.proofs.OwnersInduction.{nodes_events_have_no_owner}

not-own : (sub : ℕ) (e : Event) → (e.ev_owner ≡ Some sub → ⊥) → IsNotOwn sub e
not-own sub e isnt = of e.ev_owner isnt
  where
    of : (o : Option ℕ) → (o ≡ Some sub → ⊥) → unwrap_or (option_map (λ owner. owner == sub) o) false ≡ false
    of None isnt = refl
    of (Some owner) isnt = false_from_ne_true (owner == sub) (λ same. isnt (ap Some (eqb-true owner sub same)))

sub-id : (h : History) (q : ℕ) (c : List ℕ) (s : Subscription) → ((database_of h).queue q).sub c ≡ Some s → subscription_id q c h ≡ Some s.id
sub-id h q c s is = of (subscription_id q c h) is
  where
    of : (o : Option ℕ) → option_map (λ id. record { id = id; position = position q c h; active = active q c h }) o ≡ Some s → o ≡ Some s.id
    of None is = absurd (cc is)
    of (Some id) is = let one : record { id = id; position = position q c h; active = active q c h } ≡ s = cc is in ap (λ (x : Subscription). Some x.id) one

-- what the law says of a history
abbrev OwnedByNone : History → Type 0
OwnedByNone h = (queue : ℕ) (consumer : List ℕ) (sub : ℕ) → set_queue (database_of h) ≡ Some queue → is_among consumer (set_consumers (node h)) ≡ true → subscription_id queue consumer h ≡ Some sub
    → All (λ e. e.ev_owner ≡ Some sub → ⊥) (events queue h)

-- of a worker whose consumer is a node's
follower-own_none : (calls : List Call) → All IsCallInForm calls → (p : ℕ) (f : Follower) (hand : Option BatchHand) (x : Follows (database_of (history_in (past_of calls) p)) f hand) → is_of_node f.consumer (node (history_in (past_of calls) p)) ≡ true
    → All (IsNotOwn x.sub.id) (events x.queue (history_in (past_of calls) p))
follower-own_none calls in_form p f hand x nodes =
    let h : History = history_in (past_of calls) p in
    let made : IsMadeByOwnCalls calls h = histories_are_made_by_own_calls calls p in
    All-weaker (λ (e : Event). e.ev_owner ≡ Some x.sub.id → ⊥) (IsNotOwn x.sub.id) (not-own x.sub.id) (events x.queue h)
    (subst OwnedByNone made.make (nodes_events_have_no_owner made.own_calls (made.in_form in_form)) x.queue f.consumer x.sub.id x.of_set nodes (sub-id h x.queue f.consumer x.sub x.registered))

-- no event of a set's queue is for the subscription of a leaf's worker alone
pub leaves_own_none : (calls : List Call) → All IsCallInForm calls → (d : ℕ) (leaf : Leaf) (provider : Located) → node (history_in (past_of calls) d) ≡ Some (of_leaf leaf) → node_called (world_of (past_of calls)) leaf.provider ≡ Some provider
    → (f : Follows (database_of (history_in (past_of calls) provider.database)) (replayer leaf) (batches (past_of calls) d)) → All (IsNotOwn f.sub.id) (events f.queue (history_in (past_of calls) provider.database))
leaves_own_none calls in_form d leaf provider is found f = follower-own_none calls in_form provider.database (replayer leaf) (batches (past_of calls) d) f (leaf_is_nodes calls in_form d leaf provider is found)

-- nor for that of the copy of a table
pub copies_own_none : (calls : List Call) → All IsCallInForm calls → (d : ℕ) (leaf : Leaf) (provider : Located) (name : List ℕ) (t : LeafTable) → node (history_in (past_of calls) d) ≡ Some (of_leaf leaf)
    → node_called (world_of (past_of calls)) leaf.provider ≡ Some provider → table_of name leaf ≡ Some t → has_own_tick t.state ≡ true
    → (f : Follows (database_of (history_in (past_of calls) provider.database)) (copier (node (history_in (past_of calls) d)) t) (batch_in (hands (past_of calls) d t.name)))
    → All (IsNotOwn f.sub.id) (events f.queue (history_in (past_of calls) provider.database))
copies_own_none calls in_form d leaf provider name t is found there copied f =
    follower-own_none calls in_form provider.database (copier (node (history_in (past_of calls) d)) t) (batch_in (hands (past_of calls) d t.name)) f (copy_is_nodes calls in_form d leaf provider name t is found there copied)
