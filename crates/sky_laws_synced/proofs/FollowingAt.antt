-- The batch that a worker has in hand, after the calls of the world, and that it can be applied.
use Rattle.std.proofs.Common.{arith, ◌≡◌, ℕ, ◌<◌, ◌≤◌, ◌^◌, nat_le, List, [], ◌∷◌, true, false, Option, Some, None, IfSome, All, option_map, unwrap_or, refl, sym, ap, subst, ◌∙◌}
use Rattle.londiste_state.specs.Nodes.{of_leaf, Leaf, LeafTable}
use Rattle.londiste_state.specs.declared.state.TableState.TheVariants.{DoSync}
use Rattle.sky_model.specs.Hands.{BatchHand, batch_in}
use Rattle.sky_model.specs.History.{Batch, of_synced, appeared, History, Past}
use Rattle.sky_model.specs.Transactions.{next_txid}
use Rattle.sky_model.specs.Queues.{events}
use Rattle.sky_model.specs.Batches.{batch_events}
use Rattle.sky_model.specs.Selection.{selected}
use Rattle.sky_model.specs.Nodes.{node}
use Rattle.sky_model.specs.State.{database_of}
use Rattle.sky_model.specs.StepApply.{bad_event}
use Rattle.sky_model.specs.StepNode.{applying}
use Rattle.sky_model.specs.BatchMoves.{Follower, events_of_batch}
use Rattle.sky_model.specs.ReplayMoves.{replayer}
use Rattle.sky_model.specs.CopyMoves.{copier}
use Rattle.sky_model.specs.World.{history_in, hands, batches}
use Rattle.sky_model.specs.HistoryPlaces.{IsPlace}
use Rattle.sky_histories.proofs.SnapshotLaws.{legal_place}
use Rattle.sky_histories.proofs.ActiveBatches.{active_batches, IsActive as IsActiveBatch}
use Rattle.sky_histories.proofs.Rotation.{batch_events-selected}
use Rattle.sky_histories.proofs.InCopyTables.{leaf_table}
use Rattle.sky_laws_replicas.proofs.NodeNames.{source_of}
use Rattle.sky_laws_replicas.proofs.CallPasts.{called}
use Rattle.sky_laws_synced.specs.Tables.{has_own_tick}
use Rattle.sky_laws_synced.specs.LawsOfFollowing.{Follows, IsActive}
use Rattle.sky_laws_synced.proofs.PickedEvents.{IsNotOwn}
use Rattle.sky_laws_synced.proofs.Showing.{IsBetween, none-bad}
use Rattle.sky_laws_synced.proofs.Going.{AllPlaces, Goes}
use Rattle.sky_laws_synced.proofs.NextBatch.{IsNext, HasCome, all-fit, may-apply}
use Rattle.sky_laws_synced.proofs.Applied.{goes-applied}

-- a worker follows the queue of the set of a provider's database, in which no event is for its subscription alone
pub record FollowsIn (past : Past) (p : ℕ) (f : Follower) (hand : Option BatchHand) : Type 0 where
  pub follows : Follows (database_of (history_in past p)) f hand
  pub unowned : All (IsNotOwn follows.sub.id) (events follows.queue (history_in past p))

-- the worker of each leaf does, and that of the copy of each table that was copied and isn't in sync yet
pub record AllFollow (past : Past) : Type 0 where
  pub leaves : (d p : ℕ) (l : Leaf) → node (history_in past d) ≡ Some (of_leaf l) → source_of past d ≡ Some p → FollowsIn past p (replayer l) (batches past d)
  pub copies : (d p : ℕ) (name : List ℕ) (t : LeafTable) → leaf_table name (node (history_in past d)) ≡ Some t → has_own_tick t.state ≡ true → source_of past d ≡ Some p
      → FollowsIn past p (copier (node (history_in past d)) t) (batch_in (hands past d name))

pub follow-appeared : (past : Past) (name : List ℕ) → AllFollow past → AllFollow (appeared name ∷ past)
follow-appeared past name a = record {
  leaves = λ d p l is from. let f = a.leaves d p l is from in record { follows = f.follows; unowned = f.unowned };
  copies = λ d p n t there copied from. let f = a.copies d p n t there copied from in record { follows = f.follows; unowned = f.unowned };
}

-- its batch in hand, if it hasn't come to the closing tick
pub record InWork (past : Past) (p : ℕ) (f : Follower) (b : BatchHand) : Type 0 where
  pub batch : Batch
  pub next : IsNext past p batch
  pub opens : f.tick ≡ batch.prev
  pub closes : batch.cur ≡ b.cur
  pub events_are : events_of_batch (database_of (history_in past p)) b.id ≡ batch_events (history_in past p) batch

pub in-work : (past : Past) (p : ℕ) (f : Follower) (b : BatchHand) (hand : Option BatchHand) → hand ≡ Some b → FollowsIn past p f hand → IsPlace (history_in past p) → f.tick < b.cur → InWork past p f b
in-work past p f b hand is x place less = record {
  batch = batch;
  next = record { of_set = x.follows.of_set; onward = onward; made = active.closing; unowned = x.unowned };
  opens = opens;
  closes = refl;
  events_are = ap (λ o. unwrap_or (option_map (selected (database_of k)) o) []) a.active ∙ sym (batch_events-selected k (legal_place k place) b.id batch a.active);
}
  where
    k : History
    k = history_in past p

    a : IsActive (database_of k) x.follows.queue x.follows.sub f b
    a = subst (λ o. IfSome o (IsActive (database_of k) x.follows.queue x.follows.sub f)) is x.follows.in_hand

    batch : Batch
    batch = record { id = b.id; queue = x.follows.queue; consumer = f.consumer; sub = x.follows.sub.id; prev = b.prev; cur = b.cur }

    active : IsActiveBatch k b.id batch
    active = active_batches k (legal_place k place) b.id batch a.active

    onward : b.prev ≤ b.cur
    onward = let one = a.from in let two = a.upto in omega (arith, one, two)

    opens : f.tick ≡ b.prev
    opens = let one = a.from in let two = a.upto in let low = x.follows.from in omega (arith, one, two, low, less)

-- ---- what can be applied

module _ (past : Past) (d p : ℕ) (f : Follower) (b : BatchHand) (g : Goes past) (from : source_of past d ≡ Some p) (place : IsPlace (history_in past p)) (between : IsBetween (history_in past d))
    (w : InWork past p f b) (has : HasCome (node (history_in past d)) f.pick f.tick) where
  come_is : HasCome (node (history_in past d)) f.pick w.batch.prev
  come_is = subst (HasCome (node (history_in past d)) f.pick) w.opens has

  -- no event of it is bad
  pub not-bad : bad_event (database_of (history_in past d)) f.pick (events_of_batch (database_of (history_in past p)) b.id) ≡ None
  not-bad =
      ap (bad_event (database_of (history_in past d)) f.pick) w.events_are
      ∙ none-bad (history_in past d) between (batch_events (history_in past p) w.batch) f.pick (may-apply past d p w.batch f.pick g from place w.next come_is) (all-fit past d p w.batch f.pick g from place w.next come_is)

  -- and it is applied
  pub goes-worked : nat_le (2 ^ 62) (next_txid (history_in past d)) ≡ false
      → (f.pick ≡ of_synced → (name : List ℕ) (t : LeafTable) (tick : ℕ) → leaf_table name (node (history_in past d)) ≡ Some t → t.state ≡ DoSync tick → ⊥)
      → AllPlaces (called past d (applying (events_of_batch (database_of (history_in past p)) b.id) f.pick b.cur)) → Goes (called past d (applying (events_of_batch (database_of (history_in past p)) b.id) f.pick b.cur))
  goes-worked unspent none all =
      let same : called past d (applying (events_of_batch (database_of (history_in past p)) b.id) f.pick b.cur) ≡ called past d (applying (batch_events (history_in past p) w.batch) f.pick w.batch.cur) =
      λ i. called past d (applying (w.events_are i) f.pick (sym w.closes i)) in
      subst Goes (sym same) (goes-applied past d p w.batch f.pick g from (subst AllPlaces same all) w.next come_is between unspent none)
