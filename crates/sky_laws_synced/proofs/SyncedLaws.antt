-- The laws on replicas to which batches are applied.
use Rattle.std.proofs.Common.{◌≡◌, ℕ, List, [], ◌∷◌, true, ◌||◌, Option, Some, All, refl, sym, ap, subst, ◌∙◌}
use Rattle.std.proofs.lemmas.List.Elements.{All-tail}
use Rattle.londiste_state.specs.declared.state.TableState.{TableState}
use Rattle.londiste_state.specs.declared.state.TableState.TheVariants.{Absent, InCopy}
use Rattle.londiste_state.specs.Nodes.{Node, of_leaf, Leaf, LeafTable, table_of}
use Rattle.sky_model.specs.Hands.{batch_in}
use Rattle.sky_model.specs.History.{History, Past}
use Rattle.sky_model.specs.Nodes.{node, is_leaf}
use Rattle.sky_model.specs.State.{database_of}
use Rattle.sky_model.specs.StepApply.{is_synced}
use Rattle.sky_model.specs.BatchMoves.{Follower}
use Rattle.sky_model.specs.ReplayMoves.{replayer}
use Rattle.sky_model.specs.CopyMoves.{copier}
use Rattle.sky_model.specs.NodesOfWorld.{node_called}
use Rattle.sky_model.specs.World.{world_of, history_in, hands, batches}
use Rattle.sky_model.specs.Calls.{Call, past_of}
use Rattle.sky_model.specs.Steps.{IsCallInForm}
use Rattle.sky_histories.proofs.InCopyTables.{leaf_table, is_past_copy}
use Rattle.sky_laws_replicas.proofs.NodeNames.{source_of}
use Rattle.sky_laws_replicas.proofs.KeptCalls.{HasSource, has-source}
use Rattle.sky_laws_replicas.proofs.ProvidedCalls.{from-found, found-database}
use Rattle.sky_laws_synced.specs.Tables.{has_own_tick}
use Rattle.sky_laws_synced.specs.LawsOfFollowing.{Follows, CopyFollows}
use Rattle.sky_laws_synced.specs.LawsOfSynced.{ReplicasShowProvider, BatchesCanBeApplied, CopiesBatchesCanBeApplied}
use Rattle.sky_laws_synced.proofs.UnownedEvents.{leaves_own_none, copies_own_none}
use Rattle.sky_laws_synced.proofs.ChangedTables.{leafs_tick, table-named}
use Rattle.sky_laws_synced.proofs.Showing.{Shows}
use Rattle.sky_laws_synced.proofs.Going.{come, ShowsIn, Goes}
use Rattle.sky_laws_synced.proofs.FollowingAt.{FollowsIn, AllFollow, in-work, not-bad}
use Rattle.sky_laws_synced.proofs.WorkersFollow.{leaves_follow, copies_follow}
use Rattle.sky_laws_synced.proofs.LedTables.{shows-provider}
use Rattle.sky_laws_synced.proofs.GoingCalls.{between-past, places-past, goes-start, goes-next}
use Rattle.sky_laws_synced.proofs.RestingTables.{leaf-found}
use Rattle.sky_laws_synced.proofs.NextBatch.{IsThisLeaf, this-leaf}

-- ---- after all calls

-- the table of a name that a leaf has
in-leaf : (name : List ℕ) (n : Option Node) (l : Leaf) (t : LeafTable) → n ≡ Some (of_leaf l) → leaf_table name n ≡ Some t → table_of name l ≡ Some t
in-leaf name n l t is there = sym (ap (leaf_table name) is) ∙ there

-- the workers follow
module _ (calls : List Call) (in_form : All IsCallInForm calls) where
  abbrev past : Past
  past = past_of calls

  pub leaf-follows : (d p : ℕ) (l : Leaf) → node (history_in past d) ≡ Some (of_leaf l) → source_of past d ≡ Some p → FollowsIn past p (replayer l) (batches past d)
  leaf-follows d p l is from = subst (λ q. FollowsIn past q (replayer l) (batches past d)) s.is (record { follows = f; unowned = leaves_own_none calls in_form d l s.provider is found f })
    where
      s : HasSource past d p
      s = has-source past d p from

      same : s.leaf ≡ l
      same = let both : Some (of_leaf s.leaf) ≡ Some (of_leaf l) = sym s.is_leaf ∙ is in cc both

      found : node_called (world_of past) l.provider ≡ Some s.provider
      found = ap (λ (x : Leaf). node_called (world_of past) x.provider) (sym same) ∙ s.found

      f : Follows (database_of (history_in past s.provider.database)) (replayer l) (batches past d)
      f = leaves_follow calls in_form d l s.provider is found

  pub copy-follows : (d p : ℕ) (name : List ℕ) (t : LeafTable) → leaf_table name (node (history_in past d)) ≡ Some t → has_own_tick t.state ≡ true → source_of past d ≡ Some p
      → FollowsIn past p (copier (node (history_in past d)) t) (batch_in (hands past d name))
  copy-follows d p name t there copied from =
      subst (λ n. FollowsIn past p (copier (node (history_in past d)) t) (batch_in (hands past d n))) (table-named name (node (history_in past d)) t there)
      (subst (λ q. FollowsIn past q (copier (node (history_in past d)) t) (batch_in (hands past d t.name))) s.is (record { follows = f; unowned = copies_own_none calls in_form d o.l s.provider name t o.is found has copied f }))
    where
      o : IsThisLeaf (node (history_in past d))
      o = this-leaf (node (history_in past d)) (leaf-found name (node (history_in past d)) t there)

      s : HasSource past d p
      s = has-source past d p from

      same : s.leaf ≡ o.l
      same = let both : Some (of_leaf s.leaf) ≡ Some (of_leaf o.l) = sym s.is_leaf ∙ o.is in cc both

      found : node_called (world_of past) o.l.provider ≡ Some s.provider
      found = ap (λ (x : Leaf). node_called (world_of past) x.provider) (sym same) ∙ s.found

      has : table_of name o.l ≡ Some t
      has = in-leaf name (node (history_in past d)) o.l t o.is there

      c : CopyFollows (world_of past) d s.provider.database o.l t
      c = copies_follow calls in_form d o.l s.provider name t o.is found has

      f : Follows (database_of (history_in past s.provider.database)) (copier (node (history_in past d)) t) (batch_in (hands past d t.name))
      f = c.follows copied

  all-follow : AllFollow past
  all-follow = record { leaves = leaf-follows; copies = copy-follows }

pub goes-past : (calls : List Call) → All IsCallInForm calls → Goes (past_of calls)
goes-past [] in_form = goes-start
goes-past (call ∷ calls) in_form =
    let before : All IsCallInForm calls = All-tail IsCallInForm call calls in_form in goes-next call calls in_form before (all-follow calls before) (goes-past calls before)

-- ---- replicas show their provider

pub either-along : (state : TableState) → (has_own_tick state || is_synced state) ≡ true → is_past_copy state ≡ true
either-along Absent e = absurd (cc e)
either-along InCopy e = absurd (cc e)
either-along state e = refl

pub replicas_show_provider : ReplicasShowProvider
replicas_show_provider calls in_form d leaf provider name t is found there state =
    shows-provider h k leaf t is (places-past calls in_form provider.database) (subst (λ q. Shows h (history_in past q) (come (node h) t) t) same_p s.shows)
  where
    past : Past
    past = past_of calls

    h : History
    h = history_in past d

    k : History
    k = history_in past provider.database

    s : ShowsIn past d h t
    s = (goes-past calls in_form).shown d name t (ap (leaf_table name) is ∙ there) (either-along t.state state)

    same_p : s.p ≡ provider.database
    same_p = let both : Some s.p ≡ Some provider.database = sym s.from ∙ from-found past d provider.database leaf is (found-database past leaf.provider provider found) in cc both

-- ---- batches can be applied

pub batches_can_be_applied : BatchesCanBeApplied
batches_can_be_applied calls in_form d leaf provider is found b hand less =
    not-bad (past_of calls) d provider.database (replayer leaf) b (goes-past calls in_form) from (places-past calls in_form provider.database) (between-past calls d)
    (in-work (past_of calls) provider.database (replayer leaf) b (batches (past_of calls) d) hand (leaf-follows calls in_form d provider.database leaf is from) (places-past calls in_form provider.database) less)
    (ap is_leaf is, ap leafs_tick is)
  where
    from : source_of (past_of calls) d ≡ Some provider.database
    from = from-found (past_of calls) d provider.database leaf is (found-database (past_of calls) leaf.provider provider found)

pub copies_batches_can_be_applied : CopiesBatchesCanBeApplied
copies_batches_can_be_applied calls in_form d leaf provider name t is found there copied b hand less =
    not-bad (past_of calls) d provider.database f b (goes-past calls in_form) from (places-past calls in_form provider.database) (between-past calls d)
    (in-work (past_of calls) provider.database f b (batch_in (hands (past_of calls) d name)) (ap (λ n. batch_in (hands (past_of calls) d n)) (sym named) ∙ hand)
    (copy-follows calls in_form d provider.database name t in_table copied from) (places-past calls in_form provider.database) less) (t, ap (λ n. leaf_table n (node h)) named ∙ in_table, copied, refl)
  where
    h : History
    h = history_in (past_of calls) d

    f : Follower
    f = copier (node h) t

    from : source_of (past_of calls) d ≡ Some provider.database
    from = from-found (past_of calls) d provider.database leaf is (found-database (past_of calls) leaf.provider provider found)

    in_table : leaf_table name (node h) ≡ Some t
    in_table = ap (leaf_table name) is ∙ there

    named : t.name ≡ name
    named = table-named name (node h) t in_table
