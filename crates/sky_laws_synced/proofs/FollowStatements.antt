-- Each statement on nodes leaves the consumers of all leaves' workers where they follow.
use Rattle.std.proofs.Common.{◌≡◌, inl, inr, ℕ, List, [], ◌∷◌, ◌++◌, true, false, Option, Some, None, Ok, Err, IfOk, option_map, bytes_eq, refl, sym, ap, subst, ◌∙◌, if◌then◌else◌}
use Rattle.std.specs.Option.{option_and_then}
use Rattle.sky_names.proofs.PlaceLemmas.{bytes_eq_sym}
use Rattle.londiste_state.specs.declared.state.TableState.{TableState}
use Rattle.londiste_state.specs.Nodes.{Node, of_root, of_leaf, Leaf, LeafTable, is_among, table_of, tables_of, without_leaf_table}
use Rattle.sky_model.specs.declared.reply.Reply.TheVariants.{Done}
use Rattle.sky_model.specs.declared.reply.Refusal.TheVariants.{NoNode, NotProvider}
use Rattle.sky_model.specs.History.{History, of_synced, in_hand, batch_in_hand, Past}
use Rattle.sky_model.specs.Hands.{CopyHand, BatchHand, Hand, copy_in, batch_in}
use Rattle.sky_model.specs.Nodes.{node}
use Rattle.sky_model.specs.State.{database_of}
use Rattle.sky_model.specs.Outcome.{Checked, ◌>>=◌, found_or}
use Rattle.sky_model.specs.StepNode.{NodeCall, parting, set_queue}
use Rattle.sky_model.specs.StepApply.{may_apply}
use Rattle.sky_model.specs.WorkerMoves.{Move}
use Rattle.sky_model.specs.CopyMoves.{copy_consumer, copy_move, lets_go_for}
use Rattle.sky_model.specs.ReplayMoves.{is_on_way, replay_move}
use Rattle.sky_model.specs.NodesOfWorld.{WorldOutcome, Located, node_called}
use Rattle.sky_model.specs.WorkersOfWorld.{moves, source, source_alike, leaf_table, restarts, restarting, provider_of as providers_database, leaf_steps, parts_for, leaves_leaf}
use Rattle.sky_model.specs.World.{World, world_of, history_in, nodes, hands, batches, on_top}
use Rattle.sky_histories.proofs.Legal.{Legal}
use Rattle.sky_histories.proofs.Histories.{AllLegal}
use Rattle.sky_model.proofs.Cases.{by_test, ok-then}
use Rattle.sky_histories.proofs.InCopyTables.{found, found-less, found-gone}
use Rattle.sky_laws_replicas.proofs.NodeNames.{provider_of, database_among, names_in, source_of, called-database}
use Rattle.sky_laws_replicas.proofs.CallPasts.{after_calls, on-move}
use Rattle.sky_laws_replicas.proofs.Sources.{source-is, alike-is}
use Rattle.sky_laws_replicas.proofs.KeptCalls.{leaf-is}
use Rattle.sky_laws_synced.proofs.Following.{empty-handed}
use Rattle.sky_laws_synced.proofs.FollowingCalls.{spares-parting}
use Rattle.sky_laws_synced.proofs.LeafFollows.{copy_name, CopyOf, LeafFollows, KeptAt, copy-kept, copy-off_way, all-kept, replayed, off-way, changed}
use Rattle.sky_laws_synced.proofs.LeafNodes.{IsOfCalls, leaf-given_up, leaf-removed}
use Rattle.sky_laws_synced.proofs.WorkersMoves.{after_each, SparesEach, kept-each}
use Rattle.sky_laws_synced.proofs.LeafMoves.{names-apart, spares-append, spares-letting_go, MoveFollows, replay-follows}
use Rattle.sky_laws_synced.proofs.CopiersMoves.{handed, handed-here, handed-other, copy-follows}
use Rattle.sky_laws_synced.proofs.FollowPasts.{AtSource, Follow, KeptFollow, legal-calls}
use Rattle.sky_laws_synced.proofs.FollowMoves.{follow-batch, follow-hand}

-- ---- what is in hand is lost

emptied : (h : History) (q : ℕ) (l : Leaf) (batch : Option BatchHand) (hand : List ℕ → Option Hand) (name : List ℕ) → LeafFollows h q l batch hand → LeafFollows h q l batch (handed name None hand)
emptied h q l batch hand name f =
    changed h h q l batch batch hand (handed name None hand) name l.tables f.replays (record {
      others = λ n differ. refl;
      hands = λ n differ. handed-other name None hand n differ;
      kept = λ n u differ is c. c;
      here = λ u is. let c = f.copies name u is in subst (CopyOf h q l u) (sym (handed-here name None hand)) (record {
        copying = λ copy this. absurd (cc this);
        follows = λ has. empty-handed h q (copy_name l) u.tick (batch_in (hand name)) (c.follows has);
        others = λ _. refl;
        under = c.under;
      });
      none = λ _. handed-here name None hand;
      sole = λ u is on n v differ there. off-way h q l batch hand name u f is on n v differ there;
    }) f

spares-lets : (h : History) (q : ℕ) (c : List ℕ) (o : Option CopyHand) → SparesEach h q c (lets_go_for o)
spares-lets h q c None = tt
spares-lets h q c (Some copy) = (spares-letting_go (database_of h) q c copy.hold, tt)

restarted-follows : (h k : History) (q : ℕ) (l : Leaf) (batch : Option BatchHand) (hand : List ℕ → Option Hand) (name : List ℕ) → node k ≡ Some (of_leaf l) → LeafFollows h q l batch hand
    → MoveFollows h k q l (copy_name l) (restarting name (hand name)) batch (handed name None hand)
restarted-follows h k q l batch hand name leaf f = record {
  spared = λ c other. spares-lets h q c (copy_in (hand name));
  leaf = l;
  is = leaf-given_up k name ∙ leaf;
  named = refl;
  follows = λ legal.
      let g : History = after_each h (lets_go_for (copy_in (hand name))) in
      let keep : (c : List ℕ) → KeptAt h g q c = λ c. kept-each h q c (lets_go_for (copy_in (hand name))) legal (spares-lets h q c (copy_in (hand name))) in
      emptied g q l batch hand name (all-kept h g q l batch hand (keep l.name) (keep (copy_name l)) f);
}

-- ---- a table leaves a leaf

spares-parts : (h : History) (q : ℕ) (c : List ℕ) (l : Leaf) (o : Option TableState) → bytes_eq c (copy_name l) ≡ false → SparesEach h q c (parts_for (Some (of_leaf l)) o)
spares-parts h q c l None other = tt
spares-parts h q c l (Some state) other =
    by_test (λ b. SparesEach h q c (if b then parting (copy_name l) ∷ [] else [])) (is_on_way state) (λ _. (spares-parting (database_of h) q c (copy_name l) other, tt)) (λ _. tt)

-- its copy's consumer leaves only if it is on its way; then no other table needs it
parts-kept : (h g : History) (q : ℕ) (l : Leaf) (name : List ℕ) (batch : Option BatchHand) (hand : List ℕ → Option Hand) → LeafFollows h q l batch hand → (o : Option LeafTable) → found name l.tables ≡ o
    → (parts_for (Some (of_leaf l)) (option_map LeafTable.state o) ≡ [] → KeptAt h g q (copy_name l))
    → (n : List ℕ) (u : LeafTable) → bytes_eq n name ≡ false → found n l.tables ≡ Some u → CopyOf h q l u (hand n) → CopyOf g q l u (hand n)
parts-kept h g q l name batch hand f None is keep n u differ there c = copy-kept h g q l u (hand n) (keep refl) c
parts-kept h g q l name batch hand f (Some t) is keep n u differ there c =
    by_test (λ b. is_on_way t.state ≡ b → CopyOf g q l u (hand n)) (is_on_way t.state)
    (λ _ on. copy-off_way h g q l u (hand n) (off-way h q l batch hand name t f is on n u differ there) c)
    (λ _ off. copy-kept h g q l u (hand n) (keep (ap (λ b. if b then parting (copy_name l) ∷ [] else []) off)) c) refl

removed-follows : (h k : History) (q : ℕ) (l : Leaf) (batch : Option BatchHand) (hand : List ℕ → Option Hand) (name : List ℕ) → Legal k → node k ≡ Some (of_leaf l) → is_among name (tables_of (of_leaf l)) ≡ true
    → LeafFollows h q l batch hand → MoveFollows h k q l (copy_name l) (leaves_leaf l name (hand name)) batch (handed name None hand)
removed-follows h k q l batch hand name legal_k leaf among f = record {
  spared = spared;
  leaf = without_leaf_table name l;
  is = leaf-removed k l name legal_k leaf among;
  named = refl;
  follows = λ legal.
      changed h g q l batch batch hand (handed name None hand) name (without_leaf_table name l).tables
      (kept-each h q l.name calls legal (spared l.name (bytes_eq_sym l.name (copy_name l) ∙ names-apart l f.undotted)) l.tick batch f.replays) (record {
        others = λ n differ. found-less n name l.tables differ;
        hands = λ n differ. handed-other name None hand n differ;
        kept = parts-kept h g q l name batch hand f (found name l.tables) refl (λ none. kept-each h q (copy_name l) calls legal (quiet none));
        here = λ u is. absurd (cc (sym (found-gone name l.tables) ∙ is));
        none = λ _. handed-here name None hand;
        sole = λ u is. absurd (cc (sym (found-gone name l.tables) ∙ is));
      }) f;
}
  where
    first : List NodeCall
    first = lets_go_for (copy_in (hand name))

    last : List NodeCall
    last = parts_for (Some (of_leaf l)) (option_map LeafTable.state (table_of name l))

    calls : List NodeCall
    calls = first ++ last

    g : History
    g = after_each h calls

    spared : (c : List ℕ) → bytes_eq c (copy_name l) ≡ false → SparesEach h q c calls
    spared c other = spares-append h q c first last (spares-lets h q c (copy_in (hand name))) (spares-parts (after_each h first) q c l (option_map LeafTable.state (table_of name l)) other)

    quiet : last ≡ [] → SparesEach h q (copy_name l) calls
    quiet none = spares-append h q (copy_name l) first last (spares-lets h q (copy_name l) (copy_in (hand name))) (subst (SparesEach (after_each h first) q (copy_name l)) (sym none) tt)

-- ---- statements

provider-is : (past : Past) (d p : ℕ) (l : Leaf) → node (history_in past d) ≡ Some (of_leaf l) → providers_database (world_of past) l ≡ Ok p → source_of past d ≡ Some p
provider-is past d p l leaf is = of (node_called (world_of past) l.provider) refl is
  where
    w : World
    w = world_of past

    at : (n : Located) → node_called w l.provider ≡ Some n → (o : Option ℕ) → (found_or o (NotProvider l.provider) >>= (λ queue. Ok n.database)) ≡ Ok p → source_of past d ≡ Some p
    at n found None e = absurd (cc e)
    at n found (Some queue) e =
        let same : n.database ≡ p = cc e in
        ap (λ o. option_and_then (λ provider. database_among (names_in past) provider (nodes past)) (provider_of o)) leaf ∙ sym (called-database past l.provider) ∙ ap (option_map Located.database) found ∙ ap Some same

    of : (o : Option Located) → node_called w l.provider ≡ o
        → (found_or o (NoNode l.provider) >>= (λ n. found_or (set_queue (w.database n.database)) (NotProvider l.provider) >>= (λ queue. Ok n.database))) ≡ Ok p → source_of past d ≡ Some p
    of None found e = absurd (cc e)
    of (Some n) found e = at n found (set_queue (w.database n.database)) e

module _ (past : Past) (kept : KeptFollow past) (made : (d : ℕ) → IsOfCalls (history_in past d)) where
  abbrev w : World
  w = world_of past

  abbrev pub KeptIfOk : Checked WorldOutcome → Type 0
  KeptIfOk c = IfOk c (λ o. KeptFollow (on_top past o.facts))

  -- the database of a leaf's provider is this one
  same-source : (f : Follow past) (d p : ℕ) (l : Leaf) (leaf : node (history_in past d) ≡ Some (of_leaf l)) → source_of past d ≡ Some p → (f.leaves d l leaf).p ≡ p
  same-source f d p l leaf from = cc (sym (f.leaves d l leaf).from ∙ from)

  at-source : (f : Follow past) (d p : ℕ) (l : Leaf) (leaf : node (history_in past d) ≡ Some (of_leaf l)) → source_of past d ≡ Some p
      → LeafFollows (history_in past p) (f.leaves d l leaf).queue l (batches past d) (hands past d)
  at-source f d p l leaf from =
      subst (λ n. LeafFollows (history_in past n) (f.leaves d l leaf).queue l (batches past d) (hands past d)) (same-source f d p l leaf from) (f.leaves d l leaf).follows

  move-batch : (p d : ℕ) (l : Leaf) (leaf : node (history_in past d) ≡ Some (of_leaf l)) → source_of past d ≡ Some p → (c : Checked (Move BatchHand))
      → (AllLegal past → (f : Follow past) → IfOk c (λ move. MoveFollows (history_in past p) (history_in past d) (f.leaves d l leaf).queue l l.name move move.hand (hands past d))) → KeptIfOk (moves w p d (batch_in_hand d) c)
  move-batch p d l leaf from (Err refusal) mv = tt
  move-batch p d l leaf from (Ok move) mv =
      subst KeptFollow (sym (on-move past p d (batch_in_hand d) move))
      (λ after.
      let legal : AllLegal past = legal-calls past p move.provider (legal-calls (after_calls past p move.provider) d move.replica (λ e. after e)) in
      let f : Follow past = kept legal in
      follow-batch past d p l f leaf l.name (inl refl) move (same-source f d p l leaf from) move.hand (mv legal f) after)

  move-hand : (p d : ℕ) (l : Leaf) (leaf : node (history_in past d) ≡ Some (of_leaf l)) → source_of past d ≡ Some p → (own name : List ℕ) → own ≡ copy_name l → (c : Checked (Move Hand))
      → (AllLegal past → (f : Follow past) → IfOk c (λ move. MoveFollows (history_in past p) (history_in past d) (f.leaves d l leaf).queue l own move (batches past d) (handed name move.hand (hands past d))))
      → KeptIfOk (moves w p d (in_hand d name) c)
  move-hand p d l leaf from own name is_own (Err refusal) mv = tt
  move-hand p d l leaf from own name is_own (Ok move) mv =
      subst KeptFollow (sym (on-move past p d (in_hand d name) move))
      (λ after.
      let legal : AllLegal past = legal-calls past p move.provider (legal-calls (after_calls past p move.provider) d move.replica (λ e. after e)) in
      let f : Follow past = kept legal in
      follow-hand past d p l f leaf own (inr is_own) move (same-source f d p l leaf from) name move.hand (mv legal f) after)

  pub kept-steps : (d : ℕ) (name : List ℕ) (n : Node) → node (history_in past d) ≡ Some n → KeptIfOk (leaf_steps w d name n)
  kept-steps d name (of_root r) leaf = tt
  kept-steps d name (of_leaf l) leaf = ok-then _ (providers_database w l) _ (λ p is.
      let from : source_of past d ≡ Some p = provider-is past d p l leaf is in
      move-batch p d l leaf from (replay_move (w.database p) (w.database d) l (w.batches d)) (λ legal f.
      replay-follows (history_in past p) (history_in past d) (f.leaves d l leaf).queue l (batches past d) (hands past d) (legal p) (legal d) leaf
      (record { made = made d; may = ap (may_apply of_synced) leaf }) (at-source f d p l leaf from)))

  pub kept-copies : (d : ℕ) (name table : List ℕ) (n : Node) → node (history_in past d) ≡ Some n → KeptIfOk (leaf_table name table n >>= (λ l. source_alike w d l table
      >>= (λ p. moves w p d (in_hand d table) (copy_move (w.database p) (w.database d) table (w.hands d table)))))
  kept-copies d name table n is = ok-then _ (leaf_table name table n) _ (λ l is_table. ok-then _ (source_alike w d l table) _ (λ p alike.
      let leaf : node (history_in past d) ≡ Some (of_leaf l) = is ∙ ap Some (leaf-is name table n l is_table) in
      let from : source_of past d ≡ Some p = (alike-is past d p l table leaf alike).source.from in
      move-hand p d l leaf from (copy_consumer (node (history_in past d))) table (ap copy_consumer leaf) (copy_move (w.database p) (w.database d) table (w.hands d table)) (λ legal f.
      copy-follows (history_in past p) (history_in past d) (f.leaves d l leaf).queue l (batches past d) (hands past d) (legal d) leaf (at-source f d p l leaf from) table (legal p) (made d))))

  pub kept-restarts : (d : ℕ) (name : List ℕ) (n : Node) → node (history_in past d) ≡ Some n → KeptIfOk (restarts d name n)
  kept-restarts d name (of_root r) leaf = tt
  kept-restarts d name (of_leaf l) leaf = λ after.
      let f : Follow past = kept (λ e. after e) in
      let a : AtSource past d l = f.leaves d l leaf in
      follow-batch {H = BatchHand} past d a.p l f leaf l.name (inl refl) (record { provider = []; replica = []; replies = Done ∷ []; hand = None }) refl None (record {
        spared = λ c other. tt;
        leaf = l;
        is = leaf;
        named = refl;
        follows = λ _. replayed (history_in past a.p) (history_in past a.p) a.queue l (batches past d) None (hands past d) l.tick (λ tick hand at. at)
            (empty-handed (history_in past a.p) a.queue l.name l.tick (batches past d) a.follows.replays) a.follows;
      }) after

  pub kept-restart_table : (d : ℕ) (name table : List ℕ) (n : Node) → node (history_in past d) ≡ Some n
      → KeptIfOk (leaf_table name table n >>= (λ l. source w l table >>= (λ p. moves w p d (in_hand d table) (Ok (restarting table (w.hands d table))))))
  kept-restart_table d name table n is = ok-then _ (leaf_table name table n) _ (λ l is_table. ok-then _ (source w l table) _ (λ p at.
      let leaf : node (history_in past d) ≡ Some (of_leaf l) = is ∙ ap Some (leaf-is name table n l is_table) in
      let from : source_of past d ≡ Some p = (source-is past d p l table leaf at).from in
      move-hand p d l leaf from (copy_name l) table refl (Ok (restarting table (w.hands d table))) (λ legal f.
      restarted-follows (history_in past p) (history_in past d) (f.leaves d l leaf).queue l (batches past d) (hands past d) table leaf (at-source f d p l leaf from))))

  pub kept-leaves : (d : ℕ) (l : Leaf) (name : List ℕ) → node (history_in past d) ≡ Some (of_leaf l) → is_among name (tables_of (of_leaf l)) ≡ true
      → KeptIfOk (source w l name >>= (λ p. moves w p d (in_hand d name) (Ok (leaves_leaf l name (w.hands d name)))))
  kept-leaves d l name leaf among = ok-then _ (source w l name) _ (λ p at.
      let from : source_of past d ≡ Some p = (source-is past d p l name leaf at).from in
      move-hand p d l leaf from (copy_name l) name refl (Ok (leaves_leaf l name (w.hands d name))) (λ legal f.
      removed-follows (history_in past p) (history_in past d) (f.leaves d l leaf).queue l (batches past d) (hands past d) name (legal d) leaf among (at-source f d p l leaf from)))
