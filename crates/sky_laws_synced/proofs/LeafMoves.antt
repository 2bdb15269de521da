-- Each move of a leaf's workers leaves their consumers where they follow.
use Rattle.std.proofs.Common.{◌≡◌, ◌⊎◌, inl, inr, ℕ, ◌==◌, List, [], ◌∷◌, ◌++◌, Bool, true, false, codes, Option, Some, None, Ok, Err, IfOk, bytes_eq, refl, sym, ap, subst, ◌∙◌, if◌then◌else◌}
use Rattle.std.specs.List.{list_any}
use Rattle.std.proofs.lemmas.Bool.{or_parts, or_right}
use Rattle.std.proofs.lemmas.List.Folds.{list_any-append}
use Rattle.sky_names.proofs.PlaceLemmas.{same_name}
use Rattle.londiste_state.specs.declared.state.TableState.{TableState}
use Rattle.londiste_state.specs.declared.state.TableState.TheVariants.{Absent, InCopy, CatchingUp, WannaSync, DoSync, Synced}
use Rattle.londiste_state.specs.Moves.{is_allowed}
use Rattle.londiste_state.specs.Nodes.{of_leaf, Leaf, LeafTable, changed_in, in_state}
use Rattle.sky_model.specs.declared.reply.Reply.{Reply}
use Rattle.sky_model.specs.declared.reply.Reply.TheVariants.{AwaitsTable}
use Rattle.sky_model.specs.History.{applied, of_synced, History}
use Rattle.sky_model.specs.Hands.{BatchHand, Hand}
use Rattle.sky_model.specs.Copies.{Hold}
use Rattle.sky_model.specs.Nodes.{after_node, node}
use Rattle.sky_model.specs.State.{Database, database_of}
use Rattle.sky_model.specs.Outcome.{Checked, marks_of}
use Rattle.sky_model.specs.StepConsumer.{has_dot}
use Rattle.sky_model.specs.StepNode.{NodeCall, holding, letting_go, moving, node_does}
use Rattle.sky_model.specs.WorkerMoves.{Move, only_prints, moves_to}
use Rattle.sky_model.specs.BatchMoves.{goes_through, takes_next}
use Rattle.sky_model.specs.ReplayMoves.{replayer, is_on_way, is_absent, is_handed_over, is_met, first_in, next_to_copy, for_table, replay_move}
use Rattle.sky_histories.proofs.Legal.{Legal}
use Rattle.sky_histories.proofs.StatementMarks.{EachMark, each-given, AnyReply, either}
use Rattle.sky_model.proofs.Cases.{by_test}
use Rattle.sky_histories.proofs.InCopyTables.{found}
use Rattle.sky_laws_synced.specs.Tables.{has_own_tick}
use Rattle.sky_laws_synced.proofs.Following.{spares_consumer, Following}
use Rattle.sky_laws_synced.proofs.FollowingCalls.{after_call}
use Rattle.sky_laws_synced.proofs.LeafFollows.{found-here, found-other, copy_name, CopyOf, LeafFollows, KeptAt, replayed, off-way, changed, copied-on-way}
use Rattle.sky_laws_synced.proofs.LeafNodes.{GoesInto, leaf-moves}
use Rattle.sky_laws_synced.proofs.WorkersMoves.{after_each, SparesEach, kept-each, TickGoes, Goes, MayGo, goes-through, goes-next}

-- ---- names

pub dotted : (l : Leaf) → has_dot (copy_name l) ≡ true
dotted l = list_any-append (λ b. b == 46) l.name (codes ".copy") ∙ or_right (has_dot l.name) (has_dot (codes ".copy")) refl

pub names-apart : (l : Leaf) → has_dot l.name ≡ false → bytes_eq (copy_name l) l.name ≡ false
names-apart l undotted =
    by_test (λ b. bytes_eq (copy_name l) l.name ≡ b → b ≡ false) (bytes_eq (copy_name l) l.name)
    (λ _ same. absurd (cc (sym undotted ∙ sym (ap has_dot (same_name (copy_name l) l.name same)) ∙ dotted l))) (λ _ _. refl) refl

-- ---- lists of calls

pub each-append : (h : History) (xs ys : List NodeCall) → after_each h (xs ++ ys) ≡ after_each (after_each h xs) ys
each-append h [] ys = refl
each-append h (x ∷ xs) ys = each-append (after_call h x) xs ys

pub spares-append : (h : History) (q : ℕ) (c : List ℕ) (xs ys : List NodeCall) → SparesEach h q c xs → SparesEach (after_each h xs) q c ys → SparesEach h q c (xs ++ ys)
spares-append h q c [] ys all also = also
spares-append h q c (x ∷ xs) ys all also = (all.0, spares-append (after_call h x) q c xs ys all.1 also)

-- holds are of no consumer
pub spares-holding : (d : Database) (q : ℕ) (c : List ℕ) → EachMark (spares_consumer q c) (marks_of (node_does d holding))
spares-holding d q c = tt

pub spares-letting_go : (d : Database) (q : ℕ) (c : List ℕ) (hold : ℕ) → EachMark (spares_consumer q c) (marks_of (node_does d (letting_go hold)))
spares-letting_go d q c hold = each-given AnyReply (spares_consumer q c) (node_does d (letting_go hold)) (either AnyReply (spares_consumer q c) (list_any (λ (x : Hold). x.number == hold) d.holds) _ _ (tt, tt) (tt, tt))

-- ---- what a move leaves

pub record MoveFollows {H : Type 0} (h k : History) (q : ℕ) (l : Leaf) (own : List ℕ) (move : Move H) (batch : Option BatchHand) (hand : List ℕ → Option Hand) : Type 0 where
  pub spared : (c : List ℕ) → bytes_eq c own ≡ false → SparesEach h q c move.provider
  pub leaf : Leaf
  pub is : node (after_each k move.replica) ≡ Some (of_leaf leaf)
  pub named : leaf.name ≡ l.name
  pub follows : Legal (after_each h move.provider) → LeafFollows (after_each h move.provider) q leaf batch hand

-- ---- of the leaf's worker

module _ (h k : History) (q : ℕ) (l : Leaf) (hand : List ℕ → Option Hand) (legal_k : Legal k) (leaf : node k ≡ Some (of_leaf l)) where
  abbrev ReplayFollows : Move BatchHand → Type 0
  ReplayFollows move = MoveFollows h k q l l.name move move.hand hand

  replay-goes : (batch : Option BatchHand) (move : Move BatchHand) → LeafFollows h q l batch hand → Goes h k q (replayer l) move → ReplayFollows move
  replay-goes batch move f g = of g.tick_goes
    where
      kept : Legal (after_each h move.provider) → KeptAt h (after_each h move.provider) q (copy_name l)
      kept legal = kept-each h q (copy_name l) move.provider legal (g.spared (copy_name l) (names-apart l f.undotted))

      of : TickGoes k (after_each k move.replica) (replayer l) g.tick → ReplayFollows move
      of (inl stays) = record {
        spared = g.spared;
        leaf = l;
        is = stays.1 ∙ leaf;
        named = refl;
        follows = λ legal. replayed h (after_each h move.provider) q l batch move.hand hand l.tick (kept legal) (subst (λ n. Following (after_each h move.provider) q l.name n move.hand) stays.0 (g.follows legal)) f;
      }
      of (inr goes) = record {
        spared = g.spared;
        leaf = record l { tick = g.tick };
        is = goes ∙ ap (after_node (applied of_synced g.tick)) leaf;
        named = refl;
        follows = λ legal. replayed h (after_each h move.provider) q l batch move.hand hand g.tick (kept legal) (g.follows legal) f;
      }

  replay-prints : LeafFollows h q l None hand → (reply : Reply) → IfOk (only_prints {H = BatchHand} reply None) ReplayFollows
  replay-prints f reply = record { spared = λ c other. tt; leaf = l; is = leaf; named = refl; follows = λ _. f }

  -- a table goes into a state: that in which it is handed over, or in which it is copied, while no other is on its way
  abbrev NobodyElse : List ℕ → Type 0
  NobodyElse name = (n : List ℕ) (v : LeafTable) → bytes_eq n name ≡ false → found n l.tables ≡ Some v → is_on_way v.state ≡ false

  replay-moves : LeafFollows h q l None hand → (state : TableState) (name : List ℕ) → ((t : LeafTable) → is_allowed t.state state ≡ true → CopyOf h q l t (hand name) → CopyOf h q l (in_state state t) (hand name))
      → ((t : LeafTable) → found name l.tables ≡ Some t → is_allowed t.state state ≡ true → NobodyElse name) → IfOk (moves_to {H = BatchHand} state name) ReplayFollows
  replay-moves f state name into sole = of (leaf-moves k l name state legal_k leaf)
    where
      of : (node (after_call k (moving name state)) ≡ Some (of_leaf l)) ⊎ GoesInto k l name state → IfOk (moves_to {H = BatchHand} state name) ReplayFollows
      of (inl still) = record { spared = λ c other. tt; leaf = l; is = still; named = refl; follows = λ _. f }
      of (inr m) =
          let there : found name (changed_in name (in_state state) l.tables) ≡ Some (in_state state m.t) = found-here name (in_state state) (λ t. refl) l.tables m.t m.there in
          record {
            spared = λ c other. tt;
            leaf = record l { tables = changed_in name (in_state state) l.tables };
            is = m.is;
            named = refl;
            follows = λ _. changed h h q l None None hand hand name (changed_in name (in_state state) l.tables) f.replays (record {
              others = λ n differ. found-other n name (in_state state) (λ t. refl) l.tables differ;
              hands = λ n differ. refl;
              kept = λ n u differ is c. c;
              here = λ u is. let same : in_state state m.t ≡ u = cc (sym there ∙ is) in subst (λ x. CopyOf h q l x (hand name)) same (into m.t m.may (f.copies name m.t m.there));
              none = λ none. absurd (cc (sym none ∙ there));
              sole = λ u is on. sole m.t m.there m.may;
            }) f;
          }

-- states that may go into these
to-do_sync : (state : TableState) (tick : ℕ) → is_allowed state (DoSync tick) ≡ true → (has_own_tick state ≡ true) × (state ≡ InCopy → ⊥)
to-do_sync Absent tick e = absurd (cc e)
to-do_sync InCopy tick e = absurd (cc e)
to-do_sync CatchingUp tick e = absurd (cc e)
to-do_sync (WannaSync bound) tick e = (refl, λ is. absurd (cc (ap has_own_tick is)))
to-do_sync (DoSync bound) tick e = absurd (cc e)
to-do_sync Synced tick e = absurd (cc e)

to-in_copy : (state : TableState) → is_allowed state InCopy ≡ true → has_own_tick state ≡ false
to-in_copy Absent e = refl
to-in_copy InCopy e = absurd (cc e)
to-in_copy CatchingUp e = absurd (cc e)
to-in_copy (WannaSync bound) e = absurd (cc e)
to-in_copy (DoSync bound) e = absurd (cc e)
to-in_copy Synced e = absurd (cc e)

-- no table is on its way
none-on_way : (ts : List LeafTable) (n : List ℕ) (v : LeafTable) → list_any (λ (t : LeafTable). is_on_way t.state) ts ≡ false → found n ts ≡ Some v → is_on_way v.state ≡ false
none-on_way [] n v none is = absurd (cc is)
none-on_way (x ∷ ts) n v none is =
    let parts = or_parts (is_on_way x.state) (list_any (λ (t : LeafTable). is_on_way t.state) ts) none in
    by_test (λ b. (if b then Some x else found n ts) ≡ Some v → is_on_way v.state ≡ false) (bytes_eq n x.name)
    (λ _ one. let same : x ≡ v = cc one in ap (λ (y : LeafTable). is_on_way y.state) (sym same) ∙ parts.0) (λ _ later. none-on_way ts n v parts.1 later) is

pub replay-follows : (h k : History) (q : ℕ) (l : Leaf) (batch : Option BatchHand) (hand : List ℕ → Option Hand) → Legal h → Legal k → node k ≡ Some (of_leaf l) → MayGo k (replayer l)
    → LeafFollows h q l batch hand → IfOk (replay_move (database_of h) (database_of k) l batch) (λ move. MoveFollows h k q l l.name move move.hand hand)
replay-follows h k q l (Some b) hand legal legal_k leaf may f = of (goes_through (database_of h) (database_of k) (replayer l) b) (goes-through h k q (replayer l) b legal may f.replays)
  where
    of : (c : Checked (Move BatchHand)) → IfOk c (Goes h k q (replayer l)) → IfOk c (λ move. MoveFollows h k q l l.name move move.hand hand)
    of (Ok move) g = replay-goes h k q l hand legal_k leaf (Some b) move f g
    of (Err refusal) g = tt
replay-follows h k q l None hand legal legal_k leaf may f = handed (first_in is_handed_over l)
  where
    Result : Checked (Move BatchHand) → Type 0
    Result c = IfOk c (λ move. MoveFollows h k q l l.name move move.hand hand)

    of : (c : Checked (Move BatchHand)) → IfOk c (Goes h k q (replayer l)) → Result c
    of (Ok move) g = replay-goes h k q l hand legal_k leaf None move f g
    of (Err refusal) g = tt

    next : Result (takes_next (database_of h) (replayer l))
    next = of (takes_next (database_of h) (replayer l)) (goes-next h k q (replayer l) f.replays)

    do_sync : (name : List ℕ) → Result (moves_to (DoSync l.tick) name)
    do_sync name =
        replay-moves h k q l hand legal_k leaf f (DoSync l.tick) name
        (λ t may c. let s = to-do_sync t.state l.tick may in record {
          copying = λ copy is. absurd (s.1 (c.copying copy is).0);
          follows = λ _. c.follows s.0;
          others = λ e. absurd (cc e);
          under = λ _. c.under s.0;
        })
        (λ t is may n v differ there. off-way h q l None hand name t f is (copied-on-way t.state (to-do_sync t.state l.tick may).0) n v differ there)

    in_copy : list_any (λ (t : LeafTable). is_on_way t.state) l.tables ≡ false → (name : List ℕ) → Result (moves_to InCopy name)
    in_copy none name =
        replay-moves h k q l hand legal_k leaf f InCopy name
        (λ t may c. record {
          copying = λ copy is. (refl, (c.copying copy is).1);
          follows = λ e. absurd (cc e);
          others = λ _. c.others (to-in_copy t.state may);
          under = λ e. absurd (cc e);
        })
        (λ t is may n v differ there. none-on_way l.tables n v none there)

    copied : (b : Bool) → list_any (λ (t : LeafTable). is_on_way t.state) l.tables ≡ b → (o : Option (List ℕ)) → Result (for_table (if b then None else o) (moves_to InCopy) (takes_next (database_of h) (replayer l)))
    copied true is o = next
    copied false is None = next
    copied false is (Some name) = in_copy is name

    met : (o : Option (List ℕ)) → Result (for_table o (moves_to (DoSync l.tick)) (for_table (next_to_copy l) (moves_to InCopy) (takes_next (database_of h) (replayer l))))
    met None = copied (list_any (λ (t : LeafTable). is_on_way t.state) l.tables) refl (first_in is_absent l)
    met (Some name) = do_sync name

    handed : (o : Option (List ℕ)) → Result (for_table o (λ table. only_prints (AwaitsTable table) None) (for_table (first_in (is_met l.tick) l) (moves_to (DoSync l.tick)) (for_table (next_to_copy l) (moves_to InCopy) (takes_next (database_of h) (replayer l)))))
    handed None = met (first_in (is_met l.tick) l)
    handed (Some table) = replay-prints h k q l hand legal_k leaf f (AwaitsTable table)
