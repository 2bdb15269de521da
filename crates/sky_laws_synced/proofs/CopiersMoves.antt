-- Each move of the worker of a table's copy leaves the consumers of its leaf's workers where they follow.
use Rattle.std.proofs.Common.{◌≡◌, ◌⊎◌, inl, inr, ℕ, ◌==◌, nat_lt, List, [], ◌∷◌, ◌++◌, length, Bool, true, false, Option, Some, None, Ok, Err, IfOk, is_some, option_map, option_and_then, bytes_eq, refl, sym, ap, subst, ◌∙◌, if◌then◌else◌}
use Rattle.sky_val.specs.declared.val.Val.{Val}
use Rattle.sky_val.specs.Entries.{Entries}
use Rattle.sky_names.proofs.PlaceLemmas.{same_name, bytes_eq_refl, bytes_eq_sym}
use Rattle.sky_txid.specs.Snapshot.{SnapshotView}
use Rattle.londiste_state.specs.declared.state.TableState.{TableState}
use Rattle.londiste_state.specs.declared.state.TableState.TheVariants.{Absent, InCopy, CatchingUp, WannaSync, DoSync, Synced}
use Rattle.londiste_state.specs.Moves.{is_allowed}
use Rattle.londiste_state.specs.Nodes.{of_leaf, Leaf, LeafTable, changed_in, with_copied, in_state, with_copy, with_tick}
use Rattle.sky_model.specs.declared.reply.Reply.{Reply}
use Rattle.sky_model.specs.declared.reply.Reply.TheVariants.{TableMoved, RowsCopied, AwaitsTable, Idle}
use Rattle.sky_model.specs.declared.reply.Limit.TheVariants.{Consumers}
use Rattle.sky_model.specs.declared.reply.Refusal.TheVariants.{IdsSpent, TooMany}
use Rattle.sky_model.specs.History.{applied, copy_of, History}
use Rattle.sky_model.specs.Hands.{CopyHand, BatchHand, Hand, of_copy, of_batch, copy_in, batch_in}
use Rattle.sky_model.specs.Nodes.{after_node, node}
use Rattle.sky_model.specs.State.{Database, database_of}
use Rattle.sky_model.specs.ShownRows.{snapshot_now}
use Rattle.sky_model.specs.Outcome.{Checked, ◌>>=◌, ◌>>◌, refused_if}
use Rattle.sky_model.specs.OwnTransaction.{next_id}
use Rattle.sky_model.specs.StepConsumer.{sub_ids_spent}
use Rattle.sky_model.specs.StepApply.{may_apply, kept_snapshot}
use Rattle.sky_model.specs.StepNode.{NodeCall, joining, parting, holding, letting_go, beginning_copy, copying_rows, ending_copy, moving, is_full}
use Rattle.sky_model.specs.WorkerMoves.{Move, only_prints, moves_to, behind_calls, handing}
use Rattle.sky_model.specs.BatchMoves.{takes_next, goes_through}
use Rattle.sky_model.specs.CopyMoves.{newest_of, piece_size, rows_from, rows_of, last_key, copies_piece, next_piece, copy_consumer, first_hand, starts_copy, copy_running, under_way, held_snapshot, continues, starts_or_continues as copy_goes_on, copier, goes_through_or, has_caught_up, catches_up, hands_over, if_copied, moves_in, table_move, table_at, copy_move}
use Rattle.sky_model.specs.ReplayMoves.{is_on_way}
use Rattle.sky_histories.proofs.Legal.{Legal}
use Rattle.sky_model.proofs.Cases.{by_test}
use Rattle.sky_histories.proofs.InCopyTables.{found, found-named}
use Rattle.sky_laws_synced.specs.Tables.{has_own_tick}
use Rattle.sky_laws_synced.proofs.Following.{Following}
use Rattle.sky_laws_synced.proofs.FollowingCalls.{after_call, following-again, spares-parting, spares-joining}
use Rattle.sky_laws_synced.proofs.LeafFollows.{found-here, found-other, copy_name, CopyOf, LeafFollows, copy-off_way, off-way, ChangesOne, changed, copied-on-way}
use Rattle.sky_laws_synced.proofs.LeafNodes.{IsOfCalls, leaf-begun, leaf-rows, leaf-ended, leaf-moved, GoesInto, leaf-moves}
use Rattle.sky_laws_synced.proofs.WorkersMoves.{after_each, SparesEach, legal-each, kept-each, TickGoes, Goes, MayGo, goes-through, goes-next}
use Rattle.sky_laws_synced.proofs.LeafMoves.{names-apart, each-append, spares-append, spares-holding, spares-letting_go, MoveFollows}

-- what the workers of a leaf's tables have in hand, once that of one table has this
abbrev pub handed : List ℕ → Option Hand → (List ℕ → Option Hand) → List ℕ → Option Hand
handed name mine hand n = if bytes_eq n name then mine else hand n

pub handed-here : (name : List ℕ) (mine : Option Hand) (hand : List ℕ → Option Hand) → handed name mine hand name ≡ mine
handed-here name mine hand = ap (λ b. if b then mine else hand name) (bytes_eq_refl name)

pub handed-other : (name : List ℕ) (mine : Option Hand) (hand : List ℕ → Option Hand) (n : List ℕ) → bytes_eq n name ≡ false → handed name mine hand n ≡ hand n
handed-other name mine hand n differ = ap (λ b. if b then mine else hand n) differ

pub same-hands : (h : History) (q : ℕ) (l : Leaf) (batch : Option BatchHand) (hand next : List ℕ → Option Hand) → ((n : List ℕ) → next n ≡ hand n) → LeafFollows h q l batch hand → LeafFollows h q l batch next
same-hands h q l batch hand next same f = record {
  undotted = f.undotted;
  replays = f.replays;
  copies = λ n t is. subst (CopyOf h q l t) (sym (same n)) (f.copies n t is);
  idle = λ n none. same n ∙ f.idle n none;
  alone = f.alone;
}

batch-of : (o : Option BatchHand) → batch_in (option_map of_batch o) ≡ o
batch-of None = refl
batch-of (Some b) = refl

no-copy-of : (o : Option BatchHand) (copy : CopyHand) → option_map of_batch o ≡ Some (of_copy copy) → ⊥
no-copy-of None copy is = cc is
no-copy-of (Some b) copy is = cc is

-- of a table that is being copied no batch is in hand
copy-hand : (o : Option Hand) → batch_in o ≡ None → option_map of_copy (copy_in o) ≡ o
copy-hand None none = refl
copy-hand (Some (of_copy copy)) none = refl
copy-hand (Some (of_batch b)) none = absurd (cc none)

copy-is : (o : Option Hand) (copy : CopyHand) → copy_in o ≡ Some copy → o ≡ Some (of_copy copy)
copy-is None copy is = absurd (cc is)
copy-is (Some (of_copy other)) copy is = let same : other ≡ copy = cc is in ap (λ x. Some (of_copy x)) same
copy-is (Some (of_batch b)) copy is = absurd (cc is)

module _ (h k : History) (q : ℕ) (l : Leaf) (batch : Option BatchHand) (hand : List ℕ → Option Hand) (legal_k : Legal k) (leaf : node k ≡ Some (of_leaf l)) (f : LeafFollows h q l batch hand)
    (name : List ℕ) where
  abbrev pub own : List ℕ
  own = copy_consumer (node k)

  own-is : own ≡ copy_name l
  own-is = ap copy_consumer leaf

  -- a move of this table's worker
  abbrev pub CopyFollows : Move Hand → Type 0
  CopyFollows move = MoveFollows h k q l own move batch (handed name move.hand hand)

  abbrev CopyFollowsIf : Checked (Move Hand) → Type 0
  CopyFollowsIf c = IfOk c CopyFollows

  -- the leaf's own consumer isn't concerned
  replayer-kept : (g : History) (calls : List NodeCall) → g ≡ after_each h calls → ((c : List ℕ) → bytes_eq c own ≡ false → SparesEach h q c calls) → Legal g → Following g q l.name l.tick batch
  replayer-kept g calls is spared legal =
      subst (λ x. Following x q l.name l.tick batch) (sym is)
      (kept-each h q l.name calls (subst Legal is legal)
      (spared l.name (ap (bytes_eq l.name) own-is ∙ bytes_eq_sym l.name (copy_name l) ∙ names-apart l f.undotted)) l.tick batch f.replays)

  copy-prints : (reply : Reply) → CopyFollowsIf (only_prints reply (hand name))
  copy-prints reply = record {
    spared = λ c other. tt;
    leaf = l;
    is = leaf;
    named = refl;
    follows = λ _. same-hands h q l batch hand (handed name (hand name) hand)
        (λ n. by_test (λ b. bytes_eq n name ≡ b → (if b then hand name else hand n) ≡ hand n) (bytes_eq n name) (λ _ same. ap hand (sym (same_name n name same))) (λ _ _. refl) refl) f;
  }

  -- a table that was on its way goes on: what is so of it, once its worker has this in hand
  one-changed : (g : History) (t u : LeafTable) (ts : List LeafTable) (mine : Option Hand) → found name l.tables ≡ Some t → is_on_way t.state ≡ true → found name ts ≡ Some u
      → ((n : List ℕ) → bytes_eq n name ≡ false → found n ts ≡ found n l.tables) → CopyOf g q l u mine → ChangesOne h g q l hand (handed name mine hand) name ts
  one-changed g t u ts mine is on there others c = record {
    others = others;
    hands = λ n differ. handed-other name mine hand n differ;
    kept = λ n v differ at old. copy-off_way h g q l v (hand n) (off-way h q l batch hand name t f is on n v differ at) old;
    here = λ v at. let same : u ≡ v = cc (sym there ∙ at) in subst (λ x. CopyOf g q l x (handed name mine hand name)) same (subst (CopyOf g q l u) (sym (handed-here name mine hand)) c);
    none = λ none. absurd (cc (sym none ∙ there));
    sole = λ v at way n w differ there_is. off-way h q l batch hand name t f is on n w differ there_is;
  }

  -- ---- pieces of a copy

  module _ (t : LeafTable) (is : found name l.tables ≡ Some t) (in_copy : t.state ≡ InCopy) (pre pre_replica : List NodeCall) (spared_pre : (c : List ℕ) → bytes_eq c own ≡ false → SparesEach h q c pre)
      (still : node (after_each k pre_replica) ≡ Some (of_leaf l)) (copy : CopyHand) (at : Legal (after_each h pre) → Following (after_each h pre) q (copy_name l) copy.tick None) where
    on : is_on_way t.state ≡ true
    on = ap is_on_way in_copy

    uncopied : has_own_tick t.state ≡ false
    uncopied = ap has_own_tick in_copy

    -- the copy goes on
    piece-on : (rows : List (List Val)) (replies : List Reply) (next : CopyHand) → next.tick ≡ copy.tick
        → CopyFollows (record { provider = pre ++ []; replica = pre_replica ++ copying_rows name rows ∷ []; replies = replies; hand = Some (of_copy next) })
    piece-on rows replies next ticks = record {
      spared = λ c other. spares-append h q c pre [] (spared_pre c other) tt;
      leaf = l;
      is = ap node (each-append k pre_replica (copying_rows name rows ∷ [])) ∙ leaf-rows (after_each k pre_replica) name rows ∙ still;
      named = refl;
      follows = λ legal.
          let g : History = after_each h (pre ++ []) in
          let same : g ≡ after_each h pre = each-append h pre [] in
          let there : Following g q (copy_name l) next.tick None = subst (λ x. Following x q (copy_name l) next.tick None) (sym same) (subst (λ n. Following (after_each h pre) q (copy_name l) n None) (sym ticks) (at (subst Legal same legal))) in
          changed h g q l batch batch hand (handed name (Some (of_copy next)) hand) name l.tables
          (replayer-kept g (pre ++ []) refl (λ c other. spares-append h q c pre [] (spared_pre c other) tt) legal)
          (one-changed g t t l.tables (Some (of_copy next)) is on is (λ n differ. refl) (record {
            copying = λ other this. let one : next ≡ other = cc this in (in_copy, subst (λ (x : CopyHand). Following g q (copy_name l) x.tick None) one there);
            follows = λ e. absurd (cc (sym uncopied ∙ e));
            others = λ _. refl;
            under = λ e. absurd (cc (sym uncopied ∙ e));
          })) f;
    }

    -- the copy ends
    piece-ends : (rows : List (List Val)) (under : SnapshotView) (replies : List Reply)
        → CopyFollows (record { provider = pre ++ letting_go copy.hold ∷ []; replica = pre_replica ++ copying_rows name rows ∷ ending_copy name under copy.tick ∷ []; replies = replies; hand = None })
    piece-ends rows under replies = of (leaf-ended (after_call (after_each k pre_replica) (copying_rows name rows)) name under copy.tick l (leaf-rows (after_each k pre_replica) name rows ∙ still))
      where
        calls : List NodeCall
        calls = pre ++ letting_go copy.hold ∷ []

        g : History
        g = after_each h calls

        spared : (c : List ℕ) → bytes_eq c own ≡ false → SparesEach h q c calls
        spared c other = spares-append h q c pre (letting_go copy.hold ∷ []) (spared_pre c other) (spares-letting_go (database_of (after_each h pre)) q c copy.hold, tt)

        there : Legal g → Following g q (copy_name l) copy.tick None
        there legal =
            let same : g ≡ after_each (after_each h pre) (letting_go copy.hold ∷ []) = each-append h pre (letting_go copy.hold ∷ []) in
            let last : Legal (after_each (after_each h pre) (letting_go copy.hold ∷ [])) = subst Legal same legal in
            subst (λ x. Following x q (copy_name l) copy.tick None) (sym same)
            (kept-each (after_each h pre) q (copy_name l) (letting_go copy.hold ∷ []) last (spares-letting_go (database_of (after_each h pre)) q (copy_name l) copy.hold, tt) copy.tick None
            (at (legal-each (after_each h pre) (letting_go copy.hold ∷ []) last)))

        end : History
        end = after_call (after_call (after_each k pre_replica) (copying_rows name rows)) (ending_copy name under copy.tick)

        place : after_each k (pre_replica ++ copying_rows name rows ∷ ending_copy name under copy.tick ∷ []) ≡ end
        place = each-append k pre_replica (copying_rows name rows ∷ ending_copy name under copy.tick ∷ [])

        of : (node end ≡ Some (of_leaf l)) ⊎ (node end ≡ Some (of_leaf (with_copied name under copy.tick l)))
            → CopyFollows (record { provider = calls; replica = pre_replica ++ copying_rows name rows ∷ ending_copy name under copy.tick ∷ []; replies = replies; hand = None })
        of (inl same) = record {
          spared = spared;
          leaf = l;
          is = ap node place ∙ same;
          named = refl;
          follows = λ legal. changed h g q l batch batch hand (handed name None hand) name l.tables (replayer-kept g calls refl spared legal)
              (one-changed g t t l.tables None is on is (λ n differ. refl) (record {
                copying = λ other this. absurd (cc this);
                follows = λ e. absurd (cc (sym uncopied ∙ e));
                others = λ _. refl;
                under = λ e. absurd (cc (sym uncopied ∙ e));
              })) f;
        }
        of (inr ended) = record {
          spared = spared;
          leaf = record l { tables = changed_in name (with_copy under copy.tick) l.tables };
          is = ap node place ∙ ended;
          named = refl;
          follows = λ legal. changed h g q l batch batch hand (handed name None hand) name (changed_in name (with_copy under copy.tick) l.tables) (replayer-kept g calls refl spared legal)
              (one-changed g t (with_copy under copy.tick t) (changed_in name (with_copy under copy.tick) l.tables) None is on (found-here name (with_copy under copy.tick) (λ x. refl) l.tables t is)
              (λ n differ. found-other n name (with_copy under copy.tick) (λ x. refl) l.tables differ) (record {
                copying = λ other this. absurd (cc this);
                follows = λ _. there legal;
                others = λ e. absurd (cc e);
                under = λ _. refl;
              })) f;
        }

  -- ---- a table that has been copied

  module _ (t : LeafTable) (is : found name l.tables ≡ Some t) (has : has_own_tick t.state ≡ true) (called : t.name ≡ name) where
    on_way : is_on_way t.state ≡ true
    on_way = copied-on-way t.state has

    c : CopyOf h q l t (hand name)
    c = f.copies name t is

    -- with a batch in hand, or nothing
    batch-copy : (g : History) (u : LeafTable) (mine : Option BatchHand) → has_own_tick u.state ≡ true → is_some u.snapshot ≡ true → Following g q (copy_name l) u.tick mine → CopyOf g q l u (option_map of_batch mine)
    batch-copy g u mine copied_so under there = record {
      copying = λ other this. absurd (no-copy-of mine other this);
      follows = λ _. subst (Following g q (copy_name l) u.tick) (sym (batch-of mine)) there;
      others = λ e. absurd (cc (sym e ∙ copied_so));
      under = λ _. under;
    }

    copier-goes : (move : Move BatchHand) → Goes h k q (copier (node k) t) move → CopyFollows (record { provider = move.provider; replica = move.replica; replies = move.replies; hand = option_map of_batch move.hand })
    copier-goes move g = of g.tick_goes
      where
        there : History
        there = after_each h move.provider

        at : Legal there → Following there q (copy_name l) g.tick move.hand
        at legal = subst (λ x. Following there q x g.tick move.hand) own-is (g.follows legal)

        of : TickGoes k (after_each k move.replica) (copier (node k) t) g.tick → CopyFollows (record { provider = move.provider; replica = move.replica; replies = move.replies; hand = option_map of_batch move.hand })
        of (inl stays) = record {
          spared = g.spared;
          leaf = l;
          is = stays.1 ∙ leaf;
          named = refl;
          follows = λ legal. changed h there q l batch batch hand (handed name (option_map of_batch move.hand) hand) name l.tables (replayer-kept there move.provider refl g.spared legal)
              (one-changed there t t l.tables (option_map of_batch move.hand) is on_way is (λ n differ. refl)
              (batch-copy there t move.hand has (c.under has) (subst (λ n. Following there q (copy_name l) n move.hand) stays.0 (at legal)))) f;
        }
        of (inr goes) = record {
          spared = g.spared;
          leaf = record l { tables = changed_in name (with_tick g.tick) l.tables };
          is = goes ∙ (λ i. after_node (applied (copy_of (called i)) g.tick) (leaf i));
          named = refl;
          follows = λ legal. changed h there q l batch batch hand (handed name (option_map of_batch move.hand) hand) name (changed_in name (with_tick g.tick) l.tables) (replayer-kept there move.provider refl g.spared legal)
              (one-changed there t (with_tick g.tick t) (changed_in name (with_tick g.tick) l.tables) (option_map of_batch move.hand) is on_way (found-here name (with_tick g.tick) (λ x. refl) l.tables t is)
              (λ n differ. found-other n name (with_tick g.tick) (λ x. refl) l.tables differ) (batch-copy there (with_tick g.tick t) move.hand has (c.under has) (at legal))) f;
        }

    -- it waits for the leaf
    copier-waits : (state : TableState) (replies : List Reply) → has_own_tick state ≡ true → batch_in (hand name) ≡ None → CopyFollows (record { provider = []; replica = moving name state ∷ []; replies = replies; hand = None })
    copier-waits state replies also empty = of (leaf-moves k l name state legal_k leaf)
      where
        at : Following h q (copy_name l) t.tick None
        at = subst (Following h q (copy_name l) t.tick) empty (c.follows has)

        of : (node (after_call k (moving name state)) ≡ Some (of_leaf l)) ⊎ GoesInto k l name state → CopyFollows (record { provider = []; replica = moving name state ∷ []; replies = replies; hand = None })
        of (inl still) = record {
          spared = λ x other. tt;
          leaf = l;
          is = still;
          named = refl;
          follows = λ legal. changed h h q l batch batch hand (handed name None hand) name l.tables f.replays
              (one-changed h t t l.tables None is on_way is (λ n differ. refl) (batch-copy h t None has (c.under has) at)) f;
        }
        of (inr m) = record {
          spared = λ x other. tt;
          leaf = record l { tables = changed_in name (in_state state) l.tables };
          is = m.is;
          named = refl;
          follows = λ legal. changed h h q l batch batch hand (handed name None hand) name (changed_in name (in_state state) l.tables) f.replays
              (one-changed h t (in_state state t) (changed_in name (in_state state) l.tables) None is on_way (found-here name (in_state state) (λ x. refl) l.tables t is)
              (λ n differ. found-other n name (in_state state) (λ x. refl) l.tables differ) (batch-copy h (in_state state t) None also (c.under has) at)) f;
        }

    -- it is in sync: the consumer of its copy leaves
    copier-leaves : (tick : ℕ) (replies : List Reply) → t.state ≡ DoSync tick → CopyFollows (record { provider = parting own ∷ []; replica = moving name Synced ∷ []; replies = replies; hand = None })
    copier-leaves tick replies state = record {
      spared = spared;
      leaf = record l { tables = changed_in name (in_state Synced) l.tables };
      is = leaf-moved k l name t Synced legal_k leaf is (ap (λ s. is_allowed s Synced) state);
      named = refl;
      follows = λ legal. changed h (after_call h (parting own)) q l batch batch hand (handed name None hand) name (changed_in name (in_state Synced) l.tables)
          (replayer-kept (after_call h (parting own)) (parting own ∷ []) refl spared legal)
          (one-changed (after_call h (parting own)) t (in_state Synced t) (changed_in name (in_state Synced) l.tables) None is on_way (found-here name (in_state Synced) (λ x. refl) l.tables t is)
          (λ n differ. found-other n name (in_state Synced) (λ x. refl) l.tables differ) (record {
            copying = λ other this. absurd (cc this);
            follows = λ e. absurd (cc e);
            others = λ _. refl;
            under = λ e. absurd (cc e);
          })) f;
    }
      where
        spared : (x : List ℕ) → bytes_eq x own ≡ false → SparesEach h q x (parting own ∷ [])
        spared x other = (spares-parting (database_of h) q x own other, tt)

  -- ---- a move, by the table's state

  abbrev of_move : {H : Type 0} → (H → Hand) → List NodeCall → List NodeCall → Move H → Move Hand
  of_move kind pre pre_replica m = record { provider = pre ++ m.provider; replica = pre_replica ++ m.replica; replies = m.replies; hand = option_map kind m.hand }

  piece : (t : LeafTable) → found name l.tables ≡ Some t → t.state ≡ InCopy → (pre pre_replica : List NodeCall) → ((c : List ℕ) → bytes_eq c own ≡ false → SparesEach h q c pre)
      → node (after_each k pre_replica) ≡ Some (of_leaf l) → (copy : CopyHand) → (Legal (after_each h pre) → Following (after_each h pre) q (copy_name l) copy.tick None) → (under : SnapshotView) (rows : Entries (List Val))
      → CopyFollows (of_move of_copy pre pre_replica (copies_piece name under copy rows))
  piece t is in_copy pre pre_replica spared still copy at under rows =
      by_test (λ b. CopyFollows (of_move of_copy pre pre_replica (if b then record {
        provider = letting_go copy.hold ∷ [];
        replica = copying_rows name (rows_of rows) ∷ ending_copy name under copy.tick ∷ [];
        replies = RowsCopied (length rows) ∷ TableMoved name CatchingUp ∷ [];
        hand = None;
      } else record {
        provider = [];
        replica = copying_rows name (rows_of rows) ∷ [];
        replies = RowsCopied (length rows) ∷ [];
        hand = Some (record copy { last = last_key copy.last rows });
      }))) (nat_lt (length rows) piece_size)
      (λ _. piece-ends t is in_copy pre pre_replica spared still copy at (rows_of rows) under (RowsCopied (length rows) ∷ TableMoved name CatchingUp ∷ []))
      (λ _. piece-on t is in_copy pre pre_replica spared still copy at (rows_of rows) (RowsCopied (length rows) ∷ []) (record copy { last = last_key copy.last rows }) refl)

  module _ (t : LeafTable) (is : found name l.tables ≡ Some t) (in_copy : t.state ≡ InCopy) where
    abbrev p : Database
    p = database_of h

    abbrev r : Database
    r = database_of k

    abbrev first : List NodeCall
    first = parting own ∷ joining own ∷ holding ∷ []

    starts : CopyFollowsIf (handing of_copy (starts_copy p r name))
    starts = full (is_full p own) refl
      where
        at : is_full p own ≡ false → sub_ids_spent p ≡ false → Legal (after_each h first) → Following (after_each h first) q (copy_name l) (first_hand p).tick None
        at free unspent legal =
            let middle : History = after_call (after_call h (parting own)) (joining own) in
            let legal_middle : Legal middle = legal-each middle (holding ∷ []) legal in
            kept-each middle q (copy_name l) (holding ∷ []) legal (spares-holding (database_of middle) q (copy_name l), tt) (newest_of p) None
            (subst (λ c. Following middle q c (newest_of p) None) own-is (following-again h q own legal_middle f.replays.of_set free unspent))

        spared : (c : List ℕ) → bytes_eq c own ≡ false → SparesEach h q c first
        spared c other =
            let left : History = after_call h (parting own) in
            (spares-parting p q c own other, (spares-joining (database_of left) q c own other, (spares-holding (database_of (after_call left (joining own))) q c, tt)))

        begun : is_full p own ≡ false → sub_ids_spent p ≡ false → (x : Checked ℕ)
            → CopyFollowsIf (handing of_copy (x >>= (λ n. Ok (behind_calls first (beginning_copy name ∷ []) (next_piece p name (snapshot_now p.part) (first_hand p))))))
        begun free unspent (Err refusal) = tt
        begun free unspent (Ok n) =
            piece t is in_copy first (beginning_copy name ∷ []) spared (leaf-begun k name ∙ leaf) (first_hand p) (at free unspent) (snapshot_now p.part)
            (rows_from p name (snapshot_now p.part) (first_hand p).last piece_size)

        spent : is_full p own ≡ false → (b : Bool) → sub_ids_spent p ≡ b
            → CopyFollowsIf (handing of_copy (refused_if b IdsSpent >> (next_id r.part >>= (λ n. Ok (behind_calls first (beginning_copy name ∷ []) (next_piece p name (snapshot_now p.part) (first_hand p)))))))
        spent free true over = tt
        spent free false unspent = begun free unspent (next_id r.part)

        full : (b : Bool) → is_full p own ≡ b
            → CopyFollowsIf (handing of_copy (refused_if b (TooMany Consumers) >> (refused_if (sub_ids_spent p) IdsSpent
            >> (next_id r.part >>= (λ n. Ok (behind_calls first (beginning_copy name ∷ []) (next_piece p name (snapshot_now p.part) (first_hand p))))))))
        full true isnt = tt
        full false free = spent free (sub_ids_spent p) refl

    nothing : batch_in (hand name) ≡ None
    nothing = (f.copies name t is).others (ap has_own_tick in_copy)

    waits : CopyFollowsIf (handing of_copy (only_prints (AwaitsTable name) (copy_in (hand name))))
    waits = subst (λ x. CopyFollows (record { provider = []; replica = []; replies = AwaitsTable name ∷ []; hand = x })) (sym (copy-hand (hand name) nothing)) (copy-prints (AwaitsTable name))

    goes : (o : Option CopyHand) → copy_in (hand name) ≡ o → CopyFollowsIf (handing of_copy (continues p name o (under_way p o)))
    goes None empty = subst (λ x. CopyFollowsIf (handing of_copy (only_prints (AwaitsTable name) x))) empty waits
    goes (Some copy) has = held (held_snapshot p copy.hold)
      where
        at : Following h q (copy_name l) copy.tick None
        at = ((f.copies name t is).copying copy (copy-is (hand name) copy has)).1

        held : (o : Option SnapshotView) → CopyFollowsIf (handing of_copy (continues p name (Some copy) (option_map (λ snapshot. (copy, snapshot)) o)))
        held None = subst (λ x. CopyFollowsIf (handing of_copy (only_prints (AwaitsTable name) x))) has waits
        held (Some snapshot) = piece t is in_copy [] [] (λ c other. tt) leaf copy (λ legal. at) snapshot (rows_from p name snapshot copy.last piece_size)

    running : (o : Option ℕ) → CopyFollowsIf (handing of_copy (copy_goes_on p r name (copy_in (hand name)) o))
    running None = starts
    running (Some n) = goes (copy_in (hand name)) refl

  -- ---- of a table that has been copied

  module _ (legal : Legal h) (made : IsOfCalls k) (t : LeafTable) (is : found name l.tables ≡ Some t) (has : has_own_tick t.state ≡ true) (called : t.name ≡ name) where
    cs : CopyOf h q l t (hand name)
    cs = f.copies name t is

    may : MayGo k (copier (node k) t)
    may = record {
      made = made;
      may = ap (may_apply (copy_of t.name)) leaf ∙ ap (λ x. is_some (kept_snapshot l x)) called ∙ ap (λ o. is_some (option_and_then LeafTable.snapshot o)) is ∙ cs.under has;
    }

    follows_at : (o : Option BatchHand) → batch_in (hand name) ≡ o → Following h q own t.tick o
    follows_at o with_this = subst (λ c. Following h q c t.tick o) (sym own-is) (subst (Following h q (copy_name l) t.tick) with_this (cs.follows has))

    by-goes : (x : Checked (Move BatchHand)) → IfOk x (Goes h k q (copier (node k) t)) → CopyFollowsIf (handing of_batch x)
    by-goes (Ok move) g = copier-goes t is has called move g
    by-goes (Err refusal) g = tt

    with-batch : (other : Checked (Move BatchHand)) → (batch_in (hand name) ≡ None → CopyFollowsIf (handing of_batch other)) → CopyFollowsIf (handing of_batch (goes_through_or (database_of h) (database_of k) t (batch_in (hand name)) other))
    with-batch other without = of (batch_in (hand name)) refl
      where
        of : (o : Option BatchHand) → batch_in (hand name) ≡ o → CopyFollowsIf (handing of_batch (goes_through_or (database_of h) (database_of k) t o other))
        of None empty = without empty
        of (Some b) there = by-goes (goes_through (database_of h) (database_of k) (copier (node k) t) b) (goes-through h k q (copier (node k) t) b legal may (follows_at (Some b) there))

    takes : batch_in (hand name) ≡ None → CopyFollowsIf (handing of_batch (takes_next (database_of h) (copier (node k) t)))
    takes empty = by-goes (takes_next (database_of h) (copier (node k) t)) (goes-next h k q (copier (node k) t) (follows_at None empty))

    either-copied : (b : Bool) (x y : Checked (Move BatchHand)) → CopyFollowsIf (handing of_batch x) → CopyFollowsIf (handing of_batch y) → CopyFollowsIf (handing of_batch (if b then x else y))
    either-copied true x y here there = here
    either-copied false x y here there = there

    catching : CopyFollowsIf (handing of_batch (goes_through_or (database_of h) (database_of k) t (batch_in (hand name)) (catches_up (database_of h) (database_of k) t)))
    catching =
        with-batch (catches_up (database_of h) (database_of k) t) (λ empty.
        either-copied (has_caught_up (database_of h) t) (moves_to (WannaSync t.tick) t.name) (takes_next (database_of h) (copier (node k) t))
        (subst (λ x. CopyFollowsIf (handing of_batch (moves_to (WannaSync t.tick) x))) (sym called) (copier-waits t is has called (WannaSync t.tick) (TableMoved name (WannaSync t.tick) ∷ []) refl empty)) (takes empty))

    handing-over : (tick : ℕ) → t.state ≡ DoSync tick → CopyFollowsIf (handing of_batch (goes_through_or (database_of h) (database_of k) t (batch_in (hand name)) (hands_over (database_of h) (database_of k) tick t)))
    handing-over tick state =
        with-batch (hands_over (database_of h) (database_of k) tick t) (λ empty.
        either-copied (t.tick == tick) (Ok (record { provider = parting own ∷ []; replica = moving t.name Synced ∷ []; replies = TableMoved t.name Synced ∷ []; hand = None })) (takes_next (database_of h) (copier (node k) t))
        (subst (λ x. CopyFollowsIf (handing of_batch (Ok (record { provider = parting own ∷ []; replica = moving x Synced ∷ []; replies = TableMoved x Synced ∷ []; hand = None })))) (sym called)
        (copier-leaves t is has called tick (TableMoved name Synced ∷ []) state)) (takes empty))

    kept-copied : (x : Checked (Move BatchHand)) → CopyFollowsIf (handing of_batch x) → CopyFollowsIf (if_copied t (hand name) x)
    kept-copied x gives = ap-if (is_some t.snapshot)
      where
        ap-if : (b : Bool) → CopyFollowsIf (if b then handing of_batch x else only_prints (AwaitsTable t.name) (hand name))
        ap-if true = gives
        ap-if false = copy-prints (AwaitsTable t.name)

  moves : Legal h → IsOfCalls k → (t : LeafTable) → found name l.tables ≡ Some t → t.name ≡ name → (state : TableState) → t.state ≡ state → CopyFollowsIf (moves_in state (database_of h) (database_of k) t (hand name))
  moves legal made t is called Absent state = copy-prints (AwaitsTable t.name)
  moves legal made t is called InCopy state =
      subst (λ x. CopyFollowsIf (handing of_copy (copy_goes_on (database_of h) (database_of k) x (copy_in (hand name)) (copy_running (database_of k) x)))) (sym called)
      (running t is state (copy_running (database_of k) name))
  moves legal made t is called CatchingUp state = let has : has_own_tick t.state ≡ true = ap has_own_tick state in kept-copied legal made t is has called _ (catching legal made t is has called)
  moves legal made t is called (WannaSync tick) state = copy-prints (AwaitsTable t.name)
  moves legal made t is called (DoSync tick) state = let has : has_own_tick t.state ≡ true = ap has_own_tick state in kept-copied legal made t is has called _ (handing-over legal made t is has called tick state)
  moves legal made t is called Synced state = copy-prints Idle

  pub copy-follows : Legal h → IsOfCalls k → CopyFollowsIf (copy_move (database_of h) (database_of k) name (hand name))
  copy-follows legal made = subst (λ n. CopyFollowsIf (table_move (database_of h) (database_of k) name (table_at name n) (hand name))) (sym leaf) (of (found name l.tables) refl)
    where
      of : (o : Option LeafTable) → found name l.tables ≡ o → CopyFollowsIf (table_move (database_of h) (database_of k) name o (hand name))
      of None none = copy-prints (AwaitsTable name)
      of (Some t) is = moves legal made t is (sym (same_name name t.name (found-named name l.tables t is))) t.state refl
