-- A copy of a table runs where the table's worker has it in hand; so the worker's next move begins a copy or goes on with this one.
use Rattle.std.proofs.Common.{◌≡◌, ℕ, List, true, false, Option, Some, None, Ok, IfSome, is_some, option_map, option_and_then, refl, sym, ap, subst, ◌∙◌}
use Rattle.sky_txid.specs.Snapshot.{SnapshotView}
use Rattle.londiste_state.specs.declared.state.TableState.TheVariants.{InCopy}
use Rattle.londiste_state.specs.Nodes.{of_leaf, Leaf, LeafTable, table_of}
use Rattle.sky_model.specs.History.{History, Past}
use Rattle.sky_model.specs.Transactions.{snapshot}
use Rattle.sky_model.specs.Copies.{copies, copy_txid}
use Rattle.sky_model.specs.Nodes.{node}
use Rattle.sky_model.specs.State.{Database, database_of}
use Rattle.sky_model.specs.Hands.{CopyHand, Hand, of_copy, copy_in}
use Rattle.sky_model.specs.WorkerMoves.{handing}
use Rattle.sky_model.specs.CopyMoves.{newest_of, held_snapshot, next_piece, copy_running, under_way, continues, starts_or_continues, table_at, copy_move}
use Rattle.sky_model.specs.NodesOfWorld.{Located, node_called}
use Rattle.sky_model.specs.World.{world_of, history_in, hands, nodes}
use Rattle.sky_model.specs.Calls.{past_of}
use Rattle.sky_histories.proofs.Histories.{AllLegal, legal_past}
use Rattle.sky_laws_replicas.specs.LawsOfReplicas.{CopyBegan, copy_in_hand, InHand, HasInHand, HandsAreOfRunningCopies, RunningCopiesAreInHand, IsHandsHold, HoldsAreInHand, GoesOn, CopiesGoOn}
use Rattle.sky_laws_replicas.proofs.NodeNames.{provider_of, database_among, names_in, source_of, called-database}
use Rattle.sky_laws_replicas.proofs.Copying.{copy-found}
use Rattle.sky_laws_replicas.proofs.StaysInCopy.{in-copy-state, copies-in}
use Rattle.sky_laws_replicas.proofs.RunningCopies.{uncopied-idle}
use Rattle.sky_laws_replicas.proofs.Keeping.{Copying, Keeps}
use Rattle.sky_laws_replicas.proofs.Others.{each_table, idle-hand}
use Rattle.sky_laws_replicas.proofs.HoldsInHand.{Holder, others, owns}
use Rattle.sky_laws_replicas.proofs.KeptCalls.{kept-past, held-past, HasSource, has-source}

-- the provider of a leaf is of its database
pub found-source : (past : Past) (d : ℕ) (leaf : Leaf) (provider : Located) → node (history_in past d) ≡ Some (of_leaf leaf) → node_called (world_of past) leaf.provider ≡ Some provider
    → source_of past d ≡ Some provider.database
found-source past d leaf provider is_leaf found =
    ap (λ o. option_and_then (λ name. database_among (names_in past) name (nodes past)) (provider_of o)) is_leaf ∙ sym (called-database past leaf.provider) ∙ ap (option_map Located.database) found

-- what a worker has in hand
pub in-hand : (past : Past) (d : ℕ) (name : List ℕ) (hand : CopyHand) → copy_in_hand past d name ≡ Some hand → Copying past d name hand → InHand past d name hand
in-hand past d name hand is c =
    let f : HasSource past d c.p = has-source past d c.p c.from in
    record {
      is = is;
      leaf = f.leaf;
      is_leaf = f.is_leaf;
      provider = f.provider;
      found = f.found;
      table = c.table;
      named = c.here.named;
      t = c.t;
      runs = c.here.runs;
      before = c.before;
      copy_began = subst (λ q. CopyBegan past d q c.table c.t hand.hold false c.before) (sym f.is) c.copy_began;
      from_newest = ap (λ q. newest_of (database_of (history_in c.before q))) f.is ∙ c.from_newest;
      in_copy = ap (λ n. option_map LeafTable.state (table_at name n)) (sym f.is_leaf) ∙ in-copy-state name (node (history_in past d)) c.here.may;
      holds = ap (λ q. held_snapshot (database_of (history_in past q)) hand.hold) f.is ∙ c.there.is ∙ ap (λ q. Some (snapshot (history_in c.before q))) (sym f.is);
    }

pub hands_are_of_running_copies : HandsAreOfRunningCopies
hands_are_of_running_copies calls in_form d name hand is =
    let k : Keeps each_table (past_of calls) = kept-past calls (legal_past calls) in
    in-hand (past_of calls) d name hand is (k.copying d name hand refl is)

pub running_copies_are_in_hand : RunningCopiesAreInHand
running_copies_are_in_hand calls in_form d name table named runs =
    let k : Keeps each_table (past_of calls) = kept-past calls (legal_past calls) in
    of (copy_in_hand (past_of calls) d name) refl (k.running d name table refl (record { named = named; runs = runs }))
  where
    of : (o : Option CopyHand) → copy_in_hand (past_of calls) d name ≡ o → is_some o ≡ true → HasInHand (past_of calls) d name
    of None is some = absurd (cc some)
    of (Some hand) is some = record { hand = hand; in_hand = hands_are_of_running_copies calls in_form d name hand is }

-- each hold is that of what one has in hand
pub holds_are_in_hand : HoldsAreInHand
holds_are_in_hand calls in_form p number is = of ((held-past calls (legal_past calls)).holders p number is)
  where
    past : Past
    past = past_of calls

    of : Holder each_table 0 None past p number → IsHandsHold past p number
    of (owns at none) = absurd (cc none)
    of (others d name hand _ has from number_is) =
        let c : InHand past d name hand = hands_are_of_running_copies calls in_form d name hand has in
        let one : Some c.provider.database ≡ Some p = sym (found-source past d c.leaf c.provider c.is_leaf c.found) ∙ from in
        record { database = d; name = name; hand = hand; in_hand = c; from = cc one; is = number_is }

-- ---- the next move

module _ (past : Past) (d : ℕ) (leaf : Leaf) (provider : Located) (name : List ℕ) (legal : AllLegal past) (k : Keeps each_table past) (is_leaf : node (history_in past d) ≡ Some (of_leaf leaf))
    (found : node_called (world_of past) leaf.provider ≡ Some provider) (state : option_map LeafTable.state (table_of name leaf) ≡ Some InCopy) where
  abbrev h : History
  h = history_in past d

  abbrev p : Database
  p = database_of (history_in past provider.database)

  abbrev r : Database
  r = database_of h

  abbrev hand : Option Hand
  hand = hands past d name

  to-copy : copy_move p r name hand ≡ handing of_copy (starts_or_continues p r name (copy_in hand) (copy_running r name))
  to-copy = copies-in p r name hand (ap (λ n. option_map LeafTable.state (table_at name n)) is_leaf ∙ state)

  -- its snapshot is held by the provider's database
  held : (x : CopyHand) (c : Copying past d name x) → held_snapshot p x.hold ≡ Some (snapshot (history_in c.before c.p))
  held x c =
      let one : Some provider.database ≡ Some c.p = sym (found-source past d leaf provider is_leaf found) ∙ c.from in
      let same : provider.database ≡ c.p = cc one in
      ap (λ q. held_snapshot (database_of (history_in past q)) x.hold) same ∙ c.there.is

  moves : (x : CopyHand) → copy_in hand ≡ Some x → (s : SnapshotView) → held_snapshot p x.hold ≡ Some s → copy_move p r name hand ≡ handing of_copy (Ok (next_piece p name s x))
  moves x is s holds =
      let c : Copying past d name x = k.copying d name x refl is in
      let runs : copy_running r name ≡ Some c.t = ap (option_and_then (λ n. copy_txid n (copies h))) c.here.named ∙ copy-found h (legal d) c.table c.t c.here.runs in
      to-copy
      ∙ ap (handing of_copy) (ap (starts_or_continues p r name (copy_in hand)) runs ∙ ap (λ o. continues p name (copy_in hand) (under_way p o)) is ∙ ap (λ o. continues p name (copy_in hand) (option_map (λ (y : SnapshotView). (x, y)) o)) holds)

  goes-on : GoesOn p r name hand
  goes-on = record {
    begins = λ nothing. to-copy ∙ ap (λ o. handing of_copy (starts_or_continues p r name (copy_in hand) o)) (uncopied-idle h name (idle-hand past d name k nothing));
    goes_on = λ x is.
        let c : Copying past d name x = k.copying d name x refl is in
        subst (λ o. IfSome o (λ s. copy_move p r name hand ≡ handing of_copy (Ok (next_piece p name s x)))) (sym (held x c)) (moves x is (snapshot (history_in c.before c.p)) (held x c));
    holds = λ x is. ap is_some (held x (k.copying d name x refl is));
  }

pub copies_go_on : CopiesGoOn
copies_go_on calls in_form d leaf provider name is_leaf found state =
    goes-on (past_of calls) d leaf provider name (legal_past calls) (kept-past calls (legal_past calls)) is_leaf found state
