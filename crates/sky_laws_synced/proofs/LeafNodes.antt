-- What the calls of a leaf's workers leave of the leaf.
use Rattle.std.proofs.Common.{◌≡◌, ◌⊎◌, inl, inr, ℕ, ◌^◌, nat_le, List, [], ◌∷◌, ◌++◌, map, length, Bool, true, false, ◌||◌, Option, Some, None, Ok, is_some, option_map, unwrap_or, bytes_eq, refl, sym, ap, subst, ◌∙◌, if◌then◌else◌}
use Rattle.sky_val.specs.declared.val.Val.{Val}
use Rattle.sky_val.specs.declared.event.Event.{Event}
use Rattle.sky_names.specs.Places.{place_of}
use Rattle.sky_txid.specs.Snapshot.{SnapshotView}
use Rattle.londiste_state.specs.declared.state.TableState.{TableState}
use Rattle.londiste_state.specs.Moves.{is_allowed}
use Rattle.londiste_state.specs.Nodes.{of_leaf, Leaf, LeafTable, is_among, with_state, with_copied, without_leaf_table}
use Rattle.sky_model.specs.declared.reply.Reply.TheVariants.{Null, Number}
use Rattle.sky_model.specs.declared.reply.Refusal.TheVariants.{TxidsSpent}
use Rattle.sky_model.specs.History.{Mark, NodeMark, Pick, of_copy, ended, tabled, read_only, noded, state_set, leaf_removed, copied, applied, restarted, hold_begun, hold_ended, History}
use Rattle.sky_model.specs.Copies.{copies, copy_txid}
use Rattle.sky_model.specs.Rows.{table_names}
use Rattle.sky_model.specs.Nodes.{after_node, node, leaf_tables}
use Rattle.sky_model.specs.State.{part_of, Database, database_of}
use Rattle.sky_model.specs.Outcome.{Outcome, Checked, ◌>>=◌, ◌>>◌, refused_if, answers, marks_of, reply_of}
use Rattle.sky_model.specs.OwnTransaction.{next_id}
use Rattle.sky_model.specs.StepCopy.{ends_copy, given_up}
use Rattle.sky_model.specs.StepApply.{picked, may_apply, applies_in, ends_applying, applies_picked, bad_event}
use Rattle.sky_model.specs.StepNode.{beginning_copy, copying_rows, ending_copy, giving_up_copy, moving, removing, applying, if_there, removes, moves_table, may_move, may_copy, call_form, node_does}
use Rattle.sky_model.specs.Settling.{marked}
use Rattle.sky_model.specs.Promises.{after_all}
use Rattle.sky_model.specs.DatabaseCalls.{DatabaseCall, database_part}
use Rattle.sky_histories.proofs.Legal.{Legal}
use Rattle.sky_histories.proofs.NodeTables.{have-tables}
use Rattle.sky_histories.proofs.ApplyingLaws.{batches_put_their_events, other_batches_leave_rows, no_picked_table_is_copied}
use Rattle.sky_histories.proofs.StatementMarks.{EachMark}
use Rattle.sky_model.proofs.Cases.{by_test}
use Rattle.sky_histories.proofs.InCopyTables.{found}
use Rattle.sky_laws.proofs.NodeLaws.{among-are}
use Rattle.sky_laws_synced.proofs.FollowingCalls.{after_call}
use Rattle.sky_model.specs.CallPermits.{no_call_marks, may_be_left}
use Rattle.sky_laws_replicas.proofs.CallMarks.{each-does}

-- ---- marks that leave a node as it is

abbrev is_still : Mark → Bool
is_still (noded (restarted table)) = true
is_still (noded (hold_begun hold)) = true
is_still (noded (hold_ended hold)) = true
is_still (noded mark) = false
is_still mark = true

node-still : (h : History) (marks : List Mark) → EachMark is_still marks → node (marked h marks) ≡ node h
node-still h [] each = refl
node-still h (noded (restarted table) ∷ marks) each = node-still (noded (restarted table) ∷ h) marks each
node-still h (noded (hold_begun hold) ∷ marks) each = node-still (noded (hold_begun hold) ∷ h) marks each
node-still h (noded (hold_ended hold) ∷ marks) each = node-still (noded (hold_ended hold) ∷ h) marks each
node-still h (noded mark ∷ marks) each = absurd each
node-still h (mark ∷ marks) each = node-still (mark ∷ h) marks each

-- such are marks by which a copy begins, writes or is given up
still-if : (begins writes gives : Bool) (mark : Mark) → may_be_left (record no_call_marks { begins_copy = begins; copies_row = writes; gives_up = gives }) mark ≡ true → is_still mark ≡ true
still-if begins writes gives (noded (restarted table)) e = refl
still-if begins writes gives (noded (hold_begun hold)) e = refl
still-if begins writes gives (noded (hold_ended hold)) e = refl
still-if begins writes gives (noded mark) e = absurd (cc e)
still-if begins writes gives mark e = refl

pub leaf-begun : (h : History) (name : List ℕ) → node (after_call h (beginning_copy name)) ≡ node h
leaf-begun h name = node-still h (marks_of (node_does (database_of h) (beginning_copy name))) (each-does is_still (beginning_copy name) (still-if true true false) (database_of h))

pub leaf-rows : (h : History) (name : List ℕ) (rows : List (List Val)) → node (after_call h (copying_rows name rows)) ≡ node h
leaf-rows h name rows = node-still h (marks_of (node_does (database_of h) (copying_rows name rows))) (each-does is_still (copying_rows name rows) (still-if false true false) (database_of h))

pub leaf-given_up : (h : History) (name : List ℕ) → node (after_call h (giving_up_copy name)) ≡ node h
leaf-given_up h name = node-still h (marks_of (node_does (database_of h) (giving_up_copy name))) (each-does is_still (giving_up_copy name) (still-if false false true) (database_of h))

-- ---- the end of a copy

pub leaf-ended : (h : History) (name : List ℕ) (under : SnapshotView) (tick : ℕ) (l : Leaf) → node h ≡ Some (of_leaf l)
    → (node (after_call h (ending_copy name under tick)) ≡ Some (of_leaf l)) ⊎ (node (after_call h (ending_copy name under tick)) ≡ Some (of_leaf (with_copied name under tick l)))
leaf-ended h name under tick l leaf = served (may_copy name (node h))
  where
    Either : Checked Outcome → Type 0
    Either c = (node (marked h (marks_of c)) ≡ Some (of_leaf l)) ⊎ (node (marked h (marks_of c)) ≡ Some (of_leaf (with_copied name under tick l)))

    runs : (table : ℕ) (o : Option ℕ) → Either (if_there o (λ t. ends_copy table t name under tick))
    runs table None = inl leaf
    runs table (Some t) = inr (ap (after_node (copied name under tick)) leaf)

    there : (o : Option ℕ) → Either (if_there o (λ table. if_there (copy_txid table (copies h)) (λ t. ends_copy table t name under tick)))
    there None = inl leaf
    there (Some table) = runs table (copy_txid table (copies h))

    served : (b : Bool) → Either (if b then call_form (database_of h) (ending_copy name under tick) else answers Null)
    served true = there (place_of name (table_names h))
    served false = inl leaf

-- ---- a table goes into a state, or leaves

pub is-among : (name : List ℕ) (ts : List LeafTable) → is_among name (map LeafTable.name ts) ≡ is_some (found name ts)
is-among name [] = refl
is-among name (t ∷ ts) = by_test (λ b. (b || is_among name (map LeafTable.name ts)) ≡ is_some (if b then Some t else found name ts)) (bytes_eq name t.name) (λ _. refl) (λ _. is-among name ts)

place-there : (h : History) (l : Leaf) (name : List ℕ) → Legal h → node h ≡ Some (of_leaf l) → is_some (found name l.tables) ≡ true → is_some (place_of name (table_names h)) ≡ true
place-there h l name legal leaf is =
    among-are (table_names h) (leaf_tables (node h)) name (have-tables h legal).leaf (ap (λ n. is_among name (leaf_tables n)) leaf ∙ is-among name l.tables ∙ is)

given-then : (h : History) (table : ℕ) (name : List ℕ) (o : Option ℕ) (mark : NodeMark) (rest : List Mark) → EachMark is_still rest → node (marked h (given_up table name o ++ noded mark ∷ rest)) ≡ after_node mark (node h)
given-then h table name None mark rest still = node-still (noded mark ∷ h) rest still
given-then h table name (Some t) mark rest still = node-still (noded mark ∷ noded (restarted name) ∷ ended (of_copy table) t false ∷ h) rest still

pub leaf-moved : (h : History) (l : Leaf) (name : List ℕ) (t : LeafTable) (state : TableState) → Legal h → node h ≡ Some (of_leaf l) → found name l.tables ≡ Some t → is_allowed t.state state ≡ true
    → node (after_call h (moving name state)) ≡ Some (of_leaf (with_state name state l))
leaf-moved h l name t state legal leaf is may = of (place_of name (table_names h)) refl (place-there h l name legal leaf (ap is_some is))
  where
    serves : may_move name state (node h) ≡ true
    serves = ap (may_move name state) leaf ∙ ap (λ o. unwrap_or (option_map (λ (x : LeafTable). is_allowed x.state state) o) false) is ∙ may

    of : (o : Option ℕ) → place_of name (table_names h) ≡ o → is_some o ≡ true → node (after_call h (moving name state)) ≡ Some (of_leaf (with_state name state l))
    of None there e = absurd (cc e)
    of (Some table) there e =
        ap (λ b. node (marked h (marks_of (if b then call_form (database_of h) (moving name state) else answers Null)))) serves
        ∙ ap (λ o. node (marked h (marks_of (if_there o (λ n. moves_table (database_of h) n name state))))) there
        ∙ given-then h table name (copy_txid table (copies h)) (state_set name state) [] tt ∙ ap (after_node (state_set name state)) leaf

-- if it may; else nothing changes
pub record GoesInto (h : History) (l : Leaf) (name : List ℕ) (state : TableState) : Type 0 where
  pub t : LeafTable
  pub there : found name l.tables ≡ Some t
  pub may : is_allowed t.state state ≡ true
  pub is : node (after_call h (moving name state)) ≡ Some (of_leaf (with_state name state l))

pub leaf-moves : (h : History) (l : Leaf) (name : List ℕ) (state : TableState) → Legal h → node h ≡ Some (of_leaf l) → (node (after_call h (moving name state)) ≡ Some (of_leaf l)) ⊎ GoesInto h l name state
leaf-moves h l name state legal leaf = of (found name l.tables) refl
  where
    still : may_move name state (node h) ≡ false → node (after_call h (moving name state)) ≡ Some (of_leaf l)
    still isnt = ap (λ b. node (marked h (marks_of (if b then call_form (database_of h) (moving name state) else answers Null)))) isnt ∙ leaf

    serves : (o : Option LeafTable) → found name l.tables ≡ o → may_move name state (node h) ≡ unwrap_or (option_map (λ (x : LeafTable). is_allowed x.state state) o) false
    serves o is = ap (may_move name state) leaf ∙ ap (λ x. unwrap_or (option_map (λ (y : LeafTable). is_allowed y.state state) x) false) is

    of : (o : Option LeafTable) → found name l.tables ≡ o → (node (after_call h (moving name state)) ≡ Some (of_leaf l)) ⊎ GoesInto h l name state
    of None is = inl (still (serves None is))
    of (Some t) is =
        by_test (λ b. is_allowed t.state state ≡ b → (node (after_call h (moving name state)) ≡ Some (of_leaf l)) ⊎ GoesInto h l name state) (is_allowed t.state state)
        (λ _ may. inr (record { t = t; there = is; may = may; is = leaf-moved h l name t state legal leaf is may })) (λ _ isnt. inl (still (serves (Some t) is ∙ isnt))) refl

pub leaf-removed : (h : History) (l : Leaf) (name : List ℕ) → Legal h → node h ≡ Some (of_leaf l) → is_among name (map LeafTable.name l.tables) ≡ true
    → node (after_call h (removing name)) ≡ Some (of_leaf (without_leaf_table name l))
leaf-removed h l name legal leaf among = of (place_of name (table_names h)) refl (place-there h l name legal leaf (sym (is-among name l.tables) ∙ among))
  where
    of : (o : Option ℕ) → place_of name (table_names h) ≡ o → is_some o ≡ true → node (after_call h (removing name)) ≡ Some (of_leaf (without_leaf_table name l))
    of None there e = absurd (cc e)
    of (Some table) there e =
        ap (λ b. node (marked h (marks_of (if b then call_form (database_of h) (removing name) else answers Null)))) (ap (λ n. is_among name (leaf_tables n)) leaf ∙ among)
        ∙ ap (λ o. node (marked h (marks_of (if_there o (λ n. removes (database_of h) n name))))) there
        ∙ given-then h table name (copy_txid table (copies h)) (leaf_removed name) (tabled (read_only table false) ∷ []) tt ∙ ap (after_node (leaf_removed name)) leaf

-- ---- a batch is applied

next-is : (n t : ℕ) (spent : Bool) → (refused_if spent TxidsSpent >> Ok n) ≡ Ok t → n ≡ t
next-is n t true is = absurd (cc is)
next-is n t false is = cc is

applied-calls : (calls : List DatabaseCall) (events : List Event) (pick : Pick) (tick t : ℕ) → (let h : History = after_all database_part calls in
    may_apply pick (node h) ≡ true → next_id (part_of h) ≡ Ok t → bad_event (database_of h) pick events ≡ None → node (after_call h (applying events pick tick)) ≡ after_node (applied pick tick) (node h))
applied-calls calls events pick tick t may free good =
    let h : History = after_all database_part calls in
    let d : Database = database_of h in
    let es : List Event = picked d.node pick events in
    let same : d.part.next ≡ t = next-is d.part.next t (nat_le (2 ^ 62) d.part.next) free in
    let fine : (applies_in d.part t es).bad ≡ None = ap (λ n. (applies_in d.part n es).bad) (sym same) ∙ good in
    let answer : reply_of (node_does d (applying events pick tick)) ≡ Number (length es) =
    ap (λ b. reply_of (if b then call_form d (applying events pick tick) else answers Null)) may
    ∙ ap (λ b. reply_of (if b then answers Null else applies_picked d pick tick es)) (no_picked_table_is_copied calls events pick)
    ∙ ap (λ c. reply_of (c >>= (λ n. ends_applying pick tick n (length es) (applies_in d.part n es).marks (applies_in d.part n es).bad))) free
    ∙ ap (λ o. reply_of (ends_applying pick tick t (length es) (applies_in d.part t es).marks o)) fine in
    (batches_put_their_events calls events pick tick (length es) answer).1.stored

-- or it isn't, if one of its events can't be
unapplied-calls : (calls : List DatabaseCall) (events : List Event) (pick : Pick) (tick t id : ℕ) → (let h : History = after_all database_part calls in
    may_apply pick (node h) ≡ true → next_id (part_of h) ≡ Ok t → bad_event (database_of h) pick events ≡ Some id → node (after_call h (applying events pick tick)) ≡ node h)
unapplied-calls calls events pick tick t id may free bad =
    let h : History = after_all database_part calls in
    let d : Database = database_of h in
    let es : List Event = picked d.node pick events in
    let same : d.part.next ≡ t = next-is d.part.next t (nat_le (2 ^ 62) d.part.next) free in
    let fails : (applies_in d.part t es).bad ≡ Some id = ap (λ n. (applies_in d.part n es).bad) (sym same) ∙ bad in
    let answer : reply_of (node_does d (applying events pick tick)) ≡ Null =
    ap (λ b. reply_of (if b then call_form d (applying events pick tick) else answers Null)) may
    ∙ ap (λ b. reply_of (if b then answers Null else applies_picked d pick tick es)) (no_picked_table_is_copied calls events pick)
    ∙ ap (λ c. reply_of (c >>= (λ n. ends_applying pick tick n (length es) (applies_in d.part n es).marks (applies_in d.part n es).bad))) free
    ∙ ap (λ o. reply_of (ends_applying pick tick t (length es) (applies_in d.part t es).marks o)) fails in
    (other_batches_leave_rows calls events pick tick (λ many is. cc (sym answer ∙ is))).0

-- a history is that of calls of a database
pub record IsOfCalls (h : History) : Type 0 where
  pub calls : List DatabaseCall
  pub is : after_all database_part calls ≡ h

pub leaf-applied : (h : History) → IsOfCalls h → (events : List Event) (pick : Pick) (tick t : ℕ) → may_apply pick (node h) ≡ true → next_id (part_of h) ≡ Ok t → bad_event (database_of h) pick events ≡ None
    → node (after_call h (applying events pick tick)) ≡ after_node (applied pick tick) (node h)
leaf-applied h made events pick tick t =
    subst (λ g. may_apply pick (node g) ≡ true → next_id (part_of g) ≡ Ok t → bad_event (database_of g) pick events ≡ None → node (after_call g (applying events pick tick)) ≡ after_node (applied pick tick) (node g)) made.is
    (applied-calls made.calls events pick tick t)

pub leaf-unapplied : (h : History) → IsOfCalls h → (events : List Event) (pick : Pick) (tick t id : ℕ) → may_apply pick (node h) ≡ true → next_id (part_of h) ≡ Ok t → bad_event (database_of h) pick events ≡ Some id
    → node (after_call h (applying events pick tick)) ≡ node h
leaf-unapplied h made events pick tick t id =
    subst (λ g. may_apply pick (node g) ≡ true → next_id (part_of g) ≡ Ok t → bad_event (database_of g) pick events ≡ Some id → node (after_call g (applying events pick tick)) ≡ node g) made.is
    (unapplied-calls made.calls events pick tick t id)
