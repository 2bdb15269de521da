-- The pasts that calls for nodes leave, one after another, and the marks of calls for the own copy.
use Rattle.std.proofs.Common.{◌≡◌, ◌||◌, ℕ, ◌==◌, ◌^◌, nat_le, List, [], ◌∷◌, ◌++◌, Bool, true, false, ◌&&◌, Option, Some, None, Ok, map, bytes_eq, append_assoc, append-nil, refl, sym, ap, subst, ◌∙◌, if◌then◌else◌, not, arith, ◌||◌}
use Rattle.std.specs.List.{list_any}
use Rattle.sky_val.specs.declared.val.Val.{Val}
use Rattle.sky_names.specs.Places.{place_of}
use Rattle.sky_names.proofs.PlaceLemmas.{bytes_eq_refl}
use Rattle.sky_txid.specs.Snapshot.{SnapshotView}
use Rattle.londiste_state.specs.Nodes.{is_among}
use Rattle.sky_model.specs.declared.reply.Reply.TheVariants.{Done, Null}
use Rattle.sky_model.specs.declared.reply.Refusal.TheVariants.{TxidsSpent}
use Rattle.sky_model.specs.History.{Mark, of_copy, began, ended, tabled, read_only, noded, leaf_removed, state_set, copied, restarted, hold_begun, hold_ended, History, Fact, within, Past, wrote}
use Rattle.sky_model.specs.Transactions.{next_txid}
use Rattle.sky_model.specs.Copies.{copies, copy_txid, Hold, holds}
use Rattle.sky_model.specs.Rows.{Write, table_names, columns_of, writes as writes_of}
use Rattle.sky_model.specs.Nodes.{node, leaf_tables}
use Rattle.sky_model.specs.State.{RowPart, part_of, after_part, Database, database_of}
use Rattle.sky_model.specs.Outcome.{◌>>=◌, ◌>>◌, refused_if, answers, does_marks, marks_of}
use Rattle.sky_model.specs.StepCopy.{copy_write, copy_writes, deletions, insertions, rows_now, begins_copy, all_fit, copies_rows, ends_copy, given_up}
use Rattle.sky_model.specs.StepNode.{NodeCall, beginning_copy, copying_rows, ending_copy, giving_up_copy, removing, letting_go, if_there, removes, may_copy, may_serve, call_form, node_does}
use Rattle.sky_model.specs.WorkerMoves.{Move}
use Rattle.sky_model.specs.WorkersOfWorld.{calls_facts, move_facts}
use Rattle.sky_model.specs.Settling.{marked}
use Rattle.sky_model.specs.World.{world_of, after_facts, history_in, on_top}
use Rattle.sky_histories.proofs.Marks.{world_of-facts}
use Rattle.sky_histories.proofs.PastHistories.{on_top-append, history-marks}
use Rattle.sky_histories.proofs.Good.{same-session}
use Rattle.sky_histories.proofs.StatementMarks.{EachMark, When, AnyReply, Gives}
use Rattle.sky_model.proofs.Cases.{by_test}
use Rattle.sky_model.specs.CallPermits.{CallMarkKinds, may_be_left, kinds_of_call}
use Rattle.sky_laws_replicas.proofs.CallMarks.{gives-call}
use Rattle.sky_laws_replicas.proofs.Keeping.{Kept, keeps_copies}
use Rattle.sky_laws_replicas.proofs.Others.{other_than, KeptFree, kept-alone, is_own, ends-hold}

-- ---- one call after another

abbrev pub call_marks : History → NodeCall → List Mark
call_marks h call = marks_of (node_does (database_of h) call)

abbrev pub called : Past → ℕ → NodeCall → Past
called past d call = on_top past (map (within d) (call_marks (history_in past d) call))

abbrev pub after_calls : Past → ℕ → List NodeCall → Past
after_calls past d [] = past
after_calls past d (call ∷ calls) = after_calls (called past d call) d calls

pub on-calls : (past : Past) (d : ℕ) (calls : List NodeCall) → on_top past (calls_facts (world_of past) d calls) ≡ after_calls past d calls
on-calls past d [] = refl
on-calls past d (call ∷ calls) =
    let front : List Fact = map (within d) (call_marks (history_in past d) call) in
    on_top-append past front (calls_facts (after_facts (world_of past) front) d calls)
    ∙ ap (λ x. on_top (on_top past front) (calls_facts x d calls)) (sym (world_of-facts past front))
    ∙ on-calls (on_top past front) d calls

-- the past after a move
pub on-move : {H : Type 0} (past : Past) (p d : ℕ) (handed : Option H → Fact) (move : Move H)
    → on_top past (move_facts (world_of past) p d handed move) ≡ handed move.hand ∷ after_calls (after_calls past p move.provider) d move.replica
on-move past p d handed move =
    let there : List Fact = calls_facts (world_of past) p move.provider in
    let last : List Fact = handed move.hand ∷ [] in
    let middle : Past = after_calls past p move.provider in
    on_top-append past there (calls_facts (after_facts (world_of past) there) d move.replica ++ last)
    ∙ ap (λ x. on_top (on_top past there) (calls_facts x d move.replica ++ last)) (sym (world_of-facts past there))
    ∙ ap (λ q. on_top q (calls_facts (world_of q) d move.replica ++ last)) (on-calls past p move.provider)
    ∙ on_top-append middle (calls_facts (world_of middle) d move.replica) last
    ∙ ap (λ q. handed move.hand ∷ q) (on-calls middle d move.replica)

-- ---- histories after a call

pub history-called : (past : Past) (d : ℕ) (call : NodeCall) → history_in (called past d call) d ≡ marked (history_in past d) (call_marks (history_in past d) call)
history-called past d call =
    history-marks past d (call_marks (history_in past d) call) d
    ∙ ap (λ b. if b then marked (history_in past d) (call_marks (history_in past d) call) else history_in past d) (same-session d)

pub history-elsewhere : (past : Past) (d : ℕ) (call : NodeCall) (e : ℕ) → (d == e) ≡ false → history_in (called past d call) e ≡ history_in past e
history-elsewhere past d call e other =
    history-marks past d (call_marks (history_in past d) call) e
    ∙ ap (λ b. if b then marked (history_in past e) (call_marks (history_in past d) call) else history_in past e) other

pub histories-elsewhere : (past : Past) (d : ℕ) (calls : List NodeCall) (e : ℕ) → (d == e) ≡ false → history_in (after_calls past d calls) e ≡ history_in past e
histories-elsewhere past d [] e other = refl
histories-elsewhere past d (call ∷ calls) e other = histories-elsewhere (called past d call) d calls e other ∙ history-elsewhere past d call e other

-- ---- the marks of calls that aren't for copies

abbrev pub are_quiet : CallMarkKinds → Bool
are_quiet k = not (k.removes || k.moves || k.begins_copy || k.copies_row || k.ends_copy || k.gives_up || k.holds || k.lets_go)

quiet-if : (k : CallMarkKinds) → are_quiet k ≡ true → (mark : Mark) → may_be_left k mark ≡ true → keeps_copies mark ≡ true
quiet-if k quiet (began (of_copy n) t) e = absurd (grind (arith, quiet, e))
quiet-if k quiet (ended (of_copy n) t true) e = absurd (grind (arith, quiet, e))
quiet-if k quiet (ended (of_copy n) t false) e = absurd (grind (arith, quiet, e))
quiet-if k quiet (tabled (wrote (of_copy n) t table key old new)) e = absurd (grind (arith, quiet, e))
quiet-if k quiet (noded (copied name under tick)) e = absurd (grind (arith, quiet, e))
quiet-if k quiet (noded (hold_begun hold)) e = absurd (grind (arith, quiet, e))
quiet-if k quiet (noded (hold_ended hold)) e = absurd (grind (arith, quiet, e))
quiet-if k quiet (noded (leaf_removed name)) e = absurd (grind (arith, quiet, e))
quiet-if k quiet (noded (state_set name state)) e = absurd (grind (arith, quiet, e))
quiet-if k quiet mark e = refl

pub quiet-call : (d : Database) (call : NodeCall) → are_quiet (kinds_of_call call) ≡ true → Gives AnyReply keeps_copies (call_form d call)
quiet-call d call quiet = gives-call keeps_copies call (quiet-if (kinds_of_call call) quiet) d

-- ---- the end of a hold

pub lets-go : (p d : ℕ) (name : List ℕ) (hold : ℕ) (past : Past) → KeptFree p d name hold past → Kept (other_than d name) (called past p (letting_go hold))
lets-go p d name hold past kept = of (list_any (λ (x : Hold). x.number == hold) (holds (history_in past p)))
  where
    of : (b : Bool) → Kept (other_than d name) (on_top past (map (within p) (marks_of (if b then does_marks Done (noded (hold_ended hold) ∷ []) else answers Null))))
    of true = ends-hold p d name hold past kept
    of false = kept-alone p d name hold past kept

-- ---- the marks of calls for the own copy

when-same : (n : ℕ) {T : Type 0} → T → When (n == n) T
when-same n {T = T} t = subst (λ b. When b T) (sym (same-session n)) t

when-name : (name : List ℕ) {T : Type 0} → T → When (bytes_eq name name) T
when-name name {T = T} t = subst (λ b. When b T) (sym (bytes_eq_refl name)) t

own-written : (name : List ℕ) (d : RowPart) (table t : ℕ) (ws : List Write) → EachMark (is_own name table) (copy_writes d table t ws)
own-written name d table t [] = tt
own-written name d table t (w ∷ ws) = when-same table (own-written name (after_part d (copy_write d table t w)) table t ws)

own-given_up : (name : List ℕ) (table : ℕ) (other : List ℕ) (o : Option ℕ) → EachMark (is_own name table) (given_up table other o)
own-given_up name table other None = tt
own-given_up name table other (Some t) = when-same table tt

own-begins : (name : List ℕ) (d : Database) (table : ℕ) (o : Option ℕ) → EachMark (is_own name table) (marks_of (begins_copy d table o))
own-begins name d table (Some t) = tt
own-begins name d table None = of (nat_le (2 ^ 62) d.part.next)
  where
    of : (spent : Bool) → EachMark (is_own name table) (marks_of ((refused_if spent TxidsSpent >> Ok d.part.next)
        >>= (λ t. does_marks Done (began (of_copy table) t ∷ copy_writes (after_part d.part (began (of_copy table) t)) table t (deletions (rows_now d.part table))))))
    of true = tt
    of false = when-same table (own-written name (after_part d.part (began (of_copy table) d.part.next)) table d.part.next (deletions (rows_now d.part table)))

own-rows : (name : List ℕ) (d : Database) (table : ℕ) (rows : List (List Val)) (o : Option ℕ) → EachMark (is_own name table) (marks_of (if_there o (λ t. copies_rows d table t rows)))
own-rows name d table rows None = tt
own-rows name d table rows (Some t) =
    by_test (λ b. EachMark (is_own name table) (marks_of (if b then does_marks Done (copy_writes d.part table t (insertions (d.part.columns table) rows)) else answers Null))) (all_fit (d.part.columns table) rows)
    (λ _. own-written name d.part table t (insertions (d.part.columns table) rows)) (λ _. tt)

own-removes : (table : ℕ) (name : List ℕ) (o : Option ℕ) → EachMark (is_own name table) (given_up table name o ++ noded (leaf_removed name) ∷ tabled (read_only table false) ∷ [])
own-removes table name None = when-name name tt
own-removes table name (Some t) = when-same table (when-name name tt)

-- the calls of one table's copy that don't end it by a commit
abbrev pub is_own_call : NodeCall → List ℕ → Type 0
is_own_call (beginning_copy name) table = name ≡ table
is_own_call (copying_rows name rows) table = name ≡ table
is_own_call (giving_up_copy name) table = name ≡ table
is_own_call (removing name) table = name ≡ table
is_own_call call table = ⊥

own-form : (h : History) (name : List ℕ) (table : ℕ) (call : NodeCall) → place_of name (table_names h) ≡ Some table → is_own_call call name → EachMark (is_own name table) (marks_of (call_form (database_of h) call))
own-form h name table (beginning_copy other) there is =
    subst (λ o. EachMark (is_own name table) (marks_of (if_there o (λ n. begins_copy (database_of h) n (copy_txid n (copies h)))))) (sym (ap (λ x. place_of x (table_names h)) is ∙ there))
    (own-begins name (database_of h) table (copy_txid table (copies h)))
own-form h name table (copying_rows other rows) there is =
    subst (λ o. EachMark (is_own name table) (marks_of (if_there o (λ n. if_there (copy_txid n (copies h)) (λ t. copies_rows (database_of h) n t rows))))) (sym (ap (λ x. place_of x (table_names h)) is ∙ there))
    (own-rows name (database_of h) table rows (copy_txid table (copies h)))
own-form h name table (giving_up_copy other) there is =
    subst (λ o. EachMark (is_own name table) (marks_of (if_there o (λ n. does_marks Done (given_up n other (copy_txid n (copies h))))))) (sym (ap (λ x. place_of x (table_names h)) is ∙ there))
    (own-given_up name table other (copy_txid table (copies h)))
own-form h name table (removing other) there is =
    subst (λ x. EachMark (is_own name table) (marks_of (if_there (place_of x (table_names h)) (λ n. removes (database_of h) n x)))) (sym is)
    (subst (λ o. EachMark (is_own name table) (marks_of (if_there o (λ n. removes (database_of h) n name)))) (sym there) (own-removes table name (copy_txid table (copies h))))
own-form h name table call there is = absurd is

pub own-call : (h : History) (name : List ℕ) (table : ℕ) (call : NodeCall) → place_of name (table_names h) ≡ Some table → is_own_call call name → EachMark (is_own name table) (call_marks h call)
own-call h name table call there is =
    by_test (λ b. EachMark (is_own name table) (marks_of (if b then call_form (database_of h) call else answers Null))) (may_serve call (node h)) (λ _. own-form h name table call there is) (λ _. tt)

-- ---- what they are

-- rows that fit are copied
pub copying-marks : (h : History) (name : List ℕ) (table t : ℕ) (rows : List (List Val)) → may_copy name (node h) ≡ true → place_of name (table_names h) ≡ Some table → copy_txid table (copies h) ≡ Some t
    → all_fit (columns_of table h) rows ≡ true → call_marks h (copying_rows name rows) ≡ copy_writes (part_of h) table t (insertions (columns_of table h) rows)
copying-marks h name table t rows may there runs fit =
    ap (λ b. marks_of (if b then call_form (database_of h) (copying_rows name rows) else answers Null)) may
    ∙ ap (λ o. marks_of (if_there o (λ n. if_there (copy_txid n (copies h)) (λ u. copies_rows (database_of h) n u rows)))) there
    ∙ ap (λ o. marks_of (if_there o (λ u. copies_rows (database_of h) table u rows))) runs
    ∙ ap (λ b. marks_of (if b then does_marks Done (copy_writes (part_of h) table t (insertions (columns_of table h) rows)) else answers Null)) fit

-- the copy ends
pub ending-marks : (h : History) (name : List ℕ) (table t : ℕ) (under : SnapshotView) (tick : ℕ) → may_copy name (node h) ≡ true → place_of name (table_names h) ≡ Some table → copy_txid table (copies h) ≡ Some t
    → call_marks h (ending_copy name under tick) ≡ ended (of_copy table) t true ∷ noded (copied name under tick) ∷ []
ending-marks h name table t under tick may there runs =
    ap (λ b. marks_of (if b then call_form (database_of h) (ending_copy name under tick) else answers Null)) may
    ∙ ap (λ o. marks_of (if_there o (λ n. if_there (copy_txid n (copies h)) (λ u. ends_copy n u name under tick)))) there
    ∙ ap (λ o. marks_of (if_there o (λ u. ends_copy table u name under tick))) runs

-- it is given up
pub giving-up-marks : (h : History) (name : List ℕ) (table t : ℕ) → may_copy name (node h) ≡ true → place_of name (table_names h) ≡ Some table → copy_txid table (copies h) ≡ Some t
    → call_marks h (giving_up_copy name) ≡ ended (of_copy table) t false ∷ noded (restarted name) ∷ []
giving-up-marks h name table t may there runs =
    ap (λ b. marks_of (if b then call_form (database_of h) (giving_up_copy name) else answers Null)) may
    ∙ ap (λ o. marks_of (if_there o (λ n. does_marks Done (given_up n name (copy_txid n (copies h)))))) there
    ∙ ap (given_up table name) runs

-- the table leaves
pub removing-marks : (h : History) (name : List ℕ) (table : ℕ) → is_among name (leaf_tables (node h)) ≡ true → place_of name (table_names h) ≡ Some table
    → call_marks h (removing name) ≡ given_up table name (copy_txid table (copies h)) ++ noded (leaf_removed name) ∷ tabled (read_only table false) ∷ []
removing-marks h name table serves there =
    ap (λ b. marks_of (if b then call_form (database_of h) (removing name) else answers Null)) serves ∙ ap (λ o. marks_of (if_there o (λ n. removes (database_of h) n name))) there

-- it begins
pub beginning-marks : (h : History) (name : List ℕ) (table : ℕ) → may_copy name (node h) ≡ true → place_of name (table_names h) ≡ Some table → copy_txid table (copies h) ≡ None
    → nat_le (2 ^ 62) (next_txid h) ≡ false
    → call_marks h (beginning_copy name)
    ≡ began (of_copy table) (next_txid h) ∷ copy_writes (after_part (part_of h) (began (of_copy table) (next_txid h))) table (next_txid h) (deletions (rows_now (part_of h) table))
beginning-marks h name table may there none unspent =
    ap (λ b. marks_of (if b then call_form (database_of h) (beginning_copy name) else answers Null)) may
    ∙ ap (λ o. marks_of (if_there o (λ n. begins_copy (database_of h) n (copy_txid n (copies h))))) there
    ∙ ap (λ o. marks_of (begins_copy (database_of h) table o)) none
    ∙ ap (λ b. marks_of ((refused_if b TxidsSpent >> Ok (next_txid h))
    >>= (λ t. does_marks Done (began (of_copy table) t ∷ copy_writes (after_part (part_of h) (began (of_copy table) t)) table t (deletions (rows_now (part_of h) table)))))) unspent

-- ---- a history after the writes of a copy

-- what they leave as it was
pub record IsWritten (h g : History) (table t : ℕ) (ws : List Write) : Type 0 where
  pub names : table_names g ≡ table_names h
  pub running : copies g ≡ copies h
  pub node_is : node g ≡ node h
  pub columns : columns_of table g ≡ columns_of table h
  pub writes : writes_of table t g ≡ writes_of table t h ++ ws

pub is-written : (d : RowPart) (table t : ℕ) (ws : List Write) (h : History) → IsWritten h (marked h (copy_writes d table t ws)) table t ws
is-written d table t [] h = record { names = refl; running = refl; node_is = refl; columns = refl; writes = sym (append-nil (writes_of table t h)) }
is-written d table t (w ∷ ws) h =
    let mark : Mark = copy_write d table t w in
    let rest = is-written (after_part d mark) table t ws (mark ∷ h) in
    record {
      names = rest.names;
      running = rest.running;
      node_is = rest.node_is;
      columns = rest.columns;
      writes = rest.writes
          ∙ ap (λ b. (if b then writes_of table t h ++ w ∷ [] else writes_of table t h) ++ ws) (ap (λ b. b && t == t) (same-session table) ∙ same-session t)
          ∙ append_assoc (writes_of table t h) (w ∷ []) ws;
    }
