-- What a move of the worker that copies a table keeps.
use Rattle.std.proofs.Common.{arith, ◌≡◌, ℕ, ◌==◌, ◌^◌, nat_le, List, [], ◌∷◌, ◌++◌, map, Bool, true, false, not, Option, Some, None, IfOk, option_map, append_assoc, find, refl, sym, ap, subst, ◌∙◌, if◌then◌else◌}
use Rattle.std.proofs.lemmas.Bool.Decides.{nat_tests}
use Rattle.sky_val.specs.declared.val.Val.{Val}
use Rattle.sky_val.specs.declared.column.Column.{Column}
use Rattle.sky_val.specs.Entries.{Entries, is_in_order}
use Rattle.sky_names.specs.Places.{place_of}
use Rattle.sky_txid.specs.Snapshot.{SnapshotView}
use Rattle.sky_model.specs.declared.reply.Reply.TheVariants.{Done, Null}
use Rattle.sky_model.specs.History.{Mark, NodeMark, of_copy, began, ended, tabled, read_only, noded, leaf_removed, copied, restarted, History, Fact, within, in_hand, Past}
use Rattle.sky_model.specs.Hands.{CopyHand, of_copy, copy_in}
use Rattle.sky_model.specs.Transactions.{next_txid, snapshot}
use Rattle.sky_model.specs.Copies.{Copy, copies, is_copied, is_copied_by, copy_txid, without_copy}
use Rattle.sky_model.specs.Rows.{Write, table_names, columns_of, writes as writes_of, put_all, rows}
use Rattle.sky_model.specs.Nodes.{node}
use Rattle.sky_model.specs.State.{RowPart, part_of, after_part, database_of}
use Rattle.sky_model.specs.Outcome.{answers, does_marks, marks_of}
use Rattle.sky_model.specs.StepCopy.{copy_writes, deletions, insertions, rows_now, given_up}
use Rattle.sky_model.specs.StepNode.{beginning_copy, copying_rows, ending_copy, giving_up_copy, letting_go, if_there, may_copy, call_form}
use Rattle.sky_model.specs.WorkerMoves.{Move, only_prints}
use Rattle.sky_model.specs.CopyMoves.{newest_of, rows_of, last_key, lets_go_for}
use Rattle.sky_model.specs.WorkersOfWorld.{move_facts}
use Rattle.sky_model.specs.Settling.{marked}
use Rattle.sky_model.specs.World.{world_of, history_in, on_top}
use Rattle.sky_histories.proofs.Legal.{Legal}
use Rattle.sky_histories.proofs.Histories.{AllLegal}
use Rattle.sky_histories.proofs.Good.{same-session}
use Rattle.sky_histories.proofs.Guarded.{copy_txid-some, copy_txid-none, gone}
use Rattle.sky_histories.proofs.RowKeys.{begun}
use Rattle.sky_model.proofs.Cases.{by_test}
use Rattle.sky_laws_replicas.specs.LawsOfReplicas.{CopyBegan, copy_in_hand}
use Rattle.sky_laws_replicas.proofs.Pieces.{put-next, put-append, put-deletions, AreKeyed}
use Rattle.sky_laws_replicas.proofs.FittingRows.{AllFit, rows-fit}
use Rattle.sky_laws_replicas.proofs.NodeNames.{source_of}
use Rattle.sky_laws_replicas.proofs.Copying.{Runs, Holds, copy-found}
use Rattle.sky_laws_replicas.proofs.RunningCopies.{Uncopied, uncopied-txid}
use Rattle.sky_laws_replicas.proofs.Keeping.{legal-before, fine-within, Noded, noded-within, source-within, began-on, began-under, Copying, CopiedFrom, Keeps, Kept, keeps-within, fits-step}
use Rattle.sky_laws_replicas.proofs.Others.{each_table, other_than, legal-under, KeptFree, names-differ, own-step, own-marks, own-marks-free, puts-down, takes-up, idle-hand}
use Rattle.sky_laws_replicas.proofs.CallPasts.{call_marks, called, after_calls, on-move, history-called, history-elsewhere, own-call, copying-marks, ending-marks, giving-up-marks, beginning-marks, IsWritten, is-written}

-- ---- facts within databases

-- a leaf has the provider's database that it had
pub record StillFrom (past : Past) (d p : ℕ) : Type 0 where
  pub all : Noded past
  pub from : source_of past d ≡ Some p

pub still-marks : (past : Past) (e : ℕ) (marks : List Mark) (d p : ℕ) → AllLegal (on_top past (map (within e) marks)) → StillFrom past d p → StillFrom (on_top past (map (within e) marks)) d p
still-marks past e [] d p after s = s
still-marks past e (mark ∷ marks) d p after s =
    let next : AllLegal (within e mark ∷ past) = legal-under (within e mark ∷ past) (map (within e) marks) after in
    let fine = fine-within past e mark next in
    still-marks (within e mark ∷ past) e marks d p after (record { all = noded-within past e mark fine s.all; from = source-within past e mark d p s.all fine s.from })

-- ---- what a move keeps

-- of one that copies, what the worker then has in hand is a copy
abbrev pub copy_handed : ℕ → List ℕ → Option CopyHand → Fact
copy_handed d name hand = in_hand d name (option_map of_copy hand)

abbrev pub MoveKept : {H : Type 0} → Past → (p d : ℕ) → (Option H → Fact) → Move H → Type 0
MoveKept past p d handed move = Kept each_table (on_top past (move_facts (world_of past) p d handed move))

pub move-kept : {H : Type 0} (past : Past) (p d : ℕ) (handed : Option H → Fact) (move : Move H) → Kept each_table (handed move.hand ∷ after_calls (after_calls past p move.provider) d move.replica)
    → MoveKept past p d handed move
move-kept past p d handed move kept = subst (Kept each_table) (sym (on-move past p d handed move)) kept

-- nothing but what is printed
pub copy-again : (o : Option CopyHand) → copy_in (option_map of_copy o) ≡ o
copy-again None = refl
copy-again (Some hand) = refl

pub prints-kept : (past : Past) (p d : ℕ) (name : List ℕ) (reply : _) (hand : Option CopyHand) → copy_in_hand past d name ≡ hand → Kept each_table past
    → IfOk (only_prints reply hand) (λ move. MoveKept past p d (copy_handed d name) move)
prints-kept past p d name reply hand same kept = fits-step each_table past (copy_handed d name hand) (same ∙ sym (copy-again hand)) kept

-- ---- the copy in the replica's database

-- a copy that runs there, of a table that is to be copied
pub record AtCopy (h : History) (name : List ℕ) (table t : ℕ) (made : Entries (List Val)) : Type 0 where
  pub runs : Runs h name table t made
  pub found : copy_txid table (copies h) ≡ Some t
  pub may : may_copy name (node h) ≡ true

pub at-copy : (h : History) → Legal h → (name : List ℕ) (table t : ℕ) (made : Entries (List Val)) → Runs h name table t made → may_copy name (node h) ≡ true → AtCopy h name table t made
at-copy h l name table t made runs may = record { runs = runs; found = copy-found h l table t runs.runs; may = may }

keyed : (columns : List Column) (es : Entries (List Val)) → AllFit columns es → AreKeyed columns es
keyed columns [] fits = tt
keyed columns (e ∷ es) fits = (fits.0.1, keyed columns es fits.1)

-- it goes on with rows that fit the table and come after those that it has made
goes-on : (h : History) (name : List ℕ) (table t : ℕ) (made piece rest : Entries (List Val)) → AtCopy h name table t made → AllFit (columns_of table h) piece → is_in_order (made ++ (piece ++ rest)) ≡ true
    → AtCopy (marked h (call_marks h (copying_rows name (rows_of piece)))) name table t (made ++ piece)
goes-on h name table t made piece rest c fits order =
    subst (λ ms. AtCopy (marked h ms) name table t (made ++ piece)) (sym (copying-marks h name table t (rows_of piece) c.may c.runs.named c.found (rows-fit (columns_of table h) piece fits))) there
  where
    ws : List Write
    ws = insertions (columns_of table h) (rows_of piece)

    g : History
    g = marked h (copy_writes (part_of h) table t ws)

    is : IsWritten h g table t ws
    is = is-written (part_of h) table t ws h

    there : AtCopy g name table t (made ++ piece)
    there = record {
      runs = record {
        named = ap (place_of name) is.names ∙ c.runs.named;
        runs = ap (is_copied_by table t) is.running ∙ c.runs.runs;
        written = ap (λ x. put_all x []) is.writes ∙ put-append (writes_of table t h) ws [] ∙ ap (put_all ws) c.runs.written
            ∙ put-next (columns_of table h) made piece rest order (keyed (columns_of table h) piece fits);
        may = ap (may_copy name) is.node_is ∙ c.may;
      };
      found = ap (copy_txid table) is.running ∙ c.found;
      may = ap (may_copy name) is.node_is ∙ c.may;
    }

-- it begins
copied-last : (table t : ℕ) (cs : List Copy) → copy_txid table cs ≡ None → copy_txid table (cs ++ record { table = table; txid = t } ∷ []) ≡ Some t
copied-last table t [] none = ap (λ b. option_map Copy.txid (if b then Some (record { table = table; txid = t }) else None)) (same-session table)
copied-last table t (c ∷ cs) none =
    by_test (λ b. option_map Copy.txid (if b then Some c else find (λ (x : Copy). x.table == table) cs) ≡ None
    → option_map Copy.txid (if b then Some c else find (λ (x : Copy). x.table == table) (cs ++ record { table = table; txid = t } ∷ [])) ≡ Some t)
    (c.table == table) (λ _ e. absurd (cc e)) (λ _ e. copied-last table t cs e) none

pub record Begins (h g : History) (name : List ℕ) (table : ℕ) : Type 0 where
  pub at : AtCopy g name table (next_txid h) []
  pub columns : columns_of table g ≡ columns_of table h

pub begins : (h : History) → Legal h → (name : List ℕ) (table : ℕ) → may_copy name (node h) ≡ true → place_of name (table_names h) ≡ Some table → copy_txid table (copies h) ≡ None
    → nat_le (2 ^ 62) (next_txid h) ≡ false → Begins h (marked h (call_marks h (beginning_copy name))) name table
begins h l name table may named none unspent =
    subst (λ ms. Begins h (marked h ms) name table) (sym (beginning-marks h name table may named none unspent)) (record { at = there; columns = is.columns })
  where
    t : ℕ
    t = next_txid h

    first : History
    first = began (of_copy table) t ∷ h

    d : RowPart
    d = after_part (part_of h) (began (of_copy table) t)

    ws : List Write
    ws = deletions (rows_now (part_of h) table)

    g : History
    g = marked first (copy_writes d table t ws)

    is : IsWritten first g table t ws
    is = is-written d table t ws first

    found : copy_txid table (copies first) ≡ Some t
    found = copied-last table t (copies h) none

    there : AtCopy g name table t []
    there = record {
      runs = record {
        named = ap (place_of name) is.names ∙ named;
        runs = ap (is_copied_by table t) is.running ∙ copy_txid-some table t (copies first) found;
        written = ap (λ x. put_all x []) (is.writes ∙ ap (λ x. x ++ ws) (begun h l table t (omega arith))) ∙ put-deletions (rows_now (part_of h) table);
        may = ap (may_copy name) is.node_is ∙ may;
      };
      found = ap (copy_txid table) is.running ∙ found;
      may = ap (may_copy name) is.node_is ∙ may;
    }

-- ---- the two ends of a piece

-- where the rows that are copied come from: the copy by this transaction began right after the snapshot had been taken
pub record Source (past : Past) (d p : ℕ) (name : List ℕ) (table t hold : ℕ) (at_once : Bool) (before : Past) (source tick : ℕ) : Type 0 where
  pub copy_began : CopyBegan past d p table t hold at_once before
  pub named : place_of name (table_names (history_in before p)) ≡ Some source
  pub newest : newest_of (database_of (history_in before p)) ≡ tick

-- no copy of its table runs once one has ended
pub uncopied-ended : (h : History) → Legal h → (name : List ℕ) (table t : ℕ) → place_of name (table_names h) ≡ Some table → is_copied_by table t (copies h) ≡ true → (committed : Bool) (mark : NodeMark)
    → Uncopied (noded mark ∷ ended (of_copy table) t committed ∷ h) name
uncopied-ended h l name table t named runs committed mark n c =
    let one : Some n ≡ Some table = sym c.named ∙ named in
    let same : n ≡ table = cc one in
    absurd (cc (sym c.runs ∙ ap (λ k. is_copied k (without_copy t (copies h))) same ∙ gone h l table t runs))

-- nor does one where the table has left
pub uncopied-removed : (h : History) → Legal h → (name : List ℕ) (table : ℕ) → place_of name (table_names h) ≡ Some table → (o : Option ℕ) → copy_txid table (copies h) ≡ o
    → Uncopied (marked h (given_up table name o ++ noded (leaf_removed name) ∷ tabled (read_only table false) ∷ [])) name
uncopied-removed h l name table named None is n c =
    let one : Some n ≡ Some table = sym c.named ∙ named in
    let same : n ≡ table = cc one in
    absurd (cc (sym c.runs ∙ ap (λ k. is_copied k (copies h)) same ∙ copy_txid-none table (copies h) is))
uncopied-removed h l name table named (Some t) is n c =
    uncopied-ended h l name table t named (copy_txid-some table t (copies h) is) false (restarted name) n (record { named = c.named; runs = c.runs })

-- where none runs, none is given up
pub nothing-given_up : (past : Past) (d : ℕ) (name : List ℕ) → Uncopied (history_in past d) name → called past d (giving_up_copy name) ≡ past
nothing-given_up past d name none = ap (λ ms. on_top past (map (within d) ms)) no-marks
  where
    h : History
    h = history_in past d

    of : (o : Option ℕ) → place_of name (table_names h) ≡ o → marks_of (if_there o (λ n. does_marks Done (given_up n name (copy_txid n (copies h))))) ≡ []
    of None is = refl
    of (Some n) is = ap (given_up n name) (uncopied-txid h name none n is)

    no-marks : call_marks h (giving_up_copy name) ≡ []
    no-marks = by_test (λ b. marks_of (if b then call_form (database_of h) (giving_up_copy name) else answers Null) ≡ []) (may_copy name (node h)) (λ _. of (place_of name (table_names h)) refl) (λ _. refl)

-- else it is
pub given_up-history : (past : Past) (d p : ℕ) (name : List ℕ) (hand : CopyHand) (table t : ℕ) → Legal (history_in past d) → (p == d) ≡ false → may_copy name (node (history_in past d)) ≡ true
    → place_of name (table_names (history_in past d)) ≡ Some table → is_copied_by table t (copies (history_in past d)) ≡ true
    → history_in (called (called past p (letting_go hand.hold)) d (giving_up_copy name)) d ≡ noded (restarted name) ∷ ended (of_copy table) t false ∷ history_in past d
given_up-history past d p name hand table t l other may named runs =
    let h : History = history_in past d in
    history-called (called past p (letting_go hand.hold)) d (giving_up_copy name) ∙ ap (λ g. marked g (call_marks g (giving_up_copy name))) (history-elsewhere past p (letting_go hand.hold) d other)
    ∙ ap (marked h) (giving-up-marks h name table t may named (copy-found h l table t runs))

-- so none runs after that
pub uncopied-given_up : (past : Past) (d p : ℕ) (name : List ℕ) (hand : Option CopyHand) → copy_in_hand past d name ≡ hand → Legal (history_in past d) → (p == d) ≡ false → Keeps each_table past
    → Uncopied (history_in (called (after_calls past p (lets_go_for hand)) d (giving_up_copy name)) d) name
uncopied-given_up past d p name None has l other k =
    let none : Uncopied (history_in past d) name = idle-hand past d name k has in
    subst (λ q. Uncopied (history_in q d) name) (sym (nothing-given_up past d name none)) none
uncopied-given_up past d p name (Some hand) has l other k =
    let c : Copying past d name hand = k.copying d name hand refl has in
    subst (λ g. Uncopied g name) (sym (given_up-history past d p name hand c.table c.t l other c.here.may c.here.named c.here.runs))
    (uncopied-ended (history_in past d) l name c.table c.t c.here.named c.here.runs false (restarted name))

-- the last piece: the copy ends
pub ends : (past : Past) (d p : ℕ) (name : List ℕ) (table t hold : ℕ) (at_once : Bool) (made piece : Entries (List Val)) (before : Past) (source : ℕ) (under : SnapshotView) (tick : ℕ)
    → AtCopy (history_in past d) name table t made → AllFit (columns_of table (history_in past d)) piece → is_in_order (made ++ (piece ++ [])) ≡ true
    → Source past d p name table t hold at_once before source tick → snapshot (history_in before p) ≡ under → rows source (history_in before p) ≡ made ++ piece
    → (AllLegal past → StillFrom past d p) → Kept (other_than d name) past
    → Kept each_table (in_hand d name None ∷ after_calls past d (copying_rows name (rows_of piece) ∷ ending_copy name under tick ∷ []))
ends past d p name table t hold at_once made piece before source under tick c fits order s taken rows_are from kept =
    subst (λ ms. Kept each_table (in_hand d name None ∷ on_top second (map (within d) ms))) (sym (ending-marks (history_in second d) name table t under tick at.may at.runs.named at.found))
    (puts-down d name fourth none last)
  where
    h : History
    h = history_in past d

    marks : List Mark
    marks = call_marks h (copying_rows name (rows_of piece))

    second : Past
    second = called past d (copying_rows name (rows_of piece))

    at : AtCopy (history_in second d) name table t (made ++ piece)
    at = subst (λ g. AtCopy g name table t (made ++ piece)) (sym (history-called past d (copying_rows name (rows_of piece)))) (goes-on h name table t made piece [] c fits order)

    kept-second : Kept (other_than d name) second
    kept-second = own-marks past d name table marks c.runs.named (own-call h name table (copying_rows name (rows_of piece)) c.runs.named refl) kept

    third : Past
    third = within d (ended (of_copy table) t true) ∷ second

    third-d : history_in third d ≡ ended (of_copy table) t true ∷ history_in second d
    third-d = ap (λ b. if b then ended (of_copy table) t true ∷ history_in second d else history_in second d) (same-session d)

    fourth : Past
    fourth = within d (noded (copied name under tick)) ∷ third

    fourth-d : history_in fourth d ≡ noded (copied name under tick) ∷ ended (of_copy table) t true ∷ history_in second d
    fourth-d = ap (λ b. if b then noded (copied name under tick) ∷ history_in third d else history_in third d) (same-session d) ∙ ap (λ g. noded (copied name under tick) ∷ g) third-d

    kept-third : Kept (other_than d name) third
    kept-third = own-step second d name table (ended (of_copy table) t true) at.runs.named (same-session table) kept-second

    found : AllLegal third → source_of third d ≡ Some p
    found after =
        let legal : AllLegal second = legal-before second (within d (ended (of_copy table) t true)) after in
        let still : StillFrom second d p = still-marks past d marks d p legal (from (legal-under past (map (within d) marks) legal)) in
        source-within second d (ended (of_copy table) t true) d p still.all (fine-within second d (ended (of_copy table) t true) after) still.from

    tells : AllLegal third → CopiedFrom third d (history_in third d) name under tick
    tells after = record {
      provider = p;
      from = found after;
      table = table;
      t = t;
      hold = hold;
      at_once = at_once;
      before = before;
      copy_began = began-on (within d (ended (of_copy table) t true)) (began-under (map (within d) marks) s.copy_began);
      taken = taken;
      from_newest = s.newest;
      source = source;
      source_named = s.named;
      below = history_in second d;
      last = third-d;
      same = at.runs.written ∙ sym rows_are;
    }

    last : Kept (other_than d name) fourth
    last = keeps-within (other_than d name) third d (noded (copied name under tick)) (λ after _. tells after)
        (λ _ _ e other hand is has x. record { replica = λ same. ap not (names-differ d name e other is same); provider = λ _. refl }) (λ _ _ _ _. refl) kept-third

    none : AllLegal fourth → Uncopied (history_in fourth d) name
    none after =
        let legal : AllLegal second = legal-before second (within d (ended (of_copy table) t true)) (legal-before third (within d (noded (copied name under tick))) after) in
        subst (λ g. Uncopied g name) (sym fourth-d) (uncopied-ended (history_in second d) (legal d) name table t at.runs.named at.runs.runs true (copied name under tick))

-- another piece: the copy stays in hand
pub goes : (past : Past) (d p : ℕ) (name : List ℕ) (table t : ℕ) (made piece rest : Entries (List Val)) (before : Past) (source : ℕ) (hand : CopyHand)
    → (p == d) ≡ false → AtCopy (history_in past d) name table t made → AllFit (columns_of table (history_in past d)) piece → is_in_order (made ++ (piece ++ rest)) ≡ true
    → Holds (history_in past p) hand.hold (history_in before p) → Source past d p name table t hand.hold false before source hand.tick → rows source (history_in before p) ≡ made ++ (piece ++ rest)
    → hand.last ≡ last_key None (made ++ piece) → (AllLegal past → StillFrom past d p) → KeptFree p d name hand.hold past
    → Kept each_table (in_hand d name (Some (of_copy hand)) ∷ called past d (copying_rows name (rows_of piece)))
goes past d p name table t made piece rest before source hand other c fits order there s rows_are last from kept =
    takes-up p d name hand second (own-marks-free p hand.hold past d name table marks c.runs.named (own-call h name table (copying_rows name (rows_of piece)) c.runs.named refl) kept) copying (λ after. (still after).from)
  where
    h : History
    h = history_in past d

    marks : List Mark
    marks = call_marks h (copying_rows name (rows_of piece))

    second : Past
    second = called past d (copying_rows name (rows_of piece))

    still : AllLegal second → StillFrom second d p
    still after = still-marks past d marks d p after (from (legal-under past (map (within d) marks) after))

    apart : (d == p) ≡ false
    apart = grind (arith, nat_tests, other)

    copying : AllLegal second → Copying second d name hand
    copying after = record {
      p = p;
      from = (still after).from;
      table = table;
      t = t;
      before = before;
      copy_began = began-under (map (within d) marks) s.copy_began;
      there = subst (λ g. Holds g hand.hold (history_in before p)) (sym (history-elsewhere past d (copying_rows name (rows_of piece)) p apart)) there;
      from_newest = s.newest;
      source = source;
      source_named = s.named;
      made = made ++ piece;
      rest = rest;
      here = (subst (λ g. AtCopy g name table t (made ++ piece)) (sym (history-called past d (copying_rows name (rows_of piece)))) (goes-on h name table t made piece rest c fits order)).runs;
      rows_are = rows_are ∙ sym (append_assoc made piece rest);
      last = last;
    }
