-- What is left of a copy that was given up: nothing.
use Rattle.std.proofs.Common.{arith, ◌≡◌, ℕ, ◌==◌, cond, List, [], ◌∷◌, ◌++◌, Bool, true, false, not, ◌&&◌, ◌||◌, Option, Some, None, Ok, unwrap_or, refl, sym, ap, subst, ◌∙◌, if◌then◌else◌}
use Rattle.std.specs.Option.{option_and_then}
use Rattle.std.specs.List.{list_any}
use Rattle.std.specs.Ordering.{eq_by_cmp}
use Rattle.std.proofs.lemmas.Bool.Decides.{nat_tests}
use Rattle.std.proofs.lemmas.Bool.{and_parts, false_from_ne_true, eqb-true}
use Rattle.sky_val.specs.declared.val.Val.{Val}
use Rattle.sky_val.specs.Order.{key_cmp}
use Rattle.sky_val.specs.Entries.{Entries, at, is_in_order}
use Rattle.sky_val.proofs.EntryLemmas.{same_entries}
use Rattle.sky_keys.specs.declared.version.Version.{Version}
use Rattle.sky_keys.specs.Versions.{with_version, without, version_of, versions_at, written, unless_empty, forgotten}
use Rattle.sky_keys.proofs.EntryLemmas.{key_ties-is, at-written, is_in_order-written, at-forgotten, is_in_order-forgotten}
use Rattle.sky_keys.proofs.VersionLemmas.{without-none}
use Rattle.londiste_state.specs.Nodes.{of_leaf, Leaf, is_among, tables_of}
use Rattle.sky_model.specs.declared.reply.Reply.TheVariants.{Done}
use Rattle.sky_model.specs.declared.reply.Refusal.TheVariants.{NoNode, NotInSet}
use Rattle.sky_model.specs.History.{Mark, of_copy, began, ended, tabled, wrote, noded, restarted, History, in_hand, Past}
use Rattle.sky_model.specs.Hands.{CopyHand, of_copy}
use Rattle.sky_model.specs.WorkerMoves.{handing}
use Rattle.sky_model.specs.Transactions.{next_txid, has_ended}
use Rattle.sky_model.specs.Copies.{copies, is_copied, is_copied_by, Hold, holds}
use Rattle.sky_model.specs.Rows.{is_read_only, writes as writes_of, has_written}
use Rattle.sky_model.specs.Versions.{versions}
use Rattle.sky_model.specs.Nodes.{node}
use Rattle.sky_model.specs.State.{database_of}
use Rattle.sky_model.specs.Outcome.{◌>>=◌, ◌>>◌, refused_if, found_or}
use Rattle.sky_model.specs.StepNode.{letting_go, giving_up_copy, may_copy}
use Rattle.sky_model.specs.CopyMoves.{copy_running, starts_or_continues, lets_go_for}
use Rattle.sky_model.specs.NodesOfWorld.{Located, WorldOutcome, node_called}
use Rattle.sky_model.specs.WorkersOfWorld.{move_facts, moves, source, leaf_table, restarting, restart_table}
use Rattle.sky_model.specs.Settling.{marked}
use Rattle.sky_model.specs.World.{World, world_of, history_in, hands, on_top}
use Rattle.sky_histories.proofs.Legal.{Fine, writes, copies_row, applies_row, ends_copy, Legal, legal-below_mark, fine_mark}
use Rattle.sky_histories.proofs.Snapshots.{sound, ender-unended, begun-next}
use Rattle.sky_histories.proofs.SnapshotLaws.{legal_place}
use Rattle.sky_histories.proofs.Guarded.{copied_by-push, copied_by-without, copied-by, IsGuarded, copies-guarded, one-copy, gone}
use Rattle.sky_histories.proofs.Holders.{copy-alone}
use Rattle.sky_histories.proofs.RowKeys.{begun, is_in_order-versions}
use Rattle.sky_histories.proofs.RowWrites.{has_written-last_of}
use Rattle.sky_histories.proofs.KeyVersions.{kept, key_holds}
use Rattle.sky_histories.proofs.NodeDeeds.{called-there}
use Rattle.sky_histories.proofs.Histories.{AllLegal}
use Rattle.sky_histories.proofs.Good.{same-session}
use Rattle.sky_model.proofs.Cases.{by_test, by_same}
use Rattle.sky_laws_replicas.specs.LawsOfReplicas.{IsUndone, GivenUpCopiesLeaveNothing, copy_in_hand, InHand, IsGivenUp, IsRestarted}
use Rattle.sky_laws_replicas.proofs.HandsAt.{at-itself, hands-are}
use Rattle.sky_laws_replicas.proofs.StaysInCopy.{copies-in}
use Rattle.sky_laws_replicas.proofs.RunningCopies.{uncopied-idle}
use Rattle.sky_laws_replicas.proofs.Keeping.{Copying, Keeps}
use Rattle.sky_laws_replicas.proofs.Others.{each_table, idle-hand}
use Rattle.sky_laws_replicas.proofs.CallPasts.{call_marks, called, after_calls, on-move, history-called, history-elsewhere}
use Rattle.sky_laws_replicas.proofs.Sources.{IsSource, source-is}
use Rattle.sky_laws_replicas.proofs.CopySteps.{nothing-given_up, given_up-history, uncopied-given_up}
use Rattle.sky_laws_replicas.proofs.HoldsInHand.{let-go}
use Rattle.sky_laws_replicas.proofs.CopiesInHand.{found-source, in-hand}
use Rattle.sky_laws_replicas.proofs.LaterRows.{still-copied, ran-before, unseen}

-- ---- versions of a key

without-with : (t : ℕ) (row : Option (List Val)) (vs : List Version) → without t (with_version t row vs) ≡ without t vs
without-with t row [] = ap (λ b. if b then [] else record { txid = t; row = row } ∷ []) (same-session t)
without-with t row (v ∷ vs) = grind (arith, nat_tests, without-with t row vs)

-- some list, if it has items
has-items : (t : ℕ) (row : Option (List Val)) (vs : List Version) → unless_empty (with_version t row vs) ≡ Some (with_version t row vs)
has-items t row [] = refl
has-items t row (v ∷ vs) = by_test (λ b. unless_empty (if b then record { txid = t; row = row } ∷ vs else v ∷ with_version t row vs) ≡ Some (if b then record { txid = t; row = row } ∷ vs else v ∷ with_version t row vs))
    (t == v.txid) (λ _. refl) (λ _. refl)

unless-twice : (vs : List Version) → option_and_then unless_empty (unless_empty vs) ≡ unless_empty vs
unless-twice [] = refl
unless-twice (v ∷ vs) = refl

abbrev left_of : ℕ → List Version → Option (List Version)
left_of t vs = unless_empty (without t vs)

-- a key with versions has some
full : (h : History) (table : ℕ) (key : List Val) → option_and_then unless_empty (at key (versions table h)) ≡ at key (versions table h)
full [] table key = refl
full (tabled (wrote whose t n k old new) ∷ h) table key =
    by_test (λ b. option_and_then unless_empty (at key (if b then written t k new (versions table h) else versions table h)) ≡ at key (if b then written t k new (versions table h) else versions table h)) (n == table)
    (λ _. ap (option_and_then unless_empty) (at-written key t k new (versions table h)) ∙ of (eq_by_cmp key_cmp key k) (full h table key) ∙ sym (at-written key t k new (versions table h))) (λ _. full h table key)
  where
    of : (b : Bool) → option_and_then unless_empty (at key (versions table h)) ≡ at key (versions table h)
        → option_and_then unless_empty (cond b (Some (with_version t new (versions_at k (versions table h)))) (at key (versions table h))) ≡ cond b (Some (with_version t new (versions_at k (versions table h)))) (at key (versions table h))
    of true ih = has-items t new (versions_at k (versions table h))
    of false ih = ih
full (ended whose t false ∷ h) table key =
    ap (option_and_then unless_empty) (at-forgotten t key (versions table h) (is_in_order-versions table h)) ∙ of (at key (versions table h)) ∙ sym (at-forgotten t key (versions table h) (is_in_order-versions table h))
  where
    of : (o : Option (List Version)) → option_and_then unless_empty (option_and_then (left_of t) o) ≡ option_and_then (left_of t) o
    of None = refl
    of (Some vs) = unless-twice (without t vs)
full (_ ∷ h) table key = full h table key

-- a transaction that has no version there leaves all as it was
forgotten-none : (h : History) (table u : ℕ) → ((key : List Val) → version_of u (kept h table key) ≡ None) → forgotten u (versions table h) ≡ versions table h
forgotten-none h table u none =
    same_entries (forgotten u (versions table h)) (versions table h) (is_in_order-forgotten u (versions table h) (is_in_order-versions table h)) (is_in_order-versions table h)
    (λ key. at-forgotten u key (versions table h) (is_in_order-versions table h) ∙ of (at key (versions table h)) (none key) (full h table key))
  where
    of : (o : Option (List Version)) → version_of u (unwrap_or o []) ≡ None → option_and_then unless_empty o ≡ o → option_and_then (left_of u) o ≡ o
    of None none is = refl
    of (Some vs) none is = ap unless_empty (without-none u vs none) ∙ is

-- its own write is forgotten too
forgotten-own : (h : History) (table t : ℕ) (key : List Val) (row : Option (List Val)) → forgotten t (written t key row (versions table h)) ≡ forgotten t (versions table h)
forgotten-own h table t key row =
    same_entries (forgotten t (written t key row vs)) (forgotten t vs) (is_in_order-forgotten t (written t key row vs) (is_in_order-written t key row vs order)) (is_in_order-forgotten t vs order)
    (λ k. at-forgotten t k (written t key row vs) (is_in_order-written t key row vs order) ∙ ap (option_and_then (left_of t)) (at-written k t key row vs)
    ∙ by_test (λ b. eq_by_cmp key_cmp k key ≡ b → option_and_then (left_of t) (cond b (Some (with_version t row (versions_at key vs))) (at k vs)) ≡ option_and_then (left_of t) (at k vs)) (eq_by_cmp key_cmp k key)
    (λ _ ties. ap unless_empty (without-with t row (versions_at key vs)) ∙ of (at key vs) ∙ ap (λ x. option_and_then (left_of t) (at x vs)) (sym (key_ties-is k key ties))) (λ _ _. refl) refl
    ∙ sym (at-forgotten t k vs order))
  where
    vs : Entries (List Version)
    vs = versions table h

    order : is_in_order vs ≡ true
    order = is_in_order-versions table h

    of : (o : Option (List Version)) → left_of t (unwrap_or o []) ≡ option_and_then (left_of t) o
    of None = refl
    of (Some ws) = refl

-- a transaction that hasn't begun has no version
fresh-at : (h : History) → Legal h → (table : ℕ) (key : List Val) → version_of (next_txid h) (kept h table key) ≡ None
fresh-at h l table key =
    let unended : has_ended h (next_txid h) ≡ false = false_from_ne_true (has_ended h (next_txid h)) (λ is. let below = (sound h l).ended_below (next_txid h) is in absurd (omega arith)) in
    let none = begun h l table (next_txid h) (omega arith) in
    grind (arith, (key_holds h l table key).own (next_txid h) unended, none)

-- nor has one that runs beside the copy
beside-at : (h : History) → Legal h → (table t : ℕ) → is_copied_by table t (copies h) ≡ true → (u : ℕ) → has_ended h u ≡ false → (t == u) ≡ false → (key : List Val) → version_of u (kept h table key) ≡ None
beside-at h l table t is u unended other key =
    let quiet = false_from_ne_true (has_written key (writes_of table u h)) (copy-alone h l t table key is u unended other) in
    grind (arith, has_written-last_of key (writes_of table u h), (key_holds h l table key).own u unended, quiet)

-- ---- the versions while a copy runs, without its own

-- only the copy writes its table
own-write : (h : History) → Legal h → (table t : ℕ) → is_copied_by table t (copies h) ≡ true → {whose : _} {u n : ℕ} {key : List Val} {old new : Option (List Val)} → Fine h (tabled (wrote whose u n key old new)) → n ≡ table → t ≡ u
own-write h l table t is (writes who u n key old new mine free stands) same =
    let g : IsGuarded h table = copies-guarded h l table (copied-by table t (copies h) is) in
    absurd (cc (sym (stands.writable g.leaf) ∙ ap (λ k. is_read_only k h) same ∙ g.guarded))
own-write h l table t is (copies_row n u key old new may) same = one-copy h l table t u is (ap (λ k. is_copied_by k u (copies h)) (sym same) ∙ may.runs)
own-write h l table t is (applies_row n u key old new may) same = absurd (cc (sym may.uncopied ∙ ap (λ k. is_copied k (copies h)) same ∙ copied-by table t (copies h) is))

forgets : (table t : ℕ) (q : History) (later : List Mark) → Legal (later ++ began (of_copy table) t ∷ q) → is_copied_by table t (copies (later ++ began (of_copy table) t ∷ q)) ≡ true
    → forgotten t (versions table (later ++ began (of_copy table) t ∷ q)) ≡ versions table q
forgets table t q [] l is =
    let t-is : t ≡ next_txid q = begun-next q (of_copy table) t (fine_mark l) in
    forgotten-none q table t (λ key. ap (λ u. version_of u (kept q table key)) t-is ∙ fresh-at q (legal-below_mark l) table key)
forgets table t q (tabled (wrote whose u n key old new) ∷ later) l is =
    let h : History = later ++ began (of_copy table) t ∷ q in
    by_same (λ b. forgotten t (if b then written u key new (versions table h) else versions table h) ≡ versions table q) n table
    (λ same. let mine : t ≡ u = own-write h (legal-below_mark l) table t is (fine_mark l) same in
    ap (λ v. forgotten t (written v key new (versions table h))) (sym mine) ∙ forgotten-own h table t key new ∙ forgets table t q later (legal-below_mark l) is)
    (λ _. forgets table t q later (legal-below_mark l) is)
forgets table t q (ended whose u false ∷ later) l is =
    let h : History = later ++ began (of_copy table) t ∷ q in
    let still = still-copied h (legal-below_mark l) whose u false (fine_mark l) table t is in
    ap (forgotten t) (forgotten-none h table u (beside-at h (legal-below_mark l) table t still.0 u (ender-unended h (legal-below_mark l) whose u false (fine_mark l)) still.1))
    ∙ forgets table t q later (legal-below_mark l) still.0
forgets table t q (mark ∷ later) l is = forgets table t q later (legal-below_mark l) (ran-before table t q later mark l is)

-- ---- a copy that is given up

undone : (table t : ℕ) (q : History) (later : List Mark) → Legal (later ++ began (of_copy table) t ∷ q) → is_copied_by table t (copies (later ++ began (of_copy table) t ∷ q)) ≡ true
    → IsUndone (ended (of_copy table) t false ∷ later ++ began (of_copy table) t ∷ q) q table
undone table t q later l is = record {
  rows_are = unseen table t q later l is;
  versions_are = forgets table t q later l is;
  none = gone (later ++ began (of_copy table) t ∷ q) l table t is;
}

ends-running : {h : History} {table t : ℕ} → Fine h (ended (of_copy table) t false) → is_copied_by table t (copies h) ≡ true
ends-running (ends_copy table t c may) = may.runs

pub given_up_copies_leave_nothing : GivenUpCopiesLeaveNothing
given_up_copies_leave_nothing later q table t is =
    let l : Legal (ended (of_copy table) t false ∷ later ++ began (of_copy table) t ∷ q) = legal_place (ended (of_copy table) t false ∷ later ++ began (of_copy table) t ∷ q) is in
    undone table t q later (legal-below_mark l) (ends-running (fine_mark l))

-- ---- the beginning of a copy that runs

record HasBegun (h : History) (table t : ℕ) : Type 0 where
  later : List Mark
  q : History
  is : h ≡ later ++ began (of_copy table) t ∷ q

above-it : (mark : Mark) (h : History) (table t : ℕ) → HasBegun h table t → HasBegun (mark ∷ h) table t
above-it mark h table t b = record { later = mark ∷ b.later; q = b.q; is = ap (λ g. mark ∷ g) b.is }

has-begun : (h : History) (table t : ℕ) → is_copied_by table t (copies h) ≡ true → HasBegun h table t
has-begun [] table t is = absurd (cc is)
has-begun (began (of_copy n) u ∷ h) table t is =
    by_test (λ b. (n == table && u == t) ≡ b → (is_copied_by table t (copies h) || b) ≡ true → HasBegun (began (of_copy n) u ∷ h) table t) (n == table && u == t)
    (λ _ own _. let both = and_parts (n == table) (u == t) own in
    let one : n ≡ table = eqb-true n table both.0 in
    let two : u ≡ t = eqb-true u t both.1 in
    record { later = []; q = h; is = λ i. began (of_copy (one i)) (two i) ∷ h })
    (λ _ _ old. above-it (began (of_copy n) u) h table t (has-begun h table t (grind (arith, old)))) refl (sym (copied_by-push table t (copies h) (record { table = n; txid = u })) ∙ is)
has-begun (ended (of_copy n) u c ∷ h) table t is =
    above-it (ended (of_copy n) u c) h table t (has-begun h table t (and_parts (is_copied_by table t (copies h)) (not (t == u)) (sym (copied_by-without table u t (copies h)) ∙ is)).0)
has-begun (mark ∷ h) table t is = above-it mark h table t (has-begun h table t is)

-- ---- restarts

-- a copy in hand was given up
is-given-up : (past : Past) (d p : ℕ) (name : List ℕ) (hand : CopyHand) → Legal (history_in past d) → IsSource past d p → may_copy name (node (history_in past d)) ≡ true → InHand past d name hand
    → IsGivenUp past (in_hand d name None ∷ called (called past p (letting_go hand.hold)) d (giving_up_copy name)) d name hand
is-given-up past d p name hand l s may c = record {
  was = c;
  let_go = ap (λ g. list_any (λ (x : Hold). x.number == hand.hold) (holds g)) there ∙ let-go (history_in past p) hand.hold;
  later = b.later;
  before = b.q;
  ran = b.is;
  undone = subst (λ g. IsUndone g b.q c.table) (sym now-is) after;
}
  where
    h : History
    h = history_in past d

    first : Past
    first = called past p (letting_go hand.hold)

    now : Past
    now = in_hand d name None ∷ called first d (giving_up_copy name)

    now-is : history_in now d ≡ noded (restarted name) ∷ ended (of_copy c.table) c.t false ∷ h
    now-is = given_up-history past d p name hand c.table c.t l s.other may c.named c.runs

    provider-is : c.provider.database ≡ p
    provider-is = let one : Some c.provider.database ≡ Some p = sym (found-source past d c.leaf c.provider c.is_leaf c.found) ∙ s.from in cc one

    -- what is in the provider's database
    there : history_in now c.provider.database ≡ marked (history_in past p) (call_marks (history_in past p) (letting_go hand.hold))
    there =
        ap (history_in now) provider-is ∙ history-elsewhere first d (giving_up_copy name) p (grind (arith, nat_tests, s.other)) ∙ history-called past p (letting_go hand.hold)

    b : HasBegun h c.table c.t
    b = has-begun h c.table c.t c.runs

    after : IsUndone (noded (restarted name) ∷ ended (of_copy c.table) c.t false ∷ h) b.q c.table
    after =
        let u : IsUndone (ended (of_copy c.table) c.t false ∷ h) b.q c.table = subst (λ g. IsUndone (ended (of_copy c.table) c.t false ∷ g) b.q c.table) (sym b.is)
        (undone c.table c.t b.q b.later (subst Legal b.is l) (ap (λ g. is_copied_by c.table c.t (copies g)) (sym b.is) ∙ c.runs)) in
        record { rows_are = u.rows_are; versions_are = u.versions_are; none = u.none }

-- a restart is done, if the table is one of its provider's set
pub is-restarted : (past : Past) (name table : List ℕ) (n : Located) (leaf : Leaf) (p : ℕ) → AllLegal past → Keeps each_table past → node_called (world_of past) name ≡ Some n → n.node ≡ of_leaf leaf
    → is_among table (tables_of n.node) ≡ true → source (world_of past) leaf table ≡ Ok p → IsRestarted past n.database name table
is-restarted past name table n leaf p legal k found leaf_is among from = record {
  outcome = outcome;
  done = done;
  put_down = ap (λ q. hands q d table) now-is ∙ hands-are after d table None d table ∙ ap (λ b. if b then None else hands after d table) (at-itself d table);
  given_up = λ x has.
      subst (λ q. IsGivenUp past q d table x) (sym (now-is ∙ ap (λ o. in_hand d table None ∷ called (after_calls past p (lets_go_for o)) d (giving_up_copy table)) has))
      (let c : Copying past d table x = k.copying d table x refl has in is-given-up past d p table x (legal d) s c.here.may (in-hand past d table x has c));
  unchanged = still;
  same_node = node-is hand refl;
  anew = λ q state.
      copies-in (database_of (history_in now q)) (database_of (history_in now d)) table None state
      ∙ ap (λ o. handing of_copy (starts_or_continues (database_of (history_in now q)) (database_of (history_in now d)) table None o)) idle;
}
  where
    w : World
    w = world_of past

    d : ℕ
    d = n.database

    hand : Option CopyHand
    hand = copy_in_hand past d table

    outcome : WorldOutcome
    outcome = record { replies = Done ∷ []; facts = move_facts w p d (in_hand d table) (restarting table (hands past d table)) }

    now : Past
    now = on_top past outcome.facts

    after : Past
    after = called (after_calls past p (lets_go_for hand)) d (giving_up_copy table)

    now-is : now ≡ in_hand d table None ∷ after
    now-is = on-move past p d (in_hand d table) (restarting table (hands past d table))

    s : IsSource past d p
    s = source-is past d p leaf table (called-there w name n found ∙ ap Some leaf_is) from

    idle : copy_running (database_of (history_in now d)) table ≡ None
    idle = ap (λ q. copy_running (database_of (history_in q d)) table) now-is ∙ uncopied-idle (history_in after d) table (uncopied-given_up past d p table hand refl (legal d) s.other k)

    still : copy_in_hand past d table ≡ None → (e : ℕ) → history_in now e ≡ history_in past e
    still nothing e =
        ap (λ q. history_in q e) now-is ∙ ap (λ o. history_in (called (after_calls past p (lets_go_for o)) d (giving_up_copy table)) e) nothing
        ∙ ap (λ q. history_in q e) (nothing-given_up past d table (idle-hand past d table k nothing))

    node-is : (o : Option CopyHand) → copy_in_hand past d table ≡ o → node (history_in now d) ≡ node (history_in past d)
    node-is None is = ap node (still is d)
    node-is (Some x) is =
        let c : Copying past d table x = k.copying d table x refl is in
        ap (λ q. node (history_in q d)) now-is ∙ ap (λ o. node (history_in (called (after_calls past p (lets_go_for o)) d (giving_up_copy table)) d)) is
        ∙ ap node (given_up-history past d p table x c.table c.t (legal d) s.other c.here.may c.here.named c.here.runs)

    done : restart_table w name table ≡ Ok outcome
    done =
        ap (λ o. found_or o (NoNode name) >>= (λ m. leaf_table name table m.node >>= (λ l. source w l table >>= (λ q. moves w q m.database (in_hand m.database table) (Ok (restarting table (w.hands m.database table))))))) found
        ∙ ap (λ m. leaf_table name table m >>= (λ l. source w l table >>= (λ q. moves w q d (in_hand d table) (Ok (restarting table (w.hands d table)))))) leaf_is
        ∙ ap (λ b. (refused_if (not b) (NotInSet table) >> Ok leaf) >>= (λ l. source w l table >>= (λ q. moves w q d (in_hand d table) (Ok (restarting table (w.hands d table)))))) (ap (λ m. is_among table (tables_of m)) (sym leaf_is) ∙ among)
        ∙ ap (λ c. c >>= (λ q. moves w q d (in_hand d table) (Ok (restarting table (w.hands d table))))) from
