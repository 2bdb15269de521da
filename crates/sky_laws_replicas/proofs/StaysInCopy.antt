-- The state of a leaf's table, as marks of the node leave it: a table that is being copied stays so until its copy ends or it leaves; one that has been
-- copied is copied no more until it leaves.
use Rattle.std.proofs.Common.{◌≡◌, List, [], ◌∷◌, ◌++◌, map, filter, find, Bool, true, false, not, ◌||◌, Option, Some, None, option_map, unwrap_or, bytes_eq, refl, sym, ap, ◌∙◌, if◌then◌else◌, ℕ}
use Rattle.std.proofs.lemmas.Bool.{false_from_ne_true}
use Rattle.sky_names.proofs.PlaceLemmas.{bytes_eq_sym, same_name}
use Rattle.londiste_state.specs.declared.state.TableState.{TableState}
use Rattle.londiste_state.specs.declared.state.TableState.TheVariants.{Absent, InCopy, CatchingUp, WannaSync, DoSync, Synced}
use Rattle.londiste_state.specs.Moves.{is_allowed}
use Rattle.londiste_state.specs.Nodes.{Node, of_root, of_leaf, Leaf, LeafTable, table_of, new_table, in_state, with_copy, with_tick}
use Rattle.sky_txid.specs.Snapshot.{SnapshotView}
use Rattle.sky_model.specs.History.{NodeMark, root_made, leaf_made, leaf_added, leaf_removed, state_set, copied, applied, of_synced, copy_of, noded, History}
use Rattle.sky_model.specs.Nodes.{node, after_node}
use Rattle.sky_model.specs.StepNode.{may_move, is_in_copy, may_copy}
use Rattle.sky_model.specs.State.{Database}
use Rattle.sky_model.specs.Hands.{Hand, of_copy, copy_in}
use Rattle.sky_model.specs.WorkerMoves.{handing}
use Rattle.sky_model.specs.CopyMoves.{copy_running, starts_or_continues, moves_in, table_move, table_at, copy_move}
use Rattle.sky_histories.proofs.Legal.{NodeFits}
use Rattle.sky_model.proofs.Cases.{by_test}
use Rattle.sky_laws_replicas.specs.LawsOfReplicas.{takes_out}

-- a table of one name hasn't another
other-name : (name other x : List ℕ) → bytes_eq name other ≡ false → bytes_eq name x ≡ true → bytes_eq other x ≡ false
other-name name other x differ is = ap (bytes_eq other) (sym (same_name name x is)) ∙ bytes_eq_sym other name ∙ differ

-- whether the table of a name is in such a state
abbrev is_in : (TableState → Bool) → List ℕ → List LeafTable → Bool
is_in such name tables = unwrap_or (option_map (λ t. such t.state) (find (λ t. bytes_eq name t.name) tables)) false

module _ (such : TableState → Bool) where
  in-more : (name : List ℕ) (ts more : List LeafTable) → is_in such name ts ≡ true → is_in such name (ts ++ more) ≡ true
  in-more name [] more is = absurd (cc is)
  in-more name (t ∷ ts) more is =
      by_test (λ b. unwrap_or (option_map (λ (x : LeafTable). such x.state) (if b then Some t else find (λ (x : LeafTable). bytes_eq name x.name) ts)) false ≡ true
      → unwrap_or (option_map (λ (x : LeafTable). such x.state) (if b then Some t else find (λ (x : LeafTable). bytes_eq name x.name) (ts ++ more))) false ≡ true)
      (bytes_eq name t.name) (λ _ here. here) (λ _ there. in-more name ts more there) is

  in-less : (name other : List ℕ) (ts : List LeafTable) → bytes_eq name other ≡ false → is_in such name ts ≡ true → is_in such name (filter (λ (t : LeafTable). not (bytes_eq other t.name)) ts) ≡ true
  in-less name other [] differ is = absurd (cc is)
  in-less name other (t ∷ ts) differ is =
      by_test (λ b. bytes_eq name t.name ≡ b → unwrap_or (option_map (λ (x : LeafTable). such x.state) (if b then Some t else find (λ (x : LeafTable). bytes_eq name x.name) ts)) false ≡ true
      → is_in such name (if not (bytes_eq other t.name) then t ∷ filter (λ (x : LeafTable). not (bytes_eq other x.name)) ts else filter (λ (x : LeafTable). not (bytes_eq other x.name)) ts) ≡ true)
      (bytes_eq name t.name)
      (λ _ mine here.
      ap (λ b. is_in such name (if not b then t ∷ filter (λ (x : LeafTable). not (bytes_eq other x.name)) ts else filter (λ (x : LeafTable). not (bytes_eq other x.name)) ts)) (other-name name other t.name differ mine)
      ∙ ap (λ b. unwrap_or (option_map (λ (x : LeafTable). such x.state) (if b then Some t else find (λ (x : LeafTable). bytes_eq name x.name) (filter (λ (x : LeafTable). not (bytes_eq other x.name)) ts))) false) mine
      ∙ here)
      (λ _ apart there.
      by_test (λ b. is_in such name (if not b then t ∷ filter (λ (x : LeafTable). not (bytes_eq other x.name)) ts else filter (λ (x : LeafTable). not (bytes_eq other x.name)) ts) ≡ true) (bytes_eq other t.name)
      (λ _. in-less name other ts differ there)
      (λ _. ap (λ b. unwrap_or (option_map (λ (x : LeafTable). such x.state) (if b then Some t else find (λ (x : LeafTable). bytes_eq name x.name) (filter (λ (x : LeafTable). not (bytes_eq other x.name)) ts))) false) apart
      ∙ in-less name other ts differ there)) refl is

  -- a table that has left is in none
  in-none : (name : List ℕ) (ts : List LeafTable) → is_in such name (filter (λ (t : LeafTable). not (bytes_eq name t.name)) ts) ≡ false
  in-none name [] = refl
  in-none name (t ∷ ts) =
      by_test (λ b. bytes_eq name t.name ≡ b → is_in such name (if not b then t ∷ filter (λ (x : LeafTable). not (bytes_eq name x.name)) ts else filter (λ (x : LeafTable). not (bytes_eq name x.name)) ts) ≡ false)
      (bytes_eq name t.name) (λ _ _. in-none name ts)
      (λ _ apart. ap (λ b. unwrap_or (option_map (λ (x : LeafTable). such x.state) (if b then Some t else find (λ (x : LeafTable). bytes_eq name x.name) (filter (λ (x : LeafTable). not (bytes_eq name x.name)) ts))) false) apart
      ∙ in-none name ts) refl

-- tables that change, but not in their names, and this one only from one state into another
record Changes (from to : TableState → Bool) (name : List ℕ) (g : LeafTable → LeafTable) : Type 0 where
  names : (t : LeafTable) → (g t).name ≡ t.name
  states : (t : LeafTable) → bytes_eq name t.name ≡ true → from t.state ≡ true → to (g t).state ≡ true

in-changed : (from to : TableState → Bool) (name : List ℕ) (g : LeafTable → LeafTable) (ts : List LeafTable) → Changes from to name g → is_in from name ts ≡ true → is_in to name (map g ts) ≡ true
in-changed from to name g [] c is = absurd (cc is)
in-changed from to name g (t ∷ ts) c is =
    ap (λ x. unwrap_or (option_map (λ (y : LeafTable). to y.state) (if bytes_eq name x then Some (g t) else find (λ (y : LeafTable). bytes_eq name y.name) (map g ts))) false) (c.names t)
    ∙ by_test (λ b. bytes_eq name t.name ≡ b → unwrap_or (option_map (λ (x : LeafTable). from x.state) (if b then Some t else find (λ (x : LeafTable). bytes_eq name x.name) ts)) false ≡ true
    → unwrap_or (option_map (λ (y : LeafTable). to y.state) (if b then Some (g t) else find (λ (y : LeafTable). bytes_eq name y.name) (map g ts))) false ≡ true) (bytes_eq name t.name)
    (λ _ mine here. c.states t mine here) (λ _ _ there. in-changed from to name g ts c there) refl is

module _ (such : TableState → Bool) (name other : List ℕ) (g : LeafTable → LeafTable) (names : (t : LeafTable) → (g t).name ≡ t.name) where
  named-changes : (t : LeafTable) → (if bytes_eq other t.name then g t else t).name ≡ t.name
  named-changes t = by_test (λ b. (if b then g t else t).name ≡ t.name) (bytes_eq other t.name) (λ _. names t) (λ _. refl)

  -- one goes into such a state, or another one changes
  into-changes : ((t : LeafTable) → such t.state ≡ true → such (g t).state ≡ true) → Changes such such name (λ t. if bytes_eq other t.name then g t else t)
  into-changes into = record { names = named-changes; states = λ t mine was. by_test (λ b. such (if b then g t else t).state ≡ true) (bytes_eq other t.name) (λ _. into t was) (λ _. was) }

  other-changes : bytes_eq name other ≡ false → Changes such such name (λ t. if bytes_eq other t.name then g t else t)
  other-changes differ = record { names = named-changes; states = λ t mine was. ap (λ b. such (if b then g t else t).state) (other-name name other t.name differ mine) ∙ was }

-- ---- a table that is being copied

-- whether a mark leaves the table of a name being copied
abbrev pub keeps_in_copy : List ℕ → NodeMark → Bool
keeps_in_copy name (leaf_removed other) = not (bytes_eq name other)
keeps_in_copy name (state_set other state) = is_in_copy state || not (bytes_eq name other)
keeps_in_copy name (copied other under tick) = not (bytes_eq name other)
keeps_in_copy name mark = true

differs : (b : Bool) → not b ≡ true → b ≡ false
differs true e = absurd (cc e)
differs false e = refl

may-after : (h : History) (mark : NodeMark) (name : List ℕ) (l : Leaf) → node h ≡ Some (of_leaf l) → NodeFits h mark → keeps_in_copy name mark ≡ true → is_in is_in_copy name l.tables ≡ true
    → may_copy name (after_node mark (Some (of_leaf l))) ≡ true
may-after h (root_made other queue) name l is fits keeps may = absurd (cc (sym is ∙ fits.0))
may-after h (leaf_made other provider tick) name l is fits keeps may = absurd (cc (sym is ∙ fits.0))
may-after h (leaf_added other) name l is fits keeps may = in-more is_in_copy name l.tables (new_table other ∷ []) may
may-after h (leaf_removed other) name l is fits keeps may = in-less is_in_copy name other l.tables (differs (bytes_eq name other) keeps) may
may-after h (state_set other state) name l is fits keeps may =
    in-changed is_in_copy is_in_copy name (λ t. if bytes_eq other t.name then in_state state t else t) l.tables
    (by_test (λ b. (b || not (bytes_eq name other)) ≡ true → is_in_copy state ≡ b → Changes is_in_copy is_in_copy name (λ t. if bytes_eq other t.name then in_state state t else t)) (is_in_copy state)
    (λ _ _ into. into-changes is_in_copy name other (in_state state) (λ t. refl) (λ t _. into))
    (λ _ apart _. other-changes is_in_copy name other (in_state state) (λ t. refl) (differs (bytes_eq name other) apart)) keeps refl) may
may-after h (copied other under tick) name l is fits keeps may =
    in-changed is_in_copy is_in_copy name (λ t. if bytes_eq other t.name then with_copy under tick t else t) l.tables
    (other-changes is_in_copy name other (with_copy under tick) (λ t. refl) (differs (bytes_eq name other) keeps)) may
may-after h (applied of_synced tick) name l is fits keeps may = may
may-after h (applied (copy_of other) tick) name l is fits keeps may =
    in-changed is_in_copy is_in_copy name (λ t. if bytes_eq other t.name then with_tick tick t else t) l.tables (into-changes is_in_copy name other (with_tick tick) (λ t. refl) (λ t was. was)) may
may-after h _ name l is fits keeps may = may

pub may-stays : (h : History) (mark : NodeMark) (name : List ℕ) → NodeFits h mark → keeps_in_copy name mark ≡ true → may_copy name (node h) ≡ true → may_copy name (after_node mark (node h)) ≡ true
may-stays h mark name fits keeps may = of (node h) refl may
  where
    of : (n : Option Node) → node h ≡ n → may_copy name n ≡ true → may_copy name (after_node mark (node h)) ≡ true
    of None is e = absurd (cc e)
    of (Some (of_root r)) is e = absurd (cc e)
    of (Some (of_leaf l)) is e = ap (λ n. may_copy name (after_node mark n)) is ∙ may-after h mark name l is fits keeps e

-- it is in that state
in-copy : (state : TableState) → is_in_copy state ≡ true → state ≡ InCopy
in-copy InCopy e = refl
in-copy Absent e = absurd (cc e)
in-copy CatchingUp e = absurd (cc e)
in-copy (WannaSync tick) e = absurd (cc e)
in-copy (DoSync tick) e = absurd (cc e)
in-copy Synced e = absurd (cc e)

pub in-copy-state : (name : List ℕ) (n : Option Node) → may_copy name n ≡ true → option_map LeafTable.state (table_at name n) ≡ Some InCopy
in-copy-state name None e = absurd (cc e)
in-copy-state name (Some (of_root r)) e = absurd (cc e)
in-copy-state name (Some (of_leaf l)) e = of (table_of name l) e
  where
    of : (o : Option LeafTable) → unwrap_or (option_map (λ t. is_in_copy t.state) o) false ≡ true → option_map LeafTable.state o ≡ Some InCopy
    of None e = absurd (cc e)
    of (Some t) e = ap Some (in-copy t.state e)

-- the table of a name has that name, and is being copied if it is in that state
pub table-named : (name : List ℕ) (n : Option Node) (t : LeafTable) → table_at name n ≡ Some t → t.name ≡ name
table-named name None t is = absurd (cc is)
table-named name (Some (of_root r)) t is = absurd (cc is)
table-named name (Some (of_leaf l)) t is = of l.tables is
  where
    of : (ts : List LeafTable) → find (λ (x : LeafTable). bytes_eq name x.name) ts ≡ Some t → t.name ≡ name
    of [] e = absurd (cc e)
    of (x ∷ ts) e =
        by_test (λ b. bytes_eq name x.name ≡ b → (if b then Some x else find (λ (y : LeafTable). bytes_eq name y.name) ts) ≡ Some t → t.name ≡ name) (bytes_eq name x.name)
        (λ _ same here. let one : x ≡ t = cc here in sym (same_name name x.name same ∙ ap LeafTable.name one)) (λ _ _ there. of ts there) refl e

pub may-as : (name : List ℕ) (n : Option Node) (t : LeafTable) → table_at name n ≡ Some t → may_copy name n ≡ is_in_copy t.state
may-as name None t is = absurd (cc is)
may-as name (Some (of_root r)) t is = absurd (cc is)
may-as name (Some (of_leaf l)) t is = ap (λ o. unwrap_or (option_map (λ (x : LeafTable). is_in_copy x.state) o) false) is

-- so its worker's move is one that copies
pub copies-in : (p r : Database) (name : List ℕ) (hand : Option Hand) → option_map LeafTable.state (table_at name r.node) ≡ Some InCopy
    → copy_move p r name hand ≡ handing of_copy (starts_or_continues p r name (copy_in hand) (copy_running r name))
copies-in p r name hand state = of (table_at name r.node) refl state
  where
    of : (o : Option LeafTable) → table_at name r.node ≡ o → option_map LeafTable.state o ≡ Some InCopy → table_move p r name o hand ≡ handing of_copy (starts_or_continues p r name (copy_in hand) (copy_running r name))
    of None is e = absurd (cc e)
    of (Some t) is e =
        let in_copy : t.state ≡ InCopy = cc e in
        ap (λ s. moves_in s p r t hand) in_copy ∙ ap (λ x. handing of_copy (starts_or_continues p r x (copy_in hand) (copy_running r x))) (table-named name r.node t is)

-- whether a table goes into a state from being copied
abbrev pub ends_copying : TableState → Bool
ends_copying CatchingUp = true
ends_copying state = false

from-in-copy : (state : TableState) → is_allowed InCopy state ≡ true → ends_copying state ≡ true
from-in-copy CatchingUp e = refl
from-in-copy Absent e = absurd (cc e)
from-in-copy InCopy e = absurd (cc e)
from-in-copy (WannaSync tick) e = absurd (cc e)
from-in-copy (DoSync tick) e = absurd (cc e)
from-in-copy Synced e = absurd (cc e)

-- one that goes into another state isn't being copied
pub not-copied : (name : List ℕ) (state : TableState) (n : Option Node) → ends_copying state ≡ false → may_move name state n ≡ true → may_copy name n ≡ false
not-copied name state None ends moves = refl
not-copied name state (Some (of_root r)) ends moves = refl
not-copied name state (Some (of_leaf l)) ends moves = false_from_ne_true (may_copy name (Some (of_leaf l))) (λ may. of (table_of name l) may moves)
  where
    of : (o : Option LeafTable) → unwrap_or (option_map (λ t. is_in_copy t.state) o) false ≡ true → unwrap_or (option_map (λ t. is_allowed t.state state) o) false ≡ true → ⊥
    of None e allowed = cc e
    of (Some t) e allowed = cc (sym ends ∙ from-in-copy state (ap (λ x. is_allowed x state) (sym (in-copy t.state e)) ∙ allowed))

-- so another one stays so
pub other-moved : (name other : List ℕ) (state : TableState) (n : Option Node) → ends_copying state ≡ false → may_move other state n ≡ true → may_copy name n ≡ true → keeps_in_copy name (state_set other state) ≡ true
other-moved name other state n ends moves may =
    by_test (λ b. bytes_eq name other ≡ b → (is_in_copy state || not b) ≡ true) (bytes_eq name other)
    (λ _ same. absurd (cc (sym may ∙ ap (λ x. may_copy x n) (same_name name other same) ∙ not-copied other state n ends moves))) (λ _ _. either (is_in_copy state)) refl
  where
    either : (b : Bool) → (b || true) ≡ true
    either true = refl
    either false = refl

-- ---- a table that has been copied

-- whether a state is one that a table has only once it has been copied
abbrev is_past_copy : TableState → Bool
is_past_copy Absent = false
is_past_copy InCopy = false
is_past_copy state = true

-- whether a table of a leaf is in such a state
abbrev pub has_copy : List ℕ → Option Node → Bool
has_copy name (Some (of_leaf l)) = unwrap_or (option_map (λ t. is_past_copy t.state) (table_of name l)) false
has_copy name n = false

past-allowed : (from to : TableState) → is_past_copy from ≡ true → is_allowed from to ≡ true → is_past_copy to ≡ true
past-allowed from Absent past may = absurd (cc (sym (of from) ∙ may))
  where
    of : (state : TableState) → is_allowed state Absent ≡ false
    of Absent = refl
    of InCopy = refl
    of CatchingUp = refl
    of (WannaSync tick) = refl
    of (DoSync tick) = refl
    of Synced = refl
past-allowed Absent InCopy past may = absurd (cc past)
past-allowed InCopy InCopy past may = absurd (cc may)
past-allowed CatchingUp InCopy past may = absurd (cc may)
past-allowed (WannaSync tick) InCopy past may = absurd (cc may)
past-allowed (DoSync tick) InCopy past may = absurd (cc may)
past-allowed Synced InCopy past may = absurd (cc may)
past-allowed from CatchingUp past may = refl
past-allowed from (WannaSync tick) past may = refl
past-allowed from (DoSync tick) past may = refl
past-allowed from Synced past may = refl

-- a table that has a copy goes only into such a state
allowed-past : (state : TableState) (o : Option LeafTable) → unwrap_or (option_map (λ (t : LeafTable). is_past_copy t.state) o) false ≡ true
    → unwrap_or (option_map (λ (t : LeafTable). is_allowed t.state state) o) false ≡ true → is_past_copy state ≡ true
allowed-past state None past may = absurd (cc past)
allowed-past state (Some t) past may = past-allowed t.state state past may

copy-after : (h : History) (mark : NodeMark) (name : List ℕ) (l : Leaf) → node h ≡ Some (of_leaf l) → NodeFits h mark → takes_out name (noded mark) ≡ false → is_in is_past_copy name l.tables ≡ true
    → has_copy name (after_node mark (Some (of_leaf l))) ≡ true
copy-after h (root_made other queue) name l is fits stays past = absurd (cc (sym is ∙ fits.0))
copy-after h (leaf_made other provider tick) name l is fits stays past = absurd (cc (sym is ∙ fits.0))
copy-after h (leaf_added other) name l is fits stays past = in-more is_past_copy name l.tables (new_table other ∷ []) past
copy-after h (leaf_removed other) name l is fits stays past = in-less is_past_copy name other l.tables stays past
copy-after h (state_set other state) name l is fits stays past = in-changed is_past_copy is_past_copy name (λ t. if bytes_eq other t.name then in_state state t else t) l.tables
    (by_test (λ b. bytes_eq name other ≡ b → Changes is_past_copy is_past_copy name (λ t. if bytes_eq other t.name then in_state state t else t)) (bytes_eq name other)
    (λ _ same.
    let there : unwrap_or (option_map (λ (t : LeafTable). is_past_copy t.state) (table_of other l)) false ≡ true =
    ap (λ x. unwrap_or (option_map (λ (t : LeafTable). is_past_copy t.state) (table_of x l)) false) (sym (same_name name other same)) ∙ past in
    let may : unwrap_or (option_map (λ (t : LeafTable). is_allowed t.state state) (table_of other l)) false ≡ true = ap (may_move other state) (sym is) ∙ fits.may in
    into-changes is_past_copy name other (in_state state) (λ t. refl) (λ t _. allowed-past state (table_of other l) there may))
    (λ _ differ. other-changes is_past_copy name other (in_state state) (λ t. refl) differ) refl) past
copy-after h (copied other under tick) name l is fits stays past =
    in-changed is_past_copy is_past_copy name (λ t. if bytes_eq other t.name then with_copy under tick t else t) l.tables (into-changes is_past_copy name other (with_copy under tick) (λ t. refl) (λ t _. refl)) past
copy-after h (applied of_synced tick) name l is fits stays past = past
copy-after h (applied (copy_of other) tick) name l is fits stays past =
    in-changed is_past_copy is_past_copy name (λ t. if bytes_eq other t.name then with_tick tick t else t) l.tables (into-changes is_past_copy name other (with_tick tick) (λ t. refl) (λ t was. was)) past
copy-after h _ name l is fits stays past = past

pub copy-stays : (h : History) (mark : NodeMark) (name : List ℕ) → NodeFits h mark → takes_out name (noded mark) ≡ false → has_copy name (node h) ≡ true → has_copy name (after_node mark (node h)) ≡ true
copy-stays h mark name fits stays past = of (node h) refl past
  where
    of : (n : Option Node) → node h ≡ n → has_copy name n ≡ true → has_copy name (after_node mark (node h)) ≡ true
    of None is e = absurd (cc e)
    of (Some (of_root r)) is e = absurd (cc e)
    of (Some (of_leaf l)) is e = ap (λ n. has_copy name (after_node mark n)) is ∙ copy-after h mark name l is fits stays e

-- one whose copy ends has one
pub has-copied : (name : List ℕ) (under : SnapshotView) (tick : ℕ) (n : Option Node) → may_copy name n ≡ true → has_copy name (after_node (copied name under tick) n) ≡ true
has-copied name under tick None e = absurd (cc e)
has-copied name under tick (Some (of_root r)) e = absurd (cc e)
has-copied name under tick (Some (of_leaf l)) e =
    in-changed is_in_copy is_past_copy name (λ t. if bytes_eq name t.name then with_copy under tick t else t) l.tables (record {
      names = λ t. by_test (λ b. (if b then with_copy under tick t else t).name ≡ t.name) (bytes_eq name t.name) (λ _. refl) (λ _. refl);
      states = λ t mine _. ap (λ b. is_past_copy (if b then with_copy under tick t else t).state) mine;
    }) e

-- it isn't being copied
not-both : (o : Option LeafTable) → unwrap_or (option_map (λ (t : LeafTable). is_past_copy t.state) o) false ≡ true → unwrap_or (option_map (λ (t : LeafTable). is_in_copy t.state) o) false ≡ false
not-both None past = absurd (cc past)
not-both (Some t) past = of t.state past
  where
    of : (state : TableState) → is_past_copy state ≡ true → is_in_copy state ≡ false
    of Absent e = absurd (cc e)
    of InCopy e = absurd (cc e)
    of state e = refl

pub copied-no-more : (name : List ℕ) (n : Option Node) → has_copy name n ≡ true → may_copy name n ≡ false
copied-no-more name None e = refl
copied-no-more name (Some (of_root r)) e = refl
copied-no-more name (Some (of_leaf l)) e = not-both (table_of name l) e

-- and hasn't just left
pub not-left : (name : List ℕ) (n : Option Node) → has_copy name (after_node (leaf_removed name) n) ≡ false
not-left name None = refl
not-left name (Some (of_root r)) = refl
not-left name (Some (of_leaf l)) = in-none is_past_copy name l.tables
