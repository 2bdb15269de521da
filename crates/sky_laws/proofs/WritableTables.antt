-- No session writes a read-only table, and none that has written one still runs.
use Rattle.std.proofs.Common.{◌≡◌, ℕ, true, false, List, [], ◌∷◌, ◌++◌, Option, refl, sym, ◌∙◌, ap, subst}
use Rattle.std.proofs.lemmas.Bool.{false_from_ne_true}
use Rattle.sky_val.specs.declared.val.Val.{Val}
use Rattle.sky_model.specs.History.{Mark, NodeMark, of_session, tabled, wrote, read_only, root_made, leaf_made, History}
use Rattle.sky_model.specs.Rows.{wrote_in, is_read_only}
use Rattle.sky_model.specs.Nodes.{after_node, node, is_leaf}
use Rattle.sky_model.specs.HistoryPlaces.{IsPlace}
use Rattle.sky_model.specs.LawsOfNodes.{SessionsWriteNoReadOnlyTable, ReadOnlyTablesAreUnwritten}
use Rattle.sky_histories.proofs.Legal.{AllWritable, NodeFits, Fine, writes, nodes, Legal, start, next, legal-below_mark, fine_mark}
use Rattle.sky_histories.proofs.NodeReadings.{same-node}
use Rattle.sky_histories.proofs.NodesStanding.{OnLeaves}
use Rattle.sky_histories.proofs.Histories.{stands_calls}
use Rattle.sky_histories.proofs.SnapshotLaws.{legal_place}
use Rattle.sky_model.proofs.Cases.{by_test}
use Rattle.sky_histories.proofs.Guarded.{unguarded}

-- ---- where there is no leaf

on_leaves-below : (later : List Mark) (p : History) → OnLeaves (later ++ p) → OnLeaves p
on_leaves-below [] p on = on
on_leaves-below (tabled (read_only table b) ∷ later) p on = on_leaves-below later p on.1
on_leaves-below (_ ∷ later) p on = on_leaves-below later p on

on_leaves_place : (p : History) → IsPlace p → OnLeaves p
on_leaves_place p is = on_leaves-below is.later p (subst OnLeaves is.below (stands_calls is.calls).on_leaves)

no-leaf-before : (h : History) (mark : NodeMark) → NodeFits h mark → is_leaf (after_node mark (node h)) ≡ false → is_leaf (node h) ≡ false
no-leaf-before h (root_made name queue) fits none = ap is_leaf fits.0
no-leaf-before h (leaf_made name provider tick) fits none = absurd (cc)
no-leaf-before h mark fits none = sym (same-node mark refl (node h)).leaf ∙ none

-- no table is read-only
writable-elsewhere : (h : History) → Legal h → OnLeaves h → is_leaf (node h) ≡ false → AllWritable h
writable-elsewhere [] start on none = λ table. refl
writable-elsewhere _ (next {h = h} l (nodes mark fits)) on none = λ table. writable-elsewhere h l on (no-leaf-before h mark fits none) table
writable-elsewhere (tabled (read_only n b) ∷ h) (next l fine) on none = absurd (cc (sym none ∙ on.0))
writable-elsewhere (_ ∷ h) (next l fine) on none = λ table. writable-elsewhere h l on none table

-- ---- what sessions write

write-fits : (p : History) {who t table : ℕ} {key : List Val} {old new : Option (List Val)} → Fine p (tabled (wrote (of_session who) t table key old new)) → is_leaf (node p) ≡ true → is_read_only table p ≡ false
write-fits p (writes who t table key old new mine free stands) = stands.writable

pub sessions_write_no_read_only_table : SessionsWriteNoReadOnlyTable
sessions_write_no_read_only_table p who t table key old new is =
    let l : Legal (tabled (wrote (of_session who) t table key old new) ∷ p) = legal_place (tabled (wrote (of_session who) t table key old new) ∷ p) is in
    by_test (λ b. is_leaf (node p) ≡ b → is_read_only table p ≡ false) (is_leaf (node p)) (λ _ leaf. write-fits p (fine_mark l) leaf)
    (λ _ none. writable-elsewhere p (legal-below_mark l) (on_leaves_place (tabled (wrote (of_session who) t table key old new) ∷ p) is) none table) refl

-- ---- what their running transactions have written

pub read_only_tables_are_unwritten : ReadOnlyTablesAreUnwritten
read_only_tables_are_unwritten p is who t table owns guarded = false_from_ne_true (wrote_in table t p) (λ wrote_it.
    by_test (λ b. is_leaf (node p) ≡ b → ⊥) (is_leaf (node p)) (λ _ leaf. absurd (cc (sym guarded ∙ unguarded p (legal_place p is) who t table owns wrote_it leaf)))
    (λ _ none. absurd (cc (sym guarded ∙ writable-elsewhere p (legal_place p is) (on_leaves_place p is) none table))) refl)
