-- A statement on rows with a gate: from what the part keeps to the history.
use Rattle.std.proofs.Common.{◌≡◌, ℕ, List, [], ◌∷◌, refl, sym, ap, subst}
use Rattle.sky_model.specs.declared.stmt.RowStmt.{RowStmt}
use Rattle.sky_model.specs.History.{Mark, History}
use Rattle.sky_model.specs.State.{part_of}
use Rattle.sky_model.specs.Reader.{PartReader, part_by_history, part_by_itself}
use Rattle.sky_model.specs.Gates.{Gate, passed, gated, by_gate}
use Rattle.sky_model.specs.Settling.{Turn, with_settling}
use Rattle.sky_model.specs.Calls.{row_turn}
use Rattle.sky_histories.proofs.Legal.{Fine, looks, Chain, more, Legal}
use Rattle.sky_histories.proofs.Turns.{Each, ReadAlike, same-with_settling, alike-turn}
use Rattle.sky_histories.proofs.Lawful.{ReadsPast, history-reads, by_gate-reads, good_with_settling-by, good_row_turn-by}
use Rattle.sky_histories.proofs.RowStanding.{Keeps, as-kept}

-- places that read alike do so with a gate that is the same
pub gated-alike : {G P Q : Type 0} (gate : Gate G) (r : PartReader P) (s : PartReader Q) (may : P → Mark → Type 0) (related : P → Q → Type 0) → ReadAlike r s may related
    → ReadAlike (by_gate gate r) (by_gate gate s) (λ p mark. may p.0 mark) (λ p q. related p.0 q.0 × (p.1 ≡ q.1))
gated-alike gate r s may related alike = record {
  parts = λ p q is. alike.parts p.0 q.0 is.0;
  rows = λ p q is. alike.rows p.0 q.0 is.0;
  tells = λ p q is. λ i c. gated gate (is.1 i) (alike.tells p.0 q.0 is.0 i c);
  behind = λ p q mark is may_come. (alike.behind p.0 q.0 mark is.0 may_come, ap (λ g. passed gate g mark) is.1);
}

-- marks that may come one after another in the past may do so at a place that reads as it
pub each-past : {P : Type 0} (r : PartReader P) (past : P → History) → ReadsPast r past → (p : P) (marks : List Mark) → Chain (past p) marks → Each r (λ q mark. Fine (past q) mark) p marks
each-past r past reads p [] chain = tt
each-past r past reads p (mark ∷ marks) (more fine chain) =
    (fine, each-past r past reads (r.behind p mark) marks (subst (λ h. Chain h marks) (sym (reads.behind p mark)) chain))

gated-reads : {G : Type 0} (gate : Gate G) → ReadsPast (by_gate gate part_by_history) (λ p. p.0)
gated-reads gate = by_gate-reads gate part_by_history (λ h. h) history-reads

-- what a statement on rows does with a gate may come, and what it unblocks
pub good_gated_turn : {G : Type 0} (gate : Gate G) (h : History) → Legal h → (g : G) (who : ℕ) (stmt : RowStmt) → Chain h (row_turn (by_gate gate part_by_history) (h, g) who stmt).marks
good_gated_turn gate h l g who stmt = good_row_turn-by (by_gate gate part_by_history) (λ p. p.0) (gated-reads gate) (h, g) l who stmt

-- so may what another turn unblocks
pub good_gated_settling : {G : Type 0} (gate : Gate G) (h : History) → Legal h → (g : G) (turn : Turn) → Chain h turn.marks
    → Chain h (with_settling (by_gate gate part_by_history) (h, g) turn).marks
good_gated_settling gate h l g turn chain = good_with_settling-by (by_gate gate part_by_history) (λ p. p.0) (gated-reads gate) (h, g) l turn chain

-- with a gate a statement on rows does by the history what it does by what the part keeps
pub same-gated_turn : {G : Type 0} (gate : Gate G) (h : History) → Legal h → (g : G) (who : ℕ) (stmt : RowStmt)
    → row_turn (by_gate gate part_by_history) (h, g) who stmt ≡ row_turn (by_gate gate part_by_itself) (part_of h, g) who stmt
same-gated_turn gate h l g who stmt =
    alike-turn (by_gate gate part_by_history) (by_gate gate part_by_itself) (λ p mark. Fine p.0 mark) (λ p q. Keeps p.0 q.0 × (p.1 ≡ q.1))
    (gated-alike gate part_by_history part_by_itself Fine Keeps as-kept) (h, g) (part_of h, g) who stmt (record { legal = l; shows = refl }, refl) (looks who)
    (each-past (by_gate gate part_by_history) (λ p. p.0) (gated-reads gate) (h, g) _ (good_gated_turn gate h l g who stmt))

-- and so does a turn with what it unblocks
pub same-gated_settling : {G : Type 0} (gate : Gate G) (h : History) → Legal h → (g : G) (turn : Turn) → Chain h turn.marks
    → with_settling (by_gate gate part_by_history) (h, g) turn ≡ with_settling (by_gate gate part_by_itself) (part_of h, g) turn
same-gated_settling gate h l g turn chain =
    same-with_settling (by_gate gate part_by_history) (by_gate gate part_by_itself) (λ p mark. Fine p.0 mark) (λ p q. Keeps p.0 q.0 × (p.1 ≡ q.1))
    (gated-alike gate part_by_history part_by_itself Fine Keeps as-kept) (h, g) (part_of h, g) turn turn (record { legal = l; shows = refl }, refl) refl
    (each-past (by_gate gate part_by_history) (λ p. p.0) (gated-reads gate) (h, g) _ (good_gated_settling gate h l g turn chain))
