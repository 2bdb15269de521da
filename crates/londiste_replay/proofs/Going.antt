-- What the worker of a leaf does with nothing in hand, by which tables it finds.
use Rattle.std.proofs.Common.{◌≡◌, ℕ, List, Option, Some, None, refl, sym, ◌∙◌, ap}
use Rattle.std.specs.Prelude.{option_copied}
use Rattle.std.specs.Borrow.{Bor}
use Rattle.londiste_state.specs.declared.state.TableState.TheVariants.{InCopy, DoSync}
use Rattle.londiste_state.specs.Nodes.{Leaf, Node, of_leaf}
use Rattle.sky_model.specs.declared.reply.Reply.TheVariants.{AwaitsTable}
use Rattle.sky_model.specs.State.{Database}
use Rattle.sky_model.specs.WorkerMoves.{only_prints, moves_to}
use Rattle.sky_model.specs.BatchMoves.{takes_next}
use Rattle.sky_model.specs.ReplayMoves.{replayer, is_handed_over, is_met, first_in, next_to_copy, for_table, empty_handed_move}

-- no table was found
pub none-found : (o : Option (Bor (List ℕ))) (table : Option (List ℕ)) → option_copied o ≡ table → ((x : Bor (List ℕ)) → o ≡ Some x → ⊥) → table ≡ None
none-found None table is none = sym is
none-found (Some x) table is none = absurd (none x refl)

-- one leaf is in a database
pub one-leaf : (l k : Leaf) (n : Option Node) → n ≡ Some (of_leaf l) → n ≡ Some (of_leaf k) → l ≡ k
one-leaf l k n is also = let same : Some (of_leaf l) ≡ Some (of_leaf k) = sym is ∙ also in cc

module _ (p : Database) (l : Leaf) (free : first_in is_handed_over l ≡ None) where
  pub goes-met : (table : List ℕ) → first_in (is_met l.tick) l ≡ Some table → empty_handed_move p l ≡ moves_to (DoSync l.tick) table
  goes-met table met = λ i.
      for_table (free i) (λ name. only_prints (AwaitsTable name) None)
      (for_table (met i) (moves_to (DoSync l.tick))
      (for_table (next_to_copy l) (moves_to InCopy)
      (takes_next p (replayer l))))

  module _ (unmet : first_in (is_met l.tick) l ≡ None) where
    pub goes-copy : (table : List ℕ) → next_to_copy l ≡ Some table → empty_handed_move p l ≡ moves_to InCopy table
    goes-copy table next = λ i.
        for_table (free i) (λ name. only_prints (AwaitsTable name) None)
        (for_table (unmet i) (moves_to (DoSync l.tick))
        (for_table (next i) (moves_to InCopy)
        (takes_next p (replayer l))))

    pub goes-take : next_to_copy l ≡ None → empty_handed_move p l ≡ takes_next p (replayer l)
    goes-take next = λ i.
        for_table (free i) (λ name. only_prints (AwaitsTable name) None)
        (for_table (unmet i) (moves_to (DoSync l.tick))
        (for_table (next i) (moves_to InCopy)
        (takes_next p (replayer l))))

-- the same of the leaf that a database has
pub takes-as : (p : Database) (l k : Leaf) → l ≡ k → first_in is_handed_over l ≡ None → first_in (is_met l.tick) l ≡ None → next_to_copy l ≡ None → takes_next p (replayer k) ≡ empty_handed_move p k
takes-as p l k same free unmet next = ap (λ x. takes_next p (replayer x)) (sym same) ∙ sym (goes-take p l free unmet next) ∙ ap (empty_handed_move p) same
