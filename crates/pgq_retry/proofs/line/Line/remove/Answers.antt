use Rattle.std.proofs.Common.{◌∙◌, ap, sym, false, cond, w64, FitsSigned, rules}
use Rattle.std.specs.Ordering.{eq_by_cmp}
use Rattle.std.specs.BTreeSet.{contains}
use Rattle.std.proofs.lemmas.Int.{to_z-of_z}
use Rattle.pgq_retry.specs.Kept.{due_cmp}
use Rattle.pgq_retry.proofs.DueIndex.{is_listed, listed_less}
use Rattle.pgq_retry.proofs.line.Line.remove.Goals as goal

pub invariant_of-self-2 : goal.invariant_of-self-2
invariant_of-self-2 c = let due : FitsSigned w64 c.in_ok-waiting.waiting.due = search rules in record {
  in_order = c.remove.ensures.ordered;
  by_moment = c.remove-2.ensures.ordered;
  listed = λ q. c.remove-2.ensures.updates.0 q
      ∙ ap (λ d. cond (eq_by_cmp due_cmp (d, c.args.place) q) false (contains due_cmp c.self.inside.dues q)) (to_z-of_z w64 c.in_ok-waiting.waiting.due due)
      ∙ ap (cond (eq_by_cmp due_cmp (c.in_ok-waiting.waiting.due, c.args.place) q) false) (c.self.invariant.listed q)
      ∙ listed_less c.self.inside.entries.entries c.args.place c.in_ok-waiting.waiting q c.self.invariant.in_order (sym c.in_ok-waiting.ensures.value)
      ∙ sym (ap (is_listed q) c.remove.ensures.entries);
}
