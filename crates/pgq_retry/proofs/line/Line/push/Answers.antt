use Rattle.std.proofs.Common.{◌≡◌, ◌∙◌, ap, sym, subst, true, cond, ◌∷◌, ◌++◌, [], w64, FitsSigned, rules}
use Rattle.std.specs.Ordering.{nat_cmp, eq_by_cmp}
use Rattle.std.specs.Map.{remove_entry}
use Rattle.std.specs.BTreeMap.{is_at}
use Rattle.std.specs.BTreeSet.{contains}
use Rattle.std.proofs.lemmas.Int.{to_z-of_z}
use Rattle.pgq_retry.specs.Kept.{AreBelow, IsListed, due_cmp}
use Rattle.pgq_retry.proofs.DueIndex.{is_listed, insert-last, remove-last, listed_more}
use Rattle.pgq_retry.proofs.line.Line.push.Goals as goal

pub invariant_of-self : goal.invariant_of-self
invariant_of-self c = subst (λ es. IsListed es c.self.inside.dues) (sym c.in_err-insert.ensures.err) c.self.invariant

pub invariant_of-self-in-Ok : goal.invariant_of-self-in-Ok
invariant_of-self-in-Ok c =
    let below : AreBelow c.args.place c.self.inside.entries.entries = subst (AreBelow c.args.place) (sym c.self.view_is) c.requires in
    let due : FitsSigned w64 c.args.waiting.due = search rules in
    record {
      in_order = c.insert.ensures.ordered;
      by_moment = c.insert-2.ensures.ordered;
      listed = λ q. c.in-Ok.ensures.updates.0 q
          ∙ ap (λ d. cond (eq_by_cmp due_cmp (d, c.args.place) q) true (contains due_cmp c.self.inside.dues q)) (to_z-of_z w64 c.args.waiting.due due)
          ∙ ap (cond (eq_by_cmp due_cmp (c.args.waiting.due, c.args.place) q) true) (c.self.invariant.listed q)
          ∙ listed_more c.self.inside.entries.entries c.args.place c.args.waiting q
          ∙ sym (ap (is_listed q) (c.in_ok-insert.ensures.entries ∙ insert-last c.self.inside.entries.entries c.args.place c.args.waiting below));
    }

-- one that is put in and taken back leaves what was there
back : (c : goal.After-drop-in_default) → c.remove.new.self.entries ≡ c.self.inside.entries.entries
back c =
    let below : AreBelow c.args.place c.self.inside.entries.entries = subst (AreBelow c.args.place) (sym c.self.view_is) c.requires in
    c.remove.ensures.entries
    ∙ ap (remove_entry (is_at (nat_cmp c.args.place))) (c.in_ok-insert.ensures.entries ∙ insert-last c.self.inside.entries.entries c.args.place c.args.waiting below)
    ∙ remove-last c.self.inside.entries.entries c.args.place c.args.waiting below

pub invariant_of-self-in_default : goal.invariant_of-self-in_default
invariant_of-self-in_default c = record {
  in_order = c.remove.ensures.ordered;
  by_moment = c.insert-2.ensures.ordered;
  listed = λ q. ap (λ keys. contains due_cmp (record { keys = keys }) q) c.in_default.ensures.err ∙ c.self.invariant.listed q ∙ sym (ap (is_listed q) (back c));
}

pub returns-in_default-clause-err : goal.returns-in_default-clause-err
returns-in_default-clause-err c = back c ∙ c.self.view_is

pub returns-clause-ok : goal.returns-clause-ok
returns-clause-ok c =
    c.in_ok-insert.ensures.entries
    ∙ insert-last c.self.inside.entries.entries c.args.place c.args.waiting (subst (AreBelow c.args.place) (sym c.self.view_is) c.requires)
    ∙ ap (λ es. es ++ (c.args.place, c.args.waiting) ∷ []) c.self.view_is
