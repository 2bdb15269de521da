use Rattle.std.proofs.Common.{◌≡◌, ◌∙◌, ap, sym, subst}
use Rattle.std.specs.Ordering.{nat_cmp}
use Rattle.std.specs.Map.{values_of, remove_entry}
use Rattle.std.specs.BTreeMap.{is_at}
use Rattle.pgq_retry.specs.Retries.{is_asked}
use Rattle.pgq_retry.specs.Kept.{AreBelow, InOrder, IsPlaced}
use Rattle.pgq_retry.proofs.DueIndex.{remove-last}
use Rattle.pgq_retry.proofs.Indexed.{has_none, placed_more, placed_same}
use Rattle.pgq_retry.proofs.placed.Placed.push.Goals as goal

pub invariant_of-self : goal.invariant_of-self
invariant_of-self c = subst (λ es. IsPlaced es c.self.inside.places.by_sub) (sym c.in_err-push.ensures.err) c.self.invariant

pub invariant_of-self-in-Ok : goal.invariant_of-self-in-Ok
invariant_of-self-in-Ok c =
    let fresh = has_none c.self.inside.line c.self.inside.places.by_sub c.self.invariant c.args.waiting.sub c.args.waiting.event.ev_id (ap (λ es. is_asked c.args.waiting.sub c.args.waiting.event.ev_id (values_of es)) c.self.view_is ∙ c.requires.fresh) in
    subst (λ es. IsPlaced es c.add.new.self.by_sub) (sym c.in_ok-push.ensures.ok)
    (placed_more c.self.inside.line c.self.inside.places.by_sub c.add.new.self.by_sub c.args.place c.args.waiting c.self.invariant
    (subst (AreBelow c.args.place) (sym c.self.view_is) c.requires.above) fresh c.in-Ok.ensures.ok
    (subst InOrder c.in_ok-push.ensures.ok c.in_ok-push.ensures.in_order))

-- one that is put in and taken back leaves what was there
back : (c : goal.After-discard) → c.discard.new.self ≡ c.self.inside.line
back c =
    c.discard.ensures.others
    ∙ ap (remove_entry (is_at (nat_cmp c.args.place))) c.in_ok-push.ensures.ok
    ∙ remove-last c.self.inside.line c.args.place c.args.waiting (subst (AreBelow c.args.place) (sym c.self.view_is) c.requires.above)

pub invariant_of-self-in_default : goal.invariant_of-self-in_default
invariant_of-self-in_default c =
    subst (λ es. IsPlaced es c.add.new.self.by_sub) (sym (back c))
    (placed_same c.self.inside.line c.self.inside.places.by_sub c.add.new.self.by_sub c.self.invariant c.in_default.ensures.err)

pub returns-in_default : goal.returns-in_default
returns-in_default c = record { ok = tt; err = back c ∙ c.self.view_is }
