use Rattle.std.proofs.Common.{◌≡◌, ◌∙◌, refl, ap, subst, sym, Some, None, true}
use Rattle.sky_keys.specs.Versions.{forgotten}
use Rattle.sky_rows.specs.Rows.{rows_in}
use Rattle.sky_rows.specs.Table.{TableView}
use Rattle.sky_rows.specs.Kept.{all_versions}
use Rattle.sky_rows.specs.Written.{AllKept, wrote, logged}
use Rattle.sky_rows.proofs.TableLemmas.{all_kept_more}
use Rattle.sky_rows.proofs.ForgetLemmas.{may_have, wrote-indexed, may_have-wrote, kept_forgotten, kept_unrecorded, forgotten-none}
use Rattle.sky_rows.proofs.table.Table.forget.Goals as goal

pub forget_logged-requires-clause-kept : goal.forget_logged-requires-clause-kept
forget_logged-requires-clause-kept c =
    subst (λ keys. AllKept (may_have c.args.txid keys) (all_versions c.self.inside.older (rows_in c.self.inside.rows))) (sym c.deref.ensures.value)
    (all_kept_more (logged c.self.inside.log) (may_have c.args.txid c.in-Some.keys.items) (all_versions c.self.inside.older (rows_in c.self.inside.rows)) (λ t q none. c.in-Some.ensures.taken t q ∙ none) c.self.invariant.2)

pub invariant_of-self : goal.invariant_of-self
invariant_of-self c = (
  c.forget_logged.ensures.own,
  subst (AllKept (wrote c.self.inside.written)) (sym c.forget_logged.ensures.entries)
      (kept_forgotten (wrote c.self.inside.written) (wrote c.self.inside.written) c.args.txid (all_versions c.self.inside.older (rows_in c.self.inside.rows)) (λ t q other. refl) c.self.invariant.1),
  subst (λ log. AllKept (logged log) (all_versions c.forget_logged.new.older (rows_in c.forget_logged.new.rows))) (sym c.in-Some.ensures.gone)
      (subst (AllKept (λ _ _. true)) (sym c.forget_logged.ensures.entries)
      (kept_forgotten (λ _ _. true) (λ _ _. true) c.args.txid (all_versions c.self.inside.older (rows_in c.self.inside.rows)) (λ t q other. refl) (all_kept_more (logged c.self.inside.log) (λ _ _. true) (all_versions c.self.inside.older (rows_in c.self.inside.rows)) (λ t q none. absurd (cc none)) c.self.invariant.2))),
)

pub forget_everywhere-requires-clause-kept : goal.forget_everywhere-requires-clause-kept
forget_everywhere-requires-clause-kept c =
    all_kept_more (wrote c.self.inside.written) (λ _ _. true) (all_versions c.self.inside.older (rows_in c.self.inside.rows)) (λ t q none. absurd (cc none)) c.self.invariant.1

pub forget_everywhere-requires-clause-own : goal.forget_everywhere-requires-clause-own
forget_everywhere-requires-clause-own c = c.self.invariant.0

pub invariant_of-self-then-not-tells : goal.invariant_of-self-then-not-tells
invariant_of-self-then-not-tells c = (
  c.forget_everywhere.ensures.own,
  subst (AllKept (wrote c.self.inside.written)) (sym c.forget_everywhere.ensures.entries)
      (kept_forgotten (wrote c.self.inside.written) (wrote c.self.inside.written) c.args.txid (all_versions c.self.inside.older (rows_in c.self.inside.rows)) (λ t q other. refl) c.self.invariant.1),
  subst (λ log. AllKept (logged log) (all_versions c.forget_everywhere.new.older (rows_in c.forget_everywhere.new.rows))) (sym c.in_default.ensures.none)
      (subst (AllKept (logged c.self.inside.log)) (sym c.forget_everywhere.ensures.entries)
      (kept_forgotten (logged c.self.inside.log) (logged c.self.inside.log) c.args.txid (all_versions c.self.inside.older (rows_in c.self.inside.rows)) (λ t q other. refl) c.self.invariant.2)),
)

pub forget_all-requires-clause-kept : goal.forget_all-requires-clause-kept
forget_all-requires-clause-kept c =
    may_have-wrote (wrote c.self.inside.written) c.args.txid c.in-Some-take.keys.keys (all_versions c.self.inside.older (rows_in c.self.inside.rows))
    (λ q. wrote-indexed c.self.inside.written c.args.txid q (Some c.in-Some-take.keys) (sym c.tells.ensures ∙ c.if-not-tells.false) c.in-Some-take.ensures.taken) c.self.invariant.1

pub forget_all-requires-clause-own : goal.forget_all-requires-clause-own
forget_all-requires-clause-own c = c.self.invariant.0

pub invariant_of-self-in-Some-take : goal.invariant_of-self-in-Some-take
invariant_of-self-in-Some-take c = (
  c.forget_all.ensures.own,
  subst (AllKept (wrote c.take.new.self)) (sym c.forget_all.ensures.entries)
      (kept_forgotten (wrote c.self.inside.written) (wrote c.take.new.self) c.args.txid (all_versions c.self.inside.older (rows_in c.self.inside.rows)) c.in-Some-take.ensures.others c.self.invariant.1),
  subst (λ log. AllKept (logged log) (all_versions c.forget_all.new.older (rows_in c.forget_all.new.rows))) (sym c.in_default.ensures.none)
      (subst (AllKept (logged c.self.inside.log)) (sym c.forget_all.ensures.entries)
      (kept_forgotten (logged c.self.inside.log) (logged c.self.inside.log) c.args.txid (all_versions c.self.inside.older (rows_in c.self.inside.rows)) (λ t q other. refl) c.self.invariant.2)),
)

pub invariant_of-self-in_default-take : goal.invariant_of-self-in_default-take
invariant_of-self-in_default-take c = (
  c.self.invariant.0,
  kept_unrecorded (wrote c.self.inside.written) (wrote c.take.new.self) c.args.txid (all_versions c.self.inside.older (rows_in c.self.inside.rows)) c.in_default-take.ensures.others
      (λ q. wrote-indexed c.self.inside.written c.args.txid q None (sym c.tells.ensures ∙ c.if-not-tells.false) c.in_default-take.ensures.taken) c.self.invariant.1,
  subst (λ log. AllKept (logged log) (all_versions c.self.inside.older (rows_in c.self.inside.rows))) (sym c.in_default.ensures.none) c.self.invariant.2,
)

pub returns-in_default-take : goal.returns-in_default-take
returns-in_default-take c =
    let before = all_versions c.self.inside.older (rows_in c.self.inside.rows) in
    let none : forgotten c.args.txid before ≡ before = forgotten-none (wrote c.self.inside.written) c.args.txid before
    (λ q. wrote-indexed c.self.inside.written c.args.txid q None (sym c.tells.ensures ∙ c.if-not-tells.false) c.in_default-take.ensures.taken) c.self.invariant.1 in
    ap (λ es. record { columns = c.self.inside.schema; versions = es; places = c.self.inside.rows.places }) (sym none)
    ∙ ap (λ (t : TableView). record t { versions = forgotten c.args.txid t.versions; places = c.self.inside.rows.places }) c.self.view_is
