use Rattle.std.proofs.Common.{◌∙◌, ap, refl, subst, sym}
use Rattle.sky_keys.specs.Versions.{forgotten}
use Rattle.sky_rows.specs.Rows.{rows_in}
use Rattle.sky_rows.specs.Kept.{all_versions}
use Rattle.sky_rows.specs.Written.{AllKept}
use Rattle.sky_rows.proofs.ForgetLemmas.{may_have, kept_step, forgotten-forgotten_at, forgotten-all}
use Rattle.sky_rows.proofs.table.forget_all.Goals as goal

pub loop-key-init : goal.loop-key-init
loop-key-init c =
    (subst (λ keys. AllKept (may_have c.args.txid keys) (all_versions c.args.older.now (rows_in c.args.rows.now))) (sym c.into_iter-key-iterator.ensures.into_iter_gives.0) c.requires.kept, refl, c.requires.own)

pub loop-key-preserved : goal.loop-key-preserved
loop-key-preserved c =
    let before = all_versions c.loop-key.older (rows_in c.loop-key.rows) in (
      subst (AllKept (may_have c.args.txid c.next.new.self)) (sym c.forget_at.ensures.entries)
          (kept_step c.args.txid c.in-Some.key.now c.next.new.self before c.forget_at.ensures.in_order
          (subst (λ keys. AllKept (may_have c.args.txid keys) before) c.in-Some.ensures.steps c.loop-key.invariant.0)),
      ap (forgotten c.args.txid) c.forget_at.ensures.entries ∙ forgotten-forgotten_at c.args.txid c.in-Some.key.now before ∙ c.loop-key.invariant.1,
      c.forget_at.ensures.own,
    )

pub returns-clause-entries : goal.returns-clause-entries
returns-clause-entries c =
    let left = all_versions c.loop-key.older (rows_in c.loop-key.rows) in
    sym (forgotten-all c.args.txid left (subst (λ keys. AllKept (may_have c.args.txid keys) left) c.in-None.ensures.steps.0 c.loop-key.invariant.0))
    ∙ c.loop-key.invariant.1
