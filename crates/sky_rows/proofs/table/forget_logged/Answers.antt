use Rattle.std.proofs.Common.{◌∙◌, ◌+◌, ◌≤◌, length, drop, ap, refl, subst, sym, arith}
use Rattle.std.proofs.lemmas.List.{drop_all}
use Rattle.sky_keys.specs.Versions.{forgotten}
use Rattle.sky_rows.specs.Rows.{rows_in}
use Rattle.sky_rows.specs.Kept.{all_versions}
use Rattle.sky_rows.specs.Written.{AllKept}
use Rattle.sky_rows.proofs.ForgetLemmas.{may_have, keys_left, kept_step, forgotten-forgotten_at, forgotten-all}
use Rattle.sky_rows.proofs.table.forget_logged.Goals as goal

pub loop-key-init : goal.loop-key-init
loop-key-init c = (c.requires.kept, refl, c.requires.own)

pub loop-key-preserved : goal.loop-key-preserved
loop-key-preserved c =
    let before = all_versions c.loop-key.older (rows_in c.loop-key.rows) in
    let keys = c.args.keys.now in
    let index = c.loop-key.key-index in (
      subst (AllKept (may_have c.args.txid (drop (index + 1) keys))) (sym c.forget_at.ensures.entries)
          (kept_step c.args.txid c.key-item.result (drop (index + 1) keys) before c.forget_at.ensures.in_order
          (subst (λ left. AllKept (may_have c.args.txid left) before) (keys_left keys index c.key-item.result (omega arith) c.key-item.is) c.loop-key.invariant.0)),
      ap (forgotten c.args.txid) c.forget_at.ensures.entries ∙ forgotten-forgotten_at c.args.txid c.key-item.result before ∙ c.loop-key.invariant.1,
      c.forget_at.ensures.own,
    )

pub returns-clause-entries : goal.returns-clause-entries
returns-clause-entries c =
    let left = all_versions c.loop-key.older (rows_in c.loop-key.rows) in
    let past : length c.args.keys.now ≤ c.loop-key.key-index = omega arith in
    sym (forgotten-all c.args.txid left (subst (λ keys. AllKept (may_have c.args.txid keys) left) (drop_all c.loop-key.key-index c.args.keys.now past) c.loop-key.invariant.0))
    ∙ c.loop-key.invariant.1
