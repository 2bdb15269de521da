use Rattle.std.proofs.Common.{◌≡◌, ◌&&◌, true, subst}
use Rattle.sky_rows.specs.Rows.{rows_in}
use Rattle.sky_rows.specs.Kept.{all_versions}
use Rattle.sky_rows.specs.Written.{wrote, logged}
use Rattle.sky_rows.proofs.TableLemmas.{all_kept_more, kept_both, kept_either}
use Rattle.sky_rows.proofs.table.Table.write_known.Goals as goal

pub invariant_of-self : goal.invariant_of-self
invariant_of-self c = (
  c.self.invariant.0,
  all_kept_more (wrote c.self.inside.written) (wrote c.index_or_log.new.written) (all_versions c.self.inside.older (rows_in c.self.inside.rows)) c.index_or_log.ensures.kept c.self.invariant.1,
  all_kept_more (λ t q. wrote c.self.inside.written t q && logged c.self.inside.log t q) (logged c.index_or_log.new.log) (all_versions c.self.inside.older (rows_in c.self.inside.rows)) c.index_or_log.ensures.kept_log
      (kept_both (wrote c.self.inside.written) (logged c.self.inside.log) (all_versions c.self.inside.older (rows_in c.self.inside.rows)) c.self.invariant.1 c.self.invariant.2),
)

pub invariant_of-self-2 : goal.invariant_of-self-2
invariant_of-self-2 c = (
  c.put.ensures.own,
  kept_either (wrote c.self.inside.written) (wrote c.index_or_log.new.written) c.args.txid c.args.key c.args.row (all_versions c.self.inside.older (rows_in c.self.inside.rows)) (all_versions c.put.new.older (rows_in c.put.new.self)) c.put.result
      (subst (λ key. wrote c.index_or_log.new.written c.args.txid key ≡ true) c.in_ok-logged.ensures c.in_ok-index_or_log.ensures.indexed) c.index_or_log.ensures.kept c.put.ensures.ok c.put.ensures.err c.self.invariant.1,
  kept_either (λ t q. wrote c.self.inside.written t q && logged c.self.inside.log t q) (logged c.index_or_log.new.log) c.args.txid c.args.key c.args.row (all_versions c.self.inside.older (rows_in c.self.inside.rows)) (all_versions c.put.new.older (rows_in c.put.new.self)) c.put.result
      (subst (λ key. logged c.index_or_log.new.log c.args.txid key ≡ true) c.in_ok-logged.ensures c.in_ok-index_or_log.ensures.logged) c.index_or_log.ensures.kept_log c.put.ensures.ok c.put.ensures.err
      (kept_both (wrote c.self.inside.written) (logged c.self.inside.log) (all_versions c.self.inside.older (rows_in c.self.inside.rows)) c.self.invariant.1 c.self.invariant.2),
)
