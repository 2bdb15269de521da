use Rattle.std.proofs.Common.{◌∙◌, sym}
use Rattle.sky_rows.specs.Rows.{rows_in}
use Rattle.sky_rows.specs.Kept.{all_versions}
use Rattle.sky_rows.specs.Written.{wrote, logged}
use Rattle.sky_rows.proofs.TableLemmas.{all_kept_more, kept_at, kept_either}
use Rattle.sky_rows.proofs.table.Table.write_at.Goals as goal

pub invariant_of-self : goal.invariant_of-self
invariant_of-self c = (c.self.invariant.0, all_kept_more (wrote c.self.inside.written) (wrote c.add.new.self) (all_versions c.self.inside.older (rows_in c.self.inside.rows)) c.add.ensures.kept c.self.invariant.1, c.self.invariant.2)

pub invariant_of-self-in_err-log_own : goal.invariant_of-self-in_err-log_own
invariant_of-self-in_err-log_own c = (
  c.self.invariant.0,
  all_kept_more (wrote c.self.inside.written) (wrote c.add.new.self) (all_versions c.self.inside.older (rows_in c.self.inside.rows)) c.add.ensures.kept c.self.invariant.1,
  all_kept_more (logged c.self.inside.log) (logged c.log_own.new.log) (all_versions c.self.inside.older (rows_in c.self.inside.rows)) c.log_own.ensures.kept c.self.invariant.2,
)

pub put-requires-clause-first : goal.put-requires-clause-first
put-requires-clause-first c = λ first. kept_at (wrote c.self.inside.written) c.args.txid c.args.key (all_versions c.self.inside.older (rows_in c.self.inside.rows)) c.self.invariant.1 (sym c.in_ok-again.ensures.again ∙ first)

pub put-requires-clause-own : goal.put-requires-clause-own
put-requires-clause-own c = c.self.invariant.0

pub invariant_of-self-2 : goal.invariant_of-self-2
invariant_of-self-2 c = (
  c.put.ensures.own,
  kept_either (wrote c.self.inside.written) (wrote c.add.new.self) c.args.txid c.args.key c.args.row (all_versions c.self.inside.older (rows_in c.self.inside.rows)) (all_versions c.put.new.older (rows_in c.put.new.self)) c.put.result
      c.in_ok-again.ensures.indexed c.in_ok-again.ensures.kept c.put.ensures.ok c.put.ensures.err c.self.invariant.1,
  kept_either (logged c.self.inside.log) (logged c.log_own.new.log) c.args.txid c.args.key c.args.row (all_versions c.self.inside.older (rows_in c.self.inside.rows)) (all_versions c.put.new.older (rows_in c.put.new.self)) c.put.result
      c.in_ok-log_own.ensures.logged c.log_own.ensures.kept c.put.ensures.ok c.put.ensures.err c.self.invariant.2,
)
