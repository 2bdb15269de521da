use Rattle.std.proofs.Common.{◌∙◌, sym, arith}
use Rattle.sky_rows.specs.Rows.{rows_in}
use Rattle.sky_rows.specs.Kept.{all_versions}
use Rattle.sky_rows.specs.Written.{wrote, logged}
use Rattle.sky_rows.proofs.TableLemmas.{kept_at, kept_either}
use Rattle.sky_rows.proofs.table.Table.write_last_at.Goals as goal

pub put-requires-clause-first : goal.put-requires-clause-first
put-requires-clause-first c = λ first. kept_at (wrote c.self.inside.written) c.args.txid c.args.key (all_versions c.self.inside.older (rows_in c.self.inside.rows)) c.self.invariant.1 (sym c.has-again.ensures ∙ first)

pub put-requires-clause-own : goal.put-requires-clause-own
put-requires-clause-own c = c.self.invariant.0

pub invariant_of-self : goal.invariant_of-self
invariant_of-self c = (
  c.put.ensures.own,
  kept_either (wrote c.self.inside.written) (wrote c.prune.new.self) c.args.txid c.args.key c.args.row (all_versions c.self.inside.older (rows_in c.self.inside.rows)) (all_versions c.put.new.older (rows_in c.put.new.self)) c.put.result
      (c.prune.ensures.forgotten c.args.txid c.args.key (omega (arith, c.in-Some.ensures))) c.prune.ensures.kept c.put.ensures.ok c.put.ensures.err c.self.invariant.1,
  kept_either (logged c.self.inside.log) (logged c.drop_below.new.log) c.args.txid c.args.key c.args.row (all_versions c.self.inside.older (rows_in c.self.inside.rows)) (all_versions c.put.new.older (rows_in c.put.new.self)) c.put.result
      (c.drop_below.ensures.dropped c.args.txid c.args.key (omega (arith, c.in-Some.ensures))) c.drop_below.ensures.kept c.put.ensures.ok c.put.ensures.err c.self.invariant.2,
)
