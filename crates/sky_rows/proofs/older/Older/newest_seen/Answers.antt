use Rattle.std.proofs.Common.{◌∙◌, sym, ap, arith}
use Rattle.std.specs.Option.{option_copied}
use Rattle.sky_txid.specs.Snapshot.{sees}
use Rattle.sky_rows.proofs.Walk.{newest_found}
use Rattle.sky_rows.proofs.older.Older.newest_seen.Goals as goal

pub returns-in_err-node : goal.returns-in_err-node
returns-in_err-node c = ap option_copied c.from_residual.ensures ∙ sym (c.in_err-node.ensures (sees c.args.snapshot.now) (λ t b fits post. grind (arith, post)))

pub returns : goal.returns
returns c = c.version.ensures.value ∙ newest_found (sees c.args.snapshot.now) c.args.self.now c.args.list c.in_ok-node.node (c.in_ok-node.ensures (sees c.args.snapshot.now) (λ t b fits post. grind (arith, post)))
