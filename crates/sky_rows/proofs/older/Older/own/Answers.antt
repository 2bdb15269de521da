use Rattle.std.proofs.Common.{◌∙◌, sym, ap, arith}
use Rattle.std.specs.Prelude.{◌==◌}
use Rattle.std.specs.Option.{option_copied}
use Rattle.sky_rows.proofs.Walk.{own_found, own_none}
use Rattle.sky_rows.proofs.older.Older.own.Goals as goal

pub returns-in_err-node : goal.returns-in_err-node
returns-in_err-node c = ap option_copied c.from_residual.ensures ∙ sym (own_none c.args.txid c.args.self.now c.args.list (c.in_err-node.ensures (λ u. u == c.args.txid) (λ t b fits post. grind (arith, post))))

pub returns : goal.returns
returns c = c.version.ensures.value ∙ own_found c.args.txid c.args.self.now c.args.list c.in_ok-node.node c.requires.one (c.in_ok-node.ensures (λ u. u == c.args.txid) (λ t b fits post. grind (arith, post)))
