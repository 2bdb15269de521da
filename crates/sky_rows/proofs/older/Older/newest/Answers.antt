use Rattle.std.proofs.Common.{◌∙◌, sym, ap, arith}
use Rattle.std.specs.Option.{option_copied}
use Rattle.sky_keys.specs.Versions.{is_other}
use Rattle.sky_rows.proofs.Walk.{differs, newest_found}
use Rattle.sky_rows.proofs.older.Older.newest.Goals as goal

pub returns-in_err-node : goal.returns-in_err-node
returns-in_err-node c = ap option_copied c.from_residual.ensures ∙ sym (c.in_err-node.ensures (is_other c.args.except) (λ t b fits post. grind (arith, post, differs)))

pub returns : goal.returns
returns c = c.version.ensures.value ∙ newest_found (is_other c.args.except) c.args.self.now c.args.list c.in_ok-node.node (c.in_ok-node.ensures (is_other c.args.except) (λ t b fits post. grind (arith, post, differs)))
