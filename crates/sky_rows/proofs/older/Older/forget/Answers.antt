use Rattle.std.proofs.Common.{arith}
use Rattle.std.specs.Prelude.{◌==◌}
use Rattle.sky_rows.proofs.Walk.{own_is_linked, forgotten_here, forgotten_none}
use Rattle.sky_rows.proofs.older.Older.forget.Goals as goal

pub take_out-requires : goal.take_out-requires
take_out-requires c = own_is_linked (λ u. u == c.args.txid) c.args.self.now c.args.list c.in-Some.node (c.in-Some.ensures (λ u. u == c.args.txid) (λ t b fits post. grind (arith, post)))

pub returns-in-Some : goal.returns-in-Some
returns-in-Some c = forgotten_here c.args.txid c.args.self.now c.take_out.new.self c.args.list c.in-Some.node c.requires.one (c.in-Some.ensures (λ u. u == c.args.txid) (λ t b fits post. grind (arith, post))) c.take_out.ensures.lists

pub returns-in_default : goal.returns-in_default
returns-in_default c = forgotten_none c.args.txid c.args.self.now c.args.list c.requires.list (c.in_default.ensures (λ u. u == c.args.txid) (λ t b fits post. grind (arith, post)))
