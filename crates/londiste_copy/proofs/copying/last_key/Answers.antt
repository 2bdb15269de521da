use Rattle.std.proofs.Common.{◌∙◌, Some, sym, ap}
use Rattle.londiste_copy.proofs.Pieces.{key-of_last}
use Rattle.londiste_copy.proofs.copying.last_key.Goals as goal

pub returns-in_ok-key_of-in-Some : goal.returns-in_ok-key_of-in-Some
returns-in_ok-key_of-in-Some c = ap (λ key. Some key) c.in_ok-key_of-in-Some.ensures ∙ sym (key-of_last c.args.schema.now c.args.before c.args.rows.now c.in-Some.row.now (sym c.in-Some.ensures.value))
