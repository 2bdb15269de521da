-- A number that is read stands for itself.
use Rattle.std.proofs.Common.{sym, ◌∙◌, rules}
use Rattle.sky_urlenc.proofs.NumberBack.{int_stands, int_is_utf8}
use Rattle.sky_urlenc.proofs.in_order.value_of_side.Goals as goal

pub returns-in-Some-clause-text : goal.returns-in-Some-clause-text
returns-in-Some-clause-text c = int_is_utf8 c.args.side.now c.in-Some.number (sym c.int_of.ensures ∙ c.in-Some.is)

pub returns-in-Some-clause-value : goal.returns-in-Some-clause-value
returns-in-Some-clause-value c = rw (int_stands c.args.side.now c.in-Some.number (sym c.int_of.ensures ∙ c.in-Some.is)) (search rules)
