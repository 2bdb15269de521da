-- A side that stands for itself is its own text.
use Rattle.std.proofs.Common.{sym, ◌∙◌}
use Rattle.sky_urlenc.proofs.Decoding.{plain_stands}
use Rattle.sky_urlenc.proofs.decoded.decoded_text.Goals as goal

pub returns-then-is_plain-clause-text : goal.returns-then-is_plain-clause-text
returns-then-is_plain-clause-text c = rw (plain_stands c.args.side.now (sym c.is_plain.ensures ∙ c.if-is_plain.true)) c.text_of.ensures.text

pub returns-then-is_plain-clause-characters : goal.returns-then-is_plain-clause-characters
returns-then-is_plain-clause-characters c = rw (plain_stands c.args.side.now (sym c.is_plain.ensures ∙ c.if-is_plain.true)) c.text_of.ensures.characters
