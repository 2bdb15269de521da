use Rattle.std.proofs.Common.{ap, sym, ◌∙◌, subst}
use Rattle.std.specs.Str.{IsAscii}
use Rattle.std.proofs.lemmas.Str.{IsUtf8-from_ascii}
use Rattle.sky_lines.specs.Room.{Held}
use Rattle.sky_lines.proofs.buffer.Buffer.text.Goals as goal

pub from_utf8_unchecked-requires : goal.from_utf8_unchecked-requires
from_utf8_unchecked-requires c =
    IsUtf8-from_ascii _ (subst IsAscii (ap (λ (h : Held). h.line) c.self.view_is ∙ sym c.line-line.ensures) (c.self.invariant.1 c.if-self.true).1)
