use Rattle.std.proofs.Common.{rules}
use Rattle.std.proofs.lemmas.Str.Ascii.{IsAscii-nil}
use Rattle.sky_lines.proofs.buffer.Buffer.new.Goals as goal

pub invariant_of-result : goal.invariant_of-result
invariant_of-result c = (search rules, λ _. (IsAscii-nil, IsAscii-nil))
