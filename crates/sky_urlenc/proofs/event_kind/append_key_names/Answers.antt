use Rattle.std.proofs.Common.{arith}
use Rattle.sky_urlenc.proofs.RowTexts.{key_next, next_as_first, next_behind_byte}
use Rattle.sky_urlenc.proofs.event_kind.append_key_names.Goals as goal

pub loop-column-preserved : goal.loop-column-preserved
loop-column-preserved c = grind (arith, key_next, next_as_first, next_behind_byte)
