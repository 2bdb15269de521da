use Rattle.std.proofs.Common.{◌≡◌, List, Bool, false, get_or, map, refl, ap, ◌∙◌, arith}
use Rattle.std.specs.List.{range_with_len}
use Rattle.std.proofs.lemmas.List.FromFn.{get_or-map-range_with_len}
use Rattle.sky_model.specs.Kinds.{continues_name}
use Rattle.sky_script.specs.declared.kinds.TheConstants.{CONTINUES_NAME}
use Rattle.sky_script.proofs.kinds.continues_name.Goals as goal

-- the table is the test of each byte
table : CONTINUES_NAME ≡ map continues_name (range_with_len 0 256)
table = refl

pub returns : goal.returns
returns c = ap (λ (bytes : List Bool). get_or bytes c.args.byte false) table ∙ get_or-map-range_with_len continues_name 0 256 c.args.byte c.args.byte false c.ranges.byte.fits (omega arith)
