-- Bytes are below 256.
use Rattle.std.proofs.Common.{◌<◌, arith}
use Rattle.std.proofs.lemmas.List.Elements.{All-from_get_or}
use Rattle.sky_urlenc.proofs.encode.append_escaped.Goals as goal

pub returns-clause-small : goal.returns-clause-small
returns-clause-small c = All-from_get_or (λ b. b < 256) c.args.bytes.now 0 (λ i inside. let fits = c.type_inv.bytes i in omega arith)
