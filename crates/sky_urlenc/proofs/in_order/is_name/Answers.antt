-- A side that is the name and stands for itself.
use Rattle.std.proofs.Common.{◌≡◌, rules}
use Rattle.sky_urlenc.proofs.Decoding.{plain_name, plain_characters}
use Rattle.sky_urlenc.proofs.in_order.is_name.Goals as goal

pub returns-then-eq-clause-name : goal.returns-then-eq-clause-name
returns-then-eq-clause-name c =
    let same : c.args.side.now ≡ c.args.column.now.name = search rules in
    plain_name c.args.side.now c.args.column.now.name c.is_plain.result c.is_plain.ensures same

pub returns-then-eq-clause-characters : goal.returns-then-eq-clause-characters
returns-then-eq-clause-characters c =
    let same : c.args.side.now ≡ c.args.column.now.name = search rules in
    plain_characters c.args.side.now c.args.column.now.name c.is_plain.result c.is_plain.ensures same c.bytes.ensures.utf8
