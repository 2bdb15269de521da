-- The code's test of the bytes is the definition's.
use Rattle.std.proofs.Common.{arith, ◌≡◌, false, sym}
use Rattle.std.specs.Str.{is_utf8}
use Rattle.std.proofs.lemmas.Str.{is_utf8-from_IsUtf8, IsUtf8-from_is_utf8}
use Rattle.sky_urlenc.proofs.decoded.text_of.Goals as goal

pub returns-in-Ok-clause-characters : goal.returns-in-Ok-clause-characters
returns-in-Ok-clause-characters c = sym (is_utf8-from_IsUtf8 c.args.bytes.now c.in-Ok.ensures.utf8)

pub returns-in-Err-NotUtf8-clause-characters : goal.returns-in-Err-NotUtf8-clause-characters
returns-in-Err-NotUtf8-clause-characters c =
    let none = c.from_bytes.ensures.not_utf8.0 (cc) in
    let fails : is_utf8 c.args.bytes.now ≡ false = grind (arith, none, IsUtf8-from_is_utf8 c.args.bytes.now) in
    sym fails
