use Rattle.std.proofs.Common.{◌≡◌, ◌++◌, drop, string_bytes}
use Rattle.form_urlencoded.specs.Form.{byte_serialize}
use Rattle.sky_urlenc.proofs.encode.append_escaped.Given as goal

-- the text so far, with what is left to escape
abbrev pub invariant-loop-byte : goal.invariant-loop-byte
invariant-loop-byte l = string_bytes l.into ++ byte_serialize (drop l.byte-index l.bytes) ≡ string_bytes l.initial.into ++ byte_serialize l.bytes
