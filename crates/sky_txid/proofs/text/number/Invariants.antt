use Rattle.std.proofs.Common.{◌≡◌, take, true, ◌<◌, ◌^◌}
use Rattle.std.specs.Str.{all_ascii_digits}
use Rattle.std.specs.Str.Parse.{digits_value}
use Rattle.sky_txid.proofs.text.number.Given as goal

abbrev pub invariant-loop-digit : goal.invariant-loop-digit
invariant-loop-digit l = record {
  digits : all_ascii_digits (take l.digit-index l.digits) ≡ true;
  value : digits_value 10 (take l.digit-index l.digits) ≡ l.value;
  fits : l.value < 2 ^ 64;
}
