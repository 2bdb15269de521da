use Rattle.std.proofs.Common.{◌≤◌, string_bytes}
use Rattle.std.specs.Str.{IsCharBoundary}
use Rattle.sky_script.proofs.KindLemmas.{Unquotes, text_so_far}
use Rattle.sky_script.proofs.kinds.unquoted.Given as goal

abbrev pub invariant-loop-i : goal.invariant-loop-i
invariant-loop-i l = record {
  text : Unquotes l.inside (text_so_far l.inside (string_bytes l.text) l.quote l.from l.i) l.quote l.i;
  order : l.from ≤ l.i;
  cut : IsCharBoundary l.inside l.from;
}
