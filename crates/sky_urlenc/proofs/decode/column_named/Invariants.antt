use Rattle.std.proofs.Common.{◌≡◌, drop}
use Rattle.std.specs.Prelude.{find, bytes_eq}
use Rattle.std.specs.List.{enumerate_from}
use Rattle.sky_urlenc.specs.ReadRow.{column_named}
use Rattle.sky_urlenc.proofs.decode.column_named.Given as goal

-- the column found from here on is the one found among all
abbrev pub invariant-loop-place : goal.invariant-loop-place
invariant-loop-place l = find (λ c. bytes_eq c.1.name l.name) (enumerate_from l.place (drop l.place l.columns)) ≡ column_named l.name l.columns
