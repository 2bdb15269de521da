use Rattle.std.proofs.Common.{◌≡◌, ◌+◌, length, drop}
use Rattle.sky_val.specs.Schemas.{key_columns}
use Rattle.sky_model.specs.StepRows.{fits}
use Rattle.sky_fits.proofs.ValueLemmas.{takes}
use Rattle.sky_fits.proofs.values.key_fits.Given as goal

-- as many values are left as key columns, and they are refused as the key is
abbrev pub invariant-loop-column : goal.invariant-loop-column
invariant-loop-column l = record {
  alike : l.place + length (key_columns (drop l.column-index l.columns)) ≡ length l.key;
  refused : takes (key_columns (drop l.column-index l.columns)) (drop l.place l.key) ≡ fits (key_columns l.columns) l.key;
}
