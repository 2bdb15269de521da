use Rattle.std.proofs.Common.{◌≡◌, ◌++◌, map, drop, string_bytes}
use Rattle.sky_val.specs.Schemas.{key_columns}
use Rattle.sky_urlenc.specs.EventType.{comma}
use Rattle.std.specs.List.{join_with_byte}
use Rattle.sky_urlenc.proofs.RowTexts.{left_from}
use Rattle.sky_urlenc.proofs.event_kind.append_key_names.Given as goal

-- the names so far, and those that are left
abbrev pub invariant-loop-column : goal.invariant-loop-column
invariant-loop-column l =
    string_bytes l.into ++ left_from comma l.first (map (λ column. column.name) (key_columns (drop l.column-index l.columns)))
    ≡ string_bytes l.initial.into ++ join_with_byte comma (map (λ column. column.name) (key_columns l.columns))
