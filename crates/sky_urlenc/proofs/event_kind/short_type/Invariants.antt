use Rattle.std.proofs.Common.{◌≡◌, ◌++◌, map, drop}
use Rattle.sky_val.specs.Schemas.{key_columns}
use Rattle.sky_urlenc.specs.EventType.{comma, event_type}
use Rattle.sky_urlenc.proofs.RowTexts.{left_from}
use Rattle.sky_urlenc.proofs.event_kind.short_type.Given as goal

-- the letter, the colon and the names so far, and the names that are left
abbrev pub invariant-loop-column : goal.invariant-loop-column
invariant-loop-column l =
    l.text.bytes ++ left_from comma l.first (map (λ column. column.name) (key_columns (drop l.column-index l.column-items))) ≡ event_type l.fn.op l.schema
