use Rattle.std.proofs.Common.{◌≡◌, ◌++◌, string_bytes}
use Rattle.sky_urlenc.specs.Held.{HoldsAll}
use Rattle.sky_urlenc.specs.RowText.{column_texts, row_text}
use Rattle.sky_urlenc.proofs.RowTexts.{left_text}
use Rattle.sky_urlenc.proofs.encode.encode_row.Given as goal

-- the text so far, with what is left to write, is the row's text; and what the types say of the names and values that are left, they say of all
abbrev pub invariant-loop-place : goal.invariant-loop-place
invariant-loop-place l = record {
  text : string_bytes l.text ++ left_text l.place-iterator.count (column_texts l.place-iterator.iter.a.rest.now l.place-iterator.iter.b.rest.now) ≡ row_text l.schema l.row;
  held : HoldsAll l.place-iterator.iter.a.rest.now l.place-iterator.iter.b.rest.now → HoldsAll l.schema l.row;
}
