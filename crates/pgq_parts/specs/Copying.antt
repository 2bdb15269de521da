-- Copies of tables: what a copy's transaction may write, and what it writes.
use Rattle.std.specs.Prelude.{List, Some, None}
use Rattle.sky_val.specs.declared.val.Val.{Val}
use Rattle.sky_val.specs.declared.column.Column.{Column}
use Rattle.sky_val.specs.Schemas.{key_of}
use Rattle.sky_model.specs.Rows.{Write}
pub use Rattle.londiste_apply.specs.Writing.{none_after, is_own_last, MayWrite}
pub use Rattle.sky_store.specs.Copying.{MayCopy}

-- the deletion of a key
abbrev pub deletion : List Val → Write
deletion key = record { key = key; row = None }

-- a row with its key, in a table of these columns, and the write of it
abbrev pub under_key : List Column → List Val → List Val × List Val
under_key columns row = (key_of columns row, row)

abbrev pub insertion : List Val × List Val → Write
insertion keyed = record { key = keyed.0; row = Some keyed.1 }
