-- What a table is seen as.
use Rattle.std.specs.Prelude.{ℕ, if◌then◌else◌, List, [], ◌∷◌, Option}
use Rattle.std.specs.Ordering.{eq_by_cmp}
use Rattle.sky_val.specs.declared.val.Val.{Val}
use Rattle.sky_val.specs.declared.column.Column.{Column}
use Rattle.sky_val.specs.Order.{key_cmp}
use Rattle.sky_val.specs.Entries.{Entries}
use Rattle.sky_keys.specs.declared.version.Version.{Version}
use Rattle.sky_keys.specs.Versions.{without, and_entry, unless_empty}
use Rattle.sky_rows.specs.Rows.{Places, place_at}

-- the columns; the versions of each key, the oldest first; and the place of each key that has some
pub record TableView : Type 0 where
  pub columns : List Column
  pub versions : Entries (List Version)
  pub places : Places

-- the place of a key, if it has a version
abbrev pub place_in : TableView → List Val → Option ℕ
place_in table key = place_at table.places key

-- without a transaction's versions at one key, which is removed if it has no others
abbrev pub forgotten_at : ℕ → List Val → Entries (List Version) → Entries (List Version)
forgotten_at t key [] = []
forgotten_at t key (e ∷ es) = if eq_by_cmp key_cmp key e.0 then and_entry e.0 (unless_empty (without t e.1)) es else e ∷ forgotten_at t key es
