-- The versions of a table's keys: for each key, what the transactions that weren't rolled back wrote last.
use Rattle.std.specs.Prelude.{ℕ, List, [], ◌∷◌, false, ◌==◌, if◌then◌else◌}
use Rattle.sky_val.specs.Entries.{Entries}
use Rattle.sky_keys.specs.declared.version.Version.{Version}
use Rattle.sky_keys.specs.Versions.{written, forgotten}
use Rattle.sky_model.specs.History.{ended, tabled, wrote, History}

abbrev pub versions : ℕ → History → Entries (List Version)
versions table [] = []
versions table (tabled (wrote whose t n key old new) ∷ h) = if n == table then written t key new (versions table h) else versions table h
versions table (ended whose t false ∷ h) = forgotten t (versions table h)
versions table (_ ∷ h) = versions table h
