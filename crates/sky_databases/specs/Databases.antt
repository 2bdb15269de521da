-- What contracts see of the databases of a world.
use Rattle.std.specs.Prelude.{List, ◌++◌, length, take, drop}
use Rattle.sky_names.specs.Named.{NamedView}

-- others under the same names, as many as before: what is too much is cut off, and what is missing stays
abbrev pub with_stores : {D : Type 0} → NamedView D → List D → NamedView D
with_stores d stores = record d { values = take (length d.values) (stores ++ drop (length stores) d.values) }
