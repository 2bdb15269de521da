-- The changes of an update, as they are kept: one in place, or a list.
use Rattle.std.specs.Prelude.{List, [], ◌∷◌}
use Rattle.sky_model.specs.declared.stmt.Set.{Set}
use Rattle.sky_model.specs.declared.stmt.SetValues.{SetValues}
use Rattle.sky_model.specs.declared.stmt.SetValues.TheVariants.{One, Listed}

-- the changes, in either form
abbrev pub set_values : SetValues → List Set
set_values (One set) = set ∷ []
set_values (Listed sets) = sets.items
