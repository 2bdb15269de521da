-- Which events of a batch a leaf picks.
use Rattle.sky_model.specs.History as history
use Rattle.londiste_calls.specs.declared.pick.Pick.{Pick}
use Rattle.londiste_calls.specs.declared.pick.Pick.TheVariants as variants

-- the definitions' pick
abbrev pub pick_of : Pick → history.Pick
pick_of variants.Synced = history.of_synced
pick_of (variants.CopyOf table) = history.copy_of table
