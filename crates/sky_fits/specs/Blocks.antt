-- A transaction block as the code keeps it, read as the definitions' one.
use Rattle.sky_model.specs.Sessions as model
use Rattle.sky_fits.specs.declared.standing.Block.{Block}
use Rattle.sky_fits.specs.declared.standing.Block.TheVariants.{Outside, Inside, Failed}

abbrev pub seen_block : Block → model.Block
seen_block Outside = model.outside
seen_block Inside = model.inside
seen_block Failed = model.failed
