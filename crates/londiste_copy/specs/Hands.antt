-- What the worker that copies a table has in hand.
use Rattle.sky_model.specs.Hands as model
use Rattle.londiste_copy.specs.declared.hand.Hand.{Hand}
use Rattle.londiste_copy.specs.declared.hand.Hand.TheVariants as variants

-- the definitions' hand
abbrev pub hand_of : Hand → model.Hand
hand_of (variants.Copy copy) = model.of_copy copy
hand_of (variants.Batch batch) = model.of_batch batch
