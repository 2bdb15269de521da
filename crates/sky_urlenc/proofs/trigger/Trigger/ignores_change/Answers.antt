use Rattle.std.proofs.Common.{arith}
use Rattle.sky_val.specs.OrderLaws.{val_eq-ties}
use Rattle.sky_urlenc.proofs.Ignored.{none_left, same_left, ignored_left, told_left, none_ignored}
use Rattle.sky_urlenc.proofs.trigger.Trigger.ignores_change.Goals as goal

pub returns-then-is_empty : goal.returns-then-is_empty
returns-then-is_empty c = grind (arith, none_ignored)

pub loop-column-preserved-then-eq : goal.loop-column-preserved-then-eq
loop-column-preserved-then-eq c = grind (arith, same_left, val_eq-ties)

pub returns-then-not-ignores : goal.returns-then-not-ignores
returns-then-not-ignores c = grind (arith, told_left, val_eq-ties)

pub loop-column-preserved : goal.loop-column-preserved
loop-column-preserved c = grind (arith, ignored_left, val_eq-ties)

pub returns : goal.returns
returns c = grind (arith, none_left)
