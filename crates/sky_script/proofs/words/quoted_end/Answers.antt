use Rattle.sky_script.proofs.WordLemmas.{reaches_none, reaches_above, ends_at_end}
use Rattle.sky_script.proofs.words.quoted_end.Goals as goal

pub loop-i-init : goal.loop-i-init
loop-i-init c = reaches_none c.args.bytes.now

pub loop-i-preserved-then-byte-gt39 : goal.loop-i-preserved-then-byte-gt39
loop-i-preserved-then-byte-gt39 c = reaches_above c.args.bytes.now _ c.loop-i.i c.loop-i-test.true c.if-byte-gt39.true c.loop-i.invariant

pub returns : goal.returns
returns c = ends_at_end c.args.bytes.now _ c.loop-i.i c.loop-i-test.false c.loop-i.invariant
