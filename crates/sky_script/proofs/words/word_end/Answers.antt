use Rattle.sky_script.proofs.WordLemmas.{reaches_none, reaches_plain, reaches_above, ends_at, ends_at_end}
use Rattle.sky_script.proofs.words.word_end.Goals as goal

pub loop-i-init : goal.loop-i-init
loop-i-init c = reaches_none c.args.bytes.now

pub loop-i-preserved-then-byte-gt39 : goal.loop-i-preserved-then-byte-gt39
loop-i-preserved-then-byte-gt39 c = reaches_above c.args.bytes.now _ c.loop-i.i c.loop-i-test.true c.if-byte-gt39.true c.loop-i.invariant

pub returns-then-byte-eq32 : goal.returns-then-byte-eq32
returns-then-byte-eq32 c = ends_at c.args.bytes.now c.loop-i.i c.loop-i-test.true c.if-byte-eq32.true c.loop-i.invariant

pub returns-then-byte-eq39 : goal.returns-then-byte-eq39
returns-then-byte-eq39 c = c.quoted_end.ensures

pub loop-i-preserved : goal.loop-i-preserved
loop-i-preserved c = reaches_plain c.args.bytes.now _ c.loop-i.i c.loop-i-test.true c.if-byte-eq32.false c.if-byte-eq39.false c.loop-i.invariant

pub returns : goal.returns
returns c = ends_at_end c.args.bytes.now _ c.loop-i.i c.loop-i-test.false c.loop-i.invariant
