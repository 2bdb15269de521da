use Rattle.std.proofs.Common.{arith}
use Rattle.londiste_state.specs.declared.state.TableState.TheVariants.{WannaSync, DoSync}
use Rattle.londiste_state.proofs.StateTexts.{only_state, is_written, plain_refused}
use Rattle.londiste_state.proofs.state.TableState.parse.Goals as goal

pub returns-in-Some-clause-read_back : goal.returns-in-Some-clause-read_back
returns-in-Some-clause-read_back c = only_state (WannaSync c.in-Some.tick) c.args.bytes.now (omega arith) c.in-Some.ensures

pub returns-in-Some-clause-bad : goal.returns-in-Some-clause-bad
returns-in-Some-clause-bad c = is_written (WannaSync c.in-Some.tick) c.args.bytes.now (omega arith) c.in-Some.ensures

pub returns-in-Some-tick_after-clause-read_back : goal.returns-in-Some-tick_after-clause-read_back
returns-in-Some-tick_after-clause-read_back c = only_state (DoSync c.in-Some-tick_after.tick) c.args.bytes.now (omega arith) c.in-Some-tick_after.ensures

pub returns-in-Some-tick_after-clause-bad : goal.returns-in-Some-tick_after-clause-bad
returns-in-Some-tick_after-clause-bad c = is_written (DoSync c.in-Some-tick_after.tick) c.args.bytes.now (omega arith) c.in-Some-tick_after.ensures

pub returns-clause-bad : goal.returns-clause-bad
returns-clause-bad c = rw c.ok_or.ensures.value (plain_refused c.args.bytes.now c.plain_state.result c.plain_state.ensures c.in_default.ensures c.in_default-tick_after.ensures)
