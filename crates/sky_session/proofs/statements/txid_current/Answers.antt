use Rattle.std.proofs.Common.{◌∙◌}
use Rattle.sky_state.specs.Seen.{seen}
use Rattle.sky_row_writes.proofs.OwnLemmas.{begun-txid}
use Rattle.sky_session.proofs.Steps.{does-take}
use Rattle.sky_session.proofs.statements.txid_current.Goals as goal

pub commit_own-requires : goal.commit_own-requires
commit_own-requires c = begun-txid (seen c.args.state.now) (seen c.begin_own.new.state) c.args.who c.in_ok-txid.txid c.in_ok-txid.ensures.ok c.in_ok-begin_own.ensures.ok

pub returns : goal.returns
returns c =
    does-take (seen c.args.state.now) (seen c.begin_own.new.state) (seen c.commit_own.new.state) c.args.step.now c.answer.new.self c.args.who c.in_ok-txid.txid c.in_ok-txid.ensures.ok c.in_ok-begin_own.ensures.ok c.in_ok-commit_own.ensures.marks
    c.in_ok-answer.ensures.replied (c.in_ok-answer.ensures.same ∙ c.in_ok-commit_own.ensures.told)
