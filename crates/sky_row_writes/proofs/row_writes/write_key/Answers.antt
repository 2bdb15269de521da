-- The old row isn't part of what is kept.
use Rattle.std.proofs.Common.{[], ◌∷◌, sym, ◌∙◌, ap}
use Rattle.sky_model.specs.History.{of_session, tabled, wrote}
use Rattle.sky_model.specs.OwnTransaction.{commit_of}
use Rattle.sky_row_store.specs.Effects.{with_effects}
use Rattle.sky_state.specs.Seen.{seen}
use Rattle.sky_row_writes.proofs.OwnLemmas.{with-append, begun-told}
use Rattle.sky_row_writes.proofs.WrittenLemmas.{same-parts}
use Rattle.sky_row_writes.proofs.row_writes.write_key.Goals as goal

pub returns-clause-marks : goal.returns-clause-marks
returns-clause-marks c = λ old.
    let d = seen c.args.state.now in
    c.in_ok-write_own.ensures.marks
    ∙ same-parts d c.args.who c.args.txid c.args.key.table c.args.key.key old c.args.row (d.session c.args.who).txid (commit_of c.args.who c.args.txid (d.session c.args.who).block)

pub returns-clause-told : goal.returns-clause-told
returns-clause-told c = λ old before is.
    let d = seen c.args.state.now in
    let marks = tabled (wrote (of_session c.args.who) c.args.txid c.args.key.table c.args.key.key old c.args.row) ∷ [] in
    let ends = commit_of c.args.who c.args.txid (d.session c.args.who).block in
    c.in_ok-answer.ensures.same ∙ c.in_ok-write_own.ensures.told ∙ ap (λ e. with_effects e ends) is ∙ with-append before marks ends
    ∙ sym (begun-told before c.args.who c.args.txid (d.session c.args.who).txid marks ends)
