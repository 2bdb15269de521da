-- A write in a session's transaction, mark by mark, or in one of its own.
use Rattle.std.proofs.Common.{[], ◌∷◌, ◌∙◌, ap, None}
use Rattle.sky_keys.specs.Waits.{other_holder}
use Rattle.sky_model.specs.History.{of_session, tabled, wrote}
use Rattle.sky_model.specs.State.{RowPart}
use Rattle.sky_model.specs.OwnTransaction.{commit_of}
use Rattle.sky_row_store.specs.Effects.{with_effects}
use Rattle.sky_state.specs.Seen.{seen}
use Rattle.sky_state.specs.declared.places.Places.{Places}
use Rattle.sky_row_writes.proofs.OwnLemmas.{part-written}
use Rattle.sky_row_writes.proofs.WrittenLemmas.{holder-begun, places-kept, owns-written, in_block}
use Rattle.sky_row_writes.proofs.own_transaction.write_own.Goals as goal

pub wrote_alone-requires-clause-found : goal.wrote_alone-requires-clause-found
wrote_alone-requires-clause-found c = ap (λ (p : Places). p.row) c.requires.found

pub wrote-requires-clause-found : goal.wrote-requires-clause-found
wrote-requires-clause-found c =
    c.requires.found ∙ places-kept c.args.state.now c.begin_own.new.state c.args.key.table c.args.key.key c.begin_own.ensures.stay c.begin_own.ensures.locks

pub wrote-requires-clause-free : goal.wrote-requires-clause-free
wrote-requires-clause-free c =
    ap (λ (p : RowPart). other_holder p.holder c.args.who c.args.key.table c.args.key.key) (c.in_ok-begin_own.ensures.ok)
    ∙ ap (λ holder. other_holder holder c.args.who c.args.key.table c.args.key.key) (holder-begun (seen c.args.state.now) c.args.who c.args.txid ((seen c.args.state.now).session c.args.who).txid)
    ∙ c.requires.free

pub commit_own-requires : goal.commit_own-requires
commit_own-requires c =
    owns-written (seen c.args.state.now) (seen c.begin_own.new.state) (seen c.wrote.new.self) c.args.who c.args.txid c.args.key.table c.args.key.key None c.args.row
    c.requires.id c.in_ok-begin_own.ensures.ok c.in_ok-wrote.ensures

pub returns-clause-marks : goal.returns-clause-marks
returns-clause-marks c =
    part-written (seen c.args.state.now) (seen c.begin_own.new.state) (seen c.wrote.new.self) (seen c.commit_own.new.state) c.args.who c.args.txid
    (tabled (wrote (of_session c.args.who) c.args.txid c.args.key.table c.args.key.key None c.args.row) ∷ []) c.in_ok-begin_own.ensures.ok c.in_ok-wrote.ensures
    (in_block (seen c.args.state.now) (seen c.begin_own.new.state) (seen c.wrote.new.self) c.args.who c.args.txid c.args.key.table c.args.key.key None c.args.row c.in_ok-begin_own.ensures.ok c.in_ok-wrote.ensures)
    c.in_ok-commit_own.ensures.marks

pub returns-clause-told : goal.returns-clause-told
returns-clause-told c =
    c.in_ok-commit_own.ensures.told
    ∙ ap (λ block. with_effects c.args.effects.now (commit_of c.args.who c.args.txid block))
    (in_block (seen c.args.state.now) (seen c.begin_own.new.state) (seen c.wrote.new.self) c.args.who c.args.txid c.args.key.table c.args.key.key None c.args.row c.in_ok-begin_own.ensures.ok c.in_ok-wrote.ensures)
