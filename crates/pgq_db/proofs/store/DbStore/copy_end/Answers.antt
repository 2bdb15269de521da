use Rattle.std.proofs.Common.{◌≡◌, true, sym, ◌∙◌, ap, subst}
use Rattle.sky_txid.specs.Ids.{contains}
use Rattle.sky_model.specs.History.{of_copy, ended}
use Rattle.sky_model.specs.State.{after_mark}
use Rattle.sky_model.specs.StepNode.{ending_copy}
use Rattle.sky_state.specs.Seen.{seen}
use Rattle.sky_histories.proofs.MadeCopies.{copy-goes-on}
use Rattle.pgq_parts.specs.Views.{DbView}
use Rattle.pgq_parts.specs.Seen.{seen_database}
use Rattle.pgq_parts.proofs.CopySteps.{end-nothing, end-does, copied-as}
use Rattle.sky_store.proofs.Serving.{serves-steps}
use Rattle.pgq_db.proofs.store.DbStore.copy_end.Goals as goal

pub returns-in_default-clause-serves : goal.returns-in_default-clause-serves
returns-in_default-clause-serves g c =
    end-nothing (seen_database c.args.self.now) c.args.table.now c.args.number c.requires.number c.args.snapshot.now c.args.tick c.requires.may (sym c.in_default.ensures)

pub returns-in_default-clause-steps : goal.returns-in_default-clause-steps
returns-in_default-clause-steps g c =
    serves-steps (seen_database c.args.self.now) _ (ending_copy c.args.table.now c.args.snapshot.now c.args.tick)
    (end-nothing (seen_database c.args.self.now) c.args.table.now c.args.number c.requires.number c.args.snapshot.now c.args.tick c.requires.may (sym c.in_default.ensures))

pub commit_copy-requires : goal.commit_copy-requires
commit_copy-requires g c =
    subst (λ (v : DbView). contains c.in-Some.txid (seen v.rows).workers ≡ true) (sym c.self.view_is)
    (copy-goes-on (seen_database c.args.self.now) c.requires.made c.args.number c.in-Some.txid (sym c.in-Some.ensures)).runs

pub returns-clause-serves : goal.returns-clause-serves
returns-clause-serves g c =
    end-does (seen_database c.args.self.now) c.args.table.now c.args.number c.requires.number c.args.snapshot.now c.args.tick c.requires.may c.in-Some.txid (sym c.in-Some.ensures) (seen_database c.commit_copy.new.self)
    (c.commit_copy.ensures c.args.number ∙ ap (λ d. after_mark d (ended (of_copy c.args.number) c.in-Some.txid true))
    (copied-as _ _ c.end_leaf_copy.new.node c.args.table.now c.args.snapshot.now c.args.tick c.self.view_is c.in_ok-end_leaf_copy.ensures))

pub returns-clause-steps : goal.returns-clause-steps
returns-clause-steps g c =
    serves-steps (seen_database c.args.self.now) _ (ending_copy c.args.table.now c.args.snapshot.now c.args.tick)
    (end-does (seen_database c.args.self.now) c.args.table.now c.args.number c.requires.number c.args.snapshot.now c.args.tick c.requires.may c.in-Some.txid (sym c.in-Some.ensures) (seen_database c.commit_copy.new.self)
    (c.commit_copy.ensures c.args.number ∙ ap (λ d. after_mark d (ended (of_copy c.args.number) c.in-Some.txid true))
    (copied-as _ _ c.end_leaf_copy.new.node c.args.table.now c.args.snapshot.now c.args.tick c.self.view_is c.in_ok-end_leaf_copy.ensures)))
