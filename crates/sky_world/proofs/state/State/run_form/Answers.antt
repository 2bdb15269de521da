use Rattle.std.proofs.Common.{◌≡◌, ap, subst, sym, Result, Ok, Err, IfOk, IfErr, Vec, Global}
use Rattle.sky_model.specs.declared.reply.Reply.{Reply}
use Rattle.sky_model.specs.declared.stop.Stop.{Stop}
use Rattle.sky_model.specs.NodesOfWorld.{WorldOutcome}
use Rattle.sky_model.specs.Outcome.{Checked}
use Rattle.sky_model.specs.State.{Database}
use Rattle.sky_model.specs.WorkersOfWorld.{node_form}
use Rattle.sky_world.specs.Seen.{seen_state}
use Rattle.sky_world.specs.Views.{StateView}
use Rattle.sky_world.specs.Nodes.{DoesAll, Stopped, Ran, as_list, StopsLike}
use Rattle.sky_world.proofs.ServedNodes.{does-alone, stops-alone}
use Rattle.sky_world.proofs.state.State.run_form.Goals as goal

-- the one answer of a statement, as a list
given-alone : {D : Type 0} (seen : D → Database) (old s : StateView D) (ran : Result Reply Stop) (given : Result (Vec Reply Global) Stop) (checked whole : Checked WorldOutcome) → whole ≡ checked → Ran seen old s ran checked → IfOk given (λ replies. as_list ran ≡ Ok replies.items)
    → IfOk given (λ replies. DoesAll seen old s replies.items whole)
given-alone seen old s ran (Ok replies) checked whole same does is = subst (DoesAll seen old s replies.items) (sym same) (does-alone old s ran replies.items checked does is)
given-alone seen old s ran (Err stop) checked whole same does is = tt

-- or why there is none
stopped-alone : {D : Type 0} (seen : D → Database) (old s : StateView D) (ran : Result Reply Stop) (given : Result (Vec Reply Global) Stop) (checked whole : Checked WorldOutcome) → whole ≡ checked → Ran seen old s ran checked → IfErr given (StopsLike ran)
    → IfErr given (λ stop. Stopped seen old s stop whole)
stopped-alone seen old s ran (Ok replies) checked whole same does is = tt
stopped-alone seen old s ran (Err stop) checked whole same does is = subst (Stopped seen old s stop) (sym same) (stops-alone seen old s ran stop checked does is)

pub returns-in-CreateRoot-clause-ok : goal.returns-in-CreateRoot-clause-ok
returns-in-CreateRoot-clause-ok g c = given-alone g.D.Store.seen _ _ _ _ _ _ (ap (node_form (seen_state g.D.Store.seen c.args.self.now) c.args.database) c.in-CreateRoot.is) c.create_root.ensures c.as_list.ensures.ok

pub returns-in-CreateRoot-clause-err : goal.returns-in-CreateRoot-clause-err
returns-in-CreateRoot-clause-err g c = stopped-alone g.D.Store.seen _ _ _ _ _ _ (ap (node_form (seen_state g.D.Store.seen c.args.self.now) c.args.database) c.in-CreateRoot.is) c.create_root.ensures c.as_list.ensures.err

pub returns-in-CreateLeaf-clause-ok : goal.returns-in-CreateLeaf-clause-ok
returns-in-CreateLeaf-clause-ok g c = given-alone g.D.Store.seen _ _ _ _ _ _ (ap (node_form (seen_state g.D.Store.seen c.args.self.now) c.args.database) c.in-CreateLeaf.is) c.create_leaf.ensures c.as_list-in-CreateLeaf.ensures.ok

pub returns-in-CreateLeaf-clause-err : goal.returns-in-CreateLeaf-clause-err
returns-in-CreateLeaf-clause-err g c = stopped-alone g.D.Store.seen _ _ _ _ _ _ (ap (node_form (seen_state g.D.Store.seen c.args.self.now) c.args.database) c.in-CreateLeaf.is) c.create_leaf.ensures c.as_list-in-CreateLeaf.ensures.err

pub returns-in-AddTable-clause-ok : goal.returns-in-AddTable-clause-ok
returns-in-AddTable-clause-ok g c = given-alone g.D.Store.seen _ _ _ _ _ _ (ap (node_form (seen_state g.D.Store.seen c.args.self.now) c.args.database) c.in-AddTable.is) c.add_table.ensures c.as_list-in-AddTable.ensures.ok

pub returns-in-AddTable-clause-err : goal.returns-in-AddTable-clause-err
returns-in-AddTable-clause-err g c = stopped-alone g.D.Store.seen _ _ _ _ _ _ (ap (node_form (seen_state g.D.Store.seen c.args.self.now) c.args.database) c.in-AddTable.is) c.add_table.ensures c.as_list-in-AddTable.ensures.err

pub returns-in-RemoveTable-clause-ok : goal.returns-in-RemoveTable-clause-ok
returns-in-RemoveTable-clause-ok g c = given-alone g.D.Store.seen _ _ _ _ _ _ (ap (node_form (seen_state g.D.Store.seen c.args.self.now) c.args.database) c.in-RemoveTable.is) c.remove_table.ensures c.as_list-in-RemoveTable.ensures.ok

pub returns-in-RemoveTable-clause-err : goal.returns-in-RemoveTable-clause-err
returns-in-RemoveTable-clause-err g c = stopped-alone g.D.Store.seen _ _ _ _ _ _ (ap (node_form (seen_state g.D.Store.seen c.args.self.now) c.args.database) c.in-RemoveTable.is) c.remove_table.ensures c.as_list-in-RemoveTable.ensures.err

pub returns-in-TableState-clause-ok : goal.returns-in-TableState-clause-ok
returns-in-TableState-clause-ok g c = given-alone g.D.Store.seen _ _ _ _ _ _ (ap (node_form (seen_state g.D.Store.seen c.args.self.now) c.args.database) c.in-TableState.is) c.table_state.ensures c.as_list-in-TableState.ensures.ok

pub returns-in-TableState-clause-err : goal.returns-in-TableState-clause-err
returns-in-TableState-clause-err g c = stopped-alone g.D.Store.seen _ _ _ _ _ _ (ap (node_form (seen_state g.D.Store.seen c.args.self.now) c.args.database) c.in-TableState.is) c.table_state.ensures c.as_list-in-TableState.ensures.err

pub returns-in-Restart-clause-ok : goal.returns-in-Restart-clause-ok
returns-in-Restart-clause-ok g c = given-alone g.D.Store.seen _ _ _ _ _ _ (ap (node_form (seen_state g.D.Store.seen c.args.self.now) c.args.database) c.in-Restart.is) c.restart.ensures c.as_list-in-Restart.ensures.ok

pub returns-in-Restart-clause-err : goal.returns-in-Restart-clause-err
returns-in-Restart-clause-err g c = stopped-alone g.D.Store.seen _ _ _ _ _ _ (ap (node_form (seen_state g.D.Store.seen c.args.self.now) c.args.database) c.in-Restart.is) c.restart.ensures c.as_list-in-Restart.ensures.err

pub returns-in-RestartTable-clause-ok : goal.returns-in-RestartTable-clause-ok
returns-in-RestartTable-clause-ok g c = given-alone g.D.Store.seen _ _ _ _ _ _ (ap (node_form (seen_state g.D.Store.seen c.args.self.now) c.args.database) c.in-RestartTable.is) c.restart_table.ensures c.as_list-in-RestartTable.ensures.ok

pub returns-in-RestartTable-clause-err : goal.returns-in-RestartTable-clause-err
returns-in-RestartTable-clause-err g c = stopped-alone g.D.Store.seen _ _ _ _ _ _ (ap (node_form (seen_state g.D.Store.seen c.args.self.now) c.args.database) c.in-RestartTable.is) c.restart_table.ensures c.as_list-in-RestartTable.ensures.err
