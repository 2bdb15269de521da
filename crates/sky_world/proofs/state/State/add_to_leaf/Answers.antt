use Rattle.std.proofs.Common.{ℕ, Option, subst}
use Rattle.sky_model.specs.declared.reply.Refusal.TheVariants.{TableBusy}
use Rattle.sky_model.specs.StepNode.{adding}
use Rattle.sky_store.specs.Served.{ServesUnlessBusy}
use Rattle.sky_world.proofs.ServedNodes.{done-there, undone-there, ran-as}
use Rattle.sky_world.proofs.state.State.add_to_leaf.Goals.{in-Ok-None, in-Ok-Some, in-Err}
use Rattle.sky_world.proofs.state.State.add_to_leaf.Goals as goal

pub returns : goal.returns
returns g c =
    let store = c.get_mut-store in
    let added = c.leaf_add.new.self in
    let Does : Option ℕ → Type 0 = λ busy. ServesUnlessBusy busy (g.D.Store.seen store.result.now) (g.D.Store.seen added) (adding c.args.table.now) in
    elim c.match-leaf_add.branch [
      | in-Ok-None w ↦ ran-as g.D.Store.seen c.args.self.now _ c.match-leaf_add.result _ _ w.result-is
          (done-there _ _ c.args.database store.result.now added (adding c.args.table.now) c.self.view_is store.ensures.within store.ensures.value c.requires.whole (subst Does w.in-Ok-None.field-0-is w.in-Ok-None.ensures.serves))
      | in-Ok-Some w ↦ (let busy = subst Does w.in-Ok-Some.field-0-is w.in-Ok-Some.ensures.serves in
          ran-as g.D.Store.seen c.args.self.now _ c.match-leaf_add.result _ _ w.result-is
          (undone-there _ _ c.args.database store.result.now added (adding c.args.table.now) (TableBusy w.in-Ok-Some.writer) c.self.view_is store.ensures.within store.ensures.value c.requires.whole busy.refused busy.same))
      | in-Err w ↦ ran-as g.D.Store.seen c.args.self.now _ c.match-leaf_add.result _ _ w.result-is tt
    ]
