use Rattle.std.proofs.Common.{ℕ, Option, subst}
use Rattle.sky_model.specs.declared.reply.Refusal.TheVariants.{TableBusy, TooMany}
use Rattle.sky_model.specs.declared.reply.Limit.TheVariants.{Triggers}
use Rattle.sky_model.specs.StepNode.{listing}
use Rattle.londiste_calls.specs.declared.faults.RootFault.{RootFault}
use Rattle.sky_store.specs.Served.{ServesUnlessBusy, RootRefused}
use Rattle.sky_world.proofs.ServedNodes.{done-there, undone-there, ran-as}
use Rattle.sky_world.proofs.state.State.add_to_root.Goals.{in-Ok-None, in-Ok-Some, in-Err-TooManyTriggers, in-Err-NoMemory}
use Rattle.sky_world.proofs.state.State.add_to_root.Goals as goal

pub returns : goal.returns
returns g c =
    let store = c.get_mut-store in
    let added = c.root_add.new.self in
    let Does : Option ℕ → Type 0 = λ busy. ServesUnlessBusy busy (g.D.Store.seen store.result.now) (g.D.Store.seen added) (listing c.args.table.now) in
    elim c.match-root_add.branch [
      | in-Ok-None w ↦ ran-as g.D.Store.seen c.args.self.now _ c.match-root_add.result _ _ w.result-is
          (done-there _ _ c.args.database store.result.now added (listing c.args.table.now) c.self.view_is store.ensures.within store.ensures.value c.requires.whole (subst Does w.in-Ok-None.field-0-is w.in-Ok-None.ensures.serves))
      | in-Ok-Some w ↦ (let busy = subst Does w.in-Ok-Some.field-0-is w.in-Ok-Some.ensures.serves in
          ran-as g.D.Store.seen c.args.self.now _ c.match-root_add.result _ _ w.result-is
          (undone-there _ _ c.args.database store.result.now added (listing c.args.table.now) (TableBusy w.in-Ok-Some.writer) c.self.view_is store.ensures.within store.ensures.value c.requires.whole busy.refused busy.same))
      | in-Err-TooManyTriggers w ↦ (let Refuses : RootFault → Type 0 = λ fault. RootRefused fault (g.D.Store.seen store.result.now) (g.D.Store.seen added) c.args.table.now in
          let full = subst Refuses w.in-Err-TooManyTriggers.field-0-is w.in-Err-TooManyTriggers.ensures.fault in
          ran-as g.D.Store.seen c.args.self.now _ c.match-root_add.result _ _ w.result-is
          (undone-there _ _ c.args.database store.result.now added (listing c.args.table.now) (TooMany Triggers) c.self.view_is store.ensures.within store.ensures.value c.requires.whole full.refused full.same))
      | in-Err-NoMemory w ↦ ran-as g.D.Store.seen c.args.self.now _ c.match-root_add.result _ _ w.result-is tt
    ]
