use Rattle.std.proofs.Common.{All, None, IfOk, sym, subst}
use Rattle.sky_state.specs.Seen.{seen}
use Rattle.londiste_calls.specs.Picks.{pick_of}
use Rattle.londiste_apply.specs.Applying.{MayWriteFor, Works}
use Rattle.londiste_apply.proofs.Steps.{marked-none, picked-leaf, picked-none, works-none}
use Rattle.londiste_apply.proofs.apply.apply_picked.Goals as goal

pub apply_all-requires-clause-may : goal.apply_all-requires-clause-may
apply_all-requires-clause-may g c =
    subst (All (MayWriteFor (seen (g.R.RowStore.state c.args.rows.now)) c.args.txid)) (picked-leaf c.args.node.now c.in-Some.leaf.now c.in-Some.ensures (pick_of c.args.pick.now) c.args.events.now) c.requires.may

pub returns-in-Some-clause-work : goal.returns-in-Some-clause-work
returns-in-Some-clause-work g c =
    subst (λ events. IfOk c.apply_all.result (λ work. Works work (seen (g.R.RowStore.state c.args.rows.now)) (seen (g.R.RowStore.state c.apply_all.new.rows)) c.args.txid events))
    (sym (picked-leaf c.args.node.now c.in-Some.leaf.now c.in-Some.ensures (pick_of c.args.pick.now) c.args.events.now)) c.apply_all.ensures.work

pub returns-in-None-clause-work : goal.returns-in-None-clause-work
returns-in-None-clause-work g c =
    subst (λ events. Works (record { many = 0; bad = None }) (seen (g.R.RowStore.state c.args.rows.now)) (seen (g.R.RowStore.state c.args.rows.now)) c.args.txid events) (sym (picked-none c.args.node.now c.in-None.ensures (pick_of c.args.pick.now) c.args.events.now))
    (works-none (seen (g.R.RowStore.state c.args.rows.now)) c.args.txid c.requires.runs)

pub returns-in-None-clause-marked : goal.returns-in-None-clause-marked
returns-in-None-clause-marked g c = marked-none (seen (g.R.RowStore.state c.args.rows.now))
