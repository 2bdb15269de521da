use Rattle.std.proofs.Common.{sym, ◌∙◌}
use Rattle.sky_val.specs.Schemas.{key_of}
use Rattle.sky_state.specs.Seen.{seen}
use Rattle.londiste_apply.proofs.Steps.{makes-missing, makes-unread, makes-read, may-here}
use Rattle.londiste_apply.proofs.apply.apply_to.Goals as goal

pub returns-in_default-clause-made : goal.returns-in_default-clause-made
returns-in_default-clause-made g c = makes-missing (seen (g.R.RowStore.state c.args.rows.now)) c.args.txid c.args.event.now c.args.name.now c.requires.named c.in_default.ensures

pub returns-in-None-clause-made : goal.returns-in-None-clause-made
returns-in-None-clause-made g c =
    makes-unread (seen (g.R.RowStore.state c.args.rows.now)) c.args.txid c.args.event.now c.args.name.now c.requires.named c.in-Some.table c.in-Some.ensures.0 c.in-Some.schema.now c.in-Some.ensures.1 (sym c.in-None.is ∙ c.in_ok-change.ensures)

pub make_change-requires-clause-may : goal.make_change-requires-clause-may
make_change-requires-clause-may g c = may-here (seen (g.R.RowStore.state c.args.rows.now)) c.args.txid c.args.event.now c.args.name.now c.requires.named c.in-Some.table c.in-Some.ensures.0 c.requires.may

pub make_change-requires-clause-key : goal.make_change-requires-clause-key
make_change-requires-clause-key g c = c.in_ok-key-in-Some-change.ensures ∙ (λ i. key_of (c.in-Some.ensures.1 i) (c.change.view_is i).row)

pub returns-in_ok-key-in-Some-change-clause-made : goal.returns-in_ok-key-in-Some-change-clause-made
returns-in_ok-key-in-Some-change-clause-made g c =
    makes-read (seen (g.R.RowStore.state c.args.rows.now)) c.args.txid c.args.event.now c.args.name.now c.requires.named c.in-Some.table c.in-Some.ensures.0 c.in-Some.schema.now c.in-Some.ensures.1
    c.make_change.result (seen (g.R.RowStore.state c.make_change.new.rows)) c.in-Some-change.change (sym c.in-Some-change.is ∙ c.in_ok-change.ensures) c.make_change.ensures.made
