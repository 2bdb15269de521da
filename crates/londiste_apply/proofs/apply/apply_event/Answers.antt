use Rattle.std.proofs.Common.{sym, ap, ◌∙◌}
use Rattle.std.specs.Option.{option_copied}
use Rattle.sky_val.specs.declared.event.Event.{Event}
use Rattle.sky_state.specs.Seen.{seen}
use Rattle.londiste_apply.proofs.Steps.{makes-unnamed}
use Rattle.londiste_apply.proofs.apply.apply_event.Goals as goal

pub returns-in-None-clause-made : goal.returns-in-None-clause-made
returns-in-None-clause-made g c = makes-unnamed (seen (g.R.RowStore.state c.args.rows.now)) c.args.txid c.args.event.now (sym (ap Event.ev_extra1 c.event.view_is) ∙ ap option_copied c.in-None.is)
