use Rattle.std.proofs.Common.{option_and_then, sym, ap, ◌∙◌}
use Rattle.std.specs.Result.{result_ok}
use Rattle.sky_val.specs.declared.event.Event.{Event}
use Rattle.sky_urlenc.specs.Changes.{op_named}
use Rattle.sky_urlenc.specs.ReadRow.{read_row}
use Rattle.londiste_calls.proofs.Changes.{change-untyped, change-unread, change-read}
use Rattle.londiste_calls.proofs.change.Change.of.Goals as goal

pub returns-in_default : goal.returns-in_default
returns-in_default c = change-untyped c.args.schema.now c.args.event.now (c.in_default.ensures ∙ ap (λ (e : Event). option_and_then op_named e.ev_type) c.event.view_is)

pub returns-in-None : goal.returns-in-None
returns-in-None c = change-unread c.args.schema.now c.args.event.now c.in-Some.op (c.in-Some.ensures ∙ ap (λ (e : Event). option_and_then op_named e.ev_type) c.event.view_is)
    (sym c.in-None.is ∙ c.in_ok-row.ensures ∙ ap (λ (e : Event). option_and_then (λ text. result_ok (read_row c.args.schema.now text)) e.ev_data) c.event.view_is)

pub returns-in-Some-row : goal.returns-in-Some-row
returns-in-Some-row c = change-read c.args.schema.now c.args.event.now c.in-Some.op (c.in-Some.ensures ∙ ap (λ (e : Event). option_and_then op_named e.ev_type) c.event.view_is) c.in-Some-row.row
    (sym c.in-Some-row.is ∙ c.in_ok-row.ensures ∙ ap (λ (e : Event). option_and_then (λ text. result_ok (read_row c.args.schema.now text)) e.ev_data) c.event.view_is)
