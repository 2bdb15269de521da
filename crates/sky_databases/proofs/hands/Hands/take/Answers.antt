use Rattle.std.proofs.Common.{sym, ◌∙◌, ap, None, option_map}
use Rattle.londiste_copy.specs.Hands.{hand_of}
use Rattle.sky_databases.specs.Hands.{hand_at}
use Rattle.sky_databases.proofs.HandsAt.{is-place, hand-there, hand-set, hand-none, put-back}
use Rattle.sky_databases.proofs.hands.Hands.take.Goals as goal

pub returns-in_err-place-clause-hand : goal.returns-in_err-place-clause-hand
returns-in_err-place-clause-hand c = ap (option_map hand_of) c.from_residual.ensures ∙ sym (hand-none c.args.database c.args.table.now c.args.self.now (sym c.in_err-place.ensures))

pub returns-in_err-place-clause-nothing : goal.returns-in_err-place-clause-nothing
returns-in_err-place-clause-nothing c =
    sym (put-back c.args.database c.args.table.now None (hand_at c.args.self.now) (hand-none c.args.database c.args.table.now c.args.self.now (sym c.in_err-place.ensures)))

pub returns-clause-hand : goal.returns-clause-hand
returns-clause-hand c =
    let at = is-place c.args.database c.args.table.now c.args.self.now c.in_ok-place.place (sym c.in_ok-place.ensures) in c.take_at.ensures.hand ∙ sym (hand-there c.args.database c.args.table.now c.args.self.now c.in_ok-place.place at)

pub returns-clause-nothing : goal.returns-clause-nothing
returns-clause-nothing c =
    let at = is-place c.args.database c.args.table.now c.args.self.now c.in_ok-place.place (sym c.in_ok-place.ensures) in ap hand_at c.take_at.ensures.nothing ∙ hand-set c.args.database c.args.table.now None c.args.self.now c.in_ok-place.place at
