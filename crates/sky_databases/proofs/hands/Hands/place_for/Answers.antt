use Rattle.std.proofs.Common.{◌≡◌, None, position, sym, ◌∙◌}
use Rattle.sky_databases.specs.Hands.{is_hand_of}
use Rattle.sky_databases.proofs.HandsAt.{is-place, none-found, place-added, nothing-added}
use Rattle.sky_databases.proofs.hands.Hands.place_for.Goals as goal

pub returns-in-Some-clause-place : goal.returns-in-Some-clause-place
returns-in-Some-clause-place c = is-place c.args.database c.args.table.now c.args.self.now c.in-Some.place (sym c.in-Some.ensures)

pub returns-clause-place : goal.returns-clause-place
returns-clause-place c =
    let none : position (is_hand_of c.args.database c.args.table.now) c.args.self.now ≡ None = sym c.place.ensures ∙ none-found c.place.result c.in_default.not-Some in
    place-added c.args.database c.args.table.now c.in_ok-table.table c.self.inside.hands.items c.args.self.now c.push.new.self.items c.len-place.result c.self.view_is none c.in_ok-table.ensures c.in_ok-push.ensures.items
    (c.len-place.ensures ∙ c.self.inside.hands.ok.0)

pub returns-clause-same : goal.returns-clause-same
returns-clause-same c =
    let none : position (is_hand_of c.args.database c.args.table.now) c.args.self.now ≡ None = sym c.place.ensures ∙ none-found c.place.result c.in_default.not-Some in
    nothing-added c.args.database c.args.table.now c.in_ok-table.table c.self.inside.hands.items c.args.self.now c.push.new.self.items c.self.view_is none c.in_ok-table.ensures c.in_ok-push.ensures.items
