use Rattle.std.proofs.Common.{◌∷◌, [], ◌++◌, false, length, length-append, option_and_then, slice_get, arith, ap, ◌∙◌}
use Rattle.sky_names.specs.Places.{place_of}
use Rattle.sky_names.specs.Named.{NamedView}
use Rattle.sky_rows.specs.Table.{TableView}
use Rattle.sky_state.specs.Views.{RowStateView}
use Rattle.sky_state.proofs.SessionLists.{made-as}
use Rattle.sky_state.proofs.Owning.{within-more}
use Rattle.sky_state.proofs.row_state.RowState.table_made.Goals as goal

pub returns : goal.returns
returns c =
    made-as _ _ _ _ _ c.args.name c.args.schema c.self.view_is c.in_ok-add.ensures.added (c.push_reserved.ensures.items ∙ ap (λ items. items ++ false ∷ []) c.in_ok-reserve.ensures.items) c.new-table.ensures
    c.in_ok-add.ensures.values

pub add-requires-clause-new : goal.add-requires-clause-new
add-requires-clause-new c = ap (option_and_then (slice_get c.self.inside.tables.values)) (ap (λ (v : RowStateView). place_of c.args.name v.tables.names) c.self.view_is ∙ c.requires.new)

pub invariant_of-self-2 : goal.invariant_of-self-2
invariant_of-self-2 c =
    let names = ap (λ (t : NamedView TableView). length t.names) c.in_ok-add.ensures.added in
    let added = length-append c.self.inside.tables.names (c.args.name ∷ []) in
    let room = c.requires.room in
    let was = ap (λ (v : RowStateView). length v.tables.names) c.self.view_is in
    (omega (arith, names, added, room, was), (c.self.invariant.1.0, within-more _ _ _ (omega (arith, names, added)) c.self.invariant.1.1))
