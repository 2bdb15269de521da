use Rattle.std.proofs.Common.{◌∙◌, ◌∷◌, [], ◌++◌, sym, ap, length, refl}
use Rattle.sky_names.proofs.PlaceLemmas.{place_of_within}
use Rattle.sky_model.specs.StepNode.{copying_rows}
use Rattle.sky_model.specs.declared.reply.Reply.TheVariants.{RowsCopied, TableMoved}
use Rattle.londiste_state.specs.declared.state.TableState.TheVariants.{CatchingUp}
use Rattle.londiste_copy.specs.Copying.{last_row_key}
use Rattle.londiste_batches.proofs.Calls.{made-served}
use Rattle.londiste_copy.proofs.Moves.{columns-at, rows-fit, moves-more, moves-end, still-may, still-numbered}
use Rattle.londiste_copy.proofs.copying.copy_piece.Goals as goal

pub held_rows-requires-clause-there : goal.held_rows-requires-clause-there
held_rows-requires-clause-there g c = place_of_within c.args.table.now.name.now (g.D.Store.seen c.args.provider.now).part.tables c.args.table.now.from c.requires.same.there

pub schema-requires : goal.schema-requires
schema-requires g c = place_of_within c.args.table.now.name.now (g.D.Store.seen c.args.provider.now).part.tables c.args.table.now.from c.requires.same.there

pub copy_rows-requires-clause-may : goal.copy_rows-requires-clause-may
copy_rows-requires-clause-may g c = record { name = c.args.table.now.name.now; number = c.requires.same.here; may = c.requires.may }

pub copy_rows-requires-clause-fit : goal.copy_rows-requires-clause-fit
copy_rows-requires-clause-fit g c =
    rows-fit (g.D.Store.seen c.args.provider.now) (g.D.Store.seen c.args.replica.now) c.requires.provider_made c.args.table.now.name.now _ c.args.hand c.hand.view_is _ c.as_ref.ensures.value c.in_ok-rows.rows.items (c.in_ok-rows.ensures c.args.table.now.name.now c.requires.same.there)
    c.args.table.now.from c.args.table.now.to c.requires.same c.requires.held

pub returns-then-is_whole : goal.returns-then-is_whole
returns-then-is_whole g c =
    moves-more (g.D.Store.seen c.args.provider.now) (g.D.Store.seen c.args.replica.now) c.requires.provider_made c.args.table.now.name.now _ c.args.hand c.hand.view_is _ c.as_ref.ensures.value c.in_ok-rows.rows.items (c.in_ok-rows.ensures c.args.table.now.name.now c.requires.same.there)
    c.len-count.result (c.len-count.ensures ∙ sym c.deref.ensures.len ∙ ap length c.deref.ensures.value) (g.D.Store.seen c.copy_rows.new.self) c.push.new.self.items c.in_ok-last.last c.if-is_whole.true (c.in_ok-copy_rows.ensures.serves c.args.table.now.name.now c.requires.same.here)
    (c.in_ok-push.ensures.items ∙ ap (λ replies. replies ++ RowsCopied c.len-count.result ∷ []) c.requires.nothing)
    (c.in_ok-last.ensures ∙ (λ i. last_row_key
    ((c.schema.ensures ∙ columns-at (g.D.Store.seen c.args.provider.now) c.args.table.now.name.now c.args.table.now.from c.requires.same.there) i) c.hand.inside.last (c.deref.ensures.value i)))

pub copy_end-requires-clause-made : goal.copy_end-requires-clause-made
copy_end-requires-clause-made g c = made-served (g.D.Store.seen c.args.replica.now) _ (copying_rows c.args.table.now.name.now c.in_ok-rows.rows.items) c.requires.replica_made (c.in_ok-copy_rows.ensures.serves c.args.table.now.name.now c.requires.same.here)

pub copy_end-requires-clause-number : goal.copy_end-requires-clause-number
copy_end-requires-clause-number g c =
    still-numbered (g.D.Store.seen c.args.replica.now) (g.D.Store.seen c.copy_rows.new.self) c.args.table.now.name.now c.in_ok-rows.rows.items c.requires.may
    (c.in_ok-copy_rows.ensures.serves c.args.table.now.name.now c.requires.same.here) c.args.table.now.to c.requires.same.here

pub copy_end-requires-clause-may : goal.copy_end-requires-clause-may
copy_end-requires-clause-may g c = still-may (g.D.Store.seen c.args.replica.now) (g.D.Store.seen c.copy_rows.new.self) c.args.table.now.name.now c.in_ok-rows.rows.items c.requires.may (c.in_ok-copy_rows.ensures.serves c.args.table.now.name.now c.requires.same.here)

pub returns : goal.returns
returns g c =
    moves-end (g.D.Store.seen c.args.provider.now) (g.D.Store.seen c.args.replica.now) c.requires.provider_made c.args.table.now.name.now _ c.args.hand c.hand.view_is _ c.as_ref.ensures.value c.in_ok-rows.rows.items (c.in_ok-rows.ensures c.args.table.now.name.now c.requires.same.there)
    c.len-count.result (c.len-count.ensures ∙ sym c.deref.ensures.len ∙ ap length c.deref.ensures.value) (g.D.Store.seen c.let_go.new.self) (g.D.Store.seen c.copy_rows.new.self) (g.D.Store.seen c.copy_end.new.self) c.push-2.new.self.items
    _ c.held_snapshot.result.now c.if-is_whole.false refl (c.in_ok-copy_rows.ensures.serves c.args.table.now.name.now c.requires.same.here) c.held_snapshot.ensures c.in_ok-copy_end.ensures.serves c.let_go.ensures.serves
    (c.in_ok-push-2.ensures.items ∙ ap (λ replies. replies ++ TableMoved c.in_ok-moved.moved CatchingUp ∷ []) (c.in_ok-push.ensures.items ∙ ap (λ replies. replies ++ RowsCopied c.len-count.result ∷ []) c.requires.nothing)
    ∙ ap (λ name. RowsCopied c.len-count.result ∷ TableMoved name CatchingUp ∷ []) c.in_ok-moved.ensures)
