use Rattle.std.proofs.Common.{◌∙◌, ap, sym}
use Rattle.std.specs.Option.{option_copied}
use Rattle.sky_keys.specs.Versions.{read, versions_at}
use Rattle.sky_rows.specs.Rows.{rows_in}
use Rattle.sky_rows.specs.Table.{TableView, place_in}
use Rattle.sky_rows.specs.Kept.{all_versions, versions_of}
use Rattle.sky_rows.specs.Written.{wrote}
use Rattle.sky_rows.proofs.TableLemmas.{read-writer, read_nothing}
use Rattle.sky_rows.proofs.RowChanges.{used_at, one_at, found_at, none_found}
use Rattle.sky_rows.proofs.table.Table.read_at.Goals as goal

pub returns-in_err-kept : goal.returns-in_err-kept
returns-in_err-kept c =
    ap option_copied c.from_residual.ensures
    ∙ sym (ap (λ (t : TableView). read c.args.snapshot.now c.args.own (versions_at c.args.key.now t.versions)) (sym c.self.view_is)
    ∙ ap (read c.args.snapshot.now c.args.own) (none_found c.self.inside.older c.args.key.now (rows_in c.self.inside.rows) (c.in_err-kept.ensures.kept c.args.key.now (c.requires ∙ ap (λ (t : TableView). place_in t c.args.key.now) (sym c.self.view_is))))
    ∙ read_nothing c.args.snapshot.now c.args.own)

pub read-requires-clause-used : goal.read-requires-clause-used
read-requires-clause-used c = used_at c.self.inside.older c.args.key.now (rows_in c.self.inside.rows) c.in_ok-kept.kept.now c.self.invariant.0 (c.in_ok-kept.ensures.kept c.args.key.now (c.requires ∙ ap (λ (t : TableView). place_in t c.args.key.now) (sym c.self.view_is)))

pub read-requires-clause-one : goal.read-requires-clause-one
read-requires-clause-one c = one_at c.self.inside.older c.args.key.now (rows_in c.self.inside.rows) c.in_ok-kept.kept.now c.self.invariant.0 (c.in_ok-kept.ensures.kept c.args.key.now (c.requires ∙ ap (λ (t : TableView). place_in t c.args.key.now) (sym c.self.view_is)))

pub returns : goal.returns
returns c =
    let w = wrote c.self.inside.written in
    let vs = versions_of c.self.inside.older c.in_ok-kept.kept.now in
    c.read.ensures ∙ ap (λ own. read c.args.snapshot.now own vs) c.writer.ensures
    ∙ read-writer w c.args.snapshot.now c.args.own c.args.key.now (all_versions c.self.inside.older (rows_in c.self.inside.rows)) vs c.self.invariant.1
    (sym (found_at c.self.inside.older c.args.key.now (rows_in c.self.inside.rows) _ (c.in_ok-kept.ensures.kept c.args.key.now (c.requires ∙ ap (λ (t : TableView). place_in t c.args.key.now) (sym c.self.view_is)))))
    ∙ ap (λ (t : TableView). read c.args.snapshot.now c.args.own (versions_at c.args.key.now t.versions)) c.self.view_is
