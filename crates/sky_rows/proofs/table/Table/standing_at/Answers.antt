use Rattle.std.proofs.Common.{◌≡◌, ◌∙◌, ap, sym, subst, is_some, List, [], Some, None, IsSome}
use Rattle.sky_keys.specs.declared.version.Version.{Version}
use Rattle.sky_keys.specs.Versions.{version_of, versions_at, newest_but, read}
use Rattle.sky_rows.specs.Rows.{rows_in}
use Rattle.sky_rows.specs.Table.{TableView, place_in}
use Rattle.sky_rows.specs.Kept.{versions_of}
use Rattle.sky_rows.proofs.TableLemmas.{read_nothing}
use Rattle.sky_rows.proofs.RowChanges.{used_at, one_at, versions_found, none_found}
use Rattle.sky_rows.proofs.table.Table.standing_at.Goals as goal

pub standing-requires-clause-used : goal.standing-requires-clause-used
standing-requires-clause-used c = used_at c.self.inside.older c.args.key.now (rows_in c.self.inside.rows) c.in-Some.kept.now c.self.invariant.0 (c.in-Some.ensures.kept c.args.key.now (c.requires.place ∙ ap (λ (t : TableView). place_in t c.args.key.now) (sym c.self.view_is)))

pub standing-requires-clause-one : goal.standing-requires-clause-one
standing-requires-clause-one c = one_at c.self.inside.older c.args.key.now (rows_in c.self.inside.rows) c.in-Some.kept.now c.self.invariant.0 (c.in-Some.ensures.kept c.args.key.now (c.requires.place ∙ ap (λ (t : TableView). place_in t c.args.key.now) (sym c.self.view_is)))

pub standing-requires-clause-last : goal.standing-requires-clause-last
standing-requires-clause-last c =
    let same : versions_at c.args.key.now c.args.self.now.versions ≡ versions_of c.self.inside.older c.in-Some.kept.now =
    sym (ap (λ (t : TableView). versions_at c.args.key.now t.versions) c.self.view_is)
    ∙ versions_found c.self.inside.older c.args.key.now (rows_in c.self.inside.rows) c.in-Some.kept.now (c.in-Some.ensures.kept c.args.key.now (c.requires.place ∙ ap (λ (t : TableView). place_in t c.args.key.now) (sym c.self.view_is))) in
    subst (λ (vs : List Version). IsSome (version_of c.args.txid vs) → newest_but None vs ≡ version_of c.args.txid vs) same c.requires.last

pub returns-in-Some-clause-own : goal.returns-in-Some-clause-own
returns-in-Some-clause-own c =
    let same : versions_at c.args.key.now c.args.self.now.versions ≡ versions_of c.self.inside.older c.in-Some.kept.now =
    sym (ap (λ (t : TableView). versions_at c.args.key.now t.versions) c.self.view_is)
    ∙ versions_found c.self.inside.older c.args.key.now (rows_in c.self.inside.rows) c.in-Some.kept.now (c.in-Some.ensures.kept c.args.key.now (c.requires.place ∙ ap (λ (t : TableView). place_in t c.args.key.now) (sym c.self.view_is))) in
    c.standing.ensures.own ∙ ap (λ vs. is_some (version_of c.args.txid vs)) (sym same)

pub returns-in-Some-clause-row : goal.returns-in-Some-clause-row
returns-in-Some-clause-row c =
    let same : versions_at c.args.key.now c.args.self.now.versions ≡ versions_of c.self.inside.older c.in-Some.kept.now =
    sym (ap (λ (t : TableView). versions_at c.args.key.now t.versions) c.self.view_is)
    ∙ versions_found c.self.inside.older c.args.key.now (rows_in c.self.inside.rows) c.in-Some.kept.now (c.in-Some.ensures.kept c.args.key.now (c.requires.place ∙ ap (λ (t : TableView). place_in t c.args.key.now) (sym c.self.view_is))) in
    c.standing.ensures.row ∙ ap (λ vs. is_some (read c.args.snapshot.now (Some c.args.txid) vs)) (sym same)

pub returns-in-None-clause-own : goal.returns-in-None-clause-own
returns-in-None-clause-own c =
    let none : versions_at c.args.key.now c.args.self.now.versions ≡ [] =
    sym (ap (λ (t : TableView). versions_at c.args.key.now t.versions) c.self.view_is)
    ∙ none_found c.self.inside.older c.args.key.now (rows_in c.self.inside.rows) (c.in-None.ensures.kept c.args.key.now (c.requires.place ∙ ap (λ (t : TableView). place_in t c.args.key.now) (sym c.self.view_is))) in
    ap (λ vs. is_some (version_of c.args.txid vs)) (sym none)

pub returns-in-None-clause-row : goal.returns-in-None-clause-row
returns-in-None-clause-row c =
    let none : versions_at c.args.key.now c.args.self.now.versions ≡ [] =
    sym (ap (λ (t : TableView). versions_at c.args.key.now t.versions) c.self.view_is)
    ∙ none_found c.self.inside.older c.args.key.now (rows_in c.self.inside.rows) (c.in-None.ensures.kept c.args.key.now (c.requires.place ∙ ap (λ (t : TableView). place_in t c.args.key.now) (sym c.self.view_is))) in
    ap is_some (sym (read_nothing c.args.snapshot.now (Some c.args.txid))) ∙ ap (λ vs. is_some (read c.args.snapshot.now (Some c.args.txid) vs)) (sym none)
