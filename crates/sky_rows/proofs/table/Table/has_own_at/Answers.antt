use Rattle.std.proofs.Common.{◌≡◌, ◌∙◌, ap, sym, refl, is_some, Option, Some, None, Bor}
use Rattle.std.specs.Option.{option_copied}
use Rattle.sky_keys.specs.Versions.{version_of, versions_at}
use Rattle.sky_rows.specs.Rows.{rows_in}
use Rattle.sky_rows.specs.Table.{TableView, place_in}
use Rattle.sky_rows.specs.Kept.{all_versions}
use Rattle.sky_rows.specs.Written.{wrote}
use Rattle.sky_rows.proofs.TableLemmas.{kept_at}
use Rattle.sky_rows.proofs.RowChanges.{used_at, one_at, versions_found, none_found}
use Rattle.sky_rows.proofs.table.Table.has_own_at.Goals as goal

pub returns-then-not-has : goal.returns-then-not-has
returns-then-not-has c =
    let w = wrote c.self.inside.written in
    sym (ap (λ (t : TableView). is_some (version_of c.args.txid (versions_at c.args.key.now t.versions))) (sym c.self.view_is)
    ∙ ap is_some (kept_at w c.args.txid c.args.key.now (all_versions c.self.inside.older (rows_in c.self.inside.rows)) c.self.invariant.1 (sym c.has.ensures ∙ c.if-not-has.true)))

pub own-requires-clause-used : goal.own-requires-clause-used
own-requires-clause-used c = used_at c.self.inside.older c.args.key.now (rows_in c.self.inside.rows) c.in-Some.kept.now c.self.invariant.0 (c.in-Some.ensures.kept c.args.key.now (c.requires ∙ ap (λ (t : TableView). place_in t c.args.key.now) (sym c.self.view_is)))

pub own-requires-clause-one : goal.own-requires-clause-one
own-requires-clause-one c = one_at c.self.inside.older c.args.key.now (rows_in c.self.inside.rows) c.in-Some.kept.now c.self.invariant.0 (c.in-Some.ensures.kept c.args.key.now (c.requires ∙ ap (λ (t : TableView). place_in t c.args.key.now) (sym c.self.view_is)))

copied : {X : Type 0} (o : Option (Bor X)) → is_some o ≡ is_some (option_copied o)
copied None = refl
copied (Some x) = refl

pub returns-in-Some : goal.returns-in-Some
returns-in-Some c =
    c.is_some.ensures ∙ copied c.own.result ∙ ap is_some (c.own.ensures
    ∙ ap (version_of c.args.txid) (sym (versions_found c.self.inside.older c.args.key.now (rows_in c.self.inside.rows) c.in-Some.kept.now (c.in-Some.ensures.kept c.args.key.now (c.requires ∙ ap (λ (t : TableView). place_in t c.args.key.now) (sym c.self.view_is)))))
    ∙ ap (λ (t : TableView). version_of c.args.txid (versions_at c.args.key.now t.versions)) c.self.view_is)

pub returns-in-None : goal.returns-in-None
returns-in-None c =
    ap (λ vs. is_some (version_of c.args.txid vs)) (sym (none_found c.self.inside.older c.args.key.now (rows_in c.self.inside.rows) (c.in-None.ensures.kept c.args.key.now (c.requires ∙ ap (λ (t : TableView). place_in t c.args.key.now) (sym c.self.view_is))))
    ∙ ap (λ (t : TableView). versions_at c.args.key.now t.versions) c.self.view_is)
