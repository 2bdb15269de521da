use Rattle.std.proofs.Common.{◌≡◌, ◌∷◌, [], ◌++◌, None, ap, ◌∙◌}
use Rattle.sky_names.specs.Named.{NamedView, value_of}
use Rattle.sky_names.proofs.ValueLemmas.{value_of-added}
use Rattle.pgq_sub.specs.Views.{SubView}
use Rattle.pgq_sub.specs.Seen.{seen_subs, with_member}
use Rattle.pgq_sub.proofs.subs.Subs.register.Goals as goal

pub returns-clause-ok : goal.returns-clause-ok
returns-clause-ok c =
    let old = c.self.inside.subs in
    let name = c.args.consumer.now in
    let new : SubView = record { id = c.args.id; position = c.args.position; active = None } in
    let free : value_of name old ≡ None = ap (value_of name) c.self.view_is ∙ c.requires.new in
    ap seen_subs c.in_ok-add.ensures.added
    ∙ (λ i. seen_subs (record { names = old.names ++ c.in_ok-copy.ensures i ∷ []; values = old.values ++ c.new-sub.ensures i ∷ [] }))
    ∙ (λ i. record { members = old.names ++ name ∷ []; kept = λ m. value_of-added old name new c.in_ok-add.ensures.values free m i })
    ∙ ap (λ (v : NamedView SubView). with_member name c.args.id c.args.position (seen_subs v)) c.self.view_is
