-- A name that has no place is no key of the set, so it is appended.
use Rattle.std.proofs.Common.{[], ◌∷◌, ◌++◌, if◌then◌else◌, is_some, bytes_eq, ap, ◌∙◌}
use Rattle.indexmap.specs.IndexSet.{insert_key}
use Rattle.sky_names.proofs.PlaceLemmas.{list_any-place_of}
use Rattle.sky_names.proofs.names.Names.add.Goals as goal

pub returns-clause-added : goal.returns-clause-added
returns-clause-added c =
    let names = c.args.self.now in
    let name = c.args.name in
    c.in_ok-insert.ensures.keys
    ∙ ap (λ known. insert_key bytes_eq known name) c.self.view_is
    ∙ ap (λ known. if known then names else names ++ name ∷ []) (list_any-place_of name names ∙ ap is_some c.requires.new)
