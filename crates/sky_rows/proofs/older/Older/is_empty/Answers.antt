use Rattle.std.proofs.Common.{not, subst, sym, ap, ◌∙◌, arith}
use Rattle.std.specs.Prelude.{IsSome, is_some}
use Rattle.sky_rows.specs.Older.{OlderView, list_in, older_in}
use Rattle.sky_rows.proofs.OlderLemmas.{empty_first, first_empty}
use Rattle.sky_rows.proofs.older.Older.is_empty.Goals as goal

pub returns : goal.returns
returns c =
    let old : OlderView = record { chains = c.self.inside.chains; nodes = c.self.inside.nodes.items } in
    let some = subst (λ o. IsSome (list_in o c.args.list)) (sym c.self.view_is) c.requires in (
      λ none. ap (λ o. older_in o c.args.list) (sym c.self.view_is) ∙ empty_first old c.args.list c.self.invariant some (ap is_some (sym c.first.ensures) ∙ c.is_none.ensures ∙ ap not none),
      λ none. grind (arith, c.is_none.ensures, ap is_some c.first.ensures, first_empty old c.args.list c.self.invariant some (ap (λ o. older_in o c.args.list) c.self.view_is ∙ none)),
    )
