use Rattle.std.proofs.Common.{◌≡◌, ◌∙◌, ap, sym, ℕ, ◌+◌, ◌<◌, List, [], ◌∷◌, ◌++◌, length, get_or, take, map, Option, None}
use Rattle.std.proofs.lemmas.List.{take_all, take_more, map-append}
use Rattle.sky_val.specs.declared.column.Column.{Column}
use Rattle.sky_val.specs.declared.val.Val.{Val}
use Rattle.sky_urlenc.proofs.decode.nothing_given.Goals as goal

-- no value, for each column
abbrev none_of : List Column → List (Option Val)
none_of columns = map (λ _. None) columns

one_more : (columns : List Column) (i : ℕ) (c : Column) → i < length columns → none_of (take i columns) ++ None ∷ [] ≡ none_of (take (i + 1) columns)
one_more columns i c within = sym (ap none_of (take_more columns i c within) ∙ map-append (λ _. None) (take i columns) (get_or columns i c ∷ []))

pub loop-preserved : goal.loop-preserved
loop-preserved c = (
  c.push_reserved.ensures.items ∙ ap (λ given. given ++ None ∷ []) c.loop.invariant.0 ∙ one_more c.args.columns.now c.loop.index c.loop-item.result c.loop-test.true,
  c.push_reserved.ensures.len ∙ ap (λ n. n + 1) c.loop.invariant.1,
  c.push_reserved.ensures.capacity ∙ c.loop.invariant.2,
)

pub returns : goal.returns
returns c = c.loop.invariant.0 ∙ ap none_of (take_all c.loop.index c.args.columns.now c.loop-test.false)
