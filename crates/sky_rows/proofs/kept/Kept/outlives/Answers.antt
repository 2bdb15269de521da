use Rattle.std.proofs.Common.{◌∙◌, sym, ap}
use Rattle.sky_rows.specs.Kept.{older_of, if_any, versions_of}
use Rattle.sky_rows.proofs.KeptLemmas.{both_empty, list_empty, older_at, none_if}
use Rattle.sky_rows.proofs.kept.Kept.outlives.Goals as goal

pub free-requires : goal.free-requires
free-requires c =
    let none = none_if (versions_of c.forget.new.older c.forget.new.self) c.has_any.result c.has_any.ensures c.if-has_any.false in
    let list = sym c.take.ensures.value ∙ c.in-Some.is in
    list_empty c.forget.new.older c.in-Some.list (c.forget.ensures.moves.used c.in-Some.list (sym c.forget.ensures.list ∙ list))
    (sym (older_at c.forget.new.older c.forget.new.self.list c.in-Some.list list) ∙ (both_empty (older_of c.forget.new.older c.forget.new.self.list) (if_any c.forget.new.self.newest) none).0)

pub returns-in-Some-clause-value : goal.returns-in-Some-clause-value
returns-in-Some-clause-value c =
    let none = none_if (versions_of c.forget.new.older c.forget.new.self) c.has_any.result c.has_any.ensures c.if-has_any.false in
    ap (λ list. versions_of c.free.new.self (record { newest = c.forget.new.self.newest; list = list })) c.take.ensures.after
    ∙ (both_empty (older_of c.forget.new.older c.forget.new.self.list) (if_any c.forget.new.self.newest) none).1
    ∙ sym none ∙ c.forget.ensures.value
