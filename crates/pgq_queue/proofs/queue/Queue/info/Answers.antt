use Rattle.std.proofs.Common.{◌≡◌, ℕ, ◌+◌, ◌<◌, List, [], ◌∷◌, ◌++◌, map, length, take, get_or, sym, ◌∙◌, ap, arith}
use Rattle.std.proofs.lemmas.List.{take_more, map-append}
use Rattle.std.proofs.lemmas.Result.{IfOk-from_err}
use Rattle.pgq_tables.specs.Tables.{Stored}
use Rattle.pgq_queue.proofs.queue.Queue.info.Goals as goal

-- one more table is counted
counted : (lists : List (List Stored)) (i n : ℕ) (before after : List ℕ) → i < length lists → before ≡ map length (take i lists) → after ≡ before ++ n ∷ [] → n ≡ length (get_or lists i []) → after ≡ map length (take (i + 1) lists)
counted lists i n before after lt is more its =
    more ∙ (λ j. is j ++ its j ∷ []) ∙ sym (map-append length (take i lists) (get_or lists i [] ∷ [])) ∙ ap (map length) (sym (take_more lists i [] lt))

pub returns-in_err-stored : goal.returns-in_err-stored
returns-in_err-stored c = IfOk-from_err _ _ c.from_residual.ensures.0

pub returns-in_err-push : goal.returns-in_err-push
returns-in_err-push c = IfOk-from_err _ _ c.from_residual-in_err-push.ensures.0

pub loop-table-init : goal.loop-table-init
loop-table-init c = c.in_ok-stored.ensures.items

pub loop-table-preserved : goal.loop-table-preserved
loop-table-preserved c =
    counted c.self.inside.event_tables.tables.lists c.loop-table.table c.count.result c.loop-table.stored.items c.push.new.self.items (omega (arith, c.loop-table-test.true, c.len-table-end.ensures.value)) c.loop-table.invariant
    c.in_ok-push.ensures.items c.count.ensures
