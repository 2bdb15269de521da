use Rattle.std.proofs.Common.{◌≡◌, length, refl, sym, ap, ◌∙◌, arith}
use Rattle.std.proofs.lemmas.Iterator.Consumers.{YieldsList-turn, YieldsList-end}
use Rattle.std.proofs.lemmas.Iterator.Splits.{YieldsList-from_str_split}
use Rattle.std.proofs.lemmas.List.Folds.{list_all_at}
use Rattle.sky_model.specs.Kinds.{is_name, between_commas}
use Rattle.sky_script.proofs.row_words.names_of.Goals as goal

pub returns-then-not-is_name : goal.returns-then-not-is_name
returns-then-not-is_name c =
    let turn = YieldsList-turn (YieldsList-from_str_split 44 c.args.word.now (omega arith) (cc) (cc) (cc)) c.loop-name.yielded _ c.loop-name.yielded_by _ _ c.in-Some.name c.in-Some.is c.next.ensures.steps in
    let bad = list_all_at is_name (between_commas c.args.word.now) (length c.loop-name.yielded) c.in-Some.name.now turn.0 (ap is_name (sym turn.1) ∙ cc) in
    rw bad refl

pub returns : goal.returns
returns c =
    let end = YieldsList-end (YieldsList-from_str_split 44 c.args.word.now (omega arith) (cc) (cc) (cc)) c.loop-name.yielded _ c.loop-name.yielded_by _ _ c.in-None.is c.next.ensures.steps in
    let all : c.loop-name.names.items ≡ between_commas c.args.word.now = c.loop-name.invariant.0 ∙ end.0 in
    rw (c.new.ensures, ← all, c.loop-name.invariant.1) refl
