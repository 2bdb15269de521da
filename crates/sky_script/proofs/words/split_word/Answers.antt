use Rattle.std.proofs.Common.{◌≡◌, get_or, arith}
use Rattle.std.proofs.lemmas.Str.{IsCharBoundary-after_ascii}
use Rattle.sky_script.proofs.words.split_word.Goals as goal

pub range_from-requires : goal.range_from-requires
range_from-requires c = λ _.
    let found = c.word_end-end.ensures.space (omega (arith, c.word_end-end.ensures.within, c.if-end-text.false)) in
    let space : get_or c.args.text.now c.word_end-end.result 0 ≡ 32 = cc in
    IsCharBoundary-after_ascii c.args.text.now c.word_end-end.result c.utf8.text (omega (arith, c.word_end-end.ensures.within, c.if-end-text.false)) (omega (arith, space))
