use Rattle.std.proofs.Common.{◌∙◌, sym, ap, arith, Some, option_map, string_bytes}
use Rattle.std.proofs.lemmas.Str.{IsUtf8-string_bytes}
use Rattle.sky_script.proofs.KindLemmas.{quoted_text_of, in_characters_utf8}
use Rattle.sky_script.proofs.TextLemmas.{cut_first}
use Rattle.sky_script.proofs.kinds.quoted_text.Goals as goal

pub range_from-inside-requires : goal.range_from-inside-requires
range_from-inside-requires c = λ _.
    let first = c.in-Some-eq39-default in
    let begins = sym c.as_bytes.ensures.value ∙ first.ensures.cases.0 in
    cut_first first.field-0-0.now first.field-0-1.now c.args.word.now begins (omega (arith, first.field-0-0-test)) c.utf8.word

pub returns-in-Some-2 : goal.returns-in-Some-2
returns-in-Some-2 c =
    let first = c.in-Some-eq39-default in
    let begins = sym c.as_bytes.ensures.value ∙ first.ensures.cases.0 in
    let is = sym c.in_ok-text.ensures ∙ ap (option_map (λ string. string_bytes string)) c.in-Some-2.is in
    let utf8 = IsUtf8-string_bytes c.in-Some-2.text in
    let inside = c.range_from-inside in
    let found = quoted_text_of c.args.word.now first.field-0-1.now inside.result.now _ first.field-0-0.now begins first.field-0-0-test inside.ensures.value is utf8 in
    ap (λ text. Some text) c.from_string.ensures ∙ sym found

pub returns-in-Some : goal.returns-in-Some
returns-in-Some c = grind (arith, in_characters_utf8)
