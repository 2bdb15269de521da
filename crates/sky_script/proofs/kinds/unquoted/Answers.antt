use Rattle.std.proofs.Common.{◌≡◌, ◌<◌, ◌≤◌, ◌++◌, length, get_or, string_bytes, refl, subst, sym, ◌∙◌, ap, arith}
use Rattle.std.specs.List.{slice_range}
use Rattle.std.proofs.lemmas.Str.{IsCharBoundary-start}
use Rattle.sky_script.proofs.KindLemmas.{unquotes_none, unquotes_second, unquotes_first, unquotes_plain, unquotes_closed, unquotes_open, unquotes_behind, unquotes_refused, cut_quote, below_next}
use Rattle.sky_script.proofs.kinds.unquoted.Goals as goal
use Rattle.sky_script.proofs.kinds.unquoted.Goals.{then-quote, else-quote+in_ok-push_str, then-quote-2-via-then-quote-2, then-quote-2-via-else-quote-2+then-byte-eq10, then-quote-2-via-else-quote-2+else-byte-eq10+then-byte-eq0}

pub loop-i-init : goal.loop-i-init
loop-i-init c = record {
  text = unquotes_none c.args.inside.now _ c.in_ok-text.ensures.bytes;
  order = omega arith;
  cut = IsCharBoundary-start c.args.inside.now c.utf8.inside;
}

pub bounds-byte-items-i : goal.bounds-byte-items-i
bounds-byte-items-i c = c.loop-i-test.true

pub range-requires-clause-start_le_end : goal.range-requires-clause-start_le_end
range-requires-clause-start_le_end c = c.loop-i.invariant.order

pub range-requires-clause-start_boundary : goal.range-requires-clause-start_boundary
range-requires-clause-start_boundary c = λ _. c.loop-i.invariant.cut

pub range-requires-clause-end_boundary : goal.range-requires-clause-end_boundary
range-requires-clause-end_boundary c =
    let same = c.as_bytes-byte-items.ensures.value in
    let here : get_or c.args.inside.now c.loop-i.i 0 ≡ 39 = ap (λ bs. get_or bs c.loop-i.i 0) (sym same) ∙ c.if-byte-eq39.true in
    cut_quote c.args.inside.now c.loop-i.i (subst (λ bs. c.loop-i.i < length bs) same c.loop-i-test.true) here

pub loop-i-preserved-then-byte-eq39 : goal.loop-i-preserved-then-byte-eq39
loop-i-preserved-then-byte-eq39 c =
    let same = c.as_bytes-byte-items.ensures.value in
    let here : get_or c.args.inside.now c.loop-i.i 0 ≡ 39 = ap (λ bs. get_or bs c.loop-i.i 0) (sym same) ∙ c.if-byte-eq39.true in
    let within : c.loop-i.i < length c.args.inside.now = subst (λ bs. c.loop-i.i < length bs) same c.loop-i-test.true in
    let old = c.loop-i.invariant in
    elim c.if-quote.branch [
      | then-quote w ↦ rw (w.text-is, w.from-is, w.if-quote.true) record {
        text = unquotes_second _ _ _ _ _ w.if-quote.true within here old.text;
        order = below_next c.loop-i.i c.loop-i.i (omega arith);
        cut = cut_quote c.args.inside.now c.loop-i.i within here;
      }
      | else-quote+in_ok-push_str w ↦
          let longer : string_bytes w.push_str.new.self ≡ string_bytes c.loop-i.text ++ slice_range c.args.inside.now c.loop-i.from c.loop-i.i =
          w.in_ok-push_str.ensures.bytes ∙ ap (λ piece. string_bytes c.loop-i.text ++ piece) w.range.ensures.value in
          rw (w.text-is, w.from-is, w.if-quote.false, longer) record {
            text = unquotes_first _ _ _ _ _ w.if-quote.false within here old.text;
            order = below_next c.loop-i.from c.loop-i.i old.order;
            cut = old.cut;
          }
    ]

pub returns-then-quote-2 : goal.returns-then-quote-2
returns-then-quote-2 c =
    let same = c.as_bytes-byte-items.ensures.value in
    let within : c.loop-i.i < length c.args.inside.now = subst (λ bs. c.loop-i.i < length bs) same c.loop-i-test.true in
    let here : get_or c.args.inside.now c.loop-i.i 0 ≡ get_or c.as_bytes-byte-items.result.now c.loop-i.i 0 = ap (λ bs. get_or bs c.loop-i.i 0) (sym same) in
    let so = c.loop-i.invariant.text in
    elim c.then-quote-2.branch [
      | then-quote-2-via-then-quote-2 w ↦ unquotes_behind _ _ _ _ _ w.if-quote-2.true within (λ is. c.if-byte-eq39.false (sym here ∙ is)) so
      | then-quote-2-via-else-quote-2+then-byte-eq10 w ↦ unquotes_refused _ _ _ _ _ 10 w.if-quote-2.false within (here ∙ w.if-byte-eq10.true) refl refl so
      | then-quote-2-via-else-quote-2+else-byte-eq10+then-byte-eq0 w ↦ unquotes_refused _ _ _ _ _ 0 w.if-quote-2.false within (here ∙ w.if-byte-eq0.true) refl refl so
    ]

pub loop-i-preserved : goal.loop-i-preserved
loop-i-preserved c =
    let same = c.as_bytes-byte-items.ensures.value in
    let within : c.loop-i.i < length c.args.inside.now = subst (λ bs. c.loop-i.i < length bs) same c.loop-i-test.true in
    let here : get_or c.as_bytes-byte-items.result.now c.loop-i.i 0 ≡ get_or c.args.inside.now c.loop-i.i 0 = ap (λ bs. get_or bs c.loop-i.i 0) same in
    let old = c.loop-i.invariant in
    record {
      text = unquotes_plain _ _ _ _ _ c.if-quote-2.false old.order within (λ is. c.if-byte-eq39.false (here ∙ is)) (λ is. c.if-byte-eq10.false (here ∙ is)) (λ is. c.if-byte-eq0.false (here ∙ is)) old.text;
      order = below_next c.loop-i.from c.loop-i.i old.order;
      cut = old.cut;
    }

pub returns-then-quote-3 : goal.returns-then-quote-3
returns-then-quote-3 c = unquotes_closed _ _ _ _ _ c.if-quote-3.true (subst (λ bs. length bs ≤ c.loop-i.i) c.as_bytes-byte-items.ensures.value c.loop-i-test.false) c.loop-i.invariant.text

pub returns-else-quote-3 : goal.returns-else-quote-3
returns-else-quote-3 c = unquotes_open _ _ _ _ _ c.if-quote-3.false (subst (λ bs. length bs ≤ c.loop-i.i) c.as_bytes-byte-items.ensures.value c.loop-i-test.false) c.loop-i.invariant.text
