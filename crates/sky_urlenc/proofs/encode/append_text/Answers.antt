-- A text of which no byte is changed is its own escaped form.
use Rattle.std.proofs.Common.{◌≡◌, ◌∙◌, ◌++◌, OnOk, ap, sym, subst, string_bytes, rules}
use Rattle.std.specs.List.{list_all}
use Rattle.form_urlencoded.specs.Form.{is_unchanged}
use Rattle.sky_urlenc.proofs.Escaping.{unchanged_as}
use Rattle.sky_urlenc.proofs.encode.append_text.Goals as goal

pub returns-then-are_unchanged-clause-text : goal.returns-then-are_unchanged-clause-text
returns-then-are_unchanged-clause-text c =
    let same = unchanged_as c.args.text.now (sym (c.if-are_unchanged.ensures ∙ ap (list_all is_unchanged) c.bytes.ensures.value)) in
    subst (λ text. OnOk c.push_str.result (string_bytes c.push_str.new.self ≡ string_bytes c.args.into.now ++ text)) (sym same) (search rules)
