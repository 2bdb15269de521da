-- Bytes that are read as they stand.
use Rattle.std.specs.Prelude.{ℕ, ◌==◌, Bool, not, ◌&&◌, List}
use Rattle.std.specs.List.{list_all}
use Rattle.form_urlencoded.specs.Form.{plus_sign}
use Rattle.percent_encoding.specs.Percent.{percent_sign}

-- whether no byte is `+` or `%`
abbrev pub is_plain : List ℕ → Bool
is_plain bytes = list_all (λ b. not (b == plus_sign) && not (b == percent_sign)) bytes
