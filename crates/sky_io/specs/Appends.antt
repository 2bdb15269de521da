-- What a sink got of a text.
use Rattle.std.specs.Prelude.{◌≡◌, ℕ, List, ◌++◌, Option}
use Rattle.std.specs.Io.KnownBytes.{Appends}

-- a prefix of the text was appended: `got`; `rest` is missing
pub record AppendsPrefix (old new : Option (List ℕ)) (text : List ℕ) : Type 0 where
  pub got : List ℕ
  pub rest : List ℕ
  pub appends : Appends old new got
  pub whole : got ++ rest ≡ text
