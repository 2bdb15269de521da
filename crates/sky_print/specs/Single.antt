-- Answers of one line.
use Rattle.std.specs.Prelude.{ℕ, List, [], ◌∷◌}
use Rattle.sky_model.specs.declared.reply.Reply.{Reply}
use Rattle.sky_model.specs.declared.reply.Reply.TheVariants.{Events, Rows}
use Rattle.sky_model.specs.Printed.{reply_lines}

-- the first of some lines
abbrev pub first_line : List (List ℕ) → List ℕ
first_line [] = []
first_line (line ∷ lines) = line

-- the text of an answer of one line; none of one of several
abbrev pub text_of : List (List ℕ) → Reply → List ℕ
text_of names (Events events) = []
text_of names (Rows rows) = []
text_of names reply = first_line (reply_lines names reply)
