-- The command that reads the program's words, and what they are read as.
use Rattle.std.specs.Prelude.{ℕ, ◌==◌, ◌||◌, nat_lt, Bool, true, false, List, length, slice_index, Option, Some, None, String, string_bytes, codes, bytes_eq}
use Rattle.std.specs.List.{list_any}
use Rattle.clap.specs.Words.{App, Row, Rule, all_of, first_of, new_app, new_rule, with_rule}
use Rattle.clap.specs.Simple.{on_top}
use Rattle.clap.specs.declared.builder.action.ArgAction.TheVariants.{Append}

-- the mode is the first word
abbrev pub mode : Rule
mode = record (new_rule (codes "mode")) { index = Some 1; required = true }

-- its values are the words after it
abbrev pub values : Rule
values = record (new_rule (codes "values")) { index = Some 2; action = Some Append }

-- a command without flags, even for help
abbrev pub bare : App
bare = on_top (λ top. record top { no_binary_name = true; disable_help_flag = true; disable_version_flag = true }) (new_app (codes "pgqrun"))

-- the command: a mode, and its values
abbrev pub app : App
app = with_rule (with_rule bare mode) values

-- the word begins with `-`
abbrev pub begins_with_dash : List ℕ → Bool
begins_with_dash word = slice_index word 0 == 45

-- the words are refused before the parse: there are more than four, or one begins with `-`
abbrev pub is_refused : {A : Type 0} → List (String A) → Bool
is_refused words = nat_lt 4 (length words) || list_any (λ word. begins_with_dash (string_bytes word)) words

-- the mode and its values, as they were read
abbrev pub mode_in : List Row → Option (List ℕ)
mode_in = first_of (codes "mode")

abbrev pub values_in : List Row → Option (List (List ℕ))
values_in = all_of (codes "values")

-- the mode is `run`, and has no values
abbrev pub says_run : Option (List ℕ) → Option (List (List ℕ)) → Bool
says_run (Some word) None = bytes_eq word (codes "run")
says_run _ _ = false
