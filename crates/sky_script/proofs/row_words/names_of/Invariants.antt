use Rattle.std.proofs.Common.{◌≡◌, true, map}
use Rattle.std.specs.List.{list_all}
use Rattle.sky_model.specs.Kinds.{is_name}
use Rattle.sky_script.proofs.row_words.names_of.Given as goal

abbrev pub invariant-loop-name : goal.invariant-loop-name
invariant-loop-name l = (l.names.items ≡ map (λ name. name.now) l.yielded) × (list_all is_name l.names.items ≡ true)
