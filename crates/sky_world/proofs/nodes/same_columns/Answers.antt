use Rattle.std.proofs.Common.{◌≡◌, List, [], ◌∷◌, Bool, true, false, not, refl, ◌∙◌, ◌&&◌, bytes_eq, if◌then◌else◌}
use lib.Pointwise.{pointwise}
use mathlib.Core.Bool.{beq}
use denote.Enum.Bare.{sameb}
use Rattle.sky_val.specs.declared.column.Column.{Column}
use Rattle.sky_val.specs.declared.column.ColKind.{ColKind}
use Rattle.sky_val.specs.declared.column.ColKind.TheVariants.{Int, Text}
use Rattle.sky_val.specs.contracts.column.ColKind.{the_type}
use Rattle.sky_val.specs.contracts.column.ColumnPartialEq.TheImpl.{eq-value}
use Rattle.sky_model.specs.NodesOfWorld.{same_kind, same_column, same_columns}
use Rattle.sky_world.proofs.nodes.same_columns.Goals as goal

-- `==` on columns compares the same parts
same-one : (c e : Column) → eq-value.it c e ≡ same_column c e
same-one c e = by (bytes_eq c.name e.name) c.kind e.kind c.key e.key
  where
    by : (b : Bool) (k l : ColKind) (x y : Bool) → (b && (sameb the_type k l && beq x y)) ≡ (b && same_kind k l && (if x then y else not y))
    by false k l x y = refl
    by true Int Text x y = refl
    by true Text Int x y = refl
    by true Int Int true true = refl
    by true Int Int true false = refl
    by true Int Int false true = refl
    by true Int Int false false = refl
    by true Text Text true true = refl
    by true Text Text true false = refl
    by true Text Text false true = refl
    by true Text Text false false = refl

same-all : (cs es : List Column) → pointwise eq-value.it cs es ≡ same_columns cs es
same-all [] [] = refl
same-all [] (e ∷ es) = refl
same-all (c ∷ cs) [] = refl
same-all (c ∷ cs) (e ∷ es) = λ i. same-one c e i && same-all cs es i

pub returns : goal.returns
returns c = c.eq.ensures ∙ same-all c.args.columns.now c.args.others.now
