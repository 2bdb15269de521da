-- What is reported to those that follow a database: writes, and ends of transactions.
use Rattle.std.specs.Prelude.{List, [], ◌∷◌, ◌++◌, Bool, true, false, if◌then◌else◌}
use Rattle.sky_urlenc.specs.RowEvents.{op_of}
use Rattle.sky_model.specs.History.{Mark, ended, tabled, wrote}
use Rattle.sky_row_store.specs.declared.effect.Effect.{Effect}
use Rattle.sky_row_store.specs.declared.effect.Effect.TheVariants.{Wrote, Committed, Aborted}

-- a list of effects, and whether it is whole: one that isn't leaves out the writes, which a gate records
pub record EffectsView : Type 0 where
  pub whole : Bool
  pub items : List Effect

-- the effects of marks, in their order, with the writes or without them
abbrev pub effects_by : Bool → List Mark → List Effect
effects_by whole [] = []
effects_by whole (tabled (wrote whose t table key old new) ∷ marks) = if whole then Wrote t table (op_of old new) old new ∷ effects_by whole marks else effects_by whole marks
effects_by whole (ended whose t true ∷ marks) = Committed t ∷ effects_by whole marks
effects_by whole (ended whose t false ∷ marks) = Aborted t ∷ effects_by whole marks
effects_by whole (_ ∷ marks) = effects_by whole marks

-- a list of effects, with those of marks appended
abbrev pub with_effects : EffectsView → List Mark → EffectsView
with_effects e marks = record e { items = e.items ++ effects_by e.whole marks }
