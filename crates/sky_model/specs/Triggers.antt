-- The triggers of tables.
use Rattle.std.specs.Prelude.{ℕ, List, [], ◌∷◌, ◌++◌, Option, Bool, not, ◌&&◌, is_none, ◌==◌, filter}
use Rattle.sky_urlenc.specs.RowEvents.{Trigger}
use Rattle.sky_model.specs.History.{queued, traced, untraced, History}

-- a trigger of a table; that of a set of replicated tables has no name
pub record TableTrigger : Type 0 where
  pub table : ℕ
  pub name : Option (List ℕ)
  pub trigger : Trigger

-- the trigger of a set on a table
abbrev pub is_sets : ℕ → TableTrigger → Bool
is_sets table t = t.table == table && is_none t.name

-- triggers without those of a set on a table
abbrev pub but_sets : ℕ → List TableTrigger → List TableTrigger
but_sets table triggers = filter (λ t. not (is_sets table t)) triggers

-- the triggers of a database, in the order of making
abbrev pub triggers : History → List TableTrigger
triggers [] = []
triggers (queued (traced table name trigger) ∷ h) = triggers h ++ record { table = table; name = name; trigger = trigger } ∷ []
triggers (queued (untraced table) ∷ h) = but_sets table (triggers h)
triggers (_ ∷ h) = triggers h

-- those of a table
abbrev pub triggers_of : ℕ → List TableTrigger → List TableTrigger
triggers_of table triggers = filter (λ t. t.table == table) triggers
