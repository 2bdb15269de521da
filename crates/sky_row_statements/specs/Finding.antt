-- What an update or a delete finds at its key.
use Rattle.std.specs.Prelude.{◌≡◌, ℕ, List, Option, Some, None, Ok, true, is_some}
use Rattle.sky_val.specs.declared.val.Val.{Val}
use Rattle.sky_keys.specs.Waits.{other_holder}
use Rattle.sky_model.specs.declared.stmt.Attempt.{Attempt}
use Rattle.sky_model.specs.ShownRows.{KeyShown, rows_by}
use Rattle.sky_model.specs.Outcome.{Outcome, Checked}
use Rattle.sky_model.specs.StepRows.{is_seen, changes}
use Rattle.sky_row_statements.specs.declared.locking.Found.{Found}
use Rattle.sky_row_statements.specs.declared.locking.Found.TheVariants.{NoRow, Held, Free}
use Rattle.sky_state.specs.declared.places.Places.{Places}
use Rattle.sky_state.specs.Views.{RowStateView}
use Rattle.sky_state.specs.Seen.{seen, places_in}

-- the key as it is shown to the session
abbrev pub shown_at : RowStateView → ℕ → ℕ → List Val → KeyShown
shown_at state who table key = (rows_by (seen state)).key who table key

-- the session may change this row, which it sees at the key
pub record IsFree (state : RowStateView) (who table : ℕ) (key : List Val) (places : Places) (row : List Val) : Type 0 where
  pub shown : (shown_at state who table key).row ≡ Some row
  pub free : other_holder (seen state).holder who table key ≡ None
  pub sees : is_seen (shown_at state who table key) ≡ Ok tt
  pub found : places ≡ places_in state table key

-- another session holds the key, at which the session sees a row
pub record IsHeld (state : RowStateView) (who table : ℕ) (key : List Val) (holder : ℕ) : Type 0 where
  pub shown : is_some (shown_at state who table key).row ≡ true
  pub held : other_holder (seen state).holder who table key ≡ Some holder

-- what is found
abbrev pub Finds : RowStateView → ℕ → ℕ → List Val → Found → Type 0
Finds state who table key NoRow = (shown_at state who table key).row ≡ None
Finds state who table key (Held holder) = IsHeld state who table key holder
Finds state who table key (Free places row) = IsFree state who table key places row.now

-- a change of the row that is shown
abbrev pub change_shown : RowStateView → ℕ → ℕ → List Val → Attempt → (List Val → Checked (Option (List Val))) → Checked Outcome
change_shown state who table key attempt new_of = changes (seen state) (shown_at state who table key) who table key attempt new_of (shown_at state who table key).row
