-- What is done at once with a key that no other session holds.
use Rattle.std.proofs.Common.{◌≡◌, ℕ, List, [], ◌∷◌, ◌++◌, false, Option, Some, None, Result, Ok, Err, is_some, IsErrAnd, refl, sym, ◌∙◌, ap, subst}
use Rattle.sky_val.specs.declared.val.Val.{Val}
use Rattle.sky_keys.specs.Waits.{other_holder}
use Rattle.sky_model.specs.declared.reply.Reply.{Reply}
use Rattle.sky_model.specs.declared.reply.Reply.TheVariants.{Number}
use Rattle.sky_model.specs.declared.reply.Refusal.TheVariants.{Duplicate}
use Rattle.sky_model.specs.declared.stmt.Attempt.{Attempt}
use Rattle.sky_model.specs.declared.stmt.Attempt.TheVariants.{Insertion}
use Rattle.sky_model.specs.History.{Mark, of_session, tabled, wrote}
use Rattle.sky_model.specs.State.{RowPart, after_part_marks}
use Rattle.sky_model.specs.ShownRows.{KeyShown}
use Rattle.sky_model.specs.Outcome.{Outcome, Checked, marks_of, ◌>>=◌, ◌>>◌, refused_if, does_marks}
use Rattle.sky_model.specs.declared.stop.Stop.{Stop}
use Rattle.sky_model.specs.declared.stop.Stop.TheVariants.{Refused, NoMemory}
use Rattle.sky_model.specs.Stops.{StopsAs, Keeps}
use Rattle.sky_model.specs.StepLocks.{once_free}
use Rattle.sky_model.specs.StepRows.{is_seen, some_row, writes_key, changes, attempts}
use Rattle.sky_model.specs.OwnTransaction.{in_own}
use Rattle.sky_model.specs.Gates.{Gate, passed_all, gated}
use Rattle.sky_row_store.specs.declared.row_step.RowStep.{RowStep}
use Rattle.sky_row_store.specs.Effects.{with_effects}
use Rattle.sky_row_statements.specs.Finding.{IsFree, shown_at, change_shown}
use Rattle.sky_row_statements.specs.Ran.{Does, Runs, Writes}
use Rattle.sky_state.specs.declared.places.Places.{Places}
use Rattle.sky_state.specs.Views.{RowStateView}
use Rattle.sky_state.specs.Seen.{seen}

pub insert-free : {G : Type 0} (gate : Gate G) (g : G) (d : RowPart) (shown : KeyShown) (who table : ℕ) (key row made : List Val) → other_holder d.holder who table key ≡ None → is_some shown.standing ≡ false
    → made ≡ row → gated gate g (attempts d shown who table key (Insertion row)) ≡ gated gate g (writes_key d who table key None (Some made))
insert-free gate g d shown who table key row made free absent same =
    ap (λ o. gated gate g (once_free d who table key (Insertion row) o (refused_if (is_some shown.standing) Duplicate >> writes_key d who table key None (Some row)))) free
    ∙ ap (λ b. gated gate g (refused_if b Duplicate >> writes_key d who table key None (Some row))) absent
    ∙ ap (λ r. gated gate g (writes_key d who table key None (Some r))) (sym same)

-- it is refused if a row stands at its key
pub insert-stops : {G : Type 0} (gate : Gate G) (g : G) (d : RowPart) (shown : KeyShown) (who table : ℕ) (key row : List Val) (stop : Stop) → other_holder d.holder who table key ≡ None
    → StopsAs stop (refused_if (is_some shown.standing) Duplicate) → StopsAs stop (gated gate g (attempts d shown who table key (Insertion row)))
insert-stops gate g d shown who table key row (Refused refusal) free stops =
    ap (λ o. gated gate g (once_free d who table key (Insertion row) o (refused_if (is_some shown.standing) Duplicate >> writes_key d who table key None (Some row)))) free
    ∙ ap (λ c. gated gate g (c >> writes_key d who table key None (Some row))) stops
insert-stops gate g d shown who table key row NoMemory free stops = tt

pub change-free : {G : Type 0} (gate : Gate G) (g : G) (d : RowPart) (shown : KeyShown) (who table : ℕ) (key : List Val) (attempt : Attempt) (new_of : List Val → Checked (Option (List Val))) (row : Option (List Val))
    (old : List Val) (new : Option (List Val)) → row ≡ Some old → other_holder d.holder who table key ≡ None → is_seen shown ≡ Ok tt → new_of old ≡ Ok new
    → gated gate g (changes d shown who table key attempt new_of row) ≡ gated gate g (writes_key d who table key (Some old) new)
change-free gate g d shown who table key attempt new_of row old new is free sees made =
    ap (λ r. gated gate g (changes d shown who table key attempt new_of r)) is
    ∙ ap (λ o. gated gate g (once_free d who table key attempt o (is_seen shown >> (new_of old >>= (λ w. writes_key d who table key (Some old) w))))) free
    ∙ ap (λ c. gated gate g (c >> (new_of old >>= (λ w. writes_key d who table key (Some old) w)))) sees
    ∙ ap (λ c. gated gate g (c >>= (λ w. writes_key d who table key (Some old) w))) made

pub some-stops : (stop : Stop) (row : Checked (List Val)) → StopsAs stop row → StopsAs stop (some_row row)
some-stops (Refused refusal) row is = ap some_row is
some-stops NoMemory row is = tt

-- it is refused as its new row is
pub change-stops : {G : Type 0} (gate : Gate G) (g : G) (d : RowPart) (shown : KeyShown) (who table : ℕ) (key : List Val) (attempt : Attempt) (new_of : List Val → Checked (Option (List Val))) (row : Option (List Val))
    (old : List Val) (stop : Stop) → row ≡ Some old → other_holder d.holder who table key ≡ None → is_seen shown ≡ Ok tt → StopsAs stop (new_of old)
    → StopsAs stop (gated gate g (changes d shown who table key attempt new_of row))
change-stops gate g d shown who table key attempt new_of row old (Refused refusal) is free sees stops =
    ap (λ r. gated gate g (changes d shown who table key attempt new_of r)) is
    ∙ ap (λ o. gated gate g (once_free d who table key attempt o (is_seen shown >> (new_of old >>= (λ w. writes_key d who table key (Some old) w))))) free
    ∙ ap (λ c. gated gate g (c >> (new_of old >>= (λ w. writes_key d who table key (Some old) w)))) sees
    ∙ ap (λ c. gated gate g (c >>= (λ w. writes_key d who table key (Some old) w))) stops
change-stops gate g d shown who table key attempt new_of row old NoMemory is free sees stops = tt

-- it adds its answer, and its gate has recorded it
pub writes-told : {G : Type 0} (gate : Gate G) (g g' : G) (old new : RowStateView) (before after : RowStep) (who : ℕ) (checked write : Checked Outcome) (reply : Reply) (marks : List Mark)
    → gated gate g checked ≡ gated gate g write → gated gate g write ≡ does_marks reply marks → g' ≡ passed_all gate g (marks_of (gated gate g write))
    → after.replies ≡ before.replies ++ (who, reply) ∷ [] → after.effects ≡ with_effects before.effects marks → seen new ≡ after_part_marks (seen old) marks → Writes gate (old, g) (new, g') before after who (Ok tt) checked
writes-told gate g g' old new before after who checked write reply marks same is passed replied told changed = record {
  ran = subst (Does (seen old) (seen new) before after who) (sym (same ∙ is)) (record { accepted = refl; replied = replied; told = told; changed = changed });
  passes = passed ∙ ap (λ c. passed_all gate g (marks_of c)) (sym same);
}

-- so does a write of its key
pub key-written : {G : Type 0} (gate : Gate G) (g g' : G) (old new : RowStateView) (before after : RowStep) (who txid table : ℕ) (key : List Val) (gone here : Option (List Val)) (checked : Checked Outcome)
    → gated gate g checked ≡ gated gate g (writes_key (seen old) who table key gone here)
    → gated gate g (writes_key (seen old) who table key gone here) ≡ does_marks (Number 1) (in_own who txid ((seen old).session who) (tabled (wrote (of_session who) txid table key gone here) ∷ []))
    → g' ≡ passed_all gate g (marks_of (gated gate g (writes_key (seen old) who table key gone here))) → after.replies ≡ before.replies ++ (who, Number 1) ∷ []
    → after.effects ≡ with_effects before.effects (in_own who txid ((seen old).session who) (tabled (wrote (of_session who) txid table key gone here) ∷ []))
    → seen new ≡ after_part_marks (seen old) (in_own who txid ((seen old).session who) (tabled (wrote (of_session who) txid table key gone here) ∷ [])) → Writes gate (old, g) (new, g') before after who (Ok tt) checked
key-written gate g g' old new before after who txid table key gone here checked same is passed replied told changed =
    writes-told gate g g' old new before after who checked (writes_key (seen old) who table key gone here) (Number 1) _ same is passed replied told changed

-- it stops, and leaves what it was given as it was
pub writes-stopped : {G : Type 0} (gate : Gate G) (g g' : G) (old new : RowStateView) (before after : RowStep) (who : ℕ) (result : Result (Unit {0}) Stop) (stop : Stop) (checked : Checked Outcome)
    → IsErrAnd result (λ s. s ≡ stop) → StopsAs stop (gated gate g checked) → Keeps stop (seen old) (seen new) → Keeps stop g g' → Keeps stop before after → Writes gate (old, g) (new, g') before after who result checked
writes-stopped gate g g' old new before after who (Ok _) stop checked is stops state passes step = absurd is
writes-stopped gate g g' old new before after who (Err s) stop checked is stops state passes step =
    subst (λ s. Writes gate (old, g) (new, g') before after who (Err s) checked) (sym is) (of stop stops state passes step)
  where
    of : (s : Stop) → StopsAs s (gated gate g checked) → Keeps s (seen old) (seen new) → Keeps s g g' → Keeps s before after → Writes gate (old, g) (new, g') before after who (Err s) checked
    of (Refused refusal) stops state passes step = record { ran = (record { refused = stops; same = state }, step); passes = passes }
    of NoMemory stops state passes step = record { ran = (tt, tt); passes = tt }

pub keeps-same : {A : Type 0} (stop : Stop) (a : A) → Keeps stop a a
keeps-same (Refused refusal) a = refl
keeps-same NoMemory a = tt

pub keeps-step : (stop : Stop) (before after : RowStep) → after.replies ≡ before.replies → Keeps stop before.effects after.effects → Keeps stop before after
keeps-step (Refused refusal) before after replied told = λ i. record { replies = replied i; effects = told i }
keeps-step NoMemory before after replied told = tt

-- memory ran out
pub writes-out : {G : Type 0} (gate : Gate G) (old new : RowStateView × G) (before after : RowStep) (who : ℕ) (result : Result (Unit {0}) Stop) (checked : Checked Outcome) → IsErrAnd result (λ s. s ≡ NoMemory)
    → Runs gate old new before after who result checked
writes-out gate old new before after who (Ok _) checked is = absurd is
writes-out gate old new before after who (Err s) checked is = subst (λ s. Runs gate old new before after who (Err s) checked) (sym is) (record { ran = (tt, tt); passes = tt })

-- an insert at a free key where no row stands
pub inserted : {G : Type 0} (gate : Gate G) (g g' : G) (old new : RowStateView) (before after : RowStep) (who txid table : ℕ) (key row made : List Val) → other_holder (seen old).holder who table key ≡ None
    → is_some (shown_at old who table key).standing ≡ false → made ≡ row
    → gated gate g (writes_key (seen old) who table key None (Some made)) ≡ does_marks (Number 1) (in_own who txid ((seen old).session who) (tabled (wrote (of_session who) txid table key None (Some made)) ∷ []))
    → g' ≡ passed_all gate g (marks_of (gated gate g (writes_key (seen old) who table key None (Some made)))) → after.replies ≡ before.replies ++ (who, Number 1) ∷ []
    → after.effects ≡ with_effects before.effects (in_own who txid ((seen old).session who) (tabled (wrote (of_session who) txid table key None (Some made)) ∷ []))
    → seen new ≡ after_part_marks (seen old) (in_own who txid ((seen old).session who) (tabled (wrote (of_session who) txid table key None (Some made)) ∷ []))
    → Writes gate (old, g) (new, g') before after who (Ok tt) (attempts (seen old) (shown_at old who table key) who table key (Insertion row))
inserted gate g g' old new before after who txid table key row made free absent same does passed replied told changed =
    key-written gate g g' old new before after who txid table key None (Some made) (attempts (seen old) (shown_at old who table key) who table key (Insertion row))
    (insert-free gate g (seen old) (shown_at old who table key) who table key row made free absent same) does passed replied told changed

-- one that stops at its row
pub insert-stopped : {G : Type 0} (gate : Gate G) (g : G) (state : RowStateView) (step : RowStep) (who table : ℕ) (key row : List Val) (result : Result (Unit {0}) Stop) (stop : Stop) → IsErrAnd result (λ s. s ≡ stop)
    → other_holder (seen state).holder who table key ≡ None → StopsAs stop (refused_if (is_some (shown_at state who table key).standing) Duplicate)
    → Writes gate (state, g) (state, g) step step who result (attempts (seen state) (shown_at state who table key) who table key (Insertion row))
insert-stopped gate g state step who table key row result stop is free stops =
    writes-stopped gate g g state state step step who result stop (attempts (seen state) (shown_at state who table key) who table key (Insertion row)) is (insert-stops gate g (seen state) (shown_at state who table key) who table key row stop free stops) (keeps-same stop (seen state)) (keeps-same stop g)
    (keeps-same stop step)

-- one that stops at its write
pub insert-untold : {G : Type 0} (gate : Gate G) (g g' : G) (state : RowStateView) (before after : RowStep) (who table : ℕ) (key row made : List Val) (result : Result (Unit {0}) Stop) (stop : Stop)
    → IsErrAnd result (λ s. s ≡ stop) → other_holder (seen state).holder who table key ≡ None → is_some (shown_at state who table key).standing ≡ false → made ≡ row
    → StopsAs stop (gated gate g (writes_key (seen state) who table key None (Some made))) → Keeps stop g g' → after.replies ≡ before.replies → Keeps stop before.effects after.effects
    → Writes gate (state, g) (state, g') before after who result (attempts (seen state) (shown_at state who table key) who table key (Insertion row))
insert-untold gate g g' state before after who table key row made result stop is free absent same stops passes replied told =
    writes-stopped gate g g' state state before after who result stop (attempts (seen state) (shown_at state who table key) who table key (Insertion row)) is
    (subst (StopsAs stop) (sym (insert-free gate g (seen state) (shown_at state who table key) who table key row made free absent same)) stops) (keeps-same stop (seen state)) passes (keeps-step stop before after replied told)

pub gated-stops : {G : Type 0} (gate : Gate G) (g : G) (stop : Stop) (checked : Checked Outcome) → StopsAs stop checked → StopsAs stop (gated gate g checked)
gated-stops gate g (Refused refusal) checked stops = ap (gated gate g) stops
gated-stops gate g NoMemory checked stops = tt

-- a change that stops before its row is found
pub change-unfound : {G : Type 0} (gate : Gate G) (g : G) (state : RowStateView) (step : RowStep) (who table : ℕ) (key : List Val) (attempt : Attempt) (new_of : List Val → Checked (Option (List Val)))
    (result : Result (Unit {0}) Stop) (stop : Stop) → IsErrAnd result (λ s. s ≡ stop) → StopsAs stop (change_shown state who table key attempt new_of)
    → Writes gate (state, g) (state, g) step step who result (change_shown state who table key attempt new_of)
change-unfound gate g state step who table key attempt new_of result stop is stops =
    writes-stopped gate g g state state step step who result stop (change_shown state who table key attempt new_of) is (gated-stops gate g stop (change_shown state who table key attempt new_of) stops)
    (keeps-same stop (seen state)) (keeps-same stop g) (keeps-same stop step)

-- one of a row that the session may change
pub changed : {G : Type 0} (gate : Gate G) (g g' : G) (old new : RowStateView) (before after : RowStep) (who txid table : ℕ) (key : List Val) (places : Places) (row : List Val) (attempt : Attempt)
    (new_of : List Val → Checked (Option (List Val))) (made : Option (List Val)) → IsFree old who table key places row → new_of row ≡ Ok made
    → gated gate g (writes_key (seen old) who table key (Some row) made) ≡ does_marks (Number 1) (in_own who txid ((seen old).session who) (tabled (wrote (of_session who) txid table key (Some row) made) ∷ []))
    → g' ≡ passed_all gate g (marks_of (gated gate g (writes_key (seen old) who table key (Some row) made))) → after.replies ≡ before.replies ++ (who, Number 1) ∷ []
    → after.effects ≡ with_effects before.effects (in_own who txid ((seen old).session who) (tabled (wrote (of_session who) txid table key (Some row) made) ∷ []))
    → seen new ≡ after_part_marks (seen old) (in_own who txid ((seen old).session who) (tabled (wrote (of_session who) txid table key (Some row) made) ∷ []))
    → Writes gate (old, g) (new, g') before after who (Ok tt) (change_shown old who table key attempt new_of)
changed gate g g' old new before after who txid table key places row attempt new_of made finds is does passed replied told after_marks =
    key-written gate g g' old new before after who txid table key (Some row) made (change_shown old who table key attempt new_of)
    (change-free gate g (seen old) (shown_at old who table key) who table key attempt new_of (shown_at old who table key).row row made finds.shown finds.free finds.sees is) does passed replied told after_marks

-- one that stops at its new row
pub change-stopped : {G : Type 0} (gate : Gate G) (g : G) (state : RowStateView) (step : RowStep) (who table : ℕ) (key : List Val) (places : Places) (row : List Val) (attempt : Attempt)
    (new_of : List Val → Checked (Option (List Val))) (result : Result (Unit {0}) Stop) (stop : Stop) → IsErrAnd result (λ s. s ≡ stop) → IsFree state who table key places row → StopsAs stop (new_of row)
    → Writes gate (state, g) (state, g) step step who result (change_shown state who table key attempt new_of)
change-stopped gate g state step who table key places row attempt new_of result stop is finds stops =
    writes-stopped gate g g state state step step who result stop (change_shown state who table key attempt new_of) is
    (change-stops gate g (seen state) (shown_at state who table key) who table key attempt new_of (shown_at state who table key).row row stop finds.shown finds.free finds.sees stops) (keeps-same stop (seen state))
    (keeps-same stop g) (keeps-same stop step)

-- one that stops at its write
pub change-untold : {G : Type 0} (gate : Gate G) (g g' : G) (state : RowStateView) (before after : RowStep) (who table : ℕ) (key : List Val) (places : Places) (row : List Val) (attempt : Attempt)
    (new_of : List Val → Checked (Option (List Val))) (made : Option (List Val)) (result : Result (Unit {0}) Stop) (stop : Stop) → IsErrAnd result (λ s. s ≡ stop) → IsFree state who table key places row
    → new_of row ≡ Ok made → StopsAs stop (gated gate g (writes_key (seen state) who table key (Some row) made)) → Keeps stop g g' → after.replies ≡ before.replies → Keeps stop before.effects after.effects
    → Writes gate (state, g) (state, g') before after who result (change_shown state who table key attempt new_of)
change-untold gate g g' state before after who table key places row attempt new_of made result stop is finds new stops passes replied told =
    writes-stopped gate g g' state state before after who result stop (change_shown state who table key attempt new_of) is
    (subst (StopsAs stop) (sym (change-free gate g (seen state) (shown_at state who table key) who table key attempt new_of (shown_at state who table key).row row made finds.shown finds.free finds.sees new)) stops)
    (keeps-same stop (seen state)) passes (keeps-step stop before after replied told)
