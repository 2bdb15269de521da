-- Writes that wait for another session's transaction, or are refused if the wait would close a deadlock cycle.
use Rattle.std.specs.Prelude.{ℕ, List, [], ◌∷◌, Option, Some, None, length, option_map}
use Rattle.sky_val.specs.declared.val.Val.{Val}
use Rattle.sky_keys.specs.Waits.{waits_for, way_back}
use Rattle.sky_model.specs.declared.reply.Reply.TheVariants.{Waits}
use Rattle.sky_model.specs.declared.reply.Refusal.TheVariants.{Deadlock}
use Rattle.sky_model.specs.declared.stmt.Attempt.{Attempt}
use Rattle.sky_model.specs.History.{tabled, waits}
use Rattle.sky_model.specs.State.{RowPart}
use Rattle.sky_model.specs.Outcome.{Outcome, Checked, ◌>>◌, refused_by, does_marks}

-- the sessions of the cycle that a wait for a holder would close: the one that is to wait, then the holder, and each time the one that the last waits
-- for
abbrev pub ring : RowPart → (who holder : ℕ) → Option (List ℕ)
ring d who holder = option_map (λ way. who ∷ way) (way_back (waits_for d.holder d.waiting) who (length d.waiting) holder)

-- a wait for a holder, unless it would close a cycle
abbrev pub blocked : RowPart → (who table : ℕ) → List Val → Attempt → ℕ → Checked Outcome
blocked d who table key attempt holder = do
  refused_by (option_map Deadlock (ring d who holder))
  does_marks (Waits holder) (tabled (waits who table key attempt) ∷ [])

-- what is done with a key at once if no other session holds it; otherwise the session waits
abbrev pub once_free : RowPart → (who table : ℕ) → List Val → Attempt → Option ℕ → Checked Outcome → Checked Outcome
once_free d who table key attempt None done = done
once_free d who table key attempt (Some holder) done = blocked d who table key attempt holder
