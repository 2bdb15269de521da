-- A `commit` that was checked is the statement.
use Rattle.std.proofs.Common.{◌≡◌, ℕ, Option, Some, None, Ok, Err, refl, sym, ap}
use Rattle.sky_keys.specs.Waits.{is_waiting}
use Rattle.sky_model.specs.declared.reply.Refusal.{Refusal}
use Rattle.sky_model.specs.declared.stmt.RowStmt.TheVariants.{Commit}
use Rattle.sky_model.specs.declared.stmt.Where.TheVariants.{WhenOpen}
use Rattle.sky_model.specs.Allowed.{allowed}
use Rattle.sky_model.specs.Calls.{row_making, row_statement}
use Rattle.sky_model.specs.Gates.{Gate, gated, by_gate}
use Rattle.sky_model.specs.Made.{runs_if}
use Rattle.sky_model.specs.Outcome.{Checked, ◌>>◌, or_refused}
use Rattle.sky_model.specs.Reader.{part_by_itself}
use Rattle.sky_model.specs.Sessions.{Block, outside, inside, failed}
use Rattle.sky_model.specs.State.{RowPart}
use Rattle.sky_model.specs.StepRotation.{committed_by}
use Rattle.sky_model.specs.StepSession.{commit}
use Rattle.sky_row_store.specs.Committing.{commits_of}

-- a gate has room for it, as it writes nothing
roomy : {G : Type 0} (gate : Gate G) (g : G) (who : ℕ) (txid : Option ℕ) (block : Block) → gated gate g (commit who txid block) ≡ commit who txid block
roomy gate g who txid outside = refl
roomy gate g who None inside = refl
roomy gate g who (Some t) inside = refl
roomy gate g who None failed = refl
roomy gate g who (Some t) failed = refl

same_refusal : (a b : Refusal) (same : Checked (Option ℕ)) → same ≡ Err a → same ≡ Err b → a ≡ b
same_refusal a b same one other = cc

module _ {G : Type 0} (gate : Gate G) (g : G) (d : RowPart) (who : ℕ) where
  -- if it may be made, it does what it says
  pub commit-made : (txid : Option ℕ) → Ok txid ≡ commits_of d who
      → or_refused who (d.session who) (commit who (d.session who).txid (d.session who).block) ≡ row_statement (by_gate gate part_by_itself) (d, g) who Commit
  commit-made txid = by (allowed (is_waiting who d.waiting) (d.session who).is_open (d.session who).block WhenOpen)
    where
      by : (may : Checked (Unit {0})) → Ok txid ≡ (may >> Ok (committed_by (d.session who).block (d.session who).txid))
          → or_refused who (d.session who) (commit who (d.session who).txid (d.session who).block) ≡ runs_if (row_making (by_gate gate part_by_itself) who Commit) WhenOpen who (d, g) may
      by (Err refusal) is = absurd (cc)
      by (Ok _) is = ap (or_refused who (d.session who)) (sym (roomy gate g who (d.session who).txid (d.session who).block))

  -- else it is refused
  pub commit-barred : (refusal : Refusal) → Err refusal ≡ commits_of d who → or_refused who (d.session who) (Err refusal) ≡ row_statement (by_gate gate part_by_itself) (d, g) who Commit
  commit-barred refusal = by (allowed (is_waiting who d.waiting) (d.session who).is_open (d.session who).block WhenOpen)
    where
      by : (may : Checked (Unit {0})) → Err refusal ≡ (may >> Ok (committed_by (d.session who).block (d.session who).txid))
          → or_refused who (d.session who) (Err refusal) ≡ runs_if (row_making (by_gate gate part_by_itself) who Commit) WhenOpen who (d, g) may
      by (Err why) is = ap (λ r. or_refused who (d.session who) (Err r)) (same_refusal refusal why (Err refusal) refl is)
      by (Ok _) is = absurd (cc)
