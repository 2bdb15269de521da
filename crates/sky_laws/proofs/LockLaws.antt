-- The laws on locks and waits.
use Rattle.std.proofs.Common.{◌≡◌, ℕ, List, [], ◌∷◌, length, Option, Some, None, Err, option_map, refl, ap, subst, arith}
use Rattle.sky_val.specs.declared.val.Val.{Val}
use Rattle.sky_keys.specs.Waits.{waits_for, LeadsBack, way_back}
use Rattle.sky_keys.proofs.WaitLemmas.{leads_back, way_found}
use Rattle.sky_model.specs.declared.stmt.Attempt.{Attempt}
use Rattle.sky_model.specs.declared.reply.Reply.TheVariants.{Waits}
use Rattle.sky_model.specs.declared.reply.Refusal.TheVariants.{Deadlock}
use Rattle.sky_model.specs.History.{tabled, waits}
use Rattle.sky_model.specs.Outcome.{◌>>◌, refused_by, does_marks}
use Rattle.sky_model.specs.StepLocks.{ring, blocked}
use Rattle.sky_model.specs.State.{RowPart, part_of}
use Rattle.sky_model.specs.LawsOfLocks.{HoldersHaveWritten, DeadlocksAreRings, NothingIsReady}
use Rattle.sky_histories.proofs.SnapshotLaws.{legal_place}
use Rattle.sky_histories.proofs.Holders.{holder-written, written-holder}
use Rattle.sky_histories.proofs.CallsRest.{calls-rest}

pub holders_have_written : HoldersHaveWritten
holders_have_written p is table key who = (holder-written p (legal_place p is) table key who, written-holder p (legal_place p is) table key who)

-- a wait is refused with the cycle that it would close
refused-ring : (d : RowPart) (who table : ℕ) (key : List Val) (attempt : Attempt) (other : ℕ) (sessions : List ℕ) → blocked d who table key attempt other ≡ Err (Deadlock sessions) → ring d who other ≡ Some sessions
refused-ring d who table key attempt other sessions refused = grind arith

ring-refused : (d : RowPart) (who table : ℕ) (key : List Val) (attempt : Attempt) (other : ℕ) (sessions : List ℕ) → ring d who other ≡ Some sessions → blocked d who table key attempt other ≡ Err (Deadlock sessions)
ring-refused d who table key attempt other sessions is = ap (λ o. refused_by (option_map Deadlock o) >> does_marks (Waits other) (tabled (waits who table key attempt) ∷ [])) is

pub deadlocks_are_rings : DeadlocksAreRings
deadlocks_are_rings p is who table key attempt other way = (
  λ refused. leads (way_back (waits_for d.holder d.waiting) who (length d.waiting) other) refl (refused-ring d who table key attempt other (who ∷ way) refused),
  λ leads. ring-refused d who table key attempt other (who ∷ way) (ap (option_map (λ rest. who ∷ rest)) (way_found d.holder d.waiting who other way leads)),
)
  where
    d : RowPart
    d = part_of p

    leads : (o : Option (List ℕ)) → way_back (waits_for d.holder d.waiting) who (length d.waiting) other ≡ o → option_map (λ rest. who ∷ rest) o ≡ Some (who ∷ way)
        → LeadsBack (waits_for d.holder d.waiting) who other way
    leads None is e = absurd (cc)
    leads (Some rest) is e =
        let one : rest ≡ way = cc in
        subst (LeadsBack (waits_for d.holder d.waiting) who other) one (leads_back (waits_for d.holder d.waiting) who (length d.waiting) other rest is)

pub nothing_is_ready : NothingIsReady
nothing_is_ready = calls-rest
