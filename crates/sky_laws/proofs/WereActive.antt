-- Each batch that a consumer has finished since its life began was active when it was closed.
use Rattle.std.proofs.Common.{ℕ, List, [], ◌∷◌, ◌++◌, ◌&&◌, ◌==◌, bytes_eq, refl, ap, All}
use Rattle.std.proofs.lemmas.List.Elements.{All-nil, All-push, All-weaker}
use Rattle.sky_model.specs.History.{Batch, Mark, History}
use Rattle.sky_model.specs.LawsOfBatches.{finished, WasActive, FinishedBatchesWereActive}
use Rattle.sky_histories.proofs.Legal.{Fine, registers, moves, unregisters, closes, Legal, start, next}
use Rattle.sky_histories.proofs.SnapshotLaws.{legal_place}
use Rattle.std.proofs.lemmas.Bool.{cond_both}

one_later : (h : History) (mark : Mark) (b : Batch) → WasActive h b → WasActive (mark ∷ h) b
one_later h mark b was = record { later = mark ∷ was.later; place = was.place; below = ap (λ p. mark ∷ p) was.below; active = was.active }

all_later : (h : History) (mark : Mark) (bs : List Batch) → All (WasActive h) bs → All (WasActive (mark ∷ h)) bs
all_later h mark = All-weaker (WasActive h) (WasActive (mark ∷ h)) (one_later h mark)

still_were : (h : History) (mark : Mark) → Fine h mark → (queue : ℕ) (consumer : List ℕ)
    → All (WasActive (mark ∷ h)) (finished queue consumer h) → All (WasActive (mark ∷ h)) (finished queue consumer (mark ∷ h))
still_were h mark (registers p name sub t i none f g low few) queue consumer were = cond_both (p == queue && bytes_eq consumer name) [] (finished queue consumer h) (All (WasActive (mark ∷ h))) (λ _. All-nil (WasActive (mark ∷ h))) (λ _. were)
still_were h mark (moves p name sub t i has least most low) queue consumer were = cond_both (p == queue && bytes_eq consumer name) [] (finished queue consumer h) (All (WasActive (mark ∷ h))) (λ _. All-nil (WasActive (mark ∷ h))) (λ _. were)
still_were h mark (unregisters p name sub i has) queue consumer were = cond_both (p == queue && bytes_eq consumer name) [] (finished queue consumer h) (All (WasActive (mark ∷ h))) (λ _. All-nil (WasActive (mark ∷ h))) (λ _. were)
still_were h mark (closes b active) queue consumer were =
    cond_both (b.queue == queue && bytes_eq consumer b.consumer) (finished queue consumer h ++ b ∷ []) (finished queue consumer h) (All (WasActive (mark ∷ h)))
    (λ _. All-push (WasActive (mark ∷ h)) (finished queue consumer h) b were (record { later = mark ∷ []; place = h; below = refl; active = active })) (λ _. were)
still_were h mark _ queue consumer were = were

were_active : (h : History) → Legal h → (queue : ℕ) (consumer : List ℕ) → All (WasActive h) (finished queue consumer h)
were_active [] start queue consumer = All-nil (WasActive [])
were_active _ (next {h = h} {mark = mark} l fine) queue consumer =
    still_were h mark fine queue consumer (all_later h mark (finished queue consumer h) (were_active h l queue consumer))

pub finished_batches_were_active : FinishedBatchesWereActive
finished_batches_were_active p is = were_active p (legal_place p is)
