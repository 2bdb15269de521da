-- Between calls nobody waits for a key of a table that no running transaction has written.
use Rattle.std.proofs.Common.{◌≡◌, ℕ, true, false, not, ◌&&◌, ◌==◌, List, Option, Some, None, is_none, All, refl, sym, ◌∙◌, ap}
use Rattle.std.proofs.lemmas.List.Elements.{All-weaker}
use Rattle.sky_val.specs.declared.val.Val.{Val}
use Rattle.sky_keys.specs.Waits.{Waiting}
use Rattle.sky_model.specs.History.{History}
use Rattle.sky_model.specs.Rows.{wrote_in}
use Rattle.sky_model.specs.Locks.{holder, waiting}
use Rattle.sky_model.specs.State.{part_of}
use Rattle.sky_model.specs.ShownRows.{least_writer}
use Rattle.sky_model.specs.Settling.{ready}
use Rattle.sky_model.specs.LawsOfLocks.{HasWritten}
use Rattle.sky_histories.proofs.Legal.{Legal}
use Rattle.sky_histories.proofs.Snapshots.{sound, own-unended}
use Rattle.sky_histories.proofs.Holders.{holder-written}
use Rattle.sky_histories.proofs.WrittenTables.{is-written, found-nowhere, unwritten-by, has-some}
use Rattle.sky_model.proofs.Cases.{by_same}

-- so nobody holds a key of it
unheld : (h : History) → Legal h → (table : ℕ) → least_writer (part_of h) table ≡ None → (key : List Val) (who : ℕ) → holder table key h ≡ Some who → ⊥
unheld h l table none key who held =
    let w : HasWritten h table key who = holder-written h l table key who held in
    let wrote : wrote_in table w.txid h ≡ true =
    is-written h l table w.txid ∙ (λ i. not (own-unended h l who w.txid w.runs i) && has-some key h table w.txid w.wrote i) in
    cc (sym wrote ∙ unwritten-by h l table none w.txid ((sound h l).owns who w.txid w.runs))

-- and if each who waits waits for a key that is held, nobody waits for one of it
pub unawaited : (h : History) → Legal h → ready (part_of h) ≡ None → (table : ℕ) → least_writer (part_of h) table ≡ None → All (λ w. (w.table == table) ≡ false) (waiting h)
unawaited h l rests table none =
    All-weaker (λ w. is_none (holder w.table w.key h) ≡ false) (λ w. (w.table == table) ≡ false) of (waiting h) (found-nowhere (λ w. is_none (holder w.table w.key h)) (waiting h) rests)
  where
    of : (w : Waiting) → is_none (holder w.table w.key h) ≡ false → (w.table == table) ≡ false
    of w taken = by_same (λ b. b ≡ false) w.table table (λ same. absurd (free w same (holder w.table w.key h) refl taken)) (λ _. refl)
      where
        free : (v : Waiting) → v.table ≡ table → (o : Option ℕ) → holder v.table v.key h ≡ o → is_none o ≡ false → ⊥
        free v same None is e = cc
        free v same (Some who) is e = unheld h l table none v.key who (sym (ap (λ n. holder n v.key h) same) ∙ is)
