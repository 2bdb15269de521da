-- If no writer is unseen, the row that a session is shown is the one that its write meets.
use Rattle.std.proofs.Common.{◌≡◌, ℕ, ◌⊎◌, inl, inr, Bool, true, List, [], ◌∷◌, Option, Some, None, option_map, is_some, refl, sym, ◌∙◌, ap, subst, le_refl, if◌then◌else◌}
use Rattle.std.specs.Option.{option_or}
use Rattle.sky_val.specs.declared.val.Val.{Val}
use Rattle.sky_val.specs.Entries.{at}
use Rattle.sky_keys.specs.declared.version.Version.{Version}
use Rattle.sky_txid.specs.Snapshot.{sees}
use Rattle.sky_keys.specs.Versions.{newest_from, newest_by, own_version, row_of}
use Rattle.sky_model.specs.History.{of_session, began, History}
use Rattle.sky_model.specs.Transactions.{next_txid}
use Rattle.sky_model.specs.Sessions.{own_txid, session}
use Rattle.sky_model.specs.Rows.{own_writes, put_all, rows, unless}
use Rattle.sky_model.specs.State.{part_of}
use Rattle.sky_model.specs.ShownRows.{RowsShown, rows_in, rows_by, snapshot_now, snapshot_for}
use Rattle.sky_histories.proofs.Legal.{begins, Legal, next}
use Rattle.std.proofs.lemmas.Bool.{false_from_ne_true}
use Rattle.sky_model.proofs.Cases.{by_test}
use Rattle.sky_histories.proofs.Good.{same-session}
use Rattle.sky_histories.proofs.Snapshots.{sees-snapshot}
use Rattle.sky_histories.proofs.RowKeys.{begun}
use Rattle.sky_histories.proofs.KeyVersions.{kept}
use Rattle.sky_histories.proofs.RowSights.{legal-since, ended-since, place, place-since, snapshot-place, same-rows}

-- the newest version that passes a test is the newest that passes a narrower one, if it passes that too
newest-seen : (p q : ℕ → Bool) → ((t : ℕ) → q t ≡ true → p t ≡ true) → (vs : List Version) (a b : Option Version)
    → (b ≡ a) ⊎ (unless q (option_map Version.txid a) ≡ None → ⊥)
    → unless q (option_map Version.txid (newest_from p a vs)) ≡ None → newest_from q b vs ≡ newest_from p a vs
newest-seen p q within [] a b (inl same) none = same
newest-seen p q within [] a b (inr unseen) none = absurd (unseen none)
newest-seen p q within (v ∷ vs) a b so none =
    newest-seen p q within vs (if p v.txid then Some v else a) (if q v.txid then Some v else b)
    (by_test (λ c. ((if q v.txid then Some v else b) ≡ (if c then Some v else a)) ⊎ (unless q (option_map Version.txid (if c then Some v else a)) ≡ None → ⊥)) (p v.txid)
    (λ isc. by_test (λ d. ((if d then Some v else b) ≡ Some v) ⊎ ((if d then None else Some v.txid) ≡ None → ⊥)) (q v.txid) (λ _. inl refl) (λ _. inr (λ e. absurd (cc))))
    (λ isc. subst (λ d. ((if d then Some v else b) ≡ a) ⊎ (unless q (option_map Version.txid a) ≡ None → ⊥)) (sym (false_from_ne_true (q v.txid) (λ isd. cc (sym isc ∙ within v.txid isd)))) so))
    none

read-stands : (p q : ℕ → Bool) → ((t : ℕ) → q t ≡ true → p t ≡ true) → (own : Option Version) (vs : List Version)
    → (if is_some own then None else unless q (option_map Version.txid (newest_by p vs))) ≡ None → row_of (option_or own (newest_by q vs)) ≡ row_of (option_or own (newest_by p vs))
read-stands p q within None vs none = ap row_of (newest-seen p q within vs None None (inl refl) none)
read-stands p q within (Some v) vs none = refl

pub seen-stands : (h : History) → Legal h → (who table : ℕ) (key : List Val) → ((rows_in h).key who table key).unseen ≡ None
    → ((rows_in h).key who table key).row ≡ ((rows_in h).key who table key).standing
seen-stands h l who table key =
    subst (λ (r : RowsShown). (r.key who table key).unseen ≡ None → (r.key who table key).row ≡ (r.key who table key).standing) (sym (same-rows h l))
    (read-stands (sees (snapshot_now (part_of h))) (sees (snapshot_for (part_of h) (session h who))) within (own_version (own_txid who h) (kept h table key)) (kept h table key))
  where
    within : (t : ℕ) → sees (snapshot_for (part_of h) (session h who)) t ≡ true → sees (snapshot_now (part_of h)) t ≡ true
    within t e =
        sees-snapshot h l t
        ∙ ended-since (place-since h who) t (sym (sees-snapshot (place h who) (legal-since (place-since h who) l) t) ∙ sym (ap (λ s. sees s t) (snapshot-place h who)) ∙ e)

-- the row that a write meets is the same by the history and by its row part
pub stands-by : (h : History) → Legal h → (who table : ℕ) (key : List Val) (old : Option (List Val)) → ((rows_in h).key who table key).standing ≡ old
    → ((rows_by (part_of h)).key who table key).standing ≡ old
stands-by h l who table key old stands = ap (λ (r : RowsShown). (r.key who table key).standing) (sym (same-rows h l)) ∙ stands

-- and it still is once the session's transaction has begun
pub stands-begun : (h : History) → Legal h → (who table : ℕ) (key : List Val) (old : Option (List Val)) → own_txid who h ≡ None → ((rows_in h).key who table key).standing ≡ old
    → ((rows_by (part_of (began (of_session who) (next_txid h) ∷ h))).key who table key).standing ≡ old
stands-begun h l who table key old none stands =
    stands-by g (next l (begins who none)) who table key old
    (ap (λ o. at key (put_all (own_writes table o g) (rows table h))) (ap (λ b. if b then Some (next_txid h) else own_txid who h) (same-session who))
    ∙ ap (λ ws. at key (put_all ws (rows table h))) (begun h l table (next_txid h) (le_refl (next_txid h)))
    ∙ sym (ap (λ o. at key (put_all (own_writes table o h) (rows table h))) none)
    ∙ stands)
  where
    g : History
    g = began (of_session who) (next_txid h) ∷ h
