-- The rows of a table change only by the commit of a transaction that has written it.
use Rattle.std.proofs.Common.{◌≡◌, ℕ, [], ◌∷◌, Bool, true, false, not, ◌&&◌, Some, refl, sym, ap, ◌∙◌}
use Rattle.sky_model.specs.History.{Mark, Whose, of_session, ended, tabled, wrote, History}
use Rattle.sky_model.specs.Sessions.{own_txid}
use Rattle.sky_model.specs.Rows.{wrote_in, committed, writes as writes_of, put_all, rows}
use Rattle.sky_histories.proofs.Legal.{Fine, ends, Legal, legal-below_mark, fine_mark}
use Rattle.sky_histories.proofs.SnapshotLaws.{legal_place}
use Rattle.sky_histories.proofs.Snapshots.{ender-unended}
use Rattle.sky_histories.proofs.WrittenTables.{some, is-written}
use Rattle.sky_histories.proofs.RowWrites.{in_turn-push}
use Rattle.sky_histories.proofs.CopiesCovered.{rows-wrote}
use Rattle.sky_laws.proofs.WritableTables.{read_only_tables_are_unwritten}
use Rattle.sky_laws_synced.specs.LawsOfChanges.{RowsChangeByCommits, SessionsCommitNoReadOnlyTable}
use Rattle.sky_laws_synced.proofs.Covering.{place-below}
use Rattle.sky_laws_synced.proofs.RestingTables.{nothing}

-- one that ends, and hasn't written a table, has no writes there
none-there : (h : History) → Legal h → (whose : Whose) (t : ℕ) (c : Bool) → Fine h (ended whose t c) → (table : ℕ) → wrote_in table t h ≡ false → writes_of table t h ≡ []
none-there h l whose t c fine table none =
    nothing (writes_of table t h) (sym (ap (λ b. not b && some (writes_of table t h)) (ender-unended h l whose t c fine)) ∙ sym (is-written h l table t) ∙ none)

unchanged : (h : History) → Legal h → (mark : Mark) → Fine h mark → (table : ℕ) → ((whose : Whose) (t : ℕ) → mark ≡ ended whose t true → wrote_in table t h ≡ false) → rows table (mark ∷ h) ≡ rows table h
unchanged h l (tabled (wrote whose t n key old new)) fine table none = rows-wrote h l whose t n key old new fine table
unchanged h l (ended whose t true) fine table none =
    in_turn-push (λ u. writes_of table u h) (committed h) t [] ∙ ap (λ ws. put_all ws (rows table h)) (none-there h l whose t true fine table (none whose t refl))
unchanged h l mark fine table none = refl

pub rows_change_by_commits : RowsChangeByCommits
rows_change_by_commits mark h is table none = let l : Legal (mark ∷ h) = legal_place (mark ∷ h) is in unchanged h (legal-below_mark l) mark (fine_mark l) table none

own-ends : {h : History} {who t : ℕ} {c : Bool} → Fine h (ended (of_session who) t c) → own_txid who h ≡ Some t
own-ends (ends who t c own) = own

pub sessions_commit_no_read_only_table : SessionsCommitNoReadOnlyTable
sessions_commit_no_read_only_table who t h is table guarded =
    read_only_tables_are_unwritten h (place-below (ended (of_session who) t true) h is) who t table (own-ends (fine_mark (legal_place (ended (of_session who) t true ∷ h) is))) guarded
