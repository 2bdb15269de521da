-- Transactions: which ids were given, which are running, which have ended, and what a snapshot lists.
use Rattle.std.specs.Prelude.{ℕ, ◌+◌, List, [], ◌∷◌, ◌++◌, Bool, true, false, not, ◌||◌, ◌==◌, nat_lt, filter}
use Rattle.sky_txid.specs.Snapshot.{SnapshotView, snapshot_of}
use Rattle.sky_model.specs.History.{of_worker, of_copy, began, ended, History}

-- the next id: ids begin at 3
abbrev pub next_txid : History → ℕ
next_txid [] = 3
next_txid (began whose t ∷ h) = next_txid h + 1
next_txid (_ ∷ h) = next_txid h

-- the ids that were given and haven't ended, rising
abbrev pub running : History → List ℕ
running [] = []
running (began whose t ∷ h) = running h ++ t ∷ []
running (ended whose t committed ∷ h) = filter (λ u. not (u == t)) (running h)
running (_ ∷ h) = running h

-- those of them that are workers', copies among them, rising
abbrev pub workers : History → List ℕ
workers [] = []
workers (began of_worker t ∷ h) = workers h ++ t ∷ []
workers (began (of_copy table) t ∷ h) = workers h ++ t ∷ []
workers (ended of_worker t committed ∷ h) = filter (λ u. not (u == t)) (workers h)
workers (ended (of_copy table) t committed ∷ h) = filter (λ u. not (u == t)) (workers h)
workers (_ ∷ h) = workers h

-- whether a transaction has ended; those below 3 had before there was a history
abbrev pub has_ended : History → ℕ → Bool
has_ended [] t = nat_lt t 3
has_ended (ended whose u committed ∷ h) t = t == u || has_ended h t
has_ended (_ ∷ h) t = has_ended h t

-- whether a transaction has committed; those below 3 had before there was a history
abbrev pub has_committed : History → ℕ → Bool
has_committed [] t = nat_lt t 3
has_committed (ended whose u true ∷ h) t = t == u || has_committed h t
has_committed (_ ∷ h) t = has_committed h t

-- whether a transaction has rolled back
abbrev pub has_rolled_back : History → ℕ → Bool
has_rolled_back [] t = false
has_rolled_back (ended whose u false ∷ h) t = t == u || has_rolled_back h t
has_rolled_back (_ ∷ h) t = has_rolled_back h t

-- the snapshot at a place
abbrev pub snapshot : History → SnapshotView
snapshot h = snapshot_of (next_txid h) (running h)
