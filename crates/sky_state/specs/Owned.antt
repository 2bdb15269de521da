-- What the sessions and workers of a database own, and what the sessions wait for.
use Rattle.std.specs.Prelude.{◌≡◌, ◌<◌, ℕ, List, true, false, Some, All}
use Rattle.sky_keys.specs.Waits.{Waiting}
use Rattle.sky_txid.specs.Ids.{contains}
use Rattle.sky_model.specs.Sessions.{Session}

-- the transaction of each session runs, and is no other session's; each of a worker runs, and is no session's
pub record AreOwned (session : ℕ → Session) (running workers : List ℕ) : Type 0 where
  pub runs : (who t : ℕ) → (session who).txid ≡ Some t → contains t running ≡ true
  pub once : (v w t : ℕ) → (session v).txid ≡ Some t → (session w).txid ≡ Some t → v ≡ w
  pub works : (t : ℕ) → contains t workers ≡ true → contains t running ≡ true
  pub nobodys : (who t : ℕ) → (session who).txid ≡ Some t → contains t workers ≡ false

-- each session that waits does so for a key of one of the tables, of which there are so many
abbrev pub AreWithin : ℕ → List Waiting → Type 0
AreWithin tables waiting = All (λ w. w.table < tables) waiting
