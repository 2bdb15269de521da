use Rattle.std.proofs.Common.{◌≡◌, ℕ, nat_lt}
use Rattle.sky_state.specs.Seen.{table_of}
use Rattle.sky_state.proofs.SessionLists.{unplaced, forgetting}
use Rattle.sky_state.proofs.marks.forget_all.Given as goal

abbrev pub invariant-loop-number : goal.invariant-loop-number
invariant-loop-number l = (l.tables.names ≡ l.initial.tables.names)
    × ((n : ℕ) → unplaced (table_of l.tables.values n) ≡ forgetting l.txid (nat_lt n l.number) (unplaced (table_of l.initial.tables.values n)))
