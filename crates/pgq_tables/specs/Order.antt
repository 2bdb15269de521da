-- The order in which stored events are looked up: by transaction.
use Rattle.std.specs.Prelude.{ℕ, ◌+◌, nat_lt, List, [], ◌∷◌, if◌then◌else◌}
use Rattle.pgq_tables.specs.Tables.{Stored}

-- a stored event with its place, in front of the first one of a higher transaction
abbrev pub put_by_txid : ℕ × Stored → List (ℕ × Stored) → List (ℕ × Stored)
put_by_txid x [] = x ∷ []
put_by_txid x (y ∷ ys) = if nat_lt x.1.event.ev_txid y.1.event.ev_txid then x ∷ y ∷ ys else y ∷ put_by_txid x ys

abbrev pub by_txid_onto : List (ℕ × Stored) → ℕ → List Stored → List (ℕ × Stored)
by_txid_onto sorted place [] = sorted
by_txid_onto sorted place (s ∷ ss) = by_txid_onto (put_by_txid (place, s) sorted) (place + 1) ss

-- the events of a table, each with its place there, in order of their transactions; those of one transaction in the order of storing
abbrev pub by_txid : List Stored → List (ℕ × Stored)
by_txid list = by_txid_onto [] 0 list
