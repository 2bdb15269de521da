-- What a table keeps beside its events, so that those of a transaction are found.
use Rattle.std.specs.Prelude.{◌≡◌, ℕ, ◌<◌, ◌≤◌, List, map, length, slice_index_or}
use Rattle.pgq_tables.specs.declared.index.Placed.{Placed}
use Rattle.pgq_tables.specs.Tables.{Stored}
use Rattle.pgq_tables.specs.Order.{by_txid}

-- the place of an event, with its transaction
abbrev pub as_placed : ℕ × Stored → Placed
as_placed x = record { txid = x.1.event.ev_txid; place = x.0 }

-- the places of events in order of their transactions
abbrev pub places_of : List Stored → List Placed
places_of events = map as_placed (by_txid events)

-- in place of a place that isn't there
abbrev pub no_place : Placed
no_place = record { txid = 0; place = 0 }

-- the transaction at an index of places
abbrev pub txid_at : List Placed → ℕ → ℕ
txid_at places j = (slice_index_or places j no_place).txid

-- places in order of their transactions
abbrev pub AreInOrder : List Placed → Type 0
AreInOrder places = (i j : ℕ) → i ≤ j → j < length places → txid_at places i ≤ txid_at places j

-- there are three tables, and one of them is the current one
abbrev pub AreThree : {X : Type 0} → List X → ℕ → Type 0
AreThree lists current = (length lists ≡ 3) × (current < 3)
