-- What the workers of leaves have in hand, as the world keeps it.
use Rattle.std.specs.Prelude.{◌≡◌, ℕ, ◌<◌, List, [], Bool, true, false, ◌&&◌, Option, None, option_and_then, length, slice_index_or, slice_set, find, bytes_eq, ◌==◌}
use Rattle.std.specs.Ordering.{nat_cmp}
use Rattle.std.specs.BTreeMap.{is_at}
use Rattle.std.specs.Map.{lookup}
use Rattle.sky_model.specs.Hands.{BatchHand, Hand}

-- the worker that copies a table of a database, and what it has in hand
pub record HandAt : Type 0 where
  pub database : ℕ
  pub table : List ℕ
  pub hand : Option Hand

-- whether a worker is that of a table
abbrev pub is_hand_of : (database : ℕ) → (table : List ℕ) → HandAt → Bool
is_hand_of database table x = x.database == database && bytes_eq table x.table

-- what the worker of a table has in hand
abbrev pub hand_at : List HandAt → (database : ℕ) → (table : List ℕ) → Option Hand
hand_at hands database table = option_and_then HandAt.hand (find (is_hand_of database table) hands)

abbrev pub no_worker : HandAt
no_worker = record { database = 0; table = []; hand = None }

-- the worker at a place; past the last place there is none
abbrev pub worker_at : List HandAt → (place : ℕ) → HandAt
worker_at hands place = slice_index_or hands place no_worker

-- it has this in hand, or nothing
abbrev pub with_hand : List HandAt → (place : ℕ) → Option Hand → List HandAt
with_hand hands place hand = slice_set hands place (record (worker_at hands place) { hand = hand })

-- a place is that of the worker of a table, which no place before it is
pub record IsPlaceOf (hands : List HandAt) (database : ℕ) (table : List ℕ) (place : ℕ) : Type 0 where
  pub within : place < length hands
  pub own : is_hand_of database table (worker_at hands place) ≡ true
  pub first : (k : ℕ) → k < place → is_hand_of database table (worker_at hands k) ≡ false

-- what the worker of the leaf of a database has in hand
abbrev pub batch_at : List (ℕ × BatchHand) → (database : ℕ) → Option BatchHand
batch_at batches database = lookup (is_at (nat_cmp database)) batches
