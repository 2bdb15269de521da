-- The versions that transactions leave of a key, and of the keys of a table.
-- The versions of a key are a list, oldest first, with at most one of each transaction.
use Rattle.std.specs.Prelude.{ℕ, Bool, true, not, ◌==◌, if◌then◌else◌, List, [], ◌∷◌, Option, Some, None, unwrap_or, filter}
use Rattle.std.specs.Option.{option_or}
use Rattle.std.specs.Ordering.{is_lt}
use Rattle.sky_val.specs.declared.val.Val.{Val}
use Rattle.sky_val.specs.Order.{key_cmp}
use Rattle.sky_val.specs.Entries.{Entries, at, put}
use Rattle.sky_keys.specs.declared.version.Version.{Version}
use Rattle.sky_txid.specs.Snapshot.{SnapshotView, sees}

-- a transaction's write: it replaces the transaction's version in place, or else appends one
abbrev pub with_version : ℕ → Option (List Val) → List Version → List Version
with_version t row [] = record { txid = t; row = row } ∷ []
with_version t row (v ∷ vs) = if t == v.txid then record { txid = t; row = row } ∷ vs else v ∷ with_version t row vs

-- the versions of the other transactions
abbrev pub without : ℕ → List Version → List Version
without t [] = []
without t (v ∷ vs) = if t == v.txid then without t vs else v ∷ without t vs

-- a transaction's own version
abbrev pub version_of : ℕ → List Version → Option Version
version_of t [] = None
version_of t (v ∷ vs) = if t == v.txid then Some v else version_of t vs

-- the newest version whose transaction passes a test, or `newest` if none does
abbrev pub newest_from : (ℕ → Bool) → Option Version → List Version → Option Version
newest_from p newest [] = newest
newest_from p newest (v ∷ vs) = newest_from p (if p v.txid then Some v else newest) vs

-- the newest version whose transaction passes a test
abbrev pub newest_by : (ℕ → Bool) → List Version → Option Version
newest_by p vs = newest_from p None vs

-- whether a transaction is other than this one
abbrev pub is_other : Option ℕ → ℕ → Bool
is_other None t = true
is_other (Some u) t = not (u == t)

-- the newest version that isn't of this transaction
abbrev pub newest_but : Option ℕ → List Version → Option Version
newest_but except vs = newest_by (is_other except) vs

-- the own version of the reading transaction, if there is one
abbrev pub own_version : Option ℕ → List Version → Option Version
own_version None vs = None
own_version (Some t) vs = version_of t vs

-- the row that a version left: none for a deletion
abbrev pub row_of : Option Version → Option (List Val)
row_of None = None
row_of (Some v) = v.row

-- the visibility rule: the row of the own version if there is one, or else of the newest version that the snapshot sees
abbrev pub read : SnapshotView → Option ℕ → List Version → Option (List Val)
read s own vs = row_of (option_or (own_version own vs) (newest_by (sees s) vs))

-- the versions at a key
abbrev pub versions_at : List Val → Entries (List Version) → List Version
versions_at key es = unwrap_or (at key es) []

-- a transaction's write at a key
abbrev pub written : ℕ → List Val → Option (List Val) → Entries (List Version) → Entries (List Version)
written t key row es = put key (with_version t row (versions_at key es)) es

-- an entry before the others, if it has a value
abbrev pub and_entry : {X : Type 0} → List Val → Option X → Entries X → Entries X
and_entry key None es = es
and_entry key (Some x) es = (key, x) ∷ es

-- what `f` gives of each value, at its key; a key of whose value it gives none is dropped
abbrev pub values_by : {X Y : Type 0} → (X → Option Y) → Entries X → Entries Y
values_by f [] = []
values_by f (e ∷ es) = and_entry e.0 (f e.1) (values_by f es)

-- a list, if it has items
abbrev pub unless_empty : {X : Type 0} → List X → Option (List X)
unless_empty [] = None
unless_empty (x ∷ xs) = Some (x ∷ xs)

-- the versions without a transaction's; a key without versions is dropped
abbrev pub forgotten : ℕ → Entries (List Version) → Entries (List Version)
forgotten t es = values_by (λ vs. unless_empty (without t vs)) es

-- the keys at which a read finds a row, each with that row
abbrev pub rows_read : SnapshotView → Option ℕ → Entries (List Version) → Entries (List Val)
rows_read s own es = values_by (read s own) es

-- the entries above a key, or all if there is none
abbrev pub above : {X : Type 0} → Option (List Val) → Entries X → Entries X
above None es = es
above (Some key) es = filter (λ e. is_lt (key_cmp key e.0)) es
