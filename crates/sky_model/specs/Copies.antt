-- The copies of tables that run in a database, and the snapshots that it holds for copies of its own tables.
use Rattle.std.specs.Prelude.{ℕ, zero, suc, ◌+◌, List, [], ◌∷◌, ◌++◌, Bool, not, ◌==◌, ◌&&◌, Option, option_map, find, filter, length, if◌then◌else◌}
use Rattle.std.specs.List.{list_any}
use Rattle.sky_txid.specs.Ids.{contains}
use Rattle.sky_txid.specs.Snapshot.{SnapshotView}
use Rattle.sky_model.specs.History.{of_copy, began, ended, noded, hold_begun, hold_ended, History}
use Rattle.sky_model.specs.Transactions.{snapshot}

-- a copy of a table, and its transaction
pub record Copy : Type 0 where
  pub table : ℕ
  pub txid : ℕ

-- copies without the one of a transaction
abbrev pub without_copy : ℕ → List Copy → List Copy
without_copy t copies = filter (λ c. not (c.txid == t)) copies

-- the copies that run, in the order in which they began: each runs until its transaction ends
abbrev pub copies : History → List Copy
copies [] = []
copies (began (of_copy table) t ∷ h) = copies h ++ record { table = table; txid = t } ∷ []
copies (ended (of_copy table) t committed ∷ h) = without_copy t (copies h)
copies (_ ∷ h) = copies h

-- whether a copy of a table is among some
abbrev pub is_copied : ℕ → List Copy → Bool
is_copied table copies = list_any (λ c. c.table == table) copies

-- whether one of a table with this transaction is
abbrev pub is_copied_by : (table t : ℕ) → List Copy → Bool
is_copied_by table t copies = list_any (λ c. c.table == table && c.txid == t) copies

-- whether a transaction is that of one of them
abbrev pub is_copys : ℕ → List Copy → Bool
is_copys t copies = list_any (λ c. c.txid == t) copies

-- the transaction of the copy of a table, if there is one
abbrev pub copy_txid : ℕ → List Copy → Option ℕ
copy_txid table copies = option_map Copy.txid (find (λ c. c.table == table) copies)

-- a snapshot that is held, and the number under which it is
pub record Hold : Type 0 where
  pub number : ℕ
  pub snapshot : SnapshotView

-- holds without the one of a number
abbrev pub without_hold : ℕ → List Hold → List Hold
without_hold number holds = filter (λ x. not (x.number == number)) holds

-- the snapshots that are held, in the order in which they were taken
abbrev pub holds : History → List Hold
holds [] = []
holds (noded (hold_begun number) ∷ h) = holds h ++ record { number = number; snapshot = snapshot h } ∷ []
holds (noded (hold_ended number) ∷ h) = without_hold number (holds h)
holds (_ ∷ h) = holds h

-- the first number from `n` on, of this many and the one after them, that isn't among some
abbrev pub first_free : (most n : ℕ) → List ℕ → ℕ
first_free zero n ns = n
first_free (suc most) n ns = if contains n ns then first_free most (n + 1) ns else n

-- the least number that isn't among some: it is at most their number
abbrev pub least_free : List ℕ → ℕ
least_free ns = first_free (length ns) 0 ns
