-- Tables, and their rows at a place: what the transactions that have committed there wrote, one after another in the order of their commits.
use Rattle.std.specs.Prelude.{ℕ, List, [], ◌∷◌, ◌++◌, Bool, true, false, not, ◌&&◌, ◌||◌, ◌==◌, Option, Some, None, length, filter, if◌then◌else◌}
use Rattle.std.specs.List.{list_any}
use Rattle.std.specs.Ordering.{eq_by_cmp}
use Rattle.sky_val.specs.declared.val.Val.{Val}
use Rattle.sky_val.specs.declared.column.Column.{Column}
use Rattle.sky_val.specs.Order.{key_cmp}
use Rattle.sky_val.specs.Entries as entries
use Rattle.sky_val.specs.Entries.{Entries, at}
use Rattle.sky_model.specs.History.{ended, tabled, table_made, wrote, read_only, History}
use Rattle.sky_model.specs.Transactions.{has_committed}
use Rattle.sky_model.specs.Sessions.{own_txid, sight, place_of_sight}

-- the names of the tables, in the order of making: a table's number is its place here
abbrev pub table_names : History → List (List ℕ)
table_names [] = []
table_names (tabled (table_made name columns) ∷ h) = table_names h ++ name ∷ []
table_names (_ ∷ h) = table_names h

-- the columns of a table
abbrev pub columns_of : ℕ → History → List Column
columns_of table [] = []
columns_of table (tabled (table_made name columns) ∷ h) = if length (table_names h) == table then columns else columns_of table h
columns_of table (_ ∷ h) = columns_of table h

-- the transactions that have committed, in the order of their commits
abbrev pub committed : History → List ℕ
committed [] = []
committed (ended whose t true ∷ h) = committed h ++ t ∷ []
committed (_ ∷ h) = committed h

-- a write: the key has this row from then on, or none
pub record Write : Type 0 where
  pub key : List Val
  pub row : Option (List Val)

-- what a transaction wrote in a table, in order
abbrev pub writes : ℕ → ℕ → History → List Write
writes table t [] = []
writes table t (tabled (wrote whose u n key old new) ∷ h) =
    if n == table && u == t then writes table t h ++ record { key = key; row = new } ∷ [] else writes table t h
writes table t (_ ∷ h) = writes table t h

-- whether a transaction has written in a table, and hasn't ended
abbrev pub wrote_in : (table t : ℕ) → History → Bool
wrote_in table t [] = false
wrote_in table t (tabled (wrote who u n key old new) ∷ h) = (n == table && u == t) || wrote_in table t h
wrote_in table t (ended who u committed ∷ h) = not (u == t) && wrote_in table t h
wrote_in table t (_ ∷ h) = wrote_in table t h

-- whether sessions may not write a table
abbrev pub is_read_only : ℕ → History → Bool
is_read_only table [] = false
is_read_only table (tabled (read_only n on) ∷ h) = if n == table then on else is_read_only table h
is_read_only table (_ ∷ h) = is_read_only table h

-- rows without the row of a key
abbrev pub removed : List Val → Entries (List Val) → Entries (List Val)
removed key rows = filter (λ e. not (eq_by_cmp key_cmp key e.0)) rows

-- rows after a write
abbrev pub put : List Val → Option (List Val) → Entries (List Val) → Entries (List Val)
put key None rows = removed key rows
put key (Some row) rows = entries.put key row rows

-- rows after writes, one after another
abbrev pub put_all : List Write → Entries (List Val) → Entries (List Val)
put_all [] rows = rows
put_all (w ∷ ws) rows = put_all ws (put w.key w.row rows)

-- rows after what each transaction wrote, one after another
abbrev pub in_turn : (ℕ → List Write) → List ℕ → Entries (List Val) → Entries (List Val)
in_turn writes_of [] rows = rows
in_turn writes_of (t ∷ ts) rows = in_turn writes_of ts (put_all (writes_of t) rows)

-- the rows of a table
abbrev pub rows : ℕ → History → Entries (List Val)
rows table h = in_turn (λ t. writes table t h) (committed h) []

-- what a session's own transaction wrote in a table
abbrev pub own_writes : ℕ → Option ℕ → History → List Write
own_writes table None h = []
own_writes table (Some t) h = writes table t h

-- the rows at a place, with the own transaction's writes on top
abbrev pub rows_with_own : ℕ → Option ℕ → History → History → Entries (List Val)
rows_with_own table own h place = put_all (own_writes table own h) (rows table place)

-- the rows that a session is shown: those at its sight, with its own writes on top
abbrev pub rows_shown : ℕ → ℕ → History → Entries (List Val)
rows_shown who table h = rows_with_own table (own_txid who h) h (place_of_sight h (sight who h))

-- the rows that a session's writes meet: the present ones, with its own writes on top
abbrev pub rows_standing : ℕ → ℕ → History → Entries (List Val)
rows_standing who table h = rows_with_own table (own_txid who h) h h

-- whether writes include one of a key
abbrev pub has_written : List Val → List Write → Bool
has_written key ws = list_any (λ w. eq_by_cmp key_cmp key w.key) ws

-- the last of these transactions that has written the key
abbrev pub last_writer : List Val → (ℕ → List Write) → Option ℕ → List ℕ → Option ℕ
last_writer key writes_of last [] = last
last_writer key writes_of last (t ∷ ts) = last_writer key writes_of (if has_written key (writes_of t) then Some t else last) ts

-- a transaction, unless it passes a test
abbrev pub unless : (ℕ → Bool) → Option ℕ → Option ℕ
unless p None = None
unless p (Some t) = if p t then None else Some t

-- the transaction of the newest committed write of a key, if it hadn't committed at the sight and the own transaction hasn't written the key
abbrev pub unseen_writer : ℕ → List Val → Option ℕ → History → History → Option ℕ
unseen_writer table key own place h =
    if has_written key (own_writes table own h) then None
    else unless (has_committed place) (last_writer key (λ t. writes table t h) None (committed h))
