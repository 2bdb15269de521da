-- How many stored events are looked at, at most, until a batch's are found.
use Rattle.std.specs.Prelude.{ℕ, ◌+◌, ◌*◌, ◌/◌, zero, suc, ◌==◌, ◌&&◌, nat_lt, nat_le, Bool, List, filter, length, if◌then◌else◌}
use Rattle.std.specs.List.{sum_by}
use Rattle.sky_txid.specs.Snapshot.{SnapshotView}
use Rattle.pgq_tables.specs.Tables.{Stored, Tables, by_age}

-- how often a number is halved until it is 0, if it is halved at most so many times
abbrev pub halvings : ℕ → ℕ → ℕ
halvings zero n = 0
halvings (suc most) n = if n == 0 then 0 else 1 + halvings most (n / 2)

-- how many binary digits a number has: 0 has none, and any other number has one more than its half
abbrev pub digits : ℕ → ℕ
digits n = halvings n n

-- whether the transaction of a stored event is one of those from the lower bound of one snapshot on and below the upper bound of another
abbrev pub is_between : (from to : SnapshotView) → Stored → Bool
is_between from to s = nat_le from.xmin s.event.ev_txid && nat_lt s.event.ev_txid to.xmax

-- to find where the events of a table begin takes at most a look for each binary digit of the number of events, and as many to find where they
-- end; two more are allowed, of which finding one event by its id takes one
abbrev pub looks_for_ends : List Stored → ℕ
looks_for_ends list = 2 * digits (length list) + 2

-- one look at each stored event between two snapshots, and those that find where these begin and end in each table
abbrev pub most_looks : (from to : SnapshotView) → Tables → ℕ
most_looks from to ts = length (filter (is_between from to) (by_age ts)) + sum_by looks_for_ends ts.lists
