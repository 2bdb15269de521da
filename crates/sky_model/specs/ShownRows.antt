-- What the tables of a database show a statement: by the history, and by the kept versions.
use Rattle.std.specs.Prelude.{ℕ, List, Option, None, option_map, is_some, find, if◌then◌else◌}
use Rattle.sky_val.specs.declared.val.Val.{Val}
use Rattle.sky_val.specs.Entries.{Entries, at}
use Rattle.sky_txid.specs.Snapshot.{SnapshotView, snapshot_of, sees}
use Rattle.sky_keys.specs.declared.version.Version.{Version}
use Rattle.sky_keys.specs.Versions.{newest_by, own_version, read, versions_at, rows_read}
use Rattle.sky_model.specs.History.{History}
use Rattle.sky_model.specs.Sessions.{own_txid, sight, place_of_sight, Session}
use Rattle.sky_model.specs.Rows.{rows_shown, rows_standing, unless, unseen_writer}
use Rattle.sky_model.specs.State.{RowPart}

-- what a key shows a session
pub record KeyShown : Type 0 where
  -- its row at the session's sight, or as the own transaction left it
  pub row : Option (List Val)
  -- its row now, or as the own transaction left it
  pub standing : Option (List Val)
  -- the transaction of its newest committed write, if the sight doesn't have that write and the own transaction hasn't written the key
  pub unseen : Option ℕ

-- what the tables show each session
pub record RowsShown : Type 0 where
  pub key : (who table : ℕ) → List Val → KeyShown
  pub rows : (who table : ℕ) → Entries (List Val)

-- by the history
abbrev pub rows_in : History → RowsShown
rows_in h = record {
  key = λ who table key. record {
    row = at key (rows_shown who table h);
    standing = at key (rows_standing who table h);
    unseen = unseen_writer table key (own_txid who h) (place_of_sight h (sight who h)) h;
  };
  rows = λ who table. rows_shown who table h;
}

-- the present snapshot, and that of a session's sight
abbrev pub snapshot_now : RowPart → SnapshotView
snapshot_now d = snapshot_of d.next d.running_ids

abbrev pub snapshot_for : RowPart → Session → SnapshotView
snapshot_for d s = place_of_sight (snapshot_now d) s.sight

-- the transaction of the newest version that is seen now, unless the sight sees it or there is an own version
abbrev pub unseen_in : RowPart → Session → List Version → Option ℕ
unseen_in d s vs =
    if is_some (own_version s.txid vs) then None
    else unless (sees (snapshot_for d s)) (option_map Version.txid (newest_by (sees (snapshot_now d)) vs))

-- what versions of a key show a session
abbrev pub key_by : RowPart → Session → List Version → KeyShown
key_by d s vs = record {
  row = read (snapshot_for d s) s.txid vs;
  standing = read (snapshot_now d) s.txid vs;
  unseen = unseen_in d s vs;
}

-- by the kept versions
abbrev pub rows_by : RowPart → RowsShown
rows_by d = record {
  key = λ who table key. key_by d (d.session who) (versions_at key (d.versions table));
  rows = λ who table. rows_read (snapshot_for d (d.session who)) (d.session who).txid (d.versions table);
}

-- the least running transaction that has written in a table
abbrev pub least_writer : RowPart → ℕ → Option ℕ
least_writer d table = find (d.wrote_in table) d.running_ids
