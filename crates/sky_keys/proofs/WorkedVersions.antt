-- Worked versions, by computation: transaction 3 was committed, and 4 runs.
use Rattle.std.proofs.Common.{◌≡◌, ℕ, pos, List, [], ◌∷◌, Option, Some, None, refl}
use Rattle.sky_val.specs.declared.val.Val.{Val}
use Rattle.sky_val.specs.declared.val.Val.TheVariants.{Int}
use Rattle.sky_val.specs.Entries.{Entries}
use Rattle.sky_keys.specs.declared.version.Version.{Version}
use Rattle.sky_txid.specs.Snapshot.{SnapshotView}
use Rattle.sky_keys.specs.Versions.{newest_but, read, versions_at, written, forgotten, rows_read, above}

-- the key and the row of one number
abbrev one : ℕ → List Val
one n = Int (pos n) ∷ []

abbrev version : ℕ → Option (List Val) → Version
version t row = record { txid = t; row = row }

-- 3 wrote the keys 2 and 1, and 4 wrote the key 3 and deleted the key 1
abbrev versions : Entries (List Version)
versions = written 4 (one 1) None (written 4 (one 3) (Some (one 30)) (written 3 (one 1) (Some (one 10)) (written 3 (one 2) (Some (one 20)) [])))

abbrev snapshot : SnapshotView
snapshot = record { xmin = 4; xmax = 5; xip = 4 ∷ [] }

in_order_of_keys : versions ≡ (one 1, version 3 (Some (one 10)) ∷ version 4 None ∷ []) ∷ (one 2, version 3 (Some (one 20)) ∷ []) ∷ (one 3, version 4 (Some (one 30)) ∷ []) ∷ []
in_order_of_keys = refl

others_read : rows_read snapshot None versions ≡ (one 1, one 10) ∷ (one 2, one 20) ∷ []
others_read = refl

writer_reads : rows_read snapshot (Some 4) versions ≡ (one 2, one 20) ∷ (one 3, one 30) ∷ []
writer_reads = refl

read_above : rows_read snapshot None (above (Some (one 1)) versions) ≡ (one 2, one 20) ∷ []
read_above = refl

aborted : forgotten 4 versions ≡ (one 1, version 3 (Some (one 10)) ∷ []) ∷ (one 2, version 3 (Some (one 20)) ∷ []) ∷ []
aborted = refl

written_again : versions_at (one 1) (written 4 (one 1) (Some (one 11)) versions) ≡ version 3 (Some (one 10)) ∷ version 4 (Some (one 11)) ∷ []
written_again = refl

newest_of_others : newest_but (Some 4) (versions_at (one 1) versions) ≡ Some (version 3 (Some (one 10)))
newest_of_others = refl

newest_of_all : newest_but None (versions_at (one 1) versions) ≡ Some (version 4 None)
newest_of_all = refl

no_key : read snapshot (Some 4) (versions_at (one 4) versions) ≡ None
no_key = refl
