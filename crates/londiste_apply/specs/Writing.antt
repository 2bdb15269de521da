-- What a worker's transaction may write, and a row part that its marks have changed.
use Rattle.std.specs.Prelude.{◌≡◌, ◌<◌, ℕ, List, [], ◌∷◌, Bool, true, false, not, ◌||◌, ◌&&◌, ◌==◌, None, length}
use Rattle.sky_val.specs.declared.val.Val.{Val}
use Rattle.sky_txid.specs.Ids.{contains}
use Rattle.sky_keys.specs.declared.version.Version.{Version}
use Rattle.sky_keys.specs.Versions.{versions_at}
use Rattle.sky_model.specs.History.{Mark}
use Rattle.sky_model.specs.State.{RowPart, after_part_marks}

abbrev pub none_after : List Version → Bool
none_after [] = true
none_after (v ∷ vs) = false

-- whether only the last of some versions may be a transaction's
abbrev pub is_own_last : ℕ → List Version → Bool
is_own_last t [] = true
is_own_last t (v ∷ vs) = (not (t == v.txid) || none_after vs) && is_own_last t vs

-- a worker's transaction that runs may write the keys of a table: no session holds one, and only the newest version of a key may be the transaction's
pub record MayWrite (d : RowPart) (table t : ℕ) : Type 0 where
  pub within : table < length d.tables
  pub runs : contains t d.workers ≡ true
  pub free : (key : List Val) → d.holder table key ≡ None
  pub last : (key : List Val) → is_own_last t (versions_at key (d.versions table)) ≡ true

-- it was changed by marks alone
pub record Marked (old new : RowPart) : Type 0 where
  pub marks : List Mark
  pub left : new ≡ after_part_marks old marks
