-- Which keys each transaction wrote, as the index of a table records.
use Rattle.std.specs.Prelude.{◌≡◌, ℕ, Bool, true, false, not, nat_lt, ◌==◌, ◌||◌, if◌then◌else◌, List, [], ◌∷◌, Option, None, Some}
use Rattle.std.specs.List.{list_any}
use Rattle.std.specs.Option.{option_map_or}
use Rattle.std.specs.Ordering.{nat_cmp}
use Rattle.std.specs.BTreeMap.{BTreeMap, get, is_at}
use Rattle.std.specs.BTreeSet.{BTreeSet, contains}
use Rattle.sky_val.specs.declared.val.Val.{Val}
use Rattle.sky_val.specs.Order.{key_cmp}
use Rattle.sky_val.specs.Entries.{Entries}
use Rattle.sky_keys.specs.declared.version.Version.{Version}
use Rattle.sky_keys.specs.Versions.{version_of, unless_empty}
use Rattle.sky_rows.specs.declared.written.Written.{Written}
use Rattle.sky_rows.specs.declared.log.Log.{Log}

-- whether a key is indexed among those that a transaction wrote
abbrev pub indexed : BTreeMap ℕ (BTreeSet (List Val)) → ℕ → List Val → Bool
indexed keys t key = option_map_or (λ of_it. contains key_cmp of_it key) (get nat_cmp keys t) false

-- whether it is the transaction whose keys aren't indexed
abbrev pub is_unindexed : Option ℕ → ℕ → Bool
is_unindexed unindexed t = option_map_or (λ u. t == u) unindexed false

-- whether a transaction may have written a key, which is known of those from one on but for the one whose keys aren't indexed
abbrev pub wrote : Written → ℕ → List Val → Bool
wrote index t key = (nat_lt t index.from || is_unindexed index.unindexed t) || indexed index.keys t key

-- the transaction that reads, if it wrote the key
abbrev pub writer : (ℕ → List Val → Bool) → Option ℕ → List Val → Option ℕ
writer wrote None key = None
writer wrote (Some t) key = if wrote t key then Some t else None

-- a key has versions, and each is of a transaction that may have written the key
pub record IsKept (wrote : ℕ → List Val → Bool) (key : List Val) (vs : List Version) : Type 0 where
  pub some : unless_empty vs ≡ Some vs
  pub writers : (t : ℕ) → wrote t key ≡ false → version_of t vs ≡ None

-- the same, of each key
abbrev pub AllKept : (ℕ → List Val → Bool) → Entries (List Version) → Type 0
AllKept wrote [] = Unit {0}
AllKept wrote (e ∷ es) = IsKept wrote e.0 e.1 × AllKept wrote es

-- whether a transaction may have written a key, as a log of one transaction's keys says: it says nothing of any other's
abbrev pub logged : Option Log → ℕ → List Val → Bool
logged None t key = true
logged (Some log) t key = not (t == log.txid) || list_any (is_at (key_cmp key)) log.keys.items
