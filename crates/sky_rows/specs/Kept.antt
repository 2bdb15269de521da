-- What is kept of a key: its newest version, unless that was forgotten, and the older ones in a list.
use Rattle.std.specs.Prelude.{◌≡◌, ◌≢◌, ℕ, Bool, false, ◌==◌, if◌then◌else◌, List, [], ◌∷◌, ◌++◌, map, Option, None, Some, IsSome}
use Rattle.std.specs.Option.{option_map_or}
use Rattle.sky_val.specs.Entries.{Entries}
use Rattle.sky_keys.specs.declared.version.Version.{Version}
use Rattle.sky_rows.specs.declared.kept.Kept.{Kept}
use Rattle.sky_rows.specs.Versions.{IsOneOfEach}
use Rattle.sky_rows.specs.Older.{OlderView, list_in, older_in}

-- the older versions of a key, of which there are none if it has no list
abbrev pub older_of : OlderView → Option ℕ → List Version
older_of older None = []
older_of older (Some list) = older_in older list

-- a version, if there is one
abbrev pub if_any : Option Version → List Version
if_any None = []
if_any (Some v) = v ∷ []

-- the versions of a key, the oldest first
abbrev pub versions_of : OlderView → Kept → List Version
versions_of older kept = older_of older kept.list ++ if_any kept.newest

-- the versions of each key
abbrev pub all_versions : OlderView → Entries Kept → Entries (List Version)
all_versions older es = map (λ e. (e.0, versions_of older e.1)) es

-- whether a version is the transaction's; the version if it isn't
abbrev pub is_newest : ℕ → Option Version → Bool
is_newest t newest = option_map_or (λ v. v.txid == t) newest false

abbrev pub newest_without : ℕ → Option Version → Option Version
newest_without t newest = if is_newest t newest then None else newest

-- a list exists, if there is one
abbrev pub IsUsed : OlderView → Option ℕ → Type 0
IsUsed older list = (l : ℕ) → list ≡ Some l → IsSome (list_in older l)

-- a key's list changed, or another one took its place: it exists, and every other list that existed stays, and isn't it
pub record Moves (old : OlderView) (was : Option ℕ) (new : OlderView) (is : Option ℕ) : Type 0 where
  pub used : IsUsed new is
  pub others : (l : ℕ) (vs : List Version) → list_in old l ≡ Some vs → was ≢ Some l → list_in new l ≡ Some vs
  pub apart : (l : ℕ) (vs : List Version) → list_in old l ≡ Some vs → was ≢ Some l → is ≢ Some l

-- keys have other lists than this one
abbrev pub Lack : Option ℕ → Entries Kept → Type 0
Lack list [] = Unit {0}
Lack list (e ∷ es) = ((l : ℕ) → list ≡ Some l → e.1.list ≢ Some l) × Lack list es

-- each key's list exists and is no other key's, and each key has at most one version of a transaction
abbrev pub AreOwn : OlderView → Entries Kept → Type 0
AreOwn older [] = Unit {0}
AreOwn older (e ∷ es) = IsUsed older e.1.list × IsOneOfEach (versions_of older e.1) × Lack e.1.list es × AreOwn older es
