-- Steps through the entries of a table, of which the keys with rows are gathered.
use Rattle.std.proofs.Common.{◌≡◌, ℕ, Bool, true, false, List, [], ◌∷◌, ◌++◌, map, Option, Some, None, is_some, refl, sym, ap, ◌∙◌, append_assoc, append-nil, Bor}
use Rattle.std.specs.Option.{option_copied}
use Rattle.sky_val.specs.declared.val.Val.{Val}
use Rattle.sky_val.specs.Entries.{Entries}
use Rattle.sky_keys.specs.declared.version.Version.{Version}
use Rattle.sky_txid.specs.Snapshot.{SnapshotView}
use Rattle.sky_keys.specs.Versions.{read, and_entry, rows_read}

-- the keys at which a read of entries finds a row, in their order
abbrev pub keys_of : SnapshotView → Option ℕ → Entries (List Version) → List (List Val)
keys_of s own es = map (λ e. e.0) (rows_read s own es)

-- keys were found, and others are to be found in the rest
abbrev pub AreGathered : SnapshotView → Option ℕ → Entries (List Version) → Entries (List Version) → List (List Val) → Type 0
AreGathered s own all rest found = found ++ keys_of s own rest ≡ keys_of s own all

-- a key in front of others, if it has a row
abbrev and_key : Bool → List Val → List (List Val) → List (List Val)
and_key true q keys = q ∷ keys
and_key false q keys = keys

key_first : (q : List Val) (o : Option (List Val)) (es : Entries (List Val)) → map (λ e. e.0) (and_entry q o es) ≡ and_key (is_some o) q (map (λ e. e.0) es)
key_first q None es = refl
key_first q (Some row) es = refl

pub some_copied : {X : Type 0} (o : Option (Bor X)) → is_some o ≡ is_some (option_copied o)
some_copied None = refl
some_copied (Some x) = refl

module _ (s : SnapshotView) (own : Option ℕ) (all : Entries (List Version)) where
  pub begun : (rest : Entries (List Version)) (found : List (List Val)) → rest ≡ all → found ≡ [] → AreGathered s own all rest found
  begun rest found is none = ap (λ keys. keys ++ keys_of s own rest) none ∙ ap (keys_of s own) is

  key_at : (q : List Val) (vs : List Version) (rest : Entries (List Version)) (b : Bool) → is_some (read s own vs) ≡ b → keys_of s own ((q, vs) ∷ rest) ≡ and_key b q (keys_of s own rest)
  key_at q vs rest b is = key_first q (read s own vs) (rows_read s own rest) ∙ ap (λ b. and_key b q (keys_of s own rest)) is

  pub past_key : (before rest : Entries (List Version)) (found new : List (List Val)) (q : List Val) (vs : List Version) → AreGathered s own all before found → before ≡ (q, vs) ∷ rest
      → is_some (read s own vs) ≡ true → new ≡ found ++ q ∷ [] → AreGathered s own all rest new
  past_key before rest found new q vs way first is pushed =
      ap (λ keys. keys ++ keys_of s own rest) pushed ∙ append_assoc found (q ∷ []) (keys_of s own rest)
      ∙ ap (λ keys. found ++ keys) (sym (key_at q vs rest true is))
      ∙ ap (λ es. found ++ keys_of s own es) (sym first) ∙ way

  pub past_rowless : (before rest : Entries (List Version)) (found : List (List Val)) (q : List Val) (vs : List Version) → AreGathered s own all before found → before ≡ (q, vs) ∷ rest
      → is_some (read s own vs) ≡ false → AreGathered s own all rest found
  past_rowless before rest found q vs way first is =
      ap (λ keys. found ++ keys) (sym (key_at q vs rest false is))
      ∙ ap (λ es. found ++ keys_of s own es) (sym first) ∙ way

  pub all_gathered : (rest : Entries (List Version)) (found : List (List Val)) → AreGathered s own all rest found → rest ≡ [] → found ≡ keys_of s own all
  all_gathered rest found way over = sym (append-nil found) ∙ ap (λ es. found ++ keys_of s own es) (sym over) ∙ way
