-- Steps through the entries of a table, up to as many rows as were asked for.
use Rattle.std.proofs.Common.{◌≡◌, ◌≢◌, ℕ, ◌+◌, ◌≤◌, List, [], ◌∷◌, ◌++◌, length, map, take, Option, Some, None, refl, sym, ap, ◌∙◌, arith, append_assoc, append-nil, length-append}
use Rattle.std.proofs.lemmas.List.{take_all}
use Rattle.std.proofs.Math.Seq.{take-append_seam}
use Rattle.std.specs.declared.collections.Bound.{Bound}
use Rattle.std.specs.declared.collections.Bound.TheVariants.{Excluded, Unbounded}
use Rattle.std.specs.BTreeMap.Range.{entries_between}
use Rattle.sky_val.specs.declared.val.Val.{Val}
use Rattle.sky_val.specs.Order.{key_cmp}
use Rattle.sky_val.specs.Entries.{Entries}
use Rattle.sky_keys.specs.declared.version.Version.{Version}
use Rattle.sky_txid.specs.Snapshot.{SnapshotView}
use Rattle.sky_keys.specs.Versions.{read, and_entry, rows_read, above}

-- the rows that are read of entries, in the order of their keys
abbrev pub rows_of : SnapshotView → Option ℕ → Entries (List Version) → List (List Val)
rows_of s own es = map (λ e. e.1) (rows_read s own es)

-- rows were found, and others are to be found in the rest
pub record IsOnTheWay (s : SnapshotView) (own : Option ℕ) (most : ℕ) (all rest : Entries (List Version)) (found : List (List Val)) : Type 0 where
  pub whole : found ++ rows_of s own rest ≡ rows_of s own all
  pub few : length found ≤ most

-- where the code begins
abbrev pub start_of : Option (List Val) → Bound (List Val)
start_of None = Unbounded
start_of (Some key) = Excluded key

between-above : {X : Type 0} (after : Option (List Val)) (es : Entries X) → entries_between key_cmp (start_of after) Unbounded es ≡ above after es
between-above None [] = refl
between-above None (e ∷ es) = ap (λ rest. e ∷ rest) (between-above None es)
between-above (Some key) [] = refl
between-above (Some key) (e ∷ es) = grind (arith, between-above (Some key) es)

pub started : (s : SnapshotView) (own : Option ℕ) (most : ℕ) (after : Option (List Val)) (start : Bound (List Val)) (es rest : Entries (List Version)) (found : List (List Val))
    → start ≡ start_of after → rest ≡ entries_between key_cmp start Unbounded es → found ≡ [] → IsOnTheWay s own most (above after es) rest found
started s own most after start es rest found is between none =
    let all : rest ≡ above after es = between ∙ ap (λ b. entries_between key_cmp b Unbounded es) is ∙ between-above after es in
    let few : length found ≡ 0 = ap length none in
    record {
      whole = ap (λ rows. rows ++ rows_of s own rest) none ∙ ap (rows_of s own) all;
      few = omega arith;
    }

module _ (s : SnapshotView) (own : Option ℕ) (most : ℕ) (all : Entries (List Version)) where
  pub past_row : (before rest : Entries (List Version)) (found new : List (List Val)) (q row : List Val) (vs : List Version) → IsOnTheWay s own most all before found → before ≡ (q, vs) ∷ rest
      → Some row ≡ read s own vs → length found ≢ most → new ≡ found ++ row ∷ [] → IsOnTheWay s own most all rest new
  past_row before rest found new q row vs way first here room pushed =
      let whole : new ++ rows_of s own rest ≡ rows_of s own all =
      ap (λ rows. rows ++ rows_of s own rest) pushed ∙ append_assoc found (row ∷ []) (rows_of s own rest)
      ∙ ap (λ o. found ++ map (λ e. e.1) (and_entry q o (rows_read s own rest))) here
      ∙ ap (λ es. found ++ rows_of s own es) (sym first) ∙ way.whole in
      let few = way.few in
      let grown : length new ≡ length found + 1 = ap length pushed ∙ length-append found (row ∷ []) in
      record { whole = whole; few = omega arith }

  pub past_none : (before rest : Entries (List Version)) (found : List (List Val)) (q : List Val) (vs : List Version) → IsOnTheWay s own most all before found → before ≡ (q, vs) ∷ rest
      → None ≡ read s own vs → IsOnTheWay s own most all rest found
  past_none before rest found q vs way first here =
      let whole : found ++ rows_of s own rest ≡ rows_of s own all =
      ap (λ o. found ++ map (λ e. e.1) (and_entry q o (rows_read s own rest))) here
      ∙ ap (λ es. found ++ rows_of s own es) (sym first) ∙ way.whole in
      record { whole = whole; few = way.few }

module _ (s : SnapshotView) (own : Option ℕ) (most : ℕ) (all rest : Entries (List Version)) (found : List (List Val)) where
  pub found_all : IsOnTheWay s own most all rest found → rest ≡ [] → found ≡ take most (rows_of s own all)
  found_all way over =
      let whole : found ≡ rows_of s own all = sym (append-nil found) ∙ ap (λ es. found ++ rows_of s own es) (sym over) ∙ way.whole in
      sym (take_all most found way.few) ∙ ap (take most) whole

  pub found_most : IsOnTheWay s own most all rest found → length found ≡ most → found ≡ take most (rows_of s own all)
  found_most way full = sym (take-append_seam found (rows_of s own rest)) ∙ ap (λ n. take n (found ++ rows_of s own rest)) full ∙ ap (take most) way.whole
