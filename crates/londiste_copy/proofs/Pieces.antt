-- The rows that are read of a table fit it, and the last one's key is the key that was read last.
use Rattle.std.proofs.Common.{◌≡◌, ℕ, zero, suc, Bool, true, false, ◌&&◌, cond, List, [], ◌∷◌, take, length, slice_get, ◌-◌, Option, Some, None, IfSome, option_map, unwrap_or, refl, sym, ◌∙◌, ap, subst, arith}
use Rattle.std.specs.Cmp.{tied_itself}
use Rattle.std.specs.Ordering.{is_lt, is_eq, eq_by_cmp}
use Rattle.std.specs.FinMap.Entries.{below_all}
use Rattle.std.specs.Option.{is_none}
use Rattle.std.proofs.lemmas.Bool.{and_parts}
use Rattle.sky_val.specs.declared.val.Val.{Val}
use Rattle.sky_val.specs.declared.column.Column.{Column}
use Rattle.sky_val.specs.Entries.{Entries, at, is_in_order}
use Rattle.sky_val.specs.Order.{key_cmp}
use Rattle.sky_val.specs.Schemas.{key_of}
use Rattle.sky_val.proofs.Orders.{key_cmp-IsTotalOrder}
use Rattle.sky_txid.specs.Snapshot.{SnapshotView}
use Rattle.sky_keys.specs.declared.version.Version.{Version}
use Rattle.sky_keys.specs.Versions.{read, versions_at, and_entry, rows_read, above}
use Rattle.sky_keys.proofs.EntryLemmas.{key_ties-is, at-below}
use Rattle.sky_model.specs.CopyMoves.{columns_for, rows_from, rows_of, last_key}
use Rattle.sky_model.specs.LawsOfWrites.{IsRowOf}
use Rattle.sky_model.specs.NodesOfWorld.{columns_called}
use Rattle.sky_model.specs.StepCopy.{all_fit}
use Rattle.sky_model.specs.StepNode.{table_number}
use Rattle.sky_model.specs.State.{Database}
use Rattle.sky_model.specs.Promises.{after_all}
use Rattle.sky_model.specs.DatabaseCalls.{database_part}
use Rattle.sky_model.specs.DatabaseSteps.{IsMade}
use Rattle.sky_histories.proofs.RowKeys.{is_in_order-versions}
use Rattle.sky_histories.proofs.MadeCopies.{read-fits}
use Rattle.londiste_copy.specs.Copying.{last_row_key}

-- each entry is a row of a table of these columns, under its key
abbrev AreRows : List Column → Entries (List Val) → Type 0
AreRows columns [] = Unit {0}
AreRows columns (e ∷ es) = IsRowOf columns e.0 e.1 × AreRows columns es

-- what is read of each entry is such a row
abbrev ReadRows : List Column → SnapshotView → Entries (List Version) → Type 0
ReadRows columns s [] = Unit {0}
ReadRows columns s (e ∷ es) = IfSome (read s None e.1) (IsRowOf columns e.0) × ReadRows columns s es

key-itself : (key : List Val) → eq_by_cmp key_cmp key key ≡ true
key-itself key = ap is_eq (tied_itself key_cmp-IsTotalOrder key)

module _ (columns : List Column) (s : SnapshotView) where
  and-row : (key : List Val) (o : Option (List Val)) (rest : Entries (List Val)) → IfSome o (IsRowOf columns key) → AreRows columns rest → AreRows columns (and_entry key o rest)
  and-row key None rest is are = are
  and-row key (Some row) rest is are = (is, are)

  rows-read : (es : Entries (List Version)) → ReadRows columns s es → AreRows columns (rows_read s None es)
  rows-read [] are = tt
  rows-read (e ∷ es) are = and-row e.0 (read s None e.1) (rows_read s None es) are.0 (rows-read es are.1)

  -- also above a key
  kept-row : (e : List Val × List Version) (es : Entries (List Version)) (b : Bool) → IfSome (read s None e.1) (IsRowOf columns e.0) → ReadRows columns s es → ReadRows columns s (cond b (e ∷ es) es)
  kept-row e es true is are = (is, are)
  kept-row e es false is are = are

  rows-above : (after : Option (List Val)) (es : Entries (List Version)) → ReadRows columns s es → ReadRows columns s (above after es)
  rows-above None es are = are
  rows-above (Some key) [] are = tt
  rows-above (Some key) (e ∷ es) are = kept-row e (above (Some key) es) (is_lt (key_cmp key e.0)) are.0 (rows-above (Some key) es are.1)

  -- if what is read at each key is such a row
  abbrev ReadsAt : Entries (List Version) → List Val → Type 0
  ReadsAt es key = IfSome (read s None (versions_at key es)) (IsRowOf columns key)

  reads-none : (es : Entries (List Version)) (key : List Val) → at key es ≡ None → ReadsAt es key
  reads-none es key none = subst (λ o. IfSome (read s None (unwrap_or o [])) (IsRowOf columns key)) (sym none) tt

  reads-rest : (e : List Val × List Version) (es : Entries (List Version)) → below_all key_cmp e.0 es ≡ true → (key : List Val) → ReadsAt (e ∷ es) key → ReadsAt es key
  reads-rest e es below key reads = by (eq_by_cmp key_cmp key e.0) refl
    where
      by : (b : Bool) → eq_by_cmp key_cmp key e.0 ≡ b → ReadsAt es key
      by true same = reads-none es key (ap (λ k. at k es) (key_ties-is key e.0 same) ∙ at-below e.0 es below)
      by false other = subst (λ b. IfSome (read s None (unwrap_or (cond b (Some e.1) (at key es)) [])) (IsRowOf columns key)) other reads

  rows-each : (es : Entries (List Version)) → is_in_order es ≡ true → ((key : List Val) → ReadsAt es key) → ReadRows columns s es
  rows-each [] order reads = tt
  rows-each (e ∷ es) order reads =
      let parts = and_parts (below_all key_cmp e.0 es) (is_in_order es) order in (
        subst (λ b. IfSome (read s None (unwrap_or (cond b (Some e.1) (at e.0 es)) [])) (IsRowOf columns e.0)) (key-itself e.0) (reads e.0),
        rows-each es parts.1 (λ key. reads-rest e es parts.0 key (reads key)),
      )

rows-first : (columns : List Column) (most : ℕ) (es : Entries (List Val)) → AreRows columns es → AreRows columns (take most es)
rows-first columns zero es are = tt
rows-first columns (suc most) [] are = tt
rows-first columns (suc most) (e ∷ es) are = (are.0, rows-first columns most es are.1)

-- ---- so do those of a piece

versions-ordered : (d : Database) → IsMade d → (table : ℕ) → is_in_order (d.part.versions table) ≡ true
versions-ordered d made table =
    subst (λ (x : Database). is_in_order (x.part.versions table) ≡ true) (sym made.shown) (is_in_order-versions table (after_all database_part made.calls))

piece-rows : (d : Database) → IsMade d → (name : List ℕ) (s : SnapshotView) (after : Option (List Val)) (most : ℕ) → AreRows (columns_for d name) (rows_from d name s after most)
piece-rows d made name s after most = of (table_number d name)
  where
    of : (o : Option ℕ) → AreRows (unwrap_or (option_map d.part.columns o) []) (unwrap_or (option_map (λ t. take most (rows_read s None (above after (d.part.versions t)))) o) [])
    of None = tt
    of (Some t) =
        rows-first (d.part.columns t) most (rows_read s None (above after (d.part.versions t)))
        (rows-read (d.part.columns t) s (above after (d.part.versions t)) (rows-above (d.part.columns t) s after (d.part.versions t)
        (rows-each (d.part.columns t) s (d.part.versions t) (versions-ordered d made t) (λ key. read-fits d made s None t key))))

rows-fit : (columns : List Column) (es : Entries (List Val)) → AreRows columns es → all_fit columns (rows_of es) ≡ true
rows-fit columns [] are = refl
rows-fit columns (e ∷ es) are = λ i. is_none (are.0.0 i) && rows-fit columns es are.1 i

last-row : (columns : List Column) (before : Option (List Val)) (es : Entries (List Val)) → AreRows columns es → last_row_key columns before (rows_of es) ≡ last_key before es
last-row columns before [] are = refl
last-row columns before (e ∷ es) are = last-row columns (Some (key_of columns e.1)) es are.1 ∙ ap (λ key. last_key (Some key) es) are.0.1

-- in the replica's table, which has the same columns
pub piece-fits : (p r : Database) → IsMade p → (name : List ℕ) → columns_called name p ≡ columns_called name r → (s : SnapshotView) (after : Option (List Val)) (most : ℕ) → all_fit (columns_for r name) (rows_of (rows_from p name s after most)) ≡ true
piece-fits p r made name same s after most =
    ap (λ o. all_fit (unwrap_or o []) (rows_of (rows_from p name s after most))) (sym same) ∙ rows-fit (columns_for p name) (rows_from p name s after most) (piece-rows p made name s after most)

-- the last key
pub piece-last : (p : Database) → IsMade p → (name : List ℕ) (s : SnapshotView) (after : Option (List Val)) (most : ℕ) → last_row_key (columns_for p name) after (rows_of (rows_from p name s after most)) ≡ last_key after (rows_from p name s after most)
piece-last p made name s after most = last-row (columns_for p name) after (rows_from p name s after most) (piece-rows p made name s after most)

-- and how many they are
pub piece-count : (es : Entries (List Val)) → length (rows_of es) ≡ length es
piece-count [] = refl
piece-count (e ∷ es) = ap suc (piece-count es)

-- the key of the last row
pub key-of_last : (columns : List Column) (before : Option (List Val)) (rows : List (List Val)) (row : List Val) → slice_get rows (length rows - 1) ≡ Some row → last_row_key columns before rows ≡ Some (key_of columns row)
key-of_last columns before [] row is = absurd (cc)
key-of_last columns before (r ∷ []) row is =
    let none : length (r ∷ []) - 1 ≡ 0 = omega arith in
    let same : Some r ≡ Some row = sym (ap (slice_get (r ∷ [])) none) ∙ is in ap (option_map (key_of columns)) same
key-of_last columns before (r ∷ s ∷ rows) row is =
    let more : length (r ∷ s ∷ rows) - 1 ≡ suc (length (s ∷ rows) - 1) = omega arith in
    key-of_last columns (Some (key_of columns r)) (s ∷ rows) row (sym (ap (slice_get (r ∷ s ∷ rows)) more) ∙ is)
