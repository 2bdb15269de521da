-- Writes name the rows that they meet, and what they leave are rows of their tables.
use Rattle.std.proofs.Common.{◌≡◌, ℕ, ◌+◌, ◌<◌, Bool, true, false, List, [], ◌∷◌, ◌++◌, Option, Some, None, IfSome, length, refl, sym, ◌∙◌, ap, subst, arith, if◌then◌else◌, length-append, ◌&&◌, ◌==◌, All}
use Rattle.std.specs.Ordering.{eq_by_cmp}
use Rattle.std.proofs.lemmas.Bool.{cond_both, and_parts, eqb-true}
use Rattle.std.proofs.lemmas.Bool.Decides.{nat_tests}
use Rattle.std.proofs.lemmas.List.Elements.{All-nil, All-cons, All-head, All-tail, All-weaker}
use Rattle.sky_val.specs.declared.val.Val.{Val}
use Rattle.sky_val.specs.declared.column.Column.{Column}
use Rattle.sky_val.specs.Order.{key_cmp}
use Rattle.sky_val.specs.Entries.{at}
use Rattle.sky_keys.specs.declared.version.Version.{Version}
use Rattle.sky_keys.specs.Versions.{with_version, without, version_of, newest_from, newest_by, own_version, row_of, read}
use Rattle.sky_txid.specs.Snapshot.{SnapshotView, sees}
use Rattle.sky_keys.proofs.EntryLemmas.{key_ties-is, versions_at-forgotten}
use Rattle.sky_model.specs.History.{Mark, Whose, of_session, ended, tabled, table_made, wrote, History, of_worker, of_copy}
use Rattle.sky_model.specs.Transactions.{has_ended}
use Rattle.sky_model.specs.Sessions.{own_txid}
use Rattle.sky_model.specs.Rows.{table_names, columns_of, rows_standing}
use Rattle.sky_model.specs.Nodes.{node}
use Rattle.sky_model.specs.Versions.{versions}
use Rattle.sky_model.specs.State.{part_of}
use Rattle.sky_model.specs.ShownRows.{RowsShown, rows_by, snapshot_now}
use Rattle.sky_model.specs.LawsOfWrites.{IsRowOf, WritesNameWhatStands, WrittenRowsFit, StandingRowsFit}
use Rattle.sky_histories.proofs.Legal.{Replaces, Fine, makes_table, writes, Legal, start, next, legal-below_mark, fine_mark, copies_row, applies_row}
use Rattle.sky_histories.proofs.SnapshotLaws.{legal_place}
use Rattle.sky_model.proofs.Cases.{if_or}
use Rattle.sky_histories.proofs.RowKeys.{is_in_order-versions}
use Rattle.sky_histories.proofs.KeyVersions.{kept, key_holds, kept-wrote}
use Rattle.sky_histories.proofs.RowSights.{same-rows}
use Rattle.sky_histories.proofs.Holders.{IsAlone, alone}

-- ---- each version of a list

all-with : (P : Version → Type 0) (t : ℕ) (row : Option (List Val)) (vs : List Version) → All P vs → P (record { txid = t; row = row }) → All P (with_version t row vs)
all-with P t row [] all this = All-cons P (record { txid = t; row = row }) [] this all
all-with P t row (v ∷ vs) all this =
    let rest = All-tail P v vs all in
    cond_both (t == v.txid) (record { txid = t; row = row } ∷ vs) (v ∷ with_version t row vs) (All P) (λ _. All-cons P (record { txid = t; row = row }) vs this rest)
    (λ _. All-cons P v (with_version t row vs) (All-head P v vs all) (all-with P t row vs rest this))

all-without : (P : Version → Type 0) (t : ℕ) (vs : List Version) → All P vs → All P (without t vs)
all-without P t [] all = all
all-without P t (v ∷ vs) all =
    let rest = all-without P t vs (All-tail P v vs all) in
    cond_both (t == v.txid) (without t vs) (v ∷ without t vs) (All P) (λ _. rest) (λ _. All-cons P v (without t vs) (All-head P v vs all) rest)

newest-of : (P : Version → Type 0) (p : ℕ → Bool) (vs : List Version) (newest : Option Version) → All P vs → IfSome newest P → IfSome (newest_from p newest vs) P
newest-of P p [] newest all this = this
newest-of P p (v ∷ vs) newest all this =
    newest-of P p vs (if p v.txid then Some v else newest) (All-tail P v vs all) (cond_both (p v.txid) (Some v) newest (λ o. IfSome o P) (λ _. All-head P v vs all) (λ _. this))

own-of : (P : Version → Type 0) (own : Option ℕ) (vs : List Version) → All P vs → IfSome (own_version own vs) P
own-of P None vs all = tt
own-of P (Some t) [] all = tt
own-of P (Some t) (v ∷ vs) all = cond_both (t == v.txid) (Some v) (version_of t vs) (λ o. IfSome o P) (λ _. All-head P v vs all) (λ _. own-of P (Some t) vs (All-tail P v vs all))

-- ---- the kept versions

-- its row, if it left one, is one of a table that exists, under the key
pub record Left (h : History) (table : ℕ) (key : List Val) (v : Version) : Type 0 where
  pub within : table < length (table_names h)
  pub fits : IfSome v.row (IsRowOf (columns_of table h) key)

abbrev pub AllLeft : History → Type 0
AllLeft h = (table : ℕ) (key : List Val) → All (Left h table key) (kept h table key)

row-left : (h : History) (table : ℕ) (key : List Val) (o : Option Version) → IfSome o (Left h table key) → IfSome (row_of o) (IsRowOf (columns_of table h) key)
row-left h table key None this = tt
row-left h table key (Some v) this = this.fits

-- so is one that is read
pub read-left : (h : History) → AllLeft h → (s : SnapshotView) (own : Option ℕ) (table : ℕ) (key : List Val) → IfSome (read s own (kept h table key)) (IsRowOf (columns_of table h) key)
read-left h all s own table key =
    row-left h table key _
    (if_or (Left h table key) (own_version own (kept h table key)) (newest_by (sees s) (kept h table key)) (own-of (Left h table key) own (kept h table key) (all table key))
    (newest-of (Left h table key) (sees s) (kept h table key) None (all table key) tt))

-- so is the row that a session's write meets
standing-left : (h : History) → AllLeft h → (who table : ℕ) (key : List Val) → IfSome ((rows_by (part_of h)).key who table key).standing (IsRowOf (columns_of table h) key)
standing-left h all who table key =
    row-left h table key _
    (if_or (Left h table key) (own_version (own_txid who h) (kept h table key)) (newest_by (sees (snapshot_now (part_of h))) (kept h table key))
    (own-of (Left h table key) (own_txid who h) (kept h table key) (all table key))
    (newest-of (Left h table key) (sees (snapshot_now (part_of h))) (kept h table key) None (all table key) tt))

-- a write over the row that it meets leaves a row of its table
new-fits : (h : History) → AllLeft h → (who table : ℕ) (key : List Val) (old new : Option (List Val)) → Replaces (part_of h) (node h) who table key old new → IfSome new (IsRowOf (columns_of table h) key)
new-fits h all who table key old new is = is.fits (subst (λ o. IfSome o (IsRowOf (columns_of table h) key)) is.stands (standing-left h all who table key))

left-same : (h : History) (mark : Mark) → ((table : ℕ) (key : List Val) (v : Version) → Left h table key v → Left (mark ∷ h) table key v)
    → ((table : ℕ) (key : List Val) → kept (mark ∷ h) table key ≡ kept h table key) → AllLeft h → AllLeft (mark ∷ h)
left-same h mark still same all table key =
    subst (All (Left (mark ∷ h) table key)) (sym (same table key)) (All-weaker (Left h table key) (Left (mark ∷ h) table key) (still table key) (kept h table key) (all table key))

-- so it is after a write
left-written : (h : History) → Legal h → AllLeft h → (whose : Whose) (t n : ℕ) (at_key : List Val) (old new : Option (List Val)) → IsAlone h t n at_key → n < length (table_names h)
    → IfSome new (IsRowOf (columns_of n h) at_key) → AllLeft (tabled (wrote whose t n at_key old new) ∷ h)
left-written h l all whose t n at_key old new is within fits = λ table key.
    subst (All (Left g table key)) (sym (kept-wrote h l whose t n at_key old new is table key))
    (cond_both ((n == table) && eq_by_cmp key_cmp key at_key) (with_version t new (kept h table key)) (kept h table key) (All (Left g table key)) (there table key) (λ _. before table key))
  where
    g : History
    g = tabled (wrote whose t n at_key old new) ∷ h

    before : (table : ℕ) (key : List Val) → All (Left g table key) (kept h table key)
    before table key = All-weaker (Left h table key) (Left g table key) (λ v is. record { within = is.within; fits = is.fits }) (kept h table key) (all table key)

    written : Left g n at_key (record { txid = t; row = new })
    written = record { within = within; fits = fits }

    there : (table : ℕ) (key : List Val) → ((n == table) && eq_by_cmp key_cmp key at_key) ≡ true → All (Left g table key) (with_version t new (kept h table key))
    there table key is =
        let both = and_parts (n == table) (eq_by_cmp key_cmp key at_key) is in
        all-with (Left g table key) t new (kept h table key) (before table key)
        (subst (λ m. Left g m key (record { txid = t; row = new })) (eqb-true n table both.0) (subst (λ k. Left g n k (record { txid = t; row = new })) (sym (key_ties-is key at_key both.1)) written))

left-step : (h : History) (mark : Mark) → Fine h mark → Legal h → AllLeft h → AllLeft (mark ∷ h)
left-step h _ (makes_table name columns new) l all = left-same h (tabled (table_made name columns)) still (λ table key. refl) all
  where
    still : (table : ℕ) (key : List Val) (v : Version) → Left h table key v → Left (tabled (table_made name columns) ∷ h) table key v
    still table key v is = record {
      within = (let more : length (table_names h ++ name ∷ []) ≡ length (table_names h) + 1 = length-append (table_names h) (name ∷ []) in let below : table < length (table_names h) = is.within in omega (arith, more, below));
      fits = subst (λ (cs : List Column). IfSome v.row (IsRowOf cs key)) (sym (ap (λ b. if b then columns else columns_of table h) (other is.within))) is.fits;
    }
      where
        other : table < length (table_names h) → (length (table_names h) == table) ≡ false
        other below = grind (arith, nat_tests)
left-step h _ (writes who t n at_key old new mine free stands) l all =
    left-written h l all (of_session who) t n at_key old new (alone h l (writes who t n at_key old new mine free stands)) stands.within (new-fits h all who n at_key old new stands)
left-step h _ (copies_row n t at_key old new is) l all = left-written h l all (of_copy n) t n at_key old new (alone h l (copies_row n t at_key old new is)) is.within is.fits
left-step h _ (applies_row n t at_key old new is) l all = left-written h l all of_worker t n at_key old new (alone h l (applies_row n t at_key old new is)) is.within is.fits
left-step h (ended whose t false) fine l all = λ table key.
    subst (All (Left (ended whose t false ∷ h) table key)) (sym (versions_at-forgotten t key (versions table h) (is_in_order-versions table h)))
    (all-without (Left (ended whose t false ∷ h) table key) t (kept h table key)
    (All-weaker (Left h table key) (Left (ended whose t false ∷ h) table key) (λ v is. record { within = is.within; fits = is.fits }) (kept h table key) (all table key)))
left-step h mark _ l all = left-same h mark (λ table key v is. record { within = is.within; fits = is.fits }) (λ table key. refl) all

pub all-left : (h : History) → Legal h → AllLeft h
all-left _ start = λ table key. All-nil (Left [] table key)
all-left _ (next {h = h} {mark = mark} l fine) = left-step h mark fine l (all-left h l)

-- ---- the laws

names-standing : (h : History) (who t table : ℕ) (key : List Val) (old new : Option (List Val)) → Legal h → Fine h (tabled (wrote (of_session who) t table key old new))
    → at key (rows_standing who table h) ≡ old
names-standing h _ _ _ _ _ _ l (writes who t table key old new mine free is) = ap (λ (r : RowsShown). (r.key who table key).standing) (same-rows h l) ∙ is.stands

pub writes_name_what_stands : WritesNameWhatStands
writes_name_what_stands p who t table key old new is =
    let l : Legal (tabled (wrote (of_session who) t table key old new) ∷ p) = legal_place (tabled (wrote (of_session who) t table key old new) ∷ p) is in
    names-standing p who t table key old new (legal-below_mark l) (fine_mark l)

fits-written : (h : History) (whose : Whose) (t table : ℕ) (key : List Val) (old new : Option (List Val)) → Legal h → Fine h (tabled (wrote whose t table key old new))
    → IfSome new (IsRowOf (columns_of table h) key)
fits-written h _ _ _ _ _ _ l (writes who t table key old new mine free is) = new-fits h (all-left h l) who table key old new is
fits-written h _ _ _ _ _ _ l (copies_row table t key old new is) = is.fits
fits-written h _ _ _ _ _ _ l (applies_row table t key old new is) = is.fits

pub written_rows_fit : WrittenRowsFit
written_rows_fit p whose t table key old new is =
    let l : Legal (tabled (wrote whose t table key old new) ∷ p) = legal_place (tabled (wrote whose t table key old new) ∷ p) is in
    fits-written p whose t table key old new (legal-below_mark l) (fine_mark l)

pub standing_rows_fit : StandingRowsFit
standing_rows_fit p is table key row stands =
    let l : Legal p = legal_place p is in
    subst (λ o. IfSome o (IsRowOf (columns_of table p) key)) ((key_holds p l table key).newest ∙ stands)
    (row-left p table key (newest_by (has_ended p) (kept p table key))
    (newest-of (Left p table key) (has_ended p) (kept p table key) None (all-left p l table key) tt))
