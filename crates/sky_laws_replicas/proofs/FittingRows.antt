-- The rows of a table that fit its columns, one after another.
use Rattle.std.proofs.Common.{◌≡◌, Bool, true, false, cond, ◌&&◌, List, [], ◌∷◌, ◌++◌, Some, is_none, bytes_eq, refl, sym, ap, ◌∙◌, if◌then◌else◌, not}
use Rattle.std.specs.Ordering.{eq_by_cmp}
use Rattle.std.specs.FinMap.Entries.{below_all}
use Rattle.std.proofs.lemmas.Bool.{and_parts}
use Rattle.sky_val.specs.declared.val.Val.{Val}
use Rattle.sky_val.specs.declared.column.Column.{Column}
use Rattle.sky_val.specs.declared.column.ColKind.{ColKind}
use Rattle.sky_val.specs.declared.column.ColKind.TheVariants as kind
use Rattle.sky_val.specs.Order.{key_cmp}
use Rattle.sky_val.specs.Entries.{Entries, at, is_in_order}
use Rattle.sky_keys.proofs.EntryLemmas.{key_ties-is, at-below}
use Rattle.sky_names.proofs.PlaceLemmas.{same_name}
use Rattle.sky_model.specs.StepCopy.{all_fit}
use Rattle.sky_model.specs.CopyMoves.{rows_of}
use Rattle.sky_model.specs.NodesOfWorld.{same_kind, same_column, same_columns}
use Rattle.sky_model.specs.LawsOfWrites.{IsRowOf}
use Rattle.sky_model.proofs.Cases.{by_test}
use Rattle.sky_laws_replicas.proofs.Pieces.{tied}

-- each row fits the columns, and has the key under which it is
abbrev pub AllFit : List Column → Entries (List Val) → Type 0
AllFit columns [] = Unit {0}
AllFit columns (e ∷ es) = IsRowOf columns e.0 e.1 × AllFit columns es

-- so it is if what is at each key does
pub fit-entries : (columns : List Column) (es : Entries (List Val)) → is_in_order es ≡ true → ((key row : List Val) → at key es ≡ Some row → IsRowOf columns key row) → AllFit columns es
fit-entries columns [] order fits = tt
fit-entries columns (e ∷ es) order fits =
    let both = and_parts (below_all key_cmp e.0 es) (is_in_order es) order in (
      fits e.0 e.1 (ap (λ b. cond b (Some e.1) (at e.0 es)) (tied e.0)),
      fit-entries columns es both.1 (λ key row is. fits key row (later key row both.0 is)),
    )
  where
    later : (key row : List Val) → below_all key_cmp e.0 es ≡ true → at key es ≡ Some row → cond (eq_by_cmp key_cmp key e.0) (Some e.1) (at key es) ≡ Some row
    later key row below is =
        by_test (λ b. eq_by_cmp key_cmp key e.0 ≡ b → cond b (Some e.1) (at key es) ≡ Some row) (eq_by_cmp key_cmp key e.0)
        (λ _ ties. absurd (cc (sym is ∙ ap (λ k. at k es) (key_ties-is key e.0 ties) ∙ at-below e.0 es below))) (λ _ _. is) refl

pub fit-front : (columns : List Column) (xs ys : Entries (List Val)) → AllFit columns (xs ++ ys) → AllFit columns xs
fit-front columns [] ys fits = tt
fit-front columns (x ∷ xs) ys fits = (fits.0, fit-front columns xs ys fits.1)

pub fit-back : (columns : List Column) (xs ys : Entries (List Val)) → AllFit columns (xs ++ ys) → AllFit columns ys
fit-back columns [] ys fits = fits
fit-back columns (x ∷ xs) ys fits = fit-back columns xs ys fits.1

pub rows-fit : (columns : List Column) (es : Entries (List Val)) → AllFit columns es → all_fit columns (rows_of es) ≡ true
rows-fit columns [] fits = refl
rows-fit columns (e ∷ es) fits = ap (λ o. is_none o && all_fit columns (rows_of es)) fits.0.0 ∙ rows-fit columns es fits.1

-- ---- columns

same-kind : (k l : ColKind) → same_kind k l ≡ true → k ≡ l
same-kind kind.Int kind.Int e = refl
same-kind kind.Text kind.Text e = refl
same-kind kind.Int kind.Text e = absurd (cc e)
same-kind kind.Text kind.Int e = absurd (cc e)

same-key : (k l : Bool) → (if k then l else not l) ≡ true → k ≡ l
same-key true l e = sym e
same-key false true e = absurd (cc e)
same-key false false e = refl

same-column : (c e : Column) → same_column c e ≡ true → c ≡ e
same-column c e is =
    let both = and_parts (bytes_eq c.name e.name && same_kind c.kind e.kind) (if c.key then e.key else not e.key) is in
    let more = and_parts (bytes_eq c.name e.name) (same_kind c.kind e.kind) both.0 in
    λ i. record { name = same_name c.name e.name more.0 i; kind = same-kind c.kind e.kind more.1 i; key = same-key c.key e.key both.1 i }

pub same-columns : (cs es : List Column) → same_columns cs es ≡ true → cs ≡ es
same-columns [] [] is = refl
same-columns [] (e ∷ es) is = absurd (cc is)
same-columns (c ∷ cs) [] is = absurd (cc is)
same-columns (c ∷ cs) (e ∷ es) is =
    let both = and_parts (same_column c e) (same_columns cs es) is in
    λ i. same-column c e both.0 i ∷ same-columns cs es both.1 i
