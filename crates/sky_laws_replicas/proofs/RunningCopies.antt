-- The copies that run in a database, by the names of their tables, mark by mark.
use Rattle.std.proofs.Common.{arith, ◌≡◌, ℕ, ◌<◌, ◌==◌, inl, inr, List, [], ◌∷◌, ◌++◌, Bool, true, false, not, Option, Some, None, length, length-append, bytes_eq, refl, sym, ap, ◌∙◌, if◌then◌else◌}
use Rattle.std.specs.Option.{option_or, option_and_then}
use Rattle.sky_names.specs.Places.{place_of}
use Rattle.sky_names.proofs.PlaceLemmas.{place_of_within, place_of-append}
use Rattle.sky_model.specs.History.{Mark, of_copy, began, ended, tabled, table_made, History}
use Rattle.sky_model.specs.Copies.{Copy, copies, is_copied, copy_txid, without_copy}
use Rattle.sky_model.specs.Rows.{table_names, is_read_only}
use Rattle.sky_model.specs.Nodes.{node, is_leaf}
use Rattle.sky_model.specs.State.{database_of}
use Rattle.sky_model.specs.CopyMoves.{copy_running}
use Rattle.sky_histories.proofs.Legal.{without_node, at_joining, at_leaving, Fine, makes_table, guards, nodes, Legal, start, next}
use Rattle.sky_histories.proofs.NodeReadings.{leaf-before}
use Rattle.sky_histories.proofs.Guarded.{IsGuarded, copies-guarded, copied-by, copy_txid-some}
use Rattle.sky_model.proofs.Cases.{by_test, by_same}

-- ---- a copied table is one of the database

abbrev GuardedWithin : History → Type 0
GuardedWithin h = (table : ℕ) → is_leaf (node h) ≡ true → is_read_only table h ≡ true → table < length (table_names h)

within-step : (h : History) (mark : Mark) → Fine h mark → GuardedWithin h → GuardedWithin (mark ∷ h)
within-step h _ (nodes mark fits) ih = λ table leaf is. elim (leaf-before h mark fits leaf) [
  | inl was ↦ ih table was is
  | inr free ↦ absurd (cc (sym (free table) ∙ is))
]
within-step h _ (guards _ _ (without_node n on bare)) ih = λ table leaf is. absurd (cc (sym leaf ∙ ap is_leaf bare))
within-step h _ (guards _ _ (at_joining n last unused)) ih = λ table leaf is.
    by_same (λ b. (if b then true else is_read_only table h) ≡ true → table < length (table_names h)) n table
    (λ same _. let below = place_of_within last.name (table_names last.below) n last.there in
    let names = ap (λ g. length (table_names g)) last.last in
    omega (arith, same, below, names)) (λ _ was. ih table leaf was) is
within-step h _ (guards _ _ (at_leaving n last uncopied unwritten)) ih = λ table leaf is.
    by_test (λ b. (if b then false else is_read_only table h) ≡ true → table < length (table_names h)) (n == table) (λ _ e. absurd (cc e)) (λ _ was. ih table leaf was) is
within-step h _ (makes_table last columns new) ih = λ table leaf is.
    let within = ih table leaf is in
    let longer = length-append (table_names h) (last ∷ []) in
    omega (arith, within, longer)
within-step h _ _ ih = ih

guarded-within : (h : History) → Legal h → GuardedWithin h
guarded-within [] start = λ table leaf is. absurd (cc is)
guarded-within _ (next {h = h} {mark = mark} l fine) = within-step h mark fine (guarded-within h l)

copied-within : (h : History) → Legal h → (table : ℕ) → is_copied table (copies h) ≡ true → table < length (table_names h)
copied-within h l table is = let g : IsGuarded h table = copies-guarded h l table is in guarded-within h l table g.leaf g.guarded

-- ---- a copy that runs

-- one of the table of a name runs
pub record IsCopied (h : History) (name : List ℕ) (table : ℕ) : Type 0 where
  pub named : place_of name (table_names h) ≡ Some table
  pub runs : is_copied table (copies h) ≡ true

-- none does
abbrev pub Uncopied : History → List ℕ → Type 0
Uncopied h name = (table : ℕ) → IsCopied h name table → ⊥

-- whether a mark isn't the beginning of a copy of a table
abbrev pub begins_no_copy : ℕ → Mark → Bool
begins_no_copy table (began (of_copy n) t) = not (n == table)
begins_no_copy table mark = true

copied-more : (table : ℕ) (cs : List Copy) (x : Copy) → (x.table == table) ≡ false → is_copied table (cs ++ x ∷ []) ≡ true → is_copied table cs ≡ true
copied-more table [] x other is = grind (arith, other, is)
copied-more table (y ∷ cs) x other is = grind (arith, copied-more table cs x other, is)

copied-less : (table t : ℕ) (cs : List Copy) → is_copied table (without_copy t cs) ≡ true → is_copied table cs ≡ true
copied-less table t [] is = is
copied-less table t (x ∷ cs) is = grind (arith, copied-less table t cs, is)

named-before : (name : List ℕ) (names : List (List ℕ)) (last : List ℕ) (table : ℕ) → table < length names → place_of name (names ++ last ∷ []) ≡ Some table → place_of name names ≡ Some table
named-before name names last table within is = of (place_of name names) (bytes_eq name last) (sym (place_of-append name names last) ∙ is)
  where
    of : (o : Option ℕ) (b : Bool) → option_or o (if b then Some (length names) else None) ≡ Some table → o ≡ Some table
    of (Some n) b e = e
    of None true e = let one : length names ≡ table = cc e in absurd (omega (arith, one, within))
    of None false e = absurd (cc e)

-- it ran before a mark by which none of the table begins
pub copied-before : (h : History) → Legal h → (mark : Mark) (name : List ℕ) (table : ℕ) → (place_of name (table_names h) ≡ Some table → begins_no_copy table mark ≡ true) → IsCopied (mark ∷ h) name table
    → IsCopied h name table
copied-before h l (tabled (table_made last columns)) name table none c =
    record { named = named-before name (table_names h) last table (copied-within h l table c.runs) c.named; runs = c.runs }
copied-before h l (began (of_copy n) t) name table none c = record {
  named = c.named;
  runs = copied-more table (copies h) (record { table = n; txid = t }) (differs (n == table) (none c.named)) c.runs;
}
  where
    differs : (b : Bool) → not b ≡ true → b ≡ false
    differs true e = absurd (cc e)
    differs false e = refl
copied-before h l (ended (of_copy n) t committed) name table none c = record { named = c.named; runs = copied-less table t (copies h) c.runs }
copied-before h l mark name table none c = record { named = c.named; runs = c.runs }

-- ---- no copy that runs

-- it has no transaction
pub uncopied-txid : (h : History) (name : List ℕ) → Uncopied h name → (n : ℕ) → place_of name (table_names h) ≡ Some n → copy_txid n (copies h) ≡ None
uncopied-txid h name none n named = of (copy_txid n (copies h)) refl
  where
    of : (o : Option ℕ) → copy_txid n (copies h) ≡ o → o ≡ None
    of None is = refl
    of (Some t) is = absurd (none n (record { named = named; runs = copied-by n t (copies h) (copy_txid-some n t (copies h) is) }))

pub uncopied-idle : (h : History) (name : List ℕ) → Uncopied h name → copy_running (database_of h) name ≡ None
uncopied-idle h name none = of (place_of name (table_names h)) refl
  where
    of : (o : Option ℕ) → place_of name (table_names h) ≡ o → option_and_then (λ n. copy_txid n (copies h)) o ≡ None
    of None is = refl
    of (Some n) is = uncopied-txid h name none n is
