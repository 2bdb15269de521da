-- A copy in hand: what holds in the replica's database and in the provider's while it runs, mark by mark.
use Rattle.std.proofs.Common.{arith, ◌≡◌, ℕ, ◌==◌, List, [], ◌∷◌, ◌++◌, Bool, true, false, not, ◌&&◌, ◌||◌, Option, Some, None, option_map, find, refl, sym, ap, subst, ◌∙◌, if◌then◌else◌}
use Rattle.std.proofs.lemmas.Bool.Decides.{nat_tests}
use Rattle.sky_val.specs.declared.val.Val.{Val}
use Rattle.sky_val.specs.Entries.{Entries}
use Rattle.sky_names.specs.Places.{place_of}
use Rattle.sky_names.proofs.PlaceLemmas.{place_of-append}
use Rattle.sky_txid.specs.Ids.{contains}
use Rattle.sky_txid.specs.Snapshot.{SnapshotView}
use Rattle.sky_model.specs.History.{Mark, of_copy, ended, tabled, wrote, noded, hold_begun, hold_ended, History}
use Rattle.sky_model.specs.Transactions.{next_txid, workers, snapshot}
use Rattle.sky_model.specs.Copies.{Copy, copies, is_copied, is_copied_by, is_copys, copy_txid, Hold, holds, without_hold}
use Rattle.sky_model.specs.Rows.{table_names, writes as writes_of, put_all}
use Rattle.sky_model.specs.Nodes.{node}
use Rattle.sky_model.specs.StepNode.{may_copy}
use Rattle.sky_histories.proofs.Legal.{Fine, begins_copy, ends_copy, copies_row, applies_row, writes, makes_table, nodes, Legal, start, next}
use Rattle.sky_histories.proofs.Snapshots.{sound, next-apart, copys-of}
use Rattle.sky_histories.proofs.Guarded.{copied_by-push, copied_by-without, copied-by, one-copy, copy_txid-some, copy_txid-none}
use Rattle.sky_model.proofs.Cases.{by_test, by_same}
use Rattle.sky_laws_replicas.proofs.StaysInCopy.{keeps_in_copy, may-stays}

-- ---- a transaction is the copy of one table

abbrev OneTable : History → Type 0
OneTable h = (a b t : ℕ) → is_copied_by a t (copies h) ≡ true → is_copied_by b t (copies h) ≡ true → a ≡ b

one-table-step : (h : History) → Legal h → (mark : Mark) → Fine h mark → OneTable h → OneTable (mark ∷ h)
one-table-step h l _ (begins_copy n may) ih = λ a b t is also.
    let c : Copy = record { table = n; txid = next_txid h } in
    let new = next-apart h (sound h l) in
    by_same (λ same. (next_txid h == t) ≡ same → a ≡ b) (next_txid h) t
    (λ own _. of a b t own (subst (λ u. is_copys u (copies h) ≡ false) own new) (sym (copied_by-push a t (copies h) c) ∙ is) (sym (copied_by-push b t (copies h) c) ∙ also))
    (λ other _. ih a b t (grind (arith, other, copied_by-push a t (copies h) c, is)) (grind (arith, other, copied_by-push b t (copies h) c, also))) refl
  where
    of : (a b t : ℕ) → next_txid h ≡ t → is_copys t (copies h) ≡ false → (is_copied_by a t (copies h) || (n == a && next_txid h == t)) ≡ true
        → (is_copied_by b t (copies h) || (n == b && next_txid h == t)) ≡ true → a ≡ b
    of a b t own none is also = grind (arith, nat_tests, copys-of a t (copies h), copys-of b t (copies h), none, is, also)
one-table-step h l _ (ends_copy n v c is) ih = λ a b t one other. ih a b t (grind (arith, copied_by-without a v t (copies h), one)) (grind (arith, copied_by-without b v t (copies h), other))
one-table-step h l _ _ ih = ih

pub one-table : (h : History) → Legal h → OneTable h
one-table [] start = λ a b t is also. absurd (cc)
one-table _ (next {h = h} {mark = mark} l fine) = one-table-step h l mark fine (one-table h l)

-- it is the one that is found
pub copy-found : (h : History) → Legal h → (table t : ℕ) → is_copied_by table t (copies h) ≡ true → copy_txid table (copies h) ≡ Some t
copy-found h l table t is = of (copy_txid table (copies h)) refl
  where
    of : (o : Option ℕ) → copy_txid table (copies h) ≡ o → o ≡ Some t
    of None none = absurd (cc (sym (copied-by table t (copies h) is) ∙ copy_txid-none table (copies h) none))
    of (Some u) some = ap Some (one-copy h l table u t (copy_txid-some table u (copies h) some) is)

-- ---- in the replica's database

-- the copy of the table of a name runs, and has made these rows of an empty table so far
pub record Runs (h : History) (name : List ℕ) (table t : ℕ) (made : Entries (List Val)) : Type 0 where
  pub named : place_of name (table_names h) ≡ Some table
  pub runs : is_copied_by table t (copies h) ≡ true
  pub written : put_all (writes_of table t h) [] ≡ made
  pub may : may_copy name (node h) ≡ true

-- whether a mark is none by which the copy of a table of this name and number writes or ends, or the table is no longer being copied
abbrev pub spares_copy : List ℕ → ℕ → Mark → Bool
spares_copy name table (ended (of_copy n) t committed) = not (n == table)
spares_copy name table (tabled (wrote (of_copy n) t m key old new)) = not (n == table)
spares_copy name table (noded mark) = keeps_in_copy name mark
spares_copy name table mark = true

-- a place stays
pub place-stays : (name : List ℕ) (names : List (List ℕ)) (last : List ℕ) (place : ℕ) → place_of name names ≡ Some place → place_of name (names ++ last ∷ []) ≡ Some place
place-stays name names last place is = grind (arith, place_of-append name names last, is)

pub runs-step : (h : History) → Legal h → (mark : Mark) → Fine h mark → (name : List ℕ) (table t : ℕ) (made : Entries (List Val)) → spares_copy name table mark ≡ true → Runs h name table t made → Runs (mark ∷ h) name table t made
runs-step h l _ (makes_table last columns new) name table t made e r = record { named = place-stays name (table_names h) last table r.named; runs = r.runs; written = r.written; may = r.may }
runs-step h l _ (begins_copy n may) name table t made e r = record {
  named = r.named;
  runs = copied_by-push table t (copies h) (record { table = n; txid = next_txid h }) ∙ ap (λ b. b || (n == table && next_txid h == t)) r.runs;
  written = r.written;
  may = r.may;
}
runs-step h l _ (ends_copy n u c is) name table t made e r = record {
  named = r.named;
  runs = copied_by-without table u t (copies h) ∙ grind (arith, r.runs, other);
  written = r.written;
  may = r.may;
}
  where
    other : (t == u) ≡ false
    other = by_same (λ b. b ≡ false) t u
        (λ same. (let both : n ≡ table = one-table h l n table u is.runs (subst (λ k. is_copied_by table k (copies h) ≡ true) same r.runs) in absurd (grind (arith, nat_tests, e, both)))) (λ apart. refl)
runs-step h l _ (copies_row n u key old new is) name table t made e r = record {
  named = r.named;
  runs = r.runs;
  written = ap (λ b. put_all (if b && u == t then writes_of table t h ++ record { key = key; row = new } ∷ [] else writes_of table t h) []) other ∙ r.written;
  may = r.may;
}
  where
    other : (n == table) ≡ false
    other = grind (arith, nat_tests, e)
runs-step h l _ (writes who u n key old new mine free stands) name table t made e r = record {
  named = r.named;
  runs = r.runs;
  written = ap (λ b. put_all (if b then writes_of table t h ++ record { key = key; row = new } ∷ [] else writes_of table t h) []) other ∙ r.written;
  may = r.may;
}
  where
    works : contains t (workers h) ≡ true
    works = (sound h l).copying t (copys-of table t (copies h) r.runs)

    other : (n == table && u == t) ≡ false
    other = by_same (λ b. (n == table && b) ≡ false) u t (λ same. absurd (cc (sym works ∙ (sound h l).nobodys who t (mine ∙ ap Some same)))) (λ apart. grind (arith))
runs-step h l _ (applies_row n u key old new is) name table t made e r = record {
  named = r.named;
  runs = r.runs;
  written = ap (λ b. put_all (if b && u == t then writes_of table t h ++ record { key = key; row = new } ∷ [] else writes_of table t h) []) other ∙ r.written;
  may = r.may;
}
  where
    other : (n == table) ≡ false
    other = by_same (λ b. b ≡ false) n table (λ same. absurd (cc (sym is.uncopied ∙ ap (λ k. is_copied k (copies h)) same ∙ copied-by table t (copies h) r.runs))) (λ apart. refl)
runs-step h l _ (nodes mark fits) name table t made e r = record { named = r.named; runs = r.runs; written = r.written; may = may-stays h mark name fits e r.may }
runs-step h l _ _ name table t made e r = record { named = r.named; runs = r.runs; written = r.written; may = r.may }

-- ---- in the provider's database

-- the snapshot of a hold
abbrev pub held_at : ℕ → List Hold → Option SnapshotView
held_at number hs = option_map Hold.snapshot (find (λ (x : Hold). x.number == number) hs)

-- under a number the snapshot of an earlier place is held
pub record Holds (h : History) (number : ℕ) (held : History) : Type 0 where
  pub later : List Mark
  pub place : h ≡ later ++ held
  pub is : held_at number (holds h) ≡ Some (snapshot held)

pub held-push : (number : ℕ) (hs more : List Hold) (s : SnapshotView) → held_at number hs ≡ Some s → held_at number (hs ++ more) ≡ Some s
held-push number [] more s is = absurd (cc is)
held-push number (x ∷ hs) more s is =
    by_test (λ b. option_map Hold.snapshot (if b then Some x else find (λ (y : Hold). y.number == number) hs) ≡ Some s
    → option_map Hold.snapshot (if b then Some x else find (λ (y : Hold). y.number == number) (hs ++ more)) ≡ Some s)
    (x.number == number) (λ _ here. here) (λ _ there. held-push number hs more s there) is

pub held-without : (number other : ℕ) (hs : List Hold) → (other == number) ≡ false → held_at number (without_hold other hs) ≡ held_at number hs
held-without number other [] apart = refl
held-without number other (x ∷ hs) apart = grind (arith, nat_tests, apart, held-without number other hs apart)

-- whether a mark isn't the end of the hold of a number
abbrev pub leaves_held : ℕ → Mark → Bool
leaves_held number (noded (hold_ended other)) = not (other == number)
leaves_held number mark = true

pub holds-step : (h : History) (mark : Mark) (number : ℕ) (held : History) → leaves_held number mark ≡ true → Holds h number held → Holds (mark ∷ h) number held
holds-step h (noded (hold_begun other)) number held e x = record {
  later = noded (hold_begun other) ∷ x.later;
  place = ap (λ g. noded (hold_begun other) ∷ g) x.place;
  is = held-push number (holds h) (record { number = other; snapshot = snapshot h } ∷ []) (snapshot held) x.is;
}
holds-step h (noded (hold_ended other)) number held e x = record {
  later = noded (hold_ended other) ∷ x.later;
  place = ap (λ g. noded (hold_ended other) ∷ g) x.place;
  is = held-without number other (holds h) (grind (arith, e)) ∙ x.is;
}
holds-step h mark number held e x = record { later = mark ∷ x.later; place = ap (λ g. mark ∷ g) x.place; is = x.is }
