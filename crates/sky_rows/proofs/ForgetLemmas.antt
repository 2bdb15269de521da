-- A transaction's versions are removed, key by key.
use Rattle.std.proofs.Common.{arith, ◌≡◌, ℕ, ◌+◌, Bool, true, false, cond, not, List, [], ◌∷◌, Ordering, Option, Some, None, nat_lt, ◌<◌, drop, get_or, length, refl, sym, ap, ◌∙◌}
use Rattle.std.proofs.lemmas.List.{drop_more}
use Rattle.std.specs.Prelude.{◌==◌, ◌||◌}
use Rattle.std.specs.List.{list_any}
use Rattle.std.specs.Option.{option_map_or}
use Rattle.std.specs.Ordering.{nat_cmp, is_lt, is_eq, eq_by_cmp}
use Rattle.std.specs.Map.{set_value, remove_entry}
use Rattle.std.specs.BTreeMap.{is_at, get}
use Rattle.std.specs.BTreeSet.{BTreeSet, contains}
use Rattle.std.specs.FinMap.Entries.{below_all}
use Rattle.std.proofs.lemmas.Bool.{and_parts, eq-eqb}
use Rattle.sky_val.specs.declared.val.Val.{Val}
use Rattle.sky_val.specs.Order.{key_cmp}
use Rattle.sky_val.specs.Entries.{Entries, at, is_in_order}
use Rattle.sky_val.proofs.Orders.{key_cmp-IsTotalOrder}
use Rattle.sky_keys.specs.declared.version.Version.{Version}
use Rattle.sky_keys.specs.Versions.{without, version_of, and_entry, unless_empty, forgotten}
use Rattle.sky_keys.proofs.VersionLemmas.{version_of-without, without-none}
use Rattle.sky_keys.proofs.EntryLemmas.{key_ties-is}
use Rattle.sky_rows.specs.Table.{forgotten_at}
use Rattle.sky_rows.specs.declared.written.Written.{Written}
use Rattle.sky_rows.specs.Written.{is_unindexed, wrote, IsKept, AllKept}
use Rattle.sky_rows.proofs.TableLemmas.{all_kept_more}
use Rattle.std.proofs.lemmas.Bool.Decides.{nat_tests}

-- ---- at one key

pub forgotten_at-none : (t : ℕ) (k : List Val) (es : Entries (List Version)) → at k es ≡ None → forgotten_at t k es ≡ es
forgotten_at-none t k [] none = refl
forgotten_at-none t k (e ∷ es) none = grind (arith, none, forgotten_at-none t k es)

-- what is left is set if there is some
pub forgotten_at-set : (t : ℕ) (k : List Val) (es : Entries (List Version)) (vs new : List Version) → at k es ≡ Some vs → new ≡ without t vs → unless_empty new ≡ Some new → set_value (is_at (key_cmp k)) es new ≡ forgotten_at t k es
forgotten_at-set t k [] vs new found is some = absurd (cc found)
forgotten_at-set t k (e ∷ es) vs new found is some = grind (arith, found, is, some, forgotten_at-set t k es vs new)

-- or the key is removed
pub forgotten_at-remove : (t : ℕ) (k : List Val) (es : Entries (List Version)) (vs new : List Version) → at k es ≡ Some vs → new ≡ without t vs → new ≡ [] → remove_entry (is_at (key_cmp k)) (set_value (is_at (key_cmp k)) es new) ≡ forgotten_at t k es
forgotten_at-remove t k [] vs new found is none = absurd (cc found)
forgotten_at-remove t k (e ∷ es) vs new found is none = grind (arith, found, is, none, forgotten_at-remove t k es vs new)

some_left : (vs : List Version) → (vs ≡ [] → ⊥) → unless_empty vs ≡ Some vs
some_left [] h = absurd (h refl)
some_left (v ∷ vs) h = refl

pub forgotten_at-left : (t : ℕ) (k : List Val) (es : Entries (List Version)) (vs new : List Version) → at k es ≡ Some vs → new ≡ without t vs → (new ≡ [] → ⊥) → set_value (is_at (key_cmp k)) es new ≡ forgotten_at t k es
forgotten_at-left t k es vs new found is some = forgotten_at-set t k es vs new found is (some_left new some)

-- ---- at one key after another

without-without : (t : ℕ) (vs : List Version) → without t (without t vs) ≡ without t vs
without-without t vs = without-none t (without t vs) (grind (arith, nat_tests, version_of-without t t vs))

forgotten-entry : (t : ℕ) (k : List Val) (vs : List Version) (es : Entries (List Version)) → without t vs ≡ vs → forgotten t (and_entry k (unless_empty vs) es) ≡ and_entry k (unless_empty vs) (forgotten t es)
forgotten-entry t k [] es gone = refl
forgotten-entry t k (v ∷ vs) es gone = ap (λ vs. and_entry k (unless_empty vs) (forgotten t es)) gone

-- forgetting at one key first makes no difference once all keys are done
pub forgotten-forgotten_at : (t : ℕ) (k : List Val) (es : Entries (List Version)) → forgotten t (forgotten_at t k es) ≡ forgotten t es
forgotten-forgotten_at t k [] = refl
forgotten-forgotten_at t k (e ∷ es) = grind (arith, forgotten-entry t e.0 (without t e.1) es (without-without t e.1), forgotten-forgotten_at t k es)

-- if a transaction wrote nothing, nothing is removed
pub forgotten-none : (w : ℕ → List Val → Bool) (t : ℕ) (es : Entries (List Version)) → ((q : List Val) → w t q ≡ false) → AllKept w es → forgotten t es ≡ es
forgotten-none w t [] none kept = refl
forgotten-none w t (e ∷ es) none kept = grind (arith, without-none t e.1 (kept.0.writers t (none e.0)), kept.0.some, forgotten-none w t es none kept.1)

-- ---- at every key

-- ---- the keys that are left

-- whether a key may have a version of the transaction, if these keys are left; those of others aren't asked
abbrev pub may_have : ℕ → List (List Val) → ℕ → List Val → Bool
may_have t keys u q = not (u == t) || list_any (is_at (key_cmp q)) keys

tie_back : (k q : List Val) → is_eq (key_cmp q k) ≡ is_eq (key_cmp k q)
tie_back k q = grind (arith, key_cmp-IsTotalOrder.antisymm q k)

no_tie : (o : Ordering) → is_lt o ≡ true → is_eq o ≡ false
no_tie o lt = grind (arith, lt)

-- another key than the first that is left is among the others, if it is left
kept_other : (t : ℕ) (k q : List Val) (keys : List (List Val)) (vs : List Version) → is_eq (key_cmp k q) ≡ false → IsKept (may_have t (k ∷ keys)) q vs → IsKept (may_have t keys) q vs
kept_other t k q keys vs apart kept = record {
  some = kept.some;
  writers = λ u none. kept.writers u (grind (arith, none, apart, tie_back k q));
}

kept_above : (t : ℕ) (k : List Val) (keys : List (List Val)) (es : Entries (List Version)) → below_all key_cmp k es ≡ true → AllKept (may_have t (k ∷ keys)) es → AllKept (may_have t keys) es
kept_above t k keys [] below kept = tt
kept_above t k keys (e ∷ es) below kept =
    let parts = and_parts (is_lt (key_cmp k e.0)) (below_all key_cmp k es) below in
    (kept_other t k e.0 keys e.1 (no_tie (key_cmp k e.0) parts.0) kept.0, kept_above t k keys es parts.1 kept.1)

-- what is left at the key has none of the transaction
kept_left : (t : ℕ) (k : List Val) (keys : List (List Val)) (vs new : List Version) (es : Entries (List Version)) → new ≡ without t vs → AllKept (may_have t keys) es → AllKept (may_have t keys) (and_entry k (unless_empty new) es)
kept_left t k keys vs [] es is kept = kept
kept_left t k keys vs (v ∷ new) es is kept = (
  record {
    some = refl;
    writers = λ u none. grind (arith, none, is, version_of-without u t vs);
  },
  kept,
)

pub kept_step : (t : ℕ) (k : List Val) (keys : List (List Val)) (es : Entries (List Version)) → is_in_order es ≡ true → AllKept (may_have t (k ∷ keys)) es → AllKept (may_have t keys) (forgotten_at t k es)
kept_step t k keys [] order kept = tt
kept_step t k keys (e ∷ es) order kept =
    let parts = and_parts (below_all key_cmp e.0 es) (is_in_order es) order in
    elim (eq_by_cmp key_cmp k e.0) as (λ b. eq_by_cmp key_cmp k e.0 ≡ b → AllKept (may_have t keys) (cond b (and_entry e.0 (unless_empty (without t e.1)) es) (e ∷ forgotten_at t k es))) [
      | true ↦ λ tie. kept_left t e.0 keys e.1 (without t e.1) es refl (kept_above t k keys es (ap (λ q. below_all key_cmp q es) (key_ties-is k e.0 tie) ∙ parts.0) kept.1)
      | false ↦ λ apart. (kept_other t k e.0 keys e.1 apart kept.0, kept_step t k keys es parts.1 kept.1)
    ] refl

pub forgotten-all : (t : ℕ) (es : Entries (List Version)) → AllKept (may_have t []) es → forgotten t es ≡ es
forgotten-all t es kept = forgotten-none (may_have t []) t es (λ q. ap (λ b. not b || false) (eq-eqb t t refl)) kept

-- one more of the keys that are left
pub keys_left : (keys : List (List Val)) (i : ℕ) (key : List Val) → i < length keys → key ≡ get_or keys i key → drop i keys ≡ key ∷ drop (i + 1) keys
keys_left keys i key within is = drop_more keys i key within ∙ ap (λ k. k ∷ drop (i + 1) keys) (sym is)

-- ---- the index

-- if the index records a transaction, it records the keys that are indexed for it
pub wrote-indexed : (index : Written) (t : ℕ) (q : List Val) (found : Option (BTreeSet (List Val))) → not (nat_lt t index.from || is_unindexed index.unindexed t) ≡ true → found ≡ get nat_cmp index.keys t → wrote index t q ≡ option_map_or (λ of_it. contains key_cmp of_it q) found false
wrote-indexed index t q found tells is = grind (arith, tells, is)

-- what the index records of all transactions, it records of the one whose versions are to be removed
pub may_have-wrote : (w : ℕ → List Val → Bool) (t : ℕ) (keys : List (List Val)) (es : Entries (List Version)) → ((q : List Val) → w t q ≡ list_any (is_at (key_cmp q)) keys) → AllKept w es → AllKept (may_have t keys) es
may_have-wrote w t keys es same kept = all_kept_more w (may_have t keys) es (λ u q none. grind (arith, nat_tests, none, same q)) kept

kept_entry : (w : ℕ → List Val → Bool) (k : List Val) (vs : List Version) (es : Entries (List Version)) → ((u : ℕ) → w u k ≡ false → version_of u vs ≡ None) → AllKept w es → AllKept w (and_entry k (unless_empty vs) es)
kept_entry w k [] es writers kept = kept
kept_entry w k (v ∷ vs) es writers kept = (record { some = refl; writers = writers }, kept)

-- nothing need be recorded of a transaction once its versions are gone
pub kept_forgotten : (v w : ℕ → List Val → Bool) (t : ℕ) (es : Entries (List Version)) → ((u : ℕ) (q : List Val) → (u == t) ≡ false → w u q ≡ v u q) → AllKept v es → AllKept w (forgotten t es)
kept_forgotten v w t [] same kept = tt
kept_forgotten v w t (e ∷ es) same kept =
    kept_entry w e.0 (without t e.1) (forgotten t es) (λ u none. grind (arith, none, version_of-without u t e.1, same u e.0, kept.0.writers u))
    (kept_forgotten v w t es same kept.1)

-- or had none
pub kept_unrecorded : (v w : ℕ → List Val → Bool) (t : ℕ) (es : Entries (List Version)) → ((u : ℕ) (q : List Val) → (u == t) ≡ false → w u q ≡ v u q) → ((q : List Val) → v t q ≡ false) → AllKept v es → AllKept w es
kept_unrecorded v w t es same none kept = all_kept_more v w es (λ u q none_of. grind (arith, nat_tests, none_of, same u q, none q)) kept
