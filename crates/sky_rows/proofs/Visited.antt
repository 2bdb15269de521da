-- A transaction's versions are removed at one place after another.
use Rattle.std.proofs.Common.{◌≡◌, ◌≢◌, ℕ, zero, suc, ◌+◌, ◌<◌, ◌≤◌, Bool, true, false, not, List, [], ◌∷◌, Option, Some, None, refl, sym, ◌∙◌, ap, subst, arith}
use Rattle.std.specs.Prelude.{◌==◌, ◌||◌, IsTrue}
use Rattle.std.specs.List.{list_any}
use Rattle.std.specs.BTreeMap.{is_at}
use Rattle.std.proofs.lemmas.Bool.{eqb-true, eqb-false}
use Rattle.std.proofs.lemmas.Option.{same_Some}
use Rattle.slab.specs.Slab.{Slab}
use Rattle.sky_val.specs.declared.val.Val.{Val}
use Rattle.sky_val.specs.Order.{key_cmp}
use Rattle.sky_val.specs.Entries.{Entries, is_in_order}
use Rattle.sky_keys.specs.declared.version.Version.{Version}
use Rattle.sky_keys.specs.Versions.{forgotten}
use Rattle.sky_rows.specs.declared.rows.Slot.{Slot}
use Rattle.sky_rows.specs.Table.{forgotten_at}
use Rattle.sky_rows.specs.Written.{AllKept}
use Rattle.sky_rows.specs.Older.{OlderView}
use Rattle.sky_rows.specs.Kept.{all_versions, AreOwn}
use Rattle.sky_rows.specs.Rows.{Places, RowsView, key_at, rows_of, rows_in, AreThere}
use Rattle.sky_rows.proofs.ForgetLemmas.{may_have, kept_step, forgotten-forgotten_at, forgotten-all}
use Rattle.sky_rows.proofs.PlaceLemmas.{tie_itself}

-- a key, if there is one, in front of others
abbrev and_key : Option (List Val) → List (List Val) → List (List Val)
and_key None ks = ks
and_key (Some k) ks = k ∷ ks

-- the keys at so many places from one on
abbrev keys_from : Slab Slot → ℕ → ℕ → List (List Val)
keys_from slots place zero = []
keys_from slots place (suc n) = and_key (key_at slots place) (keys_from slots (place + 1) n)

or_yes : (b : Bool) → (b || true) ≡ true
or_yes true = refl
or_yes false = refl

among : (slots : Slab Slot) (q : List Val) (p : ℕ) → key_at slots p ≡ Some q → (n i : ℕ) → i ≤ p → p < i + n → list_any (is_at (key_cmp q)) (keys_from slots i n) ≡ true
among slots q p there zero i from to = absurd (omega arith)
among slots q p there (suc n) i from to = elim (i == p) as (λ b. (i == p) ≡ b → list_any (is_at (key_cmp q)) (keys_from slots i (suc n)) ≡ true) [
  | true ↦ λ same. here (key_at slots i) (ap (key_at slots) (eqb-true i p same) ∙ there)
  | false ↦ λ other. let apart : i ≢ p = eqb-false i p other in later (key_at slots i) (among slots q p there n (i + 1) (omega (arith, apart)) (omega arith))
] refl
  where
    here : (o : Option (List Val)) → o ≡ Some q → list_any (is_at (key_cmp q)) (and_key o (keys_from slots (i + 1) n)) ≡ true
    here None is = absurd (cc is)
    here (Some k) is = ap (λ b. b || list_any (is_at (key_cmp q)) (keys_from slots (i + 1) n)) (ap (is_at (key_cmp q)) (same_Some _ _ is) ∙ tie_itself q)

    later : (o : Option (List Val)) → list_any (is_at (key_cmp q)) (keys_from slots (i + 1) n) ≡ true → list_any (is_at (key_cmp q)) (and_key o (keys_from slots (i + 1) n)) ≡ true
    later None tied = tied
    later (Some k) tied = ap (λ b. is_at (key_cmp q) k || b) tied ∙ or_yes (is_at (key_cmp q) k)

-- each key is at one of all places
all_at_places : (t m end : ℕ) (slots : Slab Slot) (older : OlderView) → ((p : ℕ) → key_at slots p ≢ None → p < end) → end ≤ m → (es : Places) → AreThere slots es → AllKept (λ _ _. true) (all_versions older (rows_of slots es))
    → AllKept (may_have t (keys_from slots 0 m)) (all_versions older (rows_of slots es))
all_at_places t m end slots older above room [] there kept = tt
all_at_places t m end slots older above room (e ∷ es) there kept =
    let within : e.1 < end = above e.1 (λ none. let both : None ≡ Some e.0 = sym none ∙ there.0 in absurd (cc both)) in
    let tied = among slots e.0 e.1 there.0 m 0 (omega arith) (omega arith) in (
      record {
        some = kept.0.some;
        writers = λ u none. let both : true ≡ false = sym (or_yes (not (u == t))) ∙ ap (λ b. not (u == t) || b) (sym tied) ∙ none in absurd (cc both);
      },
      all_at_places t m end slots older above room es there.2 kept.1,
    )

-- places were visited, from none up to one
pub record IsVisited (t : ℕ) (initial : RowsView) (all : Entries (List Version)) (older : OlderView) (rows : RowsView) (place end : ℕ) : Type 0 where
  pub later : (n : ℕ) → place ≤ n → key_at rows.slots n ≡ key_at initial.slots n
  pub kept : (m : ℕ) → end ≤ place + m → AllKept (may_have t (keys_from initial.slots place m)) (all_versions older (rows_in rows))
  pub same : forgotten t (all_versions older (rows_in rows)) ≡ forgotten t all
  pub own : AreOwn older (rows_in rows)

pub none_visited : (t end : ℕ) (older : OlderView) (rows : RowsView) → ((p : ℕ) → key_at rows.slots p ≢ None → p < end) → AreThere rows.slots rows.places → AllKept (λ _ _. true) (all_versions older (rows_in rows)) → AreOwn older (rows_in rows)
    → IsVisited t rows (all_versions older (rows_in rows)) older rows 0 end
none_visited t end older rows above there kept own = record {
  later = λ n from. refl;
  kept = λ m room. all_at_places t m end rows.slots older above (omega arith) rows.places there kept;
  same = refl;
  own = own;
}

pub next_visited : (t : ℕ) (initial : RowsView) (all : Entries (List Version)) (older older' : OlderView) (rows rows' : RowsView) (place end : ℕ) → IsVisited t initial all older rows place end
    → ((key : List Val) → key_at rows.slots place ≡ Some key → all_versions older' (rows_in rows') ≡ forgotten_at t key (all_versions older (rows_in rows)))
    → (key_at rows.slots place ≡ None → all_versions older' (rows_in rows') ≡ all_versions older (rows_in rows))
    → IsTrue (is_in_order (all_versions older (rows_in rows)))
    → ((other : ℕ) → other ≢ place → key_at rows'.slots other ≡ key_at rows.slots other)
    → AreOwn older' (rows_in rows')
    → IsVisited t initial all older' rows' (place + 1) end
next_visited t initial all older older' rows rows' place end visited some none order others own = record {
  later = λ n from. others n (λ is. absurd (omega (arith, is))) ∙ visited.later n (omega arith);
  kept = λ m room. kept_by m (key_at initial.slots place) (visited.later place (omega arith)) (visited.kept (suc m) (omega arith));
  same = same_by (key_at rows.slots place) refl;
  own = own;
}
  where
    kept_by : (m : ℕ) (o : Option (List Val)) → key_at rows.slots place ≡ o → AllKept (may_have t (and_key o (keys_from initial.slots (place + 1) m))) (all_versions older (rows_in rows))
        → AllKept (may_have t (keys_from initial.slots (place + 1) m)) (all_versions older' (rows_in rows'))
    kept_by m None is kept = subst (AllKept (may_have t (keys_from initial.slots (place + 1) m))) (sym (none is)) kept
    kept_by m (Some k) is kept =
        subst (AllKept (may_have t (keys_from initial.slots (place + 1) m))) (sym (some k is)) (kept_step t k (keys_from initial.slots (place + 1) m) (all_versions older (rows_in rows)) order kept)

    same_by : (o : Option (List Val)) → key_at rows.slots place ≡ o → forgotten t (all_versions older' (rows_in rows')) ≡ forgotten t all
    same_by None is = ap (forgotten t) (none is) ∙ visited.same
    same_by (Some k) is = ap (forgotten t) (some k is) ∙ forgotten-forgotten_at t k (all_versions older (rows_in rows)) ∙ visited.same

pub all_visited : (t : ℕ) (initial : RowsView) (all : Entries (List Version)) (older : OlderView) (rows : RowsView) (place end : ℕ) → IsVisited t initial all older rows place end → end ≤ place
    → all_versions older (rows_in rows) ≡ forgotten t all
all_visited t initial all older rows place end visited over = sym (forgotten-all t (all_versions older (rows_in rows)) (visited.kept 0 (omega arith))) ∙ visited.same
