-- The versions of all keys, as one key's change.
use Rattle.std.proofs.Common.{◌≡◌, ◌≢◌, ℕ, Bool, true, false, cond, List, [], ◌∷◌, ◌++◌, Less, Equal, Greater, Option, Some, None, refl, sym, subst, ap, ◌∙◌}
use Rattle.std.specs.Prelude.{IsSome, option_map, filter}
use Rattle.std.specs.Option.{unwrap_or}
use Rattle.std.specs.Ordering.{match_ordering}
use Rattle.std.specs.Map.{lookup, set_value, remove_entry}
use Rattle.std.specs.BTreeMap.{insert_entry}
use Rattle.std.proofs.lemmas.Option.{same_Some}
use Rattle.sky_val.specs.declared.val.Val.{Val}
use Rattle.sky_val.specs.Order.{key_cmp}
use Rattle.sky_val.specs.Entries.{Entries}
use Rattle.sky_keys.specs.declared.version.Version.{Version}
use Rattle.sky_rows.specs.declared.kept.Kept.{Kept}
use Rattle.sky_rows.specs.Versions.{IsOneOfEach}
use Rattle.sky_rows.specs.Older.{OlderView, list_in}
use Rattle.sky_rows.specs.Kept.{older_of, if_any, versions_of, all_versions, IsUsed, Moves, Lack, AreOwn}

-- ---- at a key

pub lookup-all : (older : OlderView) (test : List Val → Bool) (es : Entries Kept) → lookup test (all_versions older es) ≡ option_map (versions_of older) (lookup test es)
lookup-all older test [] = refl
lookup-all older test (e ∷ es) = elim (test e.0) as (λ b. cond b (Some (versions_of older e.1)) (lookup test (all_versions older es)) ≡ option_map (versions_of older) (cond b (Some e.1) (lookup test es))) [
  | true ↦ refl
  | false ↦ lookup-all older test es
]

pub own_at : (older : OlderView) (test : List Val → Bool) (es : Entries Kept) (kept : Kept) → AreOwn older es → lookup test es ≡ Some kept → IsUsed older kept.list × IsOneOfEach (versions_of older kept)
own_at older test [] kept own found = absurd (cc found)
own_at older test (e ∷ es) kept own found = elim (test e.0) as (λ b. cond b (Some e.1) (lookup test es) ≡ Some kept → IsUsed older kept.list × IsOneOfEach (versions_of older kept)) [
  | true ↦ λ is. subst (λ (k : Kept). IsUsed older k.list × IsOneOfEach (versions_of older k)) (same_Some _ _ is) (own.0, own.1)
  | false ↦ λ found. own_at older test es kept own.3 found
] found

lack_at : (test : List Val → Bool) (list : Option ℕ) (es : Entries Kept) (kept : Kept) → Lack list es → lookup test es ≡ Some kept → (l : ℕ) → list ≡ Some l → kept.list ≢ Some l
lack_at test list [] kept lack found = absurd (cc found)
lack_at test list (e ∷ es) kept lack found = elim (test e.0) as (λ b. cond b (Some e.1) (lookup test es) ≡ Some kept → (l : ℕ) → list ≡ Some l → kept.list ≢ Some l) [
  | true ↦ λ is l here there. lack.0 l here (ap (λ (k : Kept). k.list) (same_Some _ _ is) ∙ there)
  | false ↦ λ found. lack_at test list es kept lack.1 found
] found

-- ---- a key's versions change

some_of : (o : Option (List Version)) → IsSome o → (vs : List Version) × (o ≡ Some vs)
some_of None some = absurd (cc some)
some_of (Some vs) some = (vs, refl)

module _ (old new : OlderView) (was is : Option ℕ) (moves : Moves old was new is) where
  -- the list of another key stays
  same_older : (list : Option ℕ) → IsUsed old list → ((l : ℕ) → list ≡ Some l → was ≢ Some l) → older_of new list ≡ older_of old list
  same_older None used other = refl
  same_older (Some l) used other =
      let here = some_of (list_in old l) (used l refl) in
      ap (λ o. unwrap_or o []) (moves.others l here.0 here.1 (other l refl) ∙ sym here.1)

  still_used : (list : Option ℕ) → IsUsed old list → ((l : ℕ) → list ≡ Some l → was ≢ Some l) → IsUsed new list
  still_used list used other l here =
      let there = some_of (list_in old l) (used l here) in
      subst IsSome (sym (moves.others l there.0 there.1 (other l here))) refl

  still_other : (list : Option ℕ) → IsUsed old list → ((l : ℕ) → list ≡ Some l → was ≢ Some l) → (l : ℕ) → list ≡ Some l → is ≢ Some l
  still_other list used other l here =
      let there = some_of (list_in old l) (used l here) in
      moves.apart l there.0 there.1 (other l here)

  turned : (es : Entries Kept) → Lack was es → AreOwn old es → Lack is es
  turned [] lack own = tt
  turned (e ∷ es) lack own = ((λ l here there. still_other e.1.list own.0 (λ k at_e at_was. lack.0 k at_was at_e) l there here), turned es lack.1 own.3)

  others_own : (es : Entries Kept) → Lack was es → AreOwn old es → AreOwn new es
  others_own [] lack own = tt
  others_own (e ∷ es) lack own =
      let other : (l : ℕ) → e.1.list ≡ Some l → was ≢ Some l = λ l at_e at_was. lack.0 l at_was at_e in
      (still_used e.1.list own.0 other, subst (λ vs. IsOneOfEach (vs ++ if_any e.1.newest)) (sym (same_older e.1.list own.0 other)) own.1, own.2, others_own es lack.1 own.3)

  others_same : (es : Entries Kept) → Lack was es → AreOwn old es → all_versions new es ≡ all_versions old es
  others_same [] lack own = refl
  others_same (e ∷ es) lack own =
      let same = same_older e.1.list own.0 (λ l at_e at_was. lack.0 l at_was at_e) in
      λ i. (e.0, same i ++ if_any e.1.newest) ∷ others_same es lack.1 own.3 i

lack_set : (test : List Val → Bool) (list : Option ℕ) (es : Entries Kept) (kept : Kept) → Lack list es → ((l : ℕ) → list ≡ Some l → kept.list ≢ Some l) → Lack list (set_value test es kept)
lack_set test list [] kept lack other = tt
lack_set test list (e ∷ es) kept lack other = elim (test e.0) as (λ b. Lack list (cond b ((e.0, kept) ∷ es) (e ∷ set_value test es kept))) [
  | true ↦ (other, lack.1)
  | false ↦ (lack.0, lack_set test list es kept lack.1 other)
]

module _ (old new : OlderView) (test : List Val → Bool) (kept kept' : Kept) (moves : Moves old kept.list new kept'.list) (one : IsOneOfEach (versions_of new kept')) where
  pub own_set : (es : Entries Kept) → AreOwn old es → lookup test es ≡ Some kept → AreOwn new (set_value test es kept')
  own_set [] own found = absurd (cc found)
  own_set (e ∷ es) own found = elim (test e.0) as (λ b. cond b (Some e.1) (lookup test es) ≡ Some kept → AreOwn new (cond b ((e.0, kept') ∷ es) (e ∷ set_value test es kept'))) [
    | true ↦ λ is.
        let lack = subst (λ (k : Kept). Lack k.list es) (same_Some _ _ is) own.2 in
        (moves.used, one, turned old new kept.list kept'.list moves es lack own.3, others_own old new kept.list kept'.list moves es lack own.3)
    | false ↦ λ found.
        let other : (l : ℕ) → e.1.list ≡ Some l → kept.list ≢ Some l = lack_at test e.1.list es kept own.2 found in (
          still_used old new kept.list kept'.list moves e.1.list own.0 other,
          subst (λ vs. IsOneOfEach (vs ++ if_any e.1.newest)) (sym (same_older old new kept.list kept'.list moves e.1.list own.0 other)) own.1,
          lack_set test e.1.list es kept' own.2 (still_other old new kept.list kept'.list moves e.1.list own.0 other),
          own_set es own.3 found,
        )
  ] found

  pub all_set : (es : Entries Kept) → AreOwn old es → lookup test es ≡ Some kept → all_versions new (set_value test es kept') ≡ set_value test (all_versions old es) (versions_of new kept')
  all_set [] own found = absurd (cc found)
  all_set (e ∷ es) own found = elim (test e.0) as (λ b. cond b (Some e.1) (lookup test es) ≡ Some kept
      → all_versions new (cond b ((e.0, kept') ∷ es) (e ∷ set_value test es kept')) ≡ cond b ((e.0, versions_of new kept') ∷ all_versions old es) ((e.0, versions_of old e.1) ∷ set_value test (all_versions old es) (versions_of new kept'))) [
        | true ↦ λ is.
            let lack = subst (λ (k : Kept). Lack k.list es) (same_Some _ _ is) own.2 in
            ap (λ rest. (e.0, versions_of new kept') ∷ rest) (others_same old new kept.list kept'.list moves es lack own.3)
        | false ↦ λ found.
            let same = same_older old new kept.list kept'.list moves e.1.list own.0 (lack_at test e.1.list es kept own.2 found) in
            λ i. (e.0, same i ++ if_any e.1.newest) ∷ all_set es own.3 found i
      ] found

-- ---- a key is added or removed

lack_remove : (test : List Val → Bool) (list : Option ℕ) (es : Entries Kept) → Lack list es → Lack list (remove_entry test es)
lack_remove test list [] lack = tt
lack_remove test list (e ∷ es) lack = elim (test e.0) as (λ b. Lack list (cond b es (e ∷ remove_entry test es))) [
  | true ↦ lack.1
  | false ↦ (lack.0, lack_remove test list es lack.1)
]

pub own_remove : (older : OlderView) (test : List Val → Bool) (es : Entries Kept) → AreOwn older es → AreOwn older (remove_entry test es)
own_remove older test [] own = tt
own_remove older test (e ∷ es) own = elim (test e.0) as (λ b. AreOwn older (cond b es (e ∷ remove_entry test es))) [
  | true ↦ own.3
  | false ↦ (own.0, own.1, lack_remove test e.1.list es own.2, own_remove older test es own.3)
]

pub all_remove : (older : OlderView) (test : List Val → Bool) (es : Entries Kept) → all_versions older (remove_entry test es) ≡ remove_entry test (all_versions older es)
all_remove older test [] = refl
all_remove older test (e ∷ es) = elim (test e.0) as (λ b. all_versions older (cond b es (e ∷ remove_entry test es)) ≡ cond b (all_versions older es) ((e.0, versions_of older e.1) ∷ remove_entry test (all_versions older es))) [
  | true ↦ refl
  | false ↦ ap (λ rest. (e.0, versions_of older e.1) ∷ rest) (all_remove older test es)
]

lack_none : (list : Option ℕ) (es : Entries Kept) → list ≡ None → Lack list es
lack_none list [] none = tt
lack_none list (e ∷ es) none = ((λ l here. absurd (cc (sym none ∙ here))), lack_none list es none)

lack_insert : (key : List Val) (kept : Kept) (list : Option ℕ) (es : Entries Kept) → kept.list ≡ None → Lack list es → Lack list (insert_entry key_cmp es key kept)
lack_insert key kept list [] none lack = ((λ l _ there. absurd (cc (sym none ∙ there))), tt)
lack_insert key kept list (e ∷ es) none lack = elim (key_cmp key e.0) as (λ o. Lack list (match_ordering o ((key, kept) ∷ e ∷ es) ((e.0, kept) ∷ es) (e ∷ insert_entry key_cmp es key kept))) [
  | Less ↦ ((λ l _ there. absurd (cc (sym none ∙ there))), lack)
  | Equal ↦ ((λ l _ there. absurd (cc (sym none ∙ there))), lack.1)
  | Greater ↦ (lack.0, lack_insert key kept list es none lack.1)
]

pub own_insert : (older : OlderView) (key : List Val) (kept : Kept) (es : Entries Kept) → kept.list ≡ None → IsOneOfEach (versions_of older kept) → AreOwn older es → AreOwn older (insert_entry key_cmp es key kept)
own_insert older key kept [] none one own = ((λ l here. absurd (cc (sym none ∙ here))), one, tt, tt)
own_insert older key kept (e ∷ es) none one own =
    let used : IsUsed older kept.list = λ l here. absurd (cc (sym none ∙ here)) in
    elim (key_cmp key e.0) as (λ o. AreOwn older (match_ordering o ((key, kept) ∷ e ∷ es) ((e.0, kept) ∷ es) (e ∷ insert_entry key_cmp es key kept))) [
      | Less ↦ (used, one, lack_none kept.list (e ∷ es) none, own)
      | Equal ↦ (used, one, lack_none kept.list es none, own.3)
      | Greater ↦ (own.0, own.1, lack_insert key kept e.1.list es none own.2, own_insert older key kept es none one own.3)
    ]

pub all_insert : (older : OlderView) (key : List Val) (kept : Kept) (es : Entries Kept) → all_versions older (insert_entry key_cmp es key kept) ≡ insert_entry key_cmp (all_versions older es) key (versions_of older kept)
all_insert older key kept [] = refl
all_insert older key kept (e ∷ es) = elim (key_cmp key e.0) as (λ o. all_versions older (match_ordering o ((key, kept) ∷ e ∷ es) ((e.0, kept) ∷ es) (e ∷ insert_entry key_cmp es key kept))
    ≡ match_ordering o ((key, versions_of older kept) ∷ (e.0, versions_of older e.1) ∷ all_versions older es) ((e.0, versions_of older kept) ∷ all_versions older es) ((e.0, versions_of older e.1) ∷ insert_entry key_cmp (all_versions older es) key (versions_of older kept))) [
      | Less ↦ refl
      | Equal ↦ refl
      | Greater ↦ ap (λ rest. (e.0, versions_of older e.1) ∷ rest) (all_insert older key kept es)
    ]

-- ---- some of the keys

pub all_filter : (older : OlderView) (test : List Val → Bool) (es : Entries Kept) → all_versions older (filter (λ e. test e.0) es) ≡ filter (λ e. test e.0) (all_versions older es)
all_filter older test [] = refl
all_filter older test (e ∷ es) = elim (test e.0) as (λ b. all_versions older (cond b (e ∷ filter (λ e. test e.0) es) (filter (λ e. test e.0) es))
    ≡ cond b ((e.0, versions_of older e.1) ∷ filter (λ e. test e.0) (all_versions older es)) (filter (λ e. test e.0) (all_versions older es))) [
      | true ↦ ap (λ rest. (e.0, versions_of older e.1) ∷ rest) (all_filter older test es)
      | false ↦ all_filter older test es
    ]
