-- What the calls on the map of a table do to the versions of its keys.
use Rattle.std.proofs.Common.{◌≡◌, ℕ, true, List, [], ◌∷◌, Option, Some, None, Result, Ok, Err, refl, sym, subst, ap, ◌∙◌}
use Rattle.std.specs.Prelude.{OnOk, OnErr, option_map, ◌≢◌}
use Rattle.std.specs.Option.{unwrap_or}
use Rattle.std.specs.List.Sorted.{IsStrictlySortedBy}
use Rattle.std.specs.Map.{keys_of, lookup, set_value, remove_entry}
use Rattle.std.specs.BTreeMap.{is_at, insert_entry}
use Rattle.slab.specs.Slab.{Slab}
use Rattle.sky_val.specs.declared.val.Val.{Val}
use Rattle.sky_val.specs.Order.{key_cmp}
use Rattle.sky_val.specs.Entries.{Entries, at, is_in_order}
use Rattle.sky_keys.specs.Versions.{with_version, without, versions_at, written}
use Rattle.sky_rows.specs.declared.kept.Kept.{Kept}
use Rattle.sky_rows.specs.Versions.{IsOneOfEach}
use Rattle.sky_rows.specs.Older.{OlderView}
use Rattle.sky_rows.specs.Kept.{versions_of, all_versions, IsUsed, Moves, AreOwn}
use Rattle.sky_rows.specs.declared.rows.Slot.{Slot}
use Rattle.sky_rows.specs.Rows.{Places, place_at, kept_at, nothing, rows_of}
use Rattle.sky_rows.specs.Table.{forgotten_at}
use Rattle.sky_rows.proofs.PlaceLemmas.{lookup-rows}
use Rattle.sky_rows.proofs.Found.{one-with, one-without}
use Rattle.sky_rows.proofs.TableLemmas.{lookup-at, in_order-sorted, written-set, unchanged-set, written-insert}
use Rattle.sky_rows.proofs.ForgetLemmas.{forgotten_at-none, forgotten_at-left, forgotten_at-remove}
use Rattle.sky_rows.proofs.RowLemmas.{lookup-all, own_at, own_set, all_set, own_remove, all_remove, own_insert, all_insert}

keys-all : (older : OlderView) (es : Entries Kept) → keys_of (all_versions older es) ≡ keys_of es
keys-all older [] = refl
keys-all older (e ∷ es) = ap (λ ks. e.0 ∷ ks) (keys-all older es)

pub in_order : (older : OlderView) (es : Entries Kept) → IsStrictlySortedBy key_cmp (keys_of es) → is_in_order (all_versions older es) ≡ true
in_order older es order = in_order-sorted (all_versions older es) (subst (IsStrictlySortedBy key_cmp) (sym (keys-all older es)) order)

-- ---- at a key

pub found_at : (older : OlderView) (key : List Val) (es : Entries Kept) (o : Option Kept) → o ≡ lookup (is_at (key_cmp key)) es → at key (all_versions older es) ≡ option_map (versions_of older) o
found_at older key es o is = sym (lookup-at key (all_versions older es)) ∙ lookup-all older (is_at (key_cmp key)) es ∙ ap (option_map (versions_of older)) (sym is)

pub versions_found : (older : OlderView) (key : List Val) (es : Entries Kept) (kept : Kept) → Some kept ≡ lookup (is_at (key_cmp key)) es → versions_at key (all_versions older es) ≡ versions_of older kept
versions_found older key es kept is = ap (λ o. unwrap_or o []) (found_at older key es (Some kept) is)

pub versions_there : (older : OlderView) (slots : Slab Slot) (places : Places) (key : List Val) (p : ℕ) → place_at places key ≡ Some p
    → versions_at key (all_versions older (rows_of slots places)) ≡ versions_of older (unwrap_or (kept_at slots p) nothing)
versions_there older slots places key p is =
    versions_found older key (rows_of slots places) (unwrap_or (kept_at slots p) nothing)
    (ap (option_map (λ p. unwrap_or (kept_at slots p) nothing)) (sym is) ∙ sym (lookup-rows slots (is_at (key_cmp key)) places))

pub none_found : (older : OlderView) (key : List Val) (es : Entries Kept) → None ≡ lookup (is_at (key_cmp key)) es → versions_at key (all_versions older es) ≡ []
none_found older key es is = ap (λ o. unwrap_or o []) (found_at older key es None is)

pub used_at : (older : OlderView) (key : List Val) (es : Entries Kept) (kept : Kept) → AreOwn older es → Some kept ≡ lookup (is_at (key_cmp key)) es → IsUsed older kept.list
used_at older key es kept own is = (own_at older (is_at (key_cmp key)) es kept own (sym is)).0

pub one_at : (older : OlderView) (key : List Val) (es : Entries Kept) (kept : Kept) → AreOwn older es → Some kept ≡ lookup (is_at (key_cmp key)) es → IsOneOfEach (versions_of older kept)
one_at older key es kept own is = (own_at older (is_at (key_cmp key)) es kept own (sym is)).1

-- ---- a version is put at a key that has others

module _ (t : ℕ) (key : List Val) (row : Option (List Val)) (old new : OlderView) (es : Entries Kept) (kept kept' : Kept) (order : IsStrictlySortedBy key_cmp (keys_of es)) (own : AreOwn old es)
    (found : Some kept ≡ lookup (is_at (key_cmp key)) es) (moves : Moves old kept.list new kept'.list) {U E : Type 0} (r : Result U E)
    (ok : OnOk r (versions_of new kept' ≡ with_version t row (versions_of old kept))) (err : OnErr r (versions_of new kept' ≡ versions_of old kept))
    (after : Entries Kept) (set : after ≡ set_value (is_at (key_cmp key)) es kept') where
  put_one : (q : Result U E) → OnOk q (versions_of new kept' ≡ with_version t row (versions_of old kept)) → OnErr q (versions_of new kept' ≡ versions_of old kept) → IsOneOfEach (versions_of new kept')
  put_one (Ok _) ok err = subst IsOneOfEach (sym ok) (one-with t row (versions_of old kept) (one_at old key es kept own found))
  put_one (Err _) ok err = subst IsOneOfEach (sym err) (one_at old key es kept own found)

  pub put_own : AreOwn new after
  put_own = subst (AreOwn new) (sym set) (own_set old new (is_at (key_cmp key)) kept kept' moves (put_one r ok err) es own (sym found))

  put_all : all_versions new after ≡ set_value (is_at (key_cmp key)) (all_versions old es) (versions_of new kept')
  put_all = ap (all_versions new) set ∙ all_set old new (is_at (key_cmp key)) kept kept' moves (put_one r ok err) es own (sym found)

  put_ok_of : (q : Result U E) → OnOk q (versions_of new kept' ≡ with_version t row (versions_of old kept)) → OnOk q (all_versions new after ≡ written t key row (all_versions old es))
  put_ok_of (Ok _) ok = put_all ∙ written-set t key row (all_versions old es) (versions_of old kept) (versions_of new kept') (in_order old es order) (found_at old key es (Some kept) found) ok
  put_ok_of (Err _) ok = tt

  pub put_ok : OnOk r (all_versions new after ≡ written t key row (all_versions old es))
  put_ok = put_ok_of r ok

  put_err_of : (q : Result U E) → OnErr q (versions_of new kept' ≡ versions_of old kept) → OnErr q (all_versions new after ≡ all_versions old es)
  put_err_of (Ok _) err = tt
  put_err_of (Err _) err = put_all ∙ unchanged-set key (all_versions old es) (versions_of old kept) (versions_of new kept') (found_at old key es (Some kept) found) err

  pub put_err : OnErr r (all_versions new after ≡ all_versions old es)
  put_err = put_err_of r err

-- or at one that has none

module _ (t : ℕ) (key : List Val) (row : Option (List Val)) (older : OlderView) (es : Entries Kept) (kept : Kept) (none : None ≡ lookup (is_at (key_cmp key)) es) (list : kept.list ≡ None)
    (newest : kept.newest ≡ Some (record { txid = t; row = row })) (after : Entries Kept) (set : after ≡ insert_entry key_cmp es key kept) where
  first_is : versions_of older kept ≡ with_version t row []
  first_is = λ i. versions_of older (record { newest = newest i; list = list i })

  pub insert_own : AreOwn older es → AreOwn older after
  insert_own own = subst (AreOwn older) (sym set) (own_insert older key kept es list (subst IsOneOfEach (sym first_is) (one-with t row [] tt)) own)

  pub insert_all : all_versions older after ≡ written t key row (all_versions older es)
  insert_all = ap (all_versions older) set ∙ all_insert older key kept es ∙ written-insert t key row (all_versions older es) (versions_of older kept) (found_at older key es None none) first_is

-- ---- a transaction's version is removed

pub forget_none : (t : ℕ) (older : OlderView) (key : List Val) (es : Entries Kept) → None ≡ lookup (is_at (key_cmp key)) es → all_versions older es ≡ forgotten_at t key (all_versions older es)
forget_none t older key es none = sym (forgotten_at-none t key (all_versions older es) (found_at older key es None none))

module _ (t : ℕ) (key : List Val) (old new : OlderView) (es : Entries Kept) (kept kept' : Kept) (own : AreOwn old es) (found : Some kept ≡ lookup (is_at (key_cmp key)) es)
    (moves : Moves old kept.list new kept'.list) (value : versions_of new kept' ≡ without t (versions_of old kept))
    (after : Entries Kept) (set : after ≡ set_value (is_at (key_cmp key)) es kept') where
  left_one : IsOneOfEach (versions_of new kept')
  left_one = subst IsOneOfEach (sym value) (one-without t (versions_of old kept) (one_at old key es kept own found))

  pub forget_own : AreOwn new after
  forget_own = subst (AreOwn new) (sym set) (own_set old new (is_at (key_cmp key)) kept kept' moves left_one es own (sym found))

  left_all : all_versions new after ≡ set_value (is_at (key_cmp key)) (all_versions old es) (versions_of new kept')
  left_all = ap (all_versions new) set ∙ all_set old new (is_at (key_cmp key)) kept kept' moves left_one es own (sym found)

  pub forget_left : versions_of new kept' ≢ [] → all_versions new after ≡ forgotten_at t key (all_versions old es)
  forget_left some = left_all ∙ forgotten_at-left t key (all_versions old es) (versions_of old kept) (versions_of new kept') (found_at old key es (Some kept) found) value some

  module _ (rest : Entries Kept) (gone : rest ≡ remove_entry (is_at (key_cmp key)) after) where
    pub forget_last : versions_of new kept' ≡ [] → all_versions new rest ≡ forgotten_at t key (all_versions old es)
    forget_last none = ap (all_versions new) gone ∙ all_remove new (is_at (key_cmp key)) after ∙ ap (remove_entry (is_at (key_cmp key))) left_all
        ∙ forgotten_at-remove t key (all_versions old es) (versions_of old kept) (versions_of new kept') (found_at old key es (Some kept) found) value none

    pub forget_last_own : AreOwn new rest
    forget_last_own = subst (AreOwn new) (sym gone) (own_remove new (is_at (key_cmp key)) after forget_own)
