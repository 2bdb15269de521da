-- A transaction's version, if only the newest may be its own.
use Rattle.std.proofs.Common.{arith, ◌≡◌, ◌⊎◌, inl, inr, ℕ, Bool, true, false, cond, List, [], ◌∷◌, ◌++◌, Option, Some, None, is_some, IsSome, refl, sym, ap, subst, ◌∙◌, Bor}
use Rattle.std.specs.Cmp.{eq_by_cmp_equiv}
use Rattle.std.specs.Prelude.{◌==◌, ◌||◌}
use Rattle.std.specs.List.{list_any}
use Rattle.std.specs.BTreeMap.{is_at}
use Rattle.std.specs.Option.{option_or, option_copied}
use Rattle.std.proofs.lemmas.Bool.Decides.{nat_tests}
use Rattle.sky_val.specs.declared.val.Val.{Val}
use Rattle.sky_val.specs.Order.{key_cmp}
use Rattle.sky_val.proofs.Orders.{key_cmp-IsTotalOrder}
use Rattle.sky_txid.specs.Snapshot.{SnapshotView, sees}
use Rattle.sky_keys.specs.declared.version.Version.{Version}
use Rattle.sky_keys.specs.Versions.{version_of, is_other, newest_from, newest_but, newest_by, read, row_of}

-- a version that was found is the transaction's
found-own : (t : ℕ) (v : Version) (vs : List Version) → version_of t vs ≡ Some v → (v.txid == t) ≡ true
found-own t v [] is = absurd (cc is)
found-own t v (w ∷ ws) is = grind (arith, nat_tests, is, found-own t v ws)

-- if it has none, the newest isn't its own
newest-other : (t : ℕ) (newest : Option Version) (v : Version) (vs : List Version) → version_of t vs ≡ None → newest_from (is_other None) newest vs ≡ Some v → (newest ≡ Some v) ⊎ ((v.txid == t) ≡ false)
newest-other t newest v [] none is = inl is
newest-other t newest v (w ∷ ws) none is = by (λ none. newest-other t (Some w) v ws none is) (t == w.txid) refl none
  where
    by : (version_of t ws ≡ None → (Some w ≡ Some v) ⊎ ((v.txid == t) ≡ false)) → (b : Bool) → (t == w.txid) ≡ b → cond b (Some w) (version_of t ws) ≡ None → (newest ≡ Some v) ⊎ ((v.txid == t) ≡ false)
    by later true same none = absurd (cc none)
    by later false other none = elim (later none) [
      | inl last ↦ inr (let it : w ≡ v = cc in ap (λ (u : Version). u.txid == t) (sym it) ∙ grind (arith, nat_tests, other))
      | inr past ↦ inr past
    ]

module _ (t : ℕ) (vs : List Version) (last : IsSome (version_of t vs) → newest_but None vs ≡ version_of t vs) where
  pub newest-own : (v : Version) → Some v ≡ newest_but None vs → (v.txid == t) ≡ is_some (version_of t vs)
  newest-own v is = by (version_of t vs) refl last
    where
      by : (o : Option Version) → version_of t vs ≡ o → (IsSome o → newest_but None vs ≡ o) → (v.txid == t) ≡ is_some o
      by None none last = elim (newest-other t None v vs none (sym is)) [
        | inl never ↦ absurd (cc never)
        | inr other ↦ other
      ]
      by (Some u) found last = found-own t v vs (found ∙ sym (last refl) ∙ sym is)

  pub newest-none : None ≡ newest_but None vs → false ≡ is_some (version_of t vs)
  newest-none is = by (version_of t vs) last
    where
      by : (o : Option Version) → (IsSome o → newest_but None vs ≡ o) → false ≡ is_some o
      by None last = refl
      by (Some u) last = absurd (let found = is ∙ last refl in cc found)

-- what is read as if the transaction had none is what it reads, if it has none
pub read-own : (s : SnapshotView) (t : ℕ) (vs : List Version) (b : Bool) → b ≡ is_some (version_of t vs) → read s (cond b (Some t) None) vs ≡ read s (Some t) vs
read-own s t vs true has = refl
read-own s t vs false has = by (version_of t vs) has
  where
    by : (o : Option Version) → false ≡ is_some o → row_of (newest_by (sees s) vs) ≡ row_of (option_or o (newest_by (sees s) vs))
    by None none = refl
    by (Some v) some = absurd (cc some)

pub copied-row : {X : Type 0} (o : Option (Bor X)) → is_some o ≡ is_some (option_copied o)
copied-row None = refl
copied-row (Some x) = refl

-- a key that was logged is among those that are
pub key-pushed : (t : ℕ) (b : Bool) (key : List Val) (before after : List (List Val)) → after ≡ before ++ key ∷ [] → b || list_any (is_at (key_cmp key)) after ≡ true
key-pushed t b key before after pushed = subst (λ keys. b || list_any (is_at (key_cmp key)) keys ≡ true) (sym pushed) (or-true b (list_any (is_at (key_cmp key)) (before ++ key ∷ [])) (last before))
  where
    or-true : (b d : Bool) → d ≡ true → b || d ≡ true
    or-true true d is = refl
    or-true false d is = is

    or-false : (b : Bool) → b ≡ true → b || false ≡ true
    or-false true is = refl
    or-false false is = is

    last : (keys : List (List Val)) → list_any (is_at (key_cmp key)) (keys ++ key ∷ []) ≡ true
    last [] = or-false (is_at (key_cmp key) key) ((eq_by_cmp_equiv key_cmp-IsTotalOrder).refl key)
    last (k ∷ keys) = or-true (is_at (key_cmp key) k) (list_any (is_at (key_cmp key)) (keys ++ key ∷ [])) (last keys)
