-- The keys of each session, as the index records them, after a key was taken or given back.
use Rattle.std.proofs.Common.{◌≡◌, ℕ, Bool, true, false, cond, Option, Some, None, refl, sym, ◌∙◌, ap}
use Rattle.std.specs.Prelude.{◌==◌, ◌&&◌}
use Rattle.std.specs.Ordering.{eq_by_cmp}
use Rattle.std.proofs.lemmas.Bool.{eqb-true, eq-eqb}
use Rattle.sky_lock_table.specs.declared.lock_key.LockKey.{LockKey}
use Rattle.sky_lock_table.specs.Order.{lock_cmp}
use Rattle.sky_lock_table.specs.Holders.{is_holder}
use Rattle.sky_lock_table.proofs.Orders.{lock_ties-is}

-- whether a session holds a key, by an index
abbrev pub Index : Type 0
Index = ℕ → LockKey → Bool

pub and_no : {X : Type 0} (b : Bool) (x y : X) → cond (b && false) x y ≡ y
and_no true x y = refl
and_no false x y = refl

pub gone : (b : Bool) → cond (b && true) false b ≡ false
gone true = refl
gone false = refl

pub come : (b : Bool) → cond (b && true) true false ≡ b
come true = refl
come false = refl

pub index-freed : (v w : Index) (old new : LockKey → Option ℕ) (who : ℕ) (key : LockKey)
    → ((s : ℕ) (q : LockKey) → w s q ≡ cond (s == who && eq_by_cmp lock_cmp key q) false (v s q))
    → ((q : LockKey) → new q ≡ cond (eq_by_cmp lock_cmp key q) None (old q))
    → old key ≡ Some who
    → ((s : ℕ) (q : LockKey) → v s q ≡ is_holder s (old q))
    → (s : ℕ) (q : LockKey) → w s q ≡ is_holder s (new q)
index-freed v w old new who key index held was kept s q =
    index s q ∙ elim (eq_by_cmp lock_cmp key q) as (λ t. eq_by_cmp lock_cmp key q ≡ t → cond (s == who && t) false (v s q) ≡ is_holder s (cond t None (old q))) [
      | true ↦ λ tie. ap (cond (s == who && true) false) (kept s q ∙ ap (λ k. is_holder s (old k)) (sym (lock_ties-is key q tie)) ∙ ap (is_holder s) was) ∙ gone (s == who)
      | false ↦ λ _. and_no (s == who) false (v s q) ∙ kept s q
    ] refl ∙ ap (is_holder s) (sym (held q))

pub index-held : (v w : Index) (old new : LockKey → Option ℕ) (who : ℕ) (key : LockKey)
    → ((s : ℕ) (q : LockKey) → w s q ≡ cond (s == who && eq_by_cmp lock_cmp key q) true (v s q))
    → ((q : LockKey) → new q ≡ cond (eq_by_cmp lock_cmp key q) (Some who) (old q))
    → old key ≡ None
    → ((s : ℕ) (q : LockKey) → v s q ≡ is_holder s (old q))
    → (s : ℕ) (q : LockKey) → w s q ≡ is_holder s (new q)
index-held v w old new who key index held was kept s q =
    index s q ∙ elim (eq_by_cmp lock_cmp key q) as (λ t. eq_by_cmp lock_cmp key q ≡ t → cond (s == who && t) true (v s q) ≡ is_holder s (cond t (Some who) (old q))) [
      | true ↦ λ tie. ap (cond (s == who && true) true) (kept s q ∙ ap (λ k. is_holder s (old k)) (sym (lock_ties-is key q tie)) ∙ ap (is_holder s) was) ∙ come (s == who)
      | false ↦ λ _. and_no (s == who) true (v s q) ∙ kept s q
    ] refl ∙ ap (is_holder s) (sym (held q))

-- the session that an index names is the holder
pub holder_from_index : (s : ℕ) (o : Option ℕ) → is_holder s o ≡ true → o ≡ Some s
holder_from_index s None e = absurd (cc e)
holder_from_index s (Some h) e = ap Some (sym (eqb-true s h e))

-- and if it names none, there is none
pub other_from_index : (s : ℕ) (o : Option ℕ) → is_holder s o ≡ false → o ≡ Some s → ⊥
other_from_index s o none is =
    let here : (s == s) ≡ true = eq-eqb s s refl in
    let both : true ≡ false = sym here ∙ ap (is_holder s) (sym is) ∙ none in
    cc both

-- what isn't listed isn't removed
pub lacking : (who : ℕ) (key : LockKey) (v : Index) → v who key ≡ false → (s : ℕ) (q : LockKey) → cond (s == who && eq_by_cmp lock_cmp key q) false (v s q) ≡ v s q
lacking who key v none s q = elim (eq_by_cmp lock_cmp key q) as (λ t. eq_by_cmp lock_cmp key q ≡ t → cond (s == who && t) false (v s q) ≡ v s q) [
  | true ↦ λ tie. elim (s == who) as (λ b. (s == who) ≡ b → cond (b && true) false (v s q) ≡ v s q) [
    | true ↦ λ own. sym ((λ i. v (eqb-true s who own i) (sym (lock_ties-is key q tie) i)) ∙ none)
    | false ↦ λ _. refl
  ] refl
  | false ↦ λ _. and_no (s == who) false (v s q)
] refl
