-- Who holds which key, once a key or all keys of a session were given back.
use Rattle.std.proofs.Common.{◌≡◌, ◌≢◌, ℕ, true, false, cond, Option, Some, None, is_some, refl, sym, ◌∙◌, ap}
use Rattle.std.specs.Prelude.{◌==◌}
use Rattle.std.specs.Ordering.{eq_by_cmp}
use Rattle.std.proofs.lemmas.Bool.{eqb-true, eq-eqb}
use Rattle.sky_keys.specs.Waits.{Holders, other_than, taken, given_back, released}
use Rattle.sky_lock_table.specs.declared.lock_key.LockKey.{LockKey}
use Rattle.sky_lock_table.specs.Order.{lock_cmp}
use Rattle.sky_lock_table.specs.Holders.{Held, holder_of, Frees}
use Rattle.sky_lock_table.proofs.Orders.{is_same_key-ties, lock_ties-is}

-- the holders by a list of held keys
abbrev pub holders : Held → Holders
holders held table key = holder_of held (record { table = table; key = key })

-- no other than itself
not_itself : (who : ℕ) → other_than who (Some who) ≡ None
not_itself who = ap (λ b. cond b None (Some who)) (eq-eqb who who refl)

another : (o : Option ℕ) (who : ℕ) → o ≢ Some who → other_than who o ≡ o
another None who apart = refl
another (Some s) who apart = elim (s == who) as (λ b. (s == who) ≡ b → cond b None (Some s) ≡ Some s) [
  | true ↦ λ same. absurd (apart (ap Some (eqb-true s who same)))
  | false ↦ λ _. refl
] refl

pub given_back_is : (old new : Held) (who : ℕ) (key : LockKey) → Frees old who key new → holders new ≡ given_back who key.table key.key (holders old)
given_back_is old new who key frees i table k = (
    frees.free (record { table = table; key = k })
    ∙ elim (eq_by_cmp lock_cmp key (record { table = table; key = k })) as (λ t. eq_by_cmp lock_cmp key (record { table = table; key = k }) ≡ t
    → cond t None (holders old table k) ≡ cond t (other_than who (holders old table k)) (holders old table k)) [
      | true ↦ λ tie. sym (ap (other_than who) (ap (holder_of old) (sym (lock_ties-is key (record { table = table; key = k }) tie)) ∙ frees.was) ∙ not_itself who)
      | false ↦ λ _. refl
    ] refl
    ∙ ap (λ b. cond b (other_than who (holders old table k)) (holders old table k)) (sym (is_same_key-ties key (record { table = table; key = k })))
    ) i

pub not_held_is : (old new : Held) (who : ℕ) (key : LockKey) → holder_of old key ≢ Some who → new ≡ old → holders new ≡ given_back who key.table key.key (holders old)
not_held_is old new who key apart same i table k = (
    ap (λ held. holders held table k) same
    ∙ elim (eq_by_cmp lock_cmp key (record { table = table; key = k })) as (λ t. eq_by_cmp lock_cmp key (record { table = table; key = k }) ≡ t
    → holders old table k ≡ cond t (other_than who (holders old table k)) (holders old table k)) [
      | true ↦ λ tie. sym (another (holders old table k) who (λ is. apart (ap (holder_of old) (lock_ties-is key (record { table = table; key = k }) tie) ∙ is)))
      | false ↦ λ _. refl
    ] refl
    ∙ ap (λ b. cond b (other_than who (holders old table k)) (holders old table k)) (sym (is_same_key-ties key (record { table = table; key = k })))
    ) i

-- giving back one key of a session first makes no difference once all its keys are given back
pub released_step : (old new : Held) (who : ℕ) (key : LockKey) → Frees old who key new → released who (holders new) ≡ released who (holders old)
released_step old new who key frees i table k = (
    ap (other_than who) (frees.free (record { table = table; key = k }))
    ∙ elim (eq_by_cmp lock_cmp key (record { table = table; key = k })) as (λ t. eq_by_cmp lock_cmp key (record { table = table; key = k }) ≡ t
    → other_than who (cond t None (holders old table k)) ≡ other_than who (holders old table k)) [
      | true ↦ λ tie. sym (ap (other_than who) (ap (holder_of old) (sym (lock_ties-is key (record { table = table; key = k }) tie)) ∙ frees.was) ∙ not_itself who)
      | false ↦ λ _. refl
    ] refl
    ) i

-- and if none is left, all are given back
pub released_is : (held : Held) (who : ℕ) → ((q : LockKey) → holder_of held q ≢ Some who) → holders held ≡ released who (holders held)
released_is held who none i table k = sym (another (holders held table k) who (none (record { table = table; key = k }))) i

-- a session takes again what it holds
pub taken_again : (held : Held) (who : ℕ) (key : LockKey) → holder_of held key ≡ Some who → holders held ≡ taken who key.table key.key (holders held)
taken_again held who key own i table k = (
    elim (eq_by_cmp lock_cmp key (record { table = table; key = k })) as (λ t. eq_by_cmp lock_cmp key (record { table = table; key = k }) ≡ t → holders held table k ≡ cond t (Some who) (holders held table k)) [
      | true ↦ λ tie. ap (holder_of held) (sym (lock_ties-is key (record { table = table; key = k }) tie)) ∙ own
      | false ↦ λ _. refl
    ] refl
    ∙ ap (λ b. cond b (Some who) (holders held table k)) (sym (is_same_key-ties key (record { table = table; key = k })))
    ) i

-- a key that is held, but by no other session, is its own
pub held_itself : (who : ℕ) (o : Option ℕ) → other_than who o ≡ None → is_some o ≡ true → o ≡ Some who
held_itself who None free held = absurd (cc held)
held_itself who (Some s) free held = elim (s == who) as (λ b. (s == who) ≡ b → cond b None (Some s) ≡ None → Some s ≡ Some who) [
  | true ↦ λ same _. ap Some (eqb-true s who same)
  | false ↦ λ _ none. absurd (cc none)
] refl free
