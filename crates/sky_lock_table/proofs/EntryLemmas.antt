-- What the entries by arrival say of the wait queue, and what is added and removed.
use Rattle.std.proofs.Common.{◌≡◌, ◌≢◌, ℕ, zero, suc, ◌+◌, ◌≤◌, true, false, cond, not, List, [], ◌∷◌, ◌++◌, length, slice_set, Option, Some, None, refl, sym, ◌∙◌, ap, arith}
use Rattle.std.specs.Prelude.{◌==◌}
use Rattle.std.specs.List.{AllByRecursion}
use Rattle.std.proofs.lemmas.Bool.{eqb-true, or_parts}
use Rattle.sky_keys.specs.Waits.{is_waiting, entry_of, without}
use Rattle.sky_lock_table.specs.declared.lock_key.LockKey.{LockKey}
use Rattle.sky_lock_table.specs.declared.entries.Waiter.{Waiter}
use Rattle.sky_lock_table.specs.Waiters.{entry, entry_at, waiting_in, packed, key_of, is_of}

-- entries, as they are kept
abbrev pub Entries : Type 0
Entries = List (Option Waiter)

-- no entry is of the session
abbrev pub NoneOf : ℕ → Entries → Type 0
NoneOf who es = (b : ℕ) → is_of who (entry_at es b) ≡ false

-- the entry of this arrival is of the session, and no other
abbrev pub OneOf : ℕ → ℕ → Entries → Type 0
OneOf who a es = (is_of who (entry_at es a) ≡ true) × ((b : ℕ) → b ≢ a → is_of who (entry_at es b) ≡ false)

-- ---- lists of entries

pub waiting-append : (es fs : Entries) → waiting_in (es ++ fs) ≡ waiting_in es ++ waiting_in fs
waiting-append [] fs = refl
waiting-append (None ∷ es) fs = waiting-append es fs
waiting-append (Some w ∷ es) fs = ap (λ ws. entry w.who w.key ∷ ws) (waiting-append es fs)

pub waiting-packed : (es : Entries) → waiting_in (packed es) ≡ waiting_in es
waiting-packed [] = refl
waiting-packed (None ∷ es) = waiting-packed es
waiting-packed (Some w ∷ es) = ap (λ ws. entry w.who w.key ∷ ws) (waiting-packed es)

-- no more wait than came
pub few_wait : (es : Entries) → length (waiting_in es) ≤ length es
few_wait [] = omega arith
few_wait (None ∷ es) = let rest = few_wait es in omega arith
few_wait (Some w ∷ es) = let rest = few_wait es in omega arith

-- one leaves
pub one_less : (es : Entries) (a : ℕ) (w : Waiter) → entry_at es a ≡ Some w → length (waiting_in (slice_set es a None)) + 1 ≡ length (waiting_in es)
one_less [] a w here = absurd (cc here)
one_less (None ∷ es) zero w here = absurd (cc here)
one_less (Some v ∷ es) zero w here = omega arith
one_less (None ∷ es) (suc a) w here = one_less es a w here
one_less (Some v ∷ es) (suc a) w here = let rest = one_less es a w here in omega arith

-- ---- a session's entry

pub entry-none : (es : Entries) (who : ℕ) → NoneOf who es → entry_of who (waiting_in es) ≡ None
entry-none [] who none = refl
entry-none (None ∷ es) who none = entry-none es who (λ b. none (suc b))
entry-none (Some w ∷ es) who none = ap (λ t. cond t (Some (entry w.who w.key)) (entry_of who (waiting_in es))) (none zero) ∙ entry-none es who (λ b. none (suc b))

pub without-none : (es : Entries) (who : ℕ) → NoneOf who es → without who (waiting_in es) ≡ waiting_in es
without-none [] who none = refl
without-none (None ∷ es) who none = without-none es who (λ b. none (suc b))
without-none (Some w ∷ es) who none =
    ap (λ t. cond (not t) (entry w.who w.key ∷ without who (waiting_in es)) (without who (waiting_in es))) (none zero) ∙ ap (λ ws. entry w.who w.key ∷ ws) (without-none es who (λ b. none (suc b)))

not_zero : (a : ℕ) → zero ≢ suc a
not_zero a e = absurd (omega arith)

pub later_one : (who a : ℕ) (e : Option Waiter) (es : Entries) → OneOf who (suc a) (e ∷ es) → OneOf who a es
later_one who a e es one = (one.0, λ b other. one.1 (suc b) (λ same. other (down same)))
  where
    down : {m n : ℕ} → suc m ≡ suc n → m ≡ n
    down same = omega arith

pub none_later : (who : ℕ) (e : Option Waiter) (es : Entries) → OneOf who zero (e ∷ es) → NoneOf who es
none_later who e es one b = one.1 (suc b) (λ same. not_zero b (sym same))

pub entry-one : (es : Entries) (who a : ℕ) (w : Waiter) → OneOf who a es → entry_at es a ≡ Some w → entry_of who (waiting_in es) ≡ Some (entry who w.key)
entry-one [] who a w one here = absurd (cc here)
entry-one (None ∷ es) who zero w one here = absurd (cc here)
entry-one (Some v ∷ es) who zero w one here =
    let same : v ≡ w = cc here in
    ap (λ t. cond t (Some (entry v.who v.key)) (entry_of who (waiting_in es))) one.0
    ∙ ap (λ s. Some (entry s v.key)) (eqb-true v.who who one.0) ∙ ap (λ (u : Waiter). Some (entry who u.key)) same
entry-one (None ∷ es) who (suc a) w one here = entry-one es who a w (later_one who a None es one) here
entry-one (Some v ∷ es) who (suc a) w one here =
    ap (λ t. cond t (Some (entry v.who v.key)) (entry_of who (waiting_in es))) (one.1 zero (not_zero a)) ∙ entry-one es who a w (later_one who a (Some v) es one) here

pub without-one : (es : Entries) (who a : ℕ) → OneOf who a es → waiting_in (slice_set es a None) ≡ without who (waiting_in es)
without-one [] who a one = refl
without-one (None ∷ es) who zero one = sym (without-none es who (none_later who None es one))
without-one (Some v ∷ es) who zero one =
    sym (without-none es who (none_later who (Some v) es one))
    ∙ ap (λ t. cond (not t) (entry v.who v.key ∷ without who (waiting_in es)) (without who (waiting_in es))) (sym one.0)
without-one (None ∷ es) who (suc a) one = without-one es who a (later_one who a None es one)
without-one (Some v ∷ es) who (suc a) one =
    ap (λ ws. entry v.who v.key ∷ ws) (without-one es who a (later_one who a (Some v) es one))
    ∙ ap (λ t. cond (not t) (entry v.who v.key ∷ without who (waiting_in es)) (without who (waiting_in es))) (sym (one.1 zero (not_zero a)))

-- all that are the session's are at its key
pub own-none : (es : Entries) (who : ℕ) (key : LockKey) → NoneOf who es → AllByRecursion (λ v. (v.who == who) ≡ true → key_of v ≡ key) (waiting_in es)
own-none [] who key none = tt
own-none (None ∷ es) who key none = own-none es who key (λ b. none (suc b))
own-none (Some v ∷ es) who key none = (λ its. let both : true ≡ false = sym its ∙ none zero in cc both, own-none es who key (λ b. none (suc b)))

pub own-one : (es : Entries) (who a : ℕ) (w : Waiter) → OneOf who a es → entry_at es a ≡ Some w → AllByRecursion (λ v. (v.who == who) ≡ true → key_of v ≡ w.key) (waiting_in es)
own-one [] who a w one here = tt
own-one (None ∷ es) who zero w one here = absurd (cc here)
own-one (Some v ∷ es) who zero w one here = let same : v ≡ w = cc here in (λ _. ap (λ (u : Waiter). u.key) same, own-none es who w.key (none_later who (Some v) es one))
own-one (None ∷ es) who (suc a) w one here = own-one es who a w (later_one who a None es one) here
own-one (Some v ∷ es) who (suc a) w one here = (λ its. let both : true ≡ false = sym its ∙ one.1 zero (not_zero a) in cc both, own-one es who a w (later_one who a (Some v) es one) here)

-- a session that doesn't wait has no entry
pub none-idle : (es : Entries) (who : ℕ) → is_waiting who (waiting_in es) ≡ false → NoneOf who es
none-idle [] who idle b = refl
none-idle (None ∷ es) who idle zero = refl
none-idle (None ∷ es) who idle (suc b) = none-idle es who idle b
none-idle (Some w ∷ es) who idle zero = (or_parts (w.who == who) (is_waiting who (waiting_in es)) idle).0
none-idle (Some w ∷ es) who idle (suc b) = none-idle es who (or_parts (w.who == who) (is_waiting who (waiting_in es)) idle).1 b
