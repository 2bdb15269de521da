-- In which tables a transaction has written.
use Rattle.std.proofs.Common.{◌≡◌, ◌≢◌, ℕ, List, [], ◌∷◌, ◌++◌, Bool, true, false, not, ◌&&◌, Option, refl, arith, ◌||◌, Some, None, find, All, sym, subst, if◌then◌else◌}
use Rattle.std.proofs.lemmas.Bool.Decides.{nat_tests}
use Rattle.sky_val.specs.declared.val.Val.{Val}
use Rattle.sky_model.specs.History.{Whose, ended, tabled, wrote, History}
use Rattle.sky_model.specs.Transactions.{has_ended, running}
use Rattle.sky_model.specs.Rows.{Write, writes as writes_of, wrote_in, has_written}
use Rattle.sky_histories.proofs.Legal.{Fine, writes, Legal, legal-below_mark, fine_mark, copies_row, applies_row}
use Rattle.sky_histories.proofs.Snapshots.{own-unended, sound, runs-unended, copy-runs}
use Rattle.std.proofs.lemmas.List.Elements.{All-nil, All-cons, All-head, All-tail}
use Rattle.sky_txid.specs.Ids.{contains}
use Rattle.sky_model.specs.State.{part_of}
use Rattle.sky_model.specs.ShownRows.{least_writer}
use Rattle.sky_model.proofs.Cases.{by_test, by_same}

-- the one that writes hasn't ended
writer-runs : (h : History) → Legal h → {whose : Whose} {u n : ℕ} {key : List Val} {old new : Option (List Val)} → Fine h (tabled (wrote whose u n key old new)) → has_ended h u ≡ false
writer-runs h l (writes who u _ _ _ _ mine free stands) = own-unended h l who u mine
writer-runs h l (copies_row n u _ _ _ is) = runs-unended h (sound h l) u (copy-runs h (sound h l) n u is.runs)
writer-runs h l (applies_row n u _ _ _ is) = runs-unended h (sound h l) u ((sound h l).works u is.brief.work.works)

-- whether there is a write
abbrev pub some : List Write → Bool
some [] = false
some (w ∷ ws) = true

some-pushed : (ws : List Write) (w : Write) → some (ws ++ w ∷ []) ≡ true
some-pushed [] w = refl
some-pushed (x ∷ xs) w = refl

pub some-is : (ws : List Write) → (some ws ≡ true → ws ≢ []) × (ws ≢ [] → some ws ≡ true)
some-is [] = (λ e. absurd (cc), λ there. absurd (there refl))
some-is (w ∷ ws) = (λ _ e. absurd (cc), λ _. refl)

pub is-written : (h : History) → Legal h → (table t : ℕ) → wrote_in table t h ≡ (not (has_ended h t) && some (writes_of table t h))
is-written [] l table t = grind arith
is-written (ended whose u c ∷ h) l table t = grind (arith, nat_tests, is-written h (legal-below_mark l) table t)
is-written (tabled (wrote whose u n key old new) ∷ h) l table t =
    grind (arith, nat_tests, is-written h (legal-below_mark l) table t, writer-runs h (legal-below_mark l) (fine_mark l), some-pushed (writes_of table t h) (record { key = key; row = new }))
is-written (_ ∷ h) l table t = is-written h (legal-below_mark l) table t

-- ---- tables that none has written

-- what is found nowhere is nowhere
pub found-nowhere : {A : Type 0} (p : A → Bool) (xs : List A) → find p xs ≡ None → All (λ x. p x ≡ false) xs
found-nowhere p [] none = All-nil (λ x. p x ≡ false)
found-nowhere p (x ∷ xs) none =
    by_test (λ b. p x ≡ b → (if b then Some x else find p xs) ≡ None → All (λ y. p y ≡ false) (x ∷ xs)) (p x)
    (λ _ is none. absurd (cc)) (λ _ is none. All-cons (λ y. p y ≡ false) x xs is (found-nowhere p xs none)) refl none

-- what holds of each of some ids holds of one that is among them
pub contained : (P : ℕ → Type 0) (t : ℕ) (ts : List ℕ) → All P ts → contains t ts ≡ true → P t
contained P t [] all is = absurd (cc)
contained P t (u ∷ ts) all is =
    by_same (λ b. (b || contains t ts) ≡ true → P t) t u (λ same _. subst P (sym same) (All-head P u ts all)) (λ _ is. contained P t ts (All-tail P u ts all) is) is

-- a running transaction hasn't written a table that none has written
pub unwritten-by : (h : History) → Legal h → (table : ℕ) → least_writer (part_of h) table ≡ None → (t : ℕ) → contains t (running h) ≡ true → wrote_in table t h ≡ false
unwritten-by h l table none t runs = contained (λ u. wrote_in table u h ≡ false) t (running h) (found-nowhere (λ u. wrote_in table u h) (running h) none) runs

pub has-some : (key : List Val) (h : History) (table t : ℕ) → has_written key (writes_of table t h) ≡ true → some (writes_of table t h) ≡ true
has-some key h table t is = of (writes_of table t h) is
  where
    of : (ws : List Write) → has_written key ws ≡ true → some ws ≡ true
    of [] e = absurd (cc)
    of (w ∷ ws) e = refl
