-- Statements whose marks may come where they come.
use Rattle.std.proofs.Common.{◌≡◌, ℕ, [], ◌∷◌, ◌++◌, Bool, true, false, ◌==◌, Option, Some, None, Ok, Err, is_ok, refl, ap, arith, if◌then◌else◌}
use Rattle.std.proofs.lemmas.Bool.Decides.{nat_tests}
use Rattle.sky_model.specs.declared.reply.Refusal.{Refusal}
use Rattle.sky_model.specs.declared.stmt.Where.{Where}
use Rattle.sky_keys.specs.Waits.{is_waiting}
use Rattle.sky_model.specs.History.{block_failed, History}
use Rattle.sky_model.specs.Locks.{waiting}
use Rattle.sky_model.specs.Allowed.{allowed}
use Rattle.sky_model.specs.Sessions.{Block, outside, inside, has_open, block, own_txid, session}
use Rattle.sky_model.specs.Outcome.{Outcome, Checked, ◌>>=◌, ◌>>◌, refused_if, refused_by, found_or, end_of, aborts, abort, or_refused}
use Rattle.sky_model.specs.OwnTransaction.{commit_of}
use Rattle.sky_model.specs.SessionMarks.{failure}
use Rattle.sky_histories.proofs.Legal.{ends, fails_block, Chain, done, more}
use Rattle.std.proofs.lemmas.Bool.{cond_both}
use Rattle.sky_model.proofs.Cases.{by_block}

-- a session's number equals itself
pub same-session : (who : ℕ) → (who == who) ≡ true
same-session who = grind (arith, nat_tests)

-- a session may make a statement there that is allowed in such a place
abbrev pub MayStand : History → ℕ → Where → Type 0
MayStand h who place = is_ok (allowed (is_waiting who (waiting h)) (has_open who h) (block who h) place) ≡ true

-- the marks of an answer, or of a refusal, may come next
abbrev pub Good : History → ℕ → Checked Outcome → Type 0
Good h who c = Chain h (or_refused who (session h who) c).marks

-- those of a block may that is rolled back, and stays aborted
good_rolled_back : (h : History) (who : ℕ) → block who h ≡ inside → Chain h (end_of false who (own_txid who h) ++ block_failed who ∷ [])
good_rolled_back h who is = of (own_txid who h) refl
  where
    of : (o : Option ℕ) → own_txid who h ≡ o → Chain h (end_of false who o ++ block_failed who ∷ [])
    of None none = more (fails_block who is none) done
    of (Some t) mine = more (ends who t false mine) (more (fails_block who is (ap (λ b. if b then None else own_txid who h) (same-session who))) done)

-- those of a failure may
pub good_failure : (h : History) (who : ℕ) → Chain h (failure who (own_txid who h) (block who h))
good_failure h who = by_block (λ b. block who h ≡ b → Chain h (failure who (own_txid who h) b)) (λ _. done) (good_rolled_back h who) (λ _. done) (block who h) refl

-- a refusal's may
pub good_refused : (h : History) (who : ℕ) (refusal : Refusal) → Chain h (abort who (block who h) (own_txid who h) refusal)
good_refused h who refusal =
    by_block (λ b. block who h ≡ b → Chain h (abort who b (own_txid who h) refusal)) (λ _. done)
    (λ is. cond_both (aborts refusal) (end_of false who (own_txid who h) ++ block_failed who ∷ []) [] (Chain h) (λ _. good_rolled_back h who is) (λ _. done)) (λ _. done) (block who h) refl

pub good_test : (h : History) (who : ℕ) (b : Bool) (refusal : Refusal) (c : Checked Outcome) → (b ≡ false → Good h who c) → Good h who (refused_if b refusal >> c)
good_test h who true refusal c good = good_refused h who refusal
good_test h who false refusal c good = good refl

pub good_found : {A : Type 0} (h : History) (who : ℕ) (o : Option A) (refusal : Refusal) (c : A → Checked Outcome)
    → ((a : A) → o ≡ Some a → Good h who (c a)) → Good h who (found_or o refusal >>= c)
good_found h who None refusal c good = good_refused h who refusal
good_found h who (Some a) refusal c good = good a refl

pub good_if : (h : History) (who : ℕ) (b : Bool) (c d : Checked Outcome) → Good h who c → (b ≡ false → Good h who d) → Good h who (if b then c else d)
good_if h who true c d good also = good
good_if h who false c d good also = also refl

pub good_test_then : {A : Type 0} (h : History) (who : ℕ) (b : Bool) (refusal : Refusal) (a : A) (c : A → Checked Outcome) → Good h who (c a) → Good h who ((refused_if b refusal >> Ok a) >>= c)
good_test_then h who true refusal a c good = good_refused h who refusal
good_test_then h who false refusal a c good = good

-- what may be refused on the way
pub good_refused_by : (h : History) (who : ℕ) (o : Option Refusal) (c : Checked Outcome) → (o ≡ None → Good h who c) → Good h who (refused_by o >> c)
good_refused_by h who None c good = good refl
good_refused_by h who (Some refusal) c good = good_refused h who refusal

pub good_checked : {A : Type 0} (h : History) (who : ℕ) (o : Checked A) (c : A → Checked Outcome) → ((a : A) → o ≡ Ok a → Good h who (c a)) → Good h who (o >>= c)
good_checked h who (Err refusal) c good = good_refused h who refusal
good_checked h who (Ok a) c good = good a refl

-- a transaction that is running may commit if its statement is outside a block
pub good_commits : (h : History) (who t : ℕ) (b : Block) → own_txid who h ≡ Some t → Chain h (commit_of who t b)
good_commits h who t outside mine = more (ends who t true mine) done
good_commits h who t _ mine = done
