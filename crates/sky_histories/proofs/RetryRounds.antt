-- A call of `maint_retry_events` that moves as many events as it may leaves fewer retries that wait.
use Rattle.std.proofs.Common.{◌≡◌, ℕ, zero, suc, ◌<◌, ◌≤◌, nat_le, ℤ, All, Contains, List, [], ◌∷◌, ◌++◌, Bool, true, false, not, Ok, Err, filter, length, sym, ◌∙◌, ap, subst, arith, if◌then◌else◌}
use Rattle.std.proofs.lemmas.Bool.{cond_both}
use Rattle.std.proofs.lemmas.Bool.Decides.{nat_tests}
use Rattle.std.proofs.lemmas.List.Elements.{All-head}
use Rattle.pgq_retry.specs.declared.retry.Retry.{Retry}
use Rattle.pgq_retry.specs.Retries.{is_event, due_now}
use Rattle.sky_model.specs.declared.reply.Reply.TheVariants.{Number}
use Rattle.sky_model.specs.History.{of_worker, began, ended, queued, put, returned}
use Rattle.sky_model.specs.Retries.{brought_by}
use Rattle.sky_model.specs.State.{Database, after_mark, after_marks}
use Rattle.sky_model.specs.Outcome.{Outcome, Checked, reply_of, marks_of, ◌>>=◌, does_marks}
use Rattle.sky_model.specs.OwnTransaction.{next_id}
use Rattle.sky_model.specs.StepRetry.{back, brings, most_back, maint_retry_events}
use Rattle.sky_model.specs.Daemon.{moved_by}
use Rattle.sky_histories.proofs.RetriesBack.{all-due}
use Rattle.std.proofs.lemmas.List.Elements.{All-contains_itself}

filter-shorter : {X : Type 0} (p : X → Bool) (xs : List X) → length (filter p xs) ≤ length xs
filter-shorter p [] = omega arith
filter-shorter p (x ∷ xs) =
    let rest : length (filter p xs) ≤ length xs = filter-shorter p xs in
    cond_both (p x) (x ∷ filter p xs) (filter p xs) (λ ys. length ys ≤ suc (length xs)) (λ _. omega (arith, rest)) (λ _. omega (arith, rest))

-- one that fails is missed
filter-misses : {X : Type 0} (p : X → Bool) (xs : List X) (x : X) → p x ≡ false → Contains xs x → length (filter p xs) < length xs
filter-misses p [] x fails (k, less, is) = absurd (omega (arith, less))
filter-misses p (y ∷ ys) x fails (zero, less, is) =
    let rest : length (filter p ys) ≤ length ys = filter-shorter p ys in
    subst (λ b. length (if b then y ∷ filter p ys else filter p ys) < suc (length ys)) (sym fails ∙ ap p (sym is)) (omega (arith, rest))
filter-misses p (y ∷ ys) x fails (suc k, less, is) =
    let rest : length (filter p ys) < length ys = filter-misses p ys x fails (k, omega (arith, less), is) in
    cond_both (p y) (y ∷ filter p ys) (filter p ys) (λ zs. length zs < suc (length ys)) (λ _. omega (arith, rest)) (λ _. omega (arith, rest))

itself : (r : Retry) → not (is_event r.sub r.event.ev_id r) ≡ false
itself r = grind (arith, nat_tests)

-- those that come back wait no more
none-added : (d : Database) (now : ℤ) (t : ℕ) (rs : List Retry) → length (after_marks d (back now t rs ++ ended of_worker t true ∷ [])).retries ≤ length d.retries
none-added d now t [] = omega arith
none-added d now t (r ∷ rs) =
    let next : Database = after_mark (after_mark d (queued (put r.queue (brought_by t r.event)))) (queued (returned r now)) in
    let rest = none-added next now t rs in
    let first = filter-shorter (λ w. not (is_event r.sub r.event.ev_id w)) d.retries in
    omega (arith, rest, first)

fewer-by : (d : Database) (now : ℤ) (rs : List Retry) → All (Contains d.retries) rs → nat_le most_back (moved_by (reply_of (brings d now rs))) ≡ true
    → length (after_marks d (marks_of (brings d now rs))).retries < length d.retries
fewer-by d now [] wait full = absurd (cc)
fewer-by d now (r ∷ rs) wait full = of (next_id d.part) full
  where
    outcome : Checked ℕ → Checked Outcome
    outcome c = c >>= (λ t. does_marks (Number (length (r ∷ rs))) (began of_worker t ∷ back now t (r ∷ rs) ++ ended of_worker t true ∷ []))

    of : (c : Checked ℕ) → nat_le most_back (moved_by (reply_of (outcome c))) ≡ true → length (after_marks d (marks_of (outcome c))).retries < length d.retries
    of (Err refusal) full = absurd (cc)
    of (Ok t) full =
        let next : Database = after_mark (after_mark (after_mark d (began of_worker t)) (queued (put r.queue (brought_by t r.event)))) (queued (returned r now)) in
        let rest = none-added next now t rs in
        let first = filter-misses (λ w. not (is_event r.sub r.event.ev_id w)) d.retries r (itself r) (All-head (Contains d.retries) r rs wait) in
        omega (arith, rest, first)

pub fewer-wait : (d : Database) (now : ℤ) → nat_le most_back (moved_by (reply_of (maint_retry_events d now))) ≡ true
    → length (after_marks d (marks_of (maint_retry_events d now))).retries < length d.retries
fewer-wait d now full = fewer-by d now (due_now now most_back d.retries) (all-due (Contains d.retries) now most_back d.retries (All-contains_itself d.retries)) full
