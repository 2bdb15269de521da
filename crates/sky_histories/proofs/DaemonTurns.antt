-- What a daemon does is the same at places that read alike.
use Rattle.std.proofs.Common.{◌≡◌, ℤ, List, [], ◌∷◌, Bool, true, false, refl, ◌∙◌, ap, ℕ, zero, suc, length, nat_le, ◌++◌, Option, Some, None, Ok, Err}
use Rattle.sky_model.specs.declared.reply.Reply.TheVariants.{Number}
use Rattle.pgq_retry.specs.Retries.{due_now}
use Rattle.pgq_retry.specs.declared.retry.Retry as retry
use Rattle.sky_model.specs.OwnTransaction.{next_id}
use Rattle.sky_model.specs.Retries.{brought_by}
use Rattle.sky_model.specs.StepRetry.{back, brings, most_back, maint_retry_events}
use Rattle.sky_model.specs.Outcome.{Outcome, Checked, reply_of, marks_of, ◌>>=◌, does_marks}
use Rattle.sky_model.specs.declared.daemon.DaemonPart.{DaemonPart}
use Rattle.sky_model.specs.declared.daemon.DaemonPart.TheVariants.{Tick, Retry, Maintain}
use Rattle.sky_model.specs.History.{Mark, QueueMark, queued, History, of_worker, began, ended, put, returned, switching, switched, ticked, second_step}
use Rattle.sky_model.specs.Queues.{NamedQueue}
use Rattle.sky_model.specs.State.{Database, part_of}
use Rattle.sky_model.specs.StepQueue.{next_tick}
use Rattle.sky_model.specs.declared.reply.HeldBack.{HeldBack}
use Rattle.sky_model.specs.StepRotation.{held_back, rotates_alone, rotates_by_itself, second_steps, lack_second_step, ends_switches, maint_rotate_step2}
use Rattle.sky_model.specs.Reader.{DatabaseReader, database_by_history, within_part}
use Rattle.sky_model.specs.Settling.{Turn, behind_marks, marked, with_rest, and_then, ready}
use Rattle.sky_model.specs.Daemon.{quietly, ticks_of, daemon_does, moved_by, again_if, retries_of, first_steps_of, second_step_of_all}
use Rattle.sky_histories.proofs.StatementMarks.{EachMark, each-append, each-given, AnyReply, gives-tick, is_common, is_tick, is_second, each-front, each-second_steps}

module _ {P Q : Type 0} (r : DatabaseReader P) (s : DatabaseReader Q) (at : P → Q) (same : (p : P) → r.database p ≡ s.database (at p)) (behind : (p : P) (mark : Mark) → at (r.behind p mark) ≡ s.behind (at p) mark) where
  -- a place after marks is read as the other one after them
  at-behind : (now : ℤ) (p : P) (marks : List Mark) → at (behind_marks (within_part r now) p marks) ≡ behind_marks (within_part s now) (at p) marks
  at-behind now p [] = refl
  at-behind now p (mark ∷ marks) = at-behind now (r.behind p mark) marks ∙ ap (λ q. behind_marks (within_part s now) q marks) (behind p mark)

  same-ticks : (now : ℤ) (queues : List NamedQueue) (p : P) → ticks_of r now queues p ≡ ticks_of s now queues (at p)
  same-ticks now [] p = refl
  same-ticks now (q ∷ queues) p =
      let turn : Database → Turn = λ d. quietly (next_tick d now q.number) in
      ap (with_rest (turn (r.database p))) (same-ticks now queues (behind_marks (within_part r now) p (turn (r.database p)).marks) ∙ ap (ticks_of s now queues) (at-behind now p (turn (r.database p)).marks))
      ∙ ap (λ d. with_rest (turn d) (ticks_of s now queues (behind_marks (within_part s now) (at p) (turn d).marks))) (same p)

  same-again : (rest : P → Turn) (other : Q → Turn) → ((q : P) → rest q ≡ other (at q)) → (b : Bool) (q : P) → again_if b rest q ≡ again_if b other (at q)
  same-again rest other same true q = same q
  same-again rest other same false q = refl

  same-retries : (now : ℤ) (n : ℕ) (p : P) → retries_of r now n p ≡ retries_of s now n (at p)
  same-retries now zero p = refl
  same-retries now (suc n) p =
      let c : Database → Checked Outcome = λ d. maint_retry_events d now in
      let full : Database → Bool = λ d. nat_le most_back (moved_by (reply_of (c d))) in
      let marks : List Mark = (quietly (c (r.database p))).marks in
      ap (with_rest (quietly (c (r.database p)))) (same-again (retries_of r now n) (retries_of s now n) (same-retries now n) (full (r.database p)) (behind_marks (within_part r now) p marks) ∙ ap (again_if (full (r.database p)) (retries_of s now n)) (at-behind now p marks))
      ∙ ap (λ d. with_rest (quietly (c d)) (again_if (full d) (retries_of s now n) (behind_marks (within_part s now) (at p) (quietly (c d)).marks))) (same p)

  same-first_steps : (now : ℤ) (queues : List NamedQueue) (p : P) → first_steps_of r now queues p ≡ first_steps_of s now queues (at p)
  same-first_steps now [] p = refl
  same-first_steps now (q ∷ queues) p =
      let turn : Database → Turn = λ d. quietly (rotates_by_itself d now q.number) in
      ap (with_rest (turn (r.database p))) (same-first_steps now queues (behind_marks (within_part r now) p (turn (r.database p)).marks) ∙ ap (first_steps_of s now queues) (at-behind now p (turn (r.database p)).marks))
      ∙ ap (λ d. with_rest (turn d) (first_steps_of s now queues (behind_marks (within_part s now) (at p) (turn d).marks))) (same p)

  same-second_step : (p : P) → second_step_of_all r p ≡ second_step_of_all s (at p)
  same-second_step p = ap (λ d. quietly (maint_rotate_step2 d)) (same p)

  same-maintains : (now : ℤ) (queues : List NamedQueue) (p : P)
      → and_then (within_part r now) p (first_steps_of r now queues p) (second_step_of_all r) ≡ and_then (within_part s now) (at p) (first_steps_of s now queues (at p)) (second_step_of_all s)
  same-maintains now queues p =
      let first : Turn = first_steps_of r now queues p in
      ap (with_rest first) (same-second_step (behind_marks (within_part r now) p first.marks) ∙ ap (second_step_of_all s) (at-behind now p first.marks))
      ∙ ap (λ (t : Turn). with_rest t (second_step_of_all s (behind_marks (within_part s now) (at p) t.marks))) (same-first_steps now queues p)

  pub same-daemon_does : (p : P) (part : DaemonPart) (now : ℤ) → daemon_does r p part now ≡ daemon_does s (at p) part now
  same-daemon_does p Tick now = same-ticks now (r.database p).queues p ∙ ap (λ (d : Database). ticks_of s now d.queues (at p)) (same p)
  same-daemon_does p Retry now = same-retries now (length (r.database p).retries) p ∙ ap (λ (d : Database). retries_of s now (length d.retries) (at p)) (same p)
  same-daemon_does p Maintain now =
      same-maintains now (r.database p).queues p
      ∙ ap (λ (d : Database). and_then (within_part s now) (at p) (first_steps_of s now d.queues (at p)) (second_step_of_all s)) (same p)

tick-common : (mark : QueueMark) → is_tick mark ≡ true → is_common mark ≡ true
tick-common (ticked q id time seq) e = refl
tick-common _ e = absurd (cc)

second-common : (mark : QueueMark) → is_second mark ≡ true → is_common mark ≡ true
second-common (second_step q t) e = refl
second-common _ e = absurd (cc)

-- each mark of it is one of queues, or of a worker's transaction, which commits
module _ (p : Mark → Bool) (now : ℤ) (of_queues : (mark : QueueMark) → is_common mark ≡ true → p (queued mark) ≡ true) (returns : (retry : retry.Retry) → p (queued (returned retry now)) ≡ true)
    (begins : (t : ℕ) → p (began of_worker t) ≡ true) (ends : (t : ℕ) → p (ended of_worker t true) ≡ true) where
  each-ticks : {P : Type 0} (r : DatabaseReader P) (queues : List NamedQueue) (x : P) → EachMark p (ticks_of r now queues x).marks
  each-ticks r [] x = tt
  each-ticks r (q ∷ queues) x =
      let marks : List Mark = (quietly (next_tick (r.database x) now q.number)).marks in
      each-append p marks _ (each-given AnyReply p _ (gives-tick p (λ mark e. of_queues mark (tick-common mark e)) (r.database x) now q.number)) (each-ticks r queues (behind_marks (within_part r now) x marks))

  each-back : (t : ℕ) (rs : List retry.Retry) → EachMark p (back now t rs)
  each-back t [] = tt
  each-back t (r ∷ rs) =
      each-front p (queued (put r.queue (brought_by t r.event))) (queued (returned r now) ∷ back now t rs) (of_queues (put r.queue (brought_by t r.event)) refl)
      (each-front p (queued (returned r now)) (back now t rs) (returns r) (each-back t rs))

  pub each-brings : (d : Database) (rs : List retry.Retry) → EachMark p (marks_of (brings d now rs))
  each-brings d [] = tt
  each-brings d (r ∷ rs) = of (next_id d.part)
    where
      of : (c : Checked ℕ) → EachMark p (marks_of (c >>= (λ t. does_marks (Number (length (r ∷ rs))) (began of_worker t ∷ back now t (r ∷ rs) ++ ended of_worker t true ∷ []))))
      of (Ok t) =
          each-front p (began of_worker t) (back now t (r ∷ rs) ++ ended of_worker t true ∷ []) (begins t)
          (each-append p (back now t (r ∷ rs)) (ended of_worker t true ∷ []) (each-back t (r ∷ rs)) (each-front p (ended of_worker t true) [] (ends t) tt))
      of (Err refusal) = tt

  each-again : {P : Type 0} (rest : P → Turn) → ((x : P) → EachMark p (rest x).marks) → (b : Bool) (x : P) → EachMark p (again_if b rest x).marks
  each-again rest each true x = each x
  each-again rest each false x = tt

  each-retries : {P : Type 0} (r : DatabaseReader P) (n : ℕ) (x : P) → EachMark p (retries_of r now n x).marks
  each-retries r zero x = tt
  each-retries r (suc n) x =
      let c : Checked Outcome = maint_retry_events (r.database x) now in
      each-append p (marks_of c) _ (each-brings (r.database x) (due_now now most_back (r.database x).retries))
      (each-again (retries_of r now n) (each-retries r n) (nat_le most_back (moved_by (reply_of c))) (behind_marks (within_part r now) x (marks_of c)))

  each-rotates : (d : Database) (q : ℕ) (why : Option HeldBack) → EachMark p (marks_of (rotates_alone d now q why))
  each-rotates d q (Some why) = tt
  each-rotates d q None = of (next_id d.part)
    where
      of : (c : Checked ℕ)
          → EachMark p (marks_of (c >>= (λ t. does_marks (Number 1) (began of_worker t ∷ queued (switching q t) ∷ queued (switched q now) ∷ ended of_worker t true ∷ []))))
      of (Ok t) =
          each-front p (began of_worker t) (queued (switching q t) ∷ queued (switched q now) ∷ ended of_worker t true ∷ []) (begins t)
          (each-front p (queued (switching q t)) (queued (switched q now) ∷ ended of_worker t true ∷ []) (of_queues (switching q t) refl)
          (each-front p (queued (switched q now)) (ended of_worker t true ∷ []) (of_queues (switched q now) refl) (each-front p (ended of_worker t true) [] (ends t) tt)))
      of (Err refusal) = tt

  each-first_steps : {P : Type 0} (r : DatabaseReader P) (queues : List NamedQueue) (x : P) → EachMark p (first_steps_of r now queues x).marks
  each-first_steps r [] x = tt
  each-first_steps r (q ∷ queues) x =
      let marks : List Mark = (quietly (rotates_by_itself (r.database x) now q.number)).marks in
      each-append p marks _ (each-rotates (r.database x) q.number (held_back now ((r.database x).queue q.number))) (each-first_steps r queues (behind_marks (within_part r now) x marks))

  pub each-ends_switches : (d : Database) (queues : List NamedQueue) → EachMark p (marks_of (ends_switches d queues))
  each-ends_switches d [] = tt
  each-ends_switches d (q ∷ queues) = of (next_id d.part)
    where
      of : (c : Checked ℕ) → EachMark p (marks_of (c >>= (λ t. does_marks (Number (length (q ∷ queues))) (began of_worker t ∷ second_steps t (q ∷ queues) ++ ended of_worker t true ∷ []))))
      of (Ok t) =
          each-front p (began of_worker t) (second_steps t (q ∷ queues) ++ ended of_worker t true ∷ []) (begins t)
          (each-append p (second_steps t (q ∷ queues)) (ended of_worker t true ∷ []) (each-second_steps p (λ mark e. of_queues mark (second-common mark e)) t (q ∷ queues)) (each-front p (ended of_worker t true) [] (ends t) tt))
      of (Err refusal) = tt

  pub each-daemon_does : {P : Type 0} (r : DatabaseReader P) (x : P) (part : DaemonPart) → EachMark p (daemon_does r x part now).marks
  each-daemon_does r x Tick = each-ticks r (r.database x).queues x
  each-daemon_does r x Retry = each-retries r (length (r.database x).retries) x
  each-daemon_does r x Maintain =
      let first : List Mark = (first_steps_of r now (r.database x).queues x).marks in
      let d : Database = r.database (behind_marks (within_part r now) x first) in
      each-append p first _ (each-first_steps r (r.database x).queues x) (each-ends_switches d (lack_second_step d))

abbrev is_without_session : Mark → Bool
is_without_session (queued mark) = true
is_without_session (began of_worker t) = true
is_without_session (ended of_worker t true) = true
is_without_session _ = false

ready-still : (h : History) (marks : List Mark) → EachMark is_without_session marks → ready (part_of (marked h marks)) ≡ ready (part_of h)
ready-still h [] all = refl
ready-still h (queued mark ∷ marks) all = ready-still (queued mark ∷ h) marks all
ready-still h (began of_worker t ∷ marks) all = ready-still (began of_worker t ∷ h) marks all
ready-still h (ended of_worker t true ∷ marks) all = ready-still (ended of_worker t true ∷ h) marks all
ready-still h (_ ∷ marks) all = absurd all

-- so a statement that waits isn't ready by it
pub daemon-ready : (h : History) (part : DaemonPart) (now : ℤ) → ready (part_of (marked h (daemon_does database_by_history h part now).marks)) ≡ ready (part_of h)
daemon-ready h part now =
    ready-still h (daemon_does database_by_history h part now).marks (each-daemon_does is_without_session now (λ mark _. refl) (λ r. refl) (λ t. refl) (λ t. refl) database_by_history h part)
