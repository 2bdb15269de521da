-- What is shown once a retry is asked for.
use Rattle.std.proofs.Common.{◌≡◌, List, [], ◌∷◌, ◌++◌, Bool, true, false, not, Result, Ok, Err, IfOk, OnErr, ◌∙◌, ap, if◌then◌else◌}
use Rattle.pgq_retry.specs.declared.retry.Retry.{Retry}
use Rattle.pgq_retry.specs.Retries.{is_asked}
use Rattle.sky_model.specs.History.{queued, asked}
use Rattle.sky_model.specs.State.{after_mark}
use Rattle.pgq_queues.specs.Views.{QueuesView}
use Rattle.pgq_queues.specs.Seen.{seen_with, Beside}
use Rattle.pgq_queues.proofs.Marked.{on-err-then, if-ok-then}

module _ {E : Type 0} (o : Result Bool E) (v now : QueuesView) (r : Retry) (same : v ≡ now) where
  -- whether it is new
  pub asked-fresh : IfOk o (λ fresh. fresh ≡ not (is_asked r.sub r.event.ev_id v.retries)) → IfOk o (λ fresh. fresh ≡ not (is_asked r.sub r.event.ev_id now.retries))
  asked-fresh is = if-ok-then o _ _ (λ fresh one. one ∙ ap (λ (w : QueuesView). not (is_asked r.sub r.event.ev_id w.retries)) same) is

  -- it waits if it is
  pub asked-as : (retries : List Retry) → IfOk o (λ fresh. retries ≡ (if fresh then v.retries ++ r ∷ [] else v.retries))
      → IfOk o (λ fresh. (beside : Beside) → seen_with beside (record v { retries = retries }) ≡ (if fresh then after_mark (seen_with beside now) (queued (asked r)) else seen_with beside now))
  asked-as retries is = by o is
    where
      either : (fresh : Bool) (beside : Beside) → seen_with beside (record v { retries = if fresh then v.retries ++ r ∷ [] else v.retries })
          ≡ (if fresh then after_mark (seen_with beside now) (queued (asked r)) else seen_with beside now)
      either true beside = ap (λ (w : QueuesView). after_mark (seen_with beside w) (queued (asked r))) same
      either false beside = ap (seen_with beside) same

      by : (p : Result Bool E) → IfOk p (λ fresh. retries ≡ (if fresh then v.retries ++ r ∷ [] else v.retries))
          → IfOk p (λ fresh. (beside : Beside) → seen_with beside (record v { retries = retries }) ≡ (if fresh then after_mark (seen_with beside now) (queued (asked r)) else seen_with beside now))
      by (Err e) one = tt
      by (Ok fresh) one = λ beside. ap (λ (rs : List Retry). seen_with beside (record v { retries = rs })) one ∙ either fresh beside

  -- nothing has changed if memory has run out
  pub asked-none : (retries : List Retry) → OnErr o (retries ≡ v.retries) → OnErr o ((beside : Beside) → seen_with beside (record v { retries = retries }) ≡ seen_with beside now)
  asked-none retries is = on-err-then o _ _ (λ one beside. ap (λ (rs : List Retry). seen_with beside (record v { retries = rs })) one ∙ ap (seen_with beside) same) is
