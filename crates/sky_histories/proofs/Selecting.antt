-- The events of a batch are those that its two ticks' snapshots select.
use Rattle.std.proofs.Common.{◌≡◌, ℕ, ◌+◌, ◌<◌, ◌≤◌, All, List, [], ◌∷◌, ◌++◌, Bool, true, false, not, ◌&&◌, ◌==◌, filter, sym, ◌∙◌, ap, arith, subst, if◌then◌else◌}
use Rattle.std.proofs.lemmas.Bool.{or_right}
use Rattle.std.proofs.lemmas.Bool.Decides.{nat_tests}
use Rattle.std.proofs.lemmas.List.Elements.{All-nil, All-push, All-weaker}
use Rattle.sky_val.specs.declared.event.Event.{Event}
use Rattle.sky_txid.specs.Snapshot.{sees}
use Rattle.sky_model.specs.History.{Batch, ended, queued, made, ticked, History}
use Rattle.sky_model.specs.Transactions.{has_ended, has_committed, has_rolled_back}
use Rattle.sky_model.specs.Queues.{queues, sequence, events, ticks, tick, at_tick}
use Rattle.sky_model.specs.Batches.{batch_events}
use Rattle.pgq_tables.specs.Listed.{is_for}
use Rattle.pgq_tables.specs.ById.{by_id}
use Rattle.sky_model.specs.Retries.{brought_by}
use Rattle.sky_model.specs.Selection.{snapshot_at, selected_of}
use Rattle.sky_histories.proofs.Legal.{IsQueue, makes, raises, puts, puts_back, drops, Legal, start, next}
use Rattle.sky_histories.proofs.QueueNumbers.{others-among, others-apart}
use Rattle.sky_histories.proofs.StandingQueues.{beyond, stands-or-new}
use Rattle.sky_histories.proofs.Snapshots.{sees-snapshot, ender-unended, has_committed-ended}
use Rattle.sky_histories.proofs.Ticks.{snapshot-at_tick, legal-at_tick}
use Rattle.sky_model.proofs.Cases.{by_same}

-- what had ended at a tick has ended
ended-at_tick : (h : History) (q id t : ℕ) → has_ended (at_tick q id h) t ≡ true → has_ended h t ≡ true
ended-at_tick [] q id t e = e
ended-at_tick (ended who u committed ∷ h) q id t e = or_right (t == u) (has_ended h t) (ended-at_tick h q id t e)
ended-at_tick (queued (made name u time) ∷ h) q id t e = grind (arith, ended-at_tick h q id t)
ended-at_tick (queued (ticked p m time seq) ∷ h) q id t e = grind (arith, ended-at_tick h q id t)
ended-at_tick (_ ∷ h) q id t e = ended-at_tick h q id t e

-- what had committed at a tick is what had ended there and hasn't rolled back
committed-at_tick : (h : History) → Legal h → (q id t : ℕ) → has_committed (at_tick q id h) t ≡ (has_ended (at_tick q id h) t && not (has_rolled_back h t))
committed-at_tick [] start q id t = has_committed-ended [] start t
committed-at_tick (ended whose u false ∷ h) (next l fine) q id t = grind (arith, nat_tests, committed-at_tick h l q id t, ended-at_tick h q id t, ender-unended h l whose u false fine)
committed-at_tick (queued (made name u time) ∷ h) (next l fine) q id t = grind (arith, committed-at_tick h l q id t, has_committed-ended h l t)
committed-at_tick (queued (ticked p m time seq) ∷ h) (next l fine) q id t = grind (arith, committed-at_tick h l q id t, has_committed-ended h l t)
committed-at_tick (_ ∷ h) (next l fine) q id t = committed-at_tick h l q id t

-- what had committed at a tick is what the tick's snapshot sees and hasn't rolled back
pub committed_at_tick : (h : History) → Legal h → (q id t : ℕ) → has_committed (at_tick q id h) t ≡ (sees (snapshot_at (tick id (ticks q h))) t && not (has_rolled_back h t))
committed_at_tick h l q id t =
    committed-at_tick h l q id t
    ∙ ap (λ b. b && not (has_rolled_back h t)) (sym (sees-snapshot (at_tick q id h) (legal-at_tick h l q id) t)
    ∙ ap (λ s. sees s t) (snapshot-at_tick h l q id))

-- events have ids up to a number
abbrev UpTo : ℕ → List Event → Type 0
UpTo n es = All (λ e. e.ev_id ≤ n) es

-- the events of a queue that stands have ids up to the value of its sequence
numbered : (h : History) → Legal h → (q : ℕ) → IsQueue h q → UpTo (sequence q h) (events q h)
numbered [] start q is = All-nil (λ e. e.ev_id ≤ 0)
numbered _ (next {h = h} l (makes name t time new)) q is =
    stands-or-new (UpTo (sequence q h) (events q h)) h name t time q is (numbered h l q)
    (λ last. subst (UpTo (sequence q h)) (sym (beyond h l q (omega (arith, last))).events) (All-nil (λ e. e.ev_id ≤ sequence q h)))
numbered _ (next {h = h} l (raises p v i le)) q is =
    by_same (λ b. UpTo (if b then v else sequence q h) (events q h)) p q
    (λ same. let more : sequence q h ≤ v = subst (λ x. sequence x h ≤ v) same le in All-weaker (λ e. e.ev_id ≤ sequence q h) (λ e. e.ev_id ≤ v) (λ e up. omega arith) (events q h) (numbered h l q is))
    (λ _. numbered h l q is)
numbered _ (next {h = h} l (puts who p event i at o newest)) q is =
    by_same (λ b. UpTo (sequence q h) (if b then events q h ++ event ∷ [] else events q h)) p q
    (λ same. let id : event.ev_id ≡ sequence q h = at ∙ ap (λ x. sequence x h) same in All-push (λ e. e.ev_id ≤ sequence q h) (events q h) event (numbered h l q is) (omega arith))
    (λ _. numbered h l q is)
numbered _ (next {h = h} l (puts_back retry t back)) q is =
    by_same (λ b. UpTo (sequence q h) (if b then events q h ++ brought_by t retry.event ∷ [] else events q h)) retry.queue q
    (λ same. All-push (λ e. e.ev_id ≤ sequence q h) (events q h) (brought_by t retry.event) (numbered h l q is) (subst (λ x. retry.event.ev_id ≤ sequence x h) same back.given))
    (λ _. numbered h l q is)
numbered _ (next {h = h} l (drops p none untold idle aside)) q is =
    subst (λ b. UpTo (if b then 0 else sequence q h) (events q h)) (sym (others-apart p (queues h) q is)) (numbered h l q (others-among p (queues h) q is))
numbered _ (next {h = h} l _) q is = numbered h l q is

-- so each has an id below the next one
pub events_below-next : (h : History) → Legal h → (q : ℕ) → IsQueue h q → All (λ e. e.ev_id < sequence q h + 1) (events q h)
events_below-next h l q is = All-weaker (λ e. e.ev_id ≤ sequence q h) (λ e. e.ev_id < sequence q h + 1) (λ e up. omega arith) (events q h) (numbered h l q is)

-- of what was seen at a tick and hasn't rolled back
between : (to from undone own : Bool) → ((to && not undone) && not (from && not undone) && own) ≡ (to && not from && not undone && own)
between to from undone own = grind arith

-- the events of a batch, by places, are those that the snapshots of its ticks select
pub batch_events-by_id : (h : History) → Legal h → (b : Batch) → batch_events h b ≡ by_id (selected_of (has_rolled_back h) (ticks b.queue h) (events b.queue h) b)
batch_events-by_id h l b =
    ap (λ p. by_id (filter p (events b.queue h))) ((λ i e.
    committed_at_tick h l b.queue b.cur e.ev_txid i
    && not (committed_at_tick h l b.queue b.prev e.ev_txid i)
    && is_for b.sub e.ev_owner)
    ∙ (λ i e. between (sees (snapshot_at (tick b.cur (ticks b.queue h))) e.ev_txid) (sees (snapshot_at (tick b.prev (ticks b.queue h))) e.ev_txid)
    (has_rolled_back h e.ev_txid) (is_for b.sub e.ev_owner) i))
