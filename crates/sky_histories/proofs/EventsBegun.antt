-- The transaction of each event has its id.
use Rattle.std.proofs.Common.{ℕ, ◌<◌, [], ◌∷◌, ◌++◌, ◌==◌, arith, if◌then◌else◌, All}
use Rattle.std.proofs.lemmas.List.Elements.{All-nil, All-push, All-weaker}
use Rattle.sky_val.specs.declared.event.Event.{Event}
use Rattle.sky_model.specs.History.{began, History}
use Rattle.sky_model.specs.Transactions.{next_txid}
use Rattle.sky_model.specs.Queues.{events}
use Rattle.sky_model.specs.Retries.{brought_by}
use Rattle.sky_histories.proofs.Legal.{puts, puts_back, Legal, start, next}
use Rattle.sky_histories.proofs.Snapshots.{sound, runs-below}
use Rattle.sky_model.proofs.Cases.{by_test}

-- the transaction of an event has its id
abbrev pub Begun : History → Event → Type 0
Begun h e = e.ev_txid < next_txid h

pub events-begun : (h : History) → Legal h → (q : ℕ) → All (Begun h) (events q h)
events-begun [] start q = All-nil (Begun [])
events-begun (began whose t ∷ h) (next l fine) q = All-weaker (Begun h) (Begun (began whose t ∷ h)) (λ e lt. omega arith) (events q h) (events-begun h l q)
events-begun _ (next {h = h} l (puts who p event i at mine newest)) q =
    by_test (λ b. All (Begun h) (if b then events q h ++ event ∷ [] else events q h)) (p == q)
    (λ _. All-push (Begun h) (events q h) event (events-begun h l q) (runs-below h (sound h l) event.ev_txid ((sound h l).owns who event.ev_txid mine))) (λ _. events-begun h l q)
events-begun _ (next {h = h} l (puts_back retry t back)) q =
    by_test (λ b. All (Begun h) (if b then events q h ++ brought_by t retry.event ∷ [] else events q h)) (retry.queue == q)
    (λ _. All-push (Begun h) (events q h) (brought_by t retry.event) (events-begun h l q) (runs-below h (sound h l) t ((sound h l).works t back.works))) (λ _. events-begun h l q)
events-begun _ (next {h = h} l _) q = events-begun h l q
