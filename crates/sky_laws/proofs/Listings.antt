-- What a batch lists doesn't change once its closing tick is made: an event that is put later is of a running transaction, so it hadn't committed at
-- that tick, and a tick that is made stays.
use Rattle.std.proofs.Common.{◌≡◌, ℕ, ◌+◌, ◌<◌, ◌≤◌, List, [], ◌∷◌, ◌++◌, Bool, true, false, not, ◌&&◌, ◌==◌, filter, refl, sym, ◌∙◌, ap, subst, arith, append-nil, if◌then◌else◌}
use Rattle.std.proofs.lemmas.Bool.{or_right, false_from_ne_true, eqb-true, cond_both}
use Rattle.std.proofs.lemmas.List.Elements.{filter-append}
use Rattle.sky_val.specs.declared.event.Event.{Event}
use Rattle.sky_model.specs.History as of_queue
use Rattle.sky_model.specs.History.{Batch, Mark, queued, put, ticked, History}
use Rattle.sky_model.specs.Transactions.{has_ended, has_committed, has_rolled_back}
use Rattle.sky_model.specs.Queues.{queues_made, events, ticks, newest_tick, at_tick}
use Rattle.sky_model.specs.Batches.{batch_events}
use Rattle.pgq_tables.specs.Listed.{is_for}
use Rattle.pgq_tables.specs.ById.{by_id}
use Rattle.sky_model.specs.Retries.{brought_by}
use Rattle.sky_model.specs.Queues.{id_of}
use Rattle.sky_model.specs.LawsOfBatches.{stands_in, ListingsStay}
use Rattle.sky_histories.proofs.Legal.{Fine, makes, puts, puts_back, ticks_next, Legal, legal-below_mark, fine_mark}
use Rattle.sky_histories.proofs.Snapshots.{sound, runs-unended, own-unended, has_committed-ended}
use Rattle.sky_histories.proofs.SnapshotLaws.{legal-below, legal_place}
use Rattle.sky_histories.proofs.TickOrder.{is_made, unmade_above, committed_since, unmade_beyond}
use Rattle.sky_histories.proofs.ActiveBatches.{IsActive, active_batches}
use Rattle.sky_model.proofs.Cases.{by_same}

-- a tick that is made stays
pub made_since : (q id : ℕ) (later : List Mark) (p : History) → is_made q id p ≡ true → is_made q id (later ++ p) ≡ true
made_since q id [] p made = made
made_since q id (queued (of_queue.made name t time) ∷ later) p made = or_right (queues_made (later ++ p) == q && 1 == id) (is_made q id (later ++ p)) (made_since q id later p made)
made_since q id (queued (ticked r m time seq) ∷ later) p made = or_right (r == q && m == id) (is_made q id (later ++ p)) (made_since q id later p made)
made_since q id (_ ∷ later) p made = made_since q id later p made

-- a transaction that hasn't ended hadn't committed at a tick
pub unended-uncommitted : (h : History) → Legal h → (t : ℕ) → has_ended h t ≡ false → (q id : ℕ) → has_committed (at_tick q id h) t ≡ false
unended-uncommitted h l t unended q id = false_from_ne_true (has_committed (at_tick q id h) t) (λ was.
    cc (sym (committed_since h q id t was) ∙ has_committed-ended h l t ∙ ap (λ e. e && not (has_rolled_back h t)) unended))

-- an event of one changes no listing of a batch whose closing tick is made
same_put : (h : History) → Legal h → (q : ℕ) (e : Event) → has_ended h e.ev_txid ≡ false → (b : Batch) → batch_events (queued (put q e) ∷ h) b ≡ batch_events h b
same_put h l q e unended b =
    cond_both (q == b.queue) (events b.queue h ++ e ∷ []) (events b.queue h) (λ es. by_id (filter (stands_in h b) es) ≡ batch_events h b)
    (λ _. ap by_id (filter-append (stands_in h b) (events b.queue h) (e ∷ [])
    ∙ ap (λ c. filter (stands_in h b) (events b.queue h) ++ (if c then e ∷ [] else [])) out
    ∙ append-nil (filter (stands_in h b) (events b.queue h)))) (λ _. refl)
  where
    out : stands_in h b e ≡ false
    out = ap (λ c. c && not (has_committed (at_tick b.queue b.prev h) e.ev_txid) && is_for b.sub e.ev_owner)
        (unended-uncommitted h l e.ev_txid unended b.queue b.cur)

-- a new tick has another id than the ticks up to one that is made
pub new_tick : (h : History) → Legal h → (q made id new : ℕ) → is_made q made h ≡ true → id ≤ made → id_of (newest_tick (ticks q h)) < new → (new == id) ≡ false
new_tick h l q made id new there le above = false_from_ne_true (new == id) (λ test.
    let same : new ≡ id = eqb-true new id test in cc (sym there ∙ unmade_above h l q made (omega arith)))

-- with one more mark a batch whose closing tick is made lists the same
same_listing : (h : History) (mark : Mark) → Legal h → Fine h mark → (b : Batch) → b.prev ≤ b.cur → is_made b.queue b.cur h ≡ true
    → batch_events (mark ∷ h) b ≡ batch_events h b
same_listing h _ l (puts who q e i s mine newest) b le made = same_put h l q e (own-unended h l who e.ev_txid mine) b
same_listing h _ l (puts_back retry t back) b le made =
    same_put h l retry.queue (brought_by t retry.event) (runs-unended h (sound h l) t ((sound h l).works t back.works)) b
same_listing h _ l (ticks_next q m time seq i above c) b le made = by_same (λ x. lists (x && m == b.cur) (x && m == b.prev) ≡ lists false false) q b.queue there (λ _. refl)
  where
    lists : (to from : Bool) → List Event
    lists to from =
        by_id (filter (λ e. has_committed (if to then h else at_tick b.queue b.cur h) e.ev_txid
        && not (has_committed (if from then h else at_tick b.queue b.prev h) e.ev_txid)
        && is_for b.sub e.ev_owner)
        (events b.queue h))

    there : q ≡ b.queue → lists (m == b.cur) (m == b.prev) ≡ lists false false
    there same =
        let newer : id_of (newest_tick (ticks b.queue h)) < m = subst (λ n. id_of (newest_tick (ticks n h)) < m) same above in
        λ i. lists (new_tick h l b.queue b.cur b.cur m made (omega arith) newer i) (new_tick h l b.queue b.cur b.prev m made le newer i)
same_listing h _ l (makes name t time new) b le made =
    by_same (λ x. by_id (filter (λ e. has_committed (if x && 1 == b.cur then h else at_tick b.queue b.cur h) e.ev_txid
    && not (has_committed (if x && 1 == b.prev then h else at_tick b.queue b.prev h) e.ev_txid) && is_for b.sub e.ev_owner) (events b.queue h)) ≡ batch_events h b) (queues_made h) b.queue
    (λ same. absurd (cc (sym made ∙ unmade_beyond h l b.queue b.cur (omega (arith, same))))) (λ _. refl)
same_listing h _ l _ b le made = refl

same_listings : (later : List Mark) (p : History) → Legal (later ++ p) → (b : Batch) → b.prev ≤ b.cur → is_made b.queue b.cur p ≡ true
    → batch_events (later ++ p) b ≡ batch_events p b
same_listings [] p l b le made = refl
same_listings (mark ∷ later) p l b le made =
    same_listing (later ++ p) mark (legal-below_mark l) (fine_mark l) b le (made_since b.queue b.cur later p made)
    ∙ same_listings later p (legal-below_mark l) b le made

pub listings_stay : ListingsStay
listings_stay later p is id b active =
    let l : Legal (later ++ p) = legal_place (later ++ p) is in
    let a : IsActive p id b = active_batches p (legal-below later p l) id b active in
    let ends : b.cur ≡ b.prev + 1 = a.ends in
    same_listings later p l b (omega arith) a.closing
