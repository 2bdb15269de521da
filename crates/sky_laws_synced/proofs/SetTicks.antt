-- The ticks of a set's queue: the newest one, and the one that a copy has caught up to.
use Rattle.std.proofs.Common.{◌≡◌, ℕ, zero, suc, ◌+◌, ◌<◌, ◌≤◌, nat_lt, length, Bool, true, false, not, ◌||◌, ◌==◌, List, [], ◌∷◌, Option, Some, None, is_some, option_map, unwrap_or, refl, sym, ◌∙◌, ap, arith, if◌then◌else◌, subst}
use Rattle.std.specs.Option.{option_and_then}
use Rattle.std.specs.List.{list_all, range_with_len}
use Rattle.std.proofs.lemmas.Bool.{and_parts}
use Rattle.std.proofs.lemmas.Bool.Decides.{nat_tests}
use Rattle.sky_txid.specs.Snapshot.{sees}
use Rattle.londiste_state.specs.Nodes.{Node, of_root, of_leaf, LeafTable}
use Rattle.sky_model.specs.History.{History}
use Rattle.sky_model.specs.Transactions.{snapshot, next_txid}
use Rattle.sky_model.specs.Queues.{queues, Tick, ticks, tick, newest_tick, id_of, kept_ticks, at_tick}
use Rattle.sky_model.specs.Nodes.{node}
use Rattle.sky_model.specs.Selection.{snapshot_at}
use Rattle.sky_model.specs.State.{database_of, queue_of}
use Rattle.sky_model.specs.StepQueue.{newest_id}
use Rattle.sky_model.specs.StepNode.{set_queue}
use Rattle.sky_model.specs.CopyMoves.{newest_of, covers, has_caught_up}
use Rattle.sky_histories.proofs.Legal.{Legal, IsQueue, queue_of_set}
use Rattle.sky_histories.proofs.Snapshots.{sound, sees-snapshot}
use Rattle.sky_histories.proofs.Ticks.{snapshot-at_tick}
use Rattle.sky_histories.proofs.TickOrder.{is_made, is_made-tick}
use Rattle.sky_histories.proofs.KeptTicks.{cuts, above-is, newest-kept, kept-made, cut}
use Rattle.sky_histories.proofs.QueueNumbers.{among-number}
use Rattle.sky_histories.proofs.NodeReadings.{set-number}
use Rattle.sky_histories.proofs.RowSights.{Since, here, later, legal-since}
use Rattle.sky_model.proofs.Cases.{by_test, by_same}
use Rattle.sky_laws.proofs.Listings.{made_since}
use Rattle.sky_histories.proofs.Good.{same-session}
use Rattle.sky_laws_changes.specs.Listing.{later_of}
use Rattle.sky_laws_changes.proofs.Places.{length-since}
use Rattle.sky_laws_changes.proofs.TickPlaces.{tick-since}
use Rattle.sky_laws_synced.proofs.Covering.{tick-stays, EndedBy}

-- the queue of a set stands
pub set-stands : (h : History) (q : ℕ) → queue_of_set (queues h) (node h) ≡ Some q → IsQueue h q
set-stands h q is = of (node h) is
  where
    of : (n : Option Node) → queue_of_set (queues h) n ≡ Some q → IsQueue h q
    of None e = absurd (cc e)
    of (Some (of_leaf l)) e = absurd (cc e)
    of (Some (of_root r)) e = among-number r.queue (queues h) q e

-- ---- the newest tick

-- it is made
newest-there : (ts : List Tick) → is_some (newest_tick ts) ≡ true → is_some (tick (id_of (newest_tick ts)) ts) ≡ true
newest-there [] e = absurd (cc e)
newest-there (t ∷ []) e = ap (λ b. is_some (if b then Some t else None)) (same-session t.id)
newest-there (t ∷ u ∷ ts) e =
    by_test (λ b. is_some (if b then Some t else tick (id_of (newest_tick (u ∷ ts))) (u ∷ ts)) ≡ true) (t.id == id_of (newest_tick (u ∷ ts))) (λ _. refl) (λ _. newest-there (u ∷ ts) e)

pub queues-newest : (h : History) → Legal h → (q : ℕ) → IsQueue h q → is_made q (newest_id (queue_of h q)) h ≡ true
queues-newest h l q is =
    ap (λ o. is_made q (id_of o) h) (newest-kept h l q is) ∙ sym (is_made-tick h q (id_of (newest_tick (ticks q h))))
    ∙ newest-there (ticks q h) (above-is (cut q h) (newest_tick (ticks q h)) (cuts h l q is).fresh)

pub newest-made : (k : History) → Legal k → (q id : ℕ) → set_queue (database_of k) ≡ Some q → newest_of (database_of k) ≡ id → is_made q id k ≡ true
newest-made k l q id set newest =
    subst (λ n. is_made q n k ≡ true) (sym (ap (λ o. unwrap_or (option_map (λ queue. newest_id ((database_of k).queue queue)) o) 0) set) ∙ newest) (queues-newest k l q (set-stands k q (sym (set-number (database_of k)) ∙ set)))

-- ---- the place of a tick that was made at an earlier place

pub made-above : {s k : History} → Since s k → (q id : ℕ) → is_made q id s ≡ true → is_made q id k ≡ true
made-above here q id made = made
made-above (later {h = h} {mark = mark} s) q id made = made_since q id (mark ∷ []) h (made-above s q id made)

pub tick-above : {s k : History} → Since s k → Legal k → (q id : ℕ) → is_made q id s ≡ true → at_tick q id k ≡ at_tick q id s
tick-above here l q id made = refl
tick-above (later s) l q id made = tick-stays l q id (made-above s q id made) ∙ tick-above s (legal-since (later here) l) q id made

-- so it isn't the later one of the two
pub not-later : {s k : History} → Since s k → Legal k → (q id : ℕ) → is_made q id s ≡ true → later_of s (at_tick q id k) ≡ s
not-later {s = s} {k = k} s_k l q id made =
    ap (later_of s) (tick-above s_k l q id made)
    ∙ ap (λ b. if b then at_tick q id s else s) (let le : length (at_tick q id s) ≤ length s = length-since (tick-since q id s) in not-less (length s) (length (at_tick q id s)) le)
  where
    not-less : (m n : ℕ) → n ≤ m → nat_lt m n ≡ false
    not-less m n le = grind (arith, nat_tests, le)

-- ---- what has been caught up to

-- each of the ids below a bound passes a test
all-below : (p : ℕ → Bool) (from many : ℕ) → list_all p (range_with_len from many) ≡ true → (t : ℕ) → from ≤ t → t < from + many → p t ≡ true
all-below p from zero all t le less = absurd (omega (arith, le, less))
all-below p from (suc many) all t le less =
    let both = and_parts (p from) (list_all p (range_with_len (from + 1) many)) all in
    by_same (λ b. p t ≡ true) from t (λ same. ap p (sym same) ∙ both.0) (λ other. all-below p (from + 1) many both.1 t (grind (arith, nat_tests, le, other)) (omega (arith, less)))

-- the snapshot of a place sees none from its bound on
pub covered-at : (a s : History) → Legal a → Legal s → covers (snapshot a) (snapshot s) ≡ true → EndedBy s a
covered-at a s l_a l_s is t over =
    sym (sees-snapshot a l_a t) ∙ of (sees (snapshot s) t) (sees-snapshot s l_s t ∙ over)
    (all-below (λ u. not (sees (snapshot s) u) || sees (snapshot a) u) 0 (next_txid s) is t (omega arith) (omega (arith, below)))
  where
    below : t < next_txid s
    below = (sound s l_s).ended_below t over

    of : (b : Bool) → b ≡ true → (not b || sees (snapshot a) t) ≡ true → sees (snapshot a) t ≡ true
    of true e seen = seen
    of false e seen = absurd (cc e)

-- a table whose copy has caught up
pub caught-up : (k held : History) → Legal k → Since held k → (t : LeafTable) → t.snapshot ≡ Some (snapshot held) → (q : ℕ) → set_queue (database_of k) ≡ Some q → has_caught_up (database_of k) t ≡ true
    → EndedBy held (at_tick q t.tick k)
caught-up k held l held_k t under q set is =
    of (tick t.tick (kept_ticks q k)) refl
    (sym (ap (λ o. unwrap_or (option_map (λ at. unwrap_or (option_map (covers at) t.snapshot) false) (option_and_then (λ queue. option_map Tick.snapshot (tick t.tick (kept_ticks queue k))) o)) false) set) ∙ is)
  where
    of : (o : Option Tick) → tick t.tick (kept_ticks q k) ≡ o → unwrap_or (option_map (λ at. unwrap_or (option_map (covers at) t.snapshot) false) (option_map Tick.snapshot o)) false ≡ true → EndedBy held (at_tick q t.tick k)
    of None at e = absurd (cc e)
    of (Some x) at e =
        covered-at (at_tick q t.tick k) held (legal-since (tick-since q t.tick k) l) (legal-since held_k l)
        (ap (λ s. covers s (snapshot held)) (snapshot-at_tick k l q t.tick ∙ ap snapshot_at (kept-made k l q (set-stands k q (sym (set-number (database_of k)) ∙ set)) t.tick x at)) ∙ sym (ap (λ o. unwrap_or (option_map (covers x.snapshot) o) false) under) ∙ e)
