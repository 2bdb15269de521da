-- A batch gives the rows of a table at its closing tick.
use Rattle.std.proofs.Common.{◌≡◌, inl, inr, ℕ, ◌<◌, ◌≤◌, nat_lt, length, Bool, true, false, not, ◌&&◌, List, [], ◌∷◌, Option, Some, None, is_none, filter, refl, sym, ◌∙◌, ap, subst, arith, if◌then◌else◌}
use Rattle.std.proofs.lemmas.Bool.{and_parts}
use Rattle.std.proofs.lemmas.Bool.Decides.{nat_tests}
use Rattle.sky_val.specs.declared.event.Event.{Event}
use Rattle.sky_txid.specs.Snapshot.{sees}
use Rattle.pgq_tables.specs.Listed.{is_for}
use Rattle.sky_model.specs.History.{Batch, History}
use Rattle.sky_model.specs.Transactions.{has_ended, has_committed, snapshot}
use Rattle.sky_model.specs.Queues.{events, at_tick}
use Rattle.sky_model.specs.Rows.{columns_of, rows}
use Rattle.sky_model.specs.Batches.{batch_events}
use Rattle.sky_histories.proofs.Legal.{Legal}
use Rattle.sky_histories.proofs.Snapshots.{sees-snapshot}
use Rattle.sky_histories.proofs.SnapshotLaws.{legal_place}
use Rattle.sky_histories.proofs.RowSights.{Since, here, legal-since}
use Rattle.sky_model.proofs.Cases.{by_test}
use Rattle.sky_laws_changes.specs.TableEvents.{changes_table, table_events, unseen_events}
use Rattle.sky_laws_changes.specs.Listing.{later_of}
use Rattle.sky_laws_changes.specs.LawsOfChanges.{Give, between, BatchesGiveRows, UnseenEventsGiveRows, UnseenEventsLeadOn}
use Rattle.sky_laws_changes.proofs.Places.{since-joined, either-since, length-since, same-length, from-below, to-below, committed-since, committed-ended, committed-then}
use Rattle.sky_laws_changes.proofs.ToldEvents.{is_event}
use Rattle.sky_laws_changes.proofs.Replays.{events_give_rows}
use Rattle.sky_laws_changes.proofs.TickPlaces.{tick-since, ticks_are_in_order, by-id-of}

-- an event of a table is for each subscription
for-each : (name : List ℕ) (sub : ℕ) (e : Event) → is_event name e ≡ true → is_for sub e.ev_owner ≡ true
for-each name sub e is = of e.ev_owner (and_parts (is_none e.ev_owner) (changes_table name e) is).0
  where
    of : (o : Option ℕ) → is_none o ≡ true → is_for sub o ≡ true
    of None none = refl
    of (Some owner) none = absurd (cc)

-- the table's events of a batch are those between the places of its ticks
batch-between : (h : History) → Legal h → (b : Batch) (name : List ℕ)
    → table_events name (batch_events h b) ≡ between (at_tick b.queue b.prev h) (at_tick b.queue b.cur h) (table_events name (events b.queue h))
batch-between h l b name =
    by-id-of name b.queue h l
    (λ e. has_committed (at_tick b.queue b.cur h) e.ev_txid && not (has_committed (at_tick b.queue b.prev h) e.ev_txid) && is_for b.sub e.ev_owner)
    (λ e. has_committed (at_tick b.queue b.cur h) e.ev_txid && not (has_committed (at_tick b.queue b.prev h) e.ev_txid))
    (λ e is. ap (λ c. has_committed (at_tick b.queue b.cur h) e.ev_txid && not (has_committed (at_tick b.queue b.prev h) e.ev_txid) && c) (for-each name b.sub e is)
    ∙ alone (has_committed (at_tick b.queue b.cur h) e.ev_txid && not (has_committed (at_tick b.queue b.prev h) e.ev_txid)))
  where
    alone : (c : Bool) → (c && true) ≡ c
    alone true = refl
    alone false = refl

pub batches_give_rows : BatchesGiveRows
batches_give_rows h place b le made_it table name there stays =
    let l : Legal h = legal_place h place in
    let p : History = at_tick b.queue b.prev h in
    let r : History = at_tick b.queue b.cur h in
    subst (λ es. Give (columns_of table p) (rows table p) es (rows table r)) (sym (batch-between h l b name))
    (events_give_rows h p r place (ticks_are_in_order h place b.queue b.prev b.cur le made_it) (to-below (tick-since b.queue b.cur h)) b.queue table name there stays)

-- of two tests, one after the other
filter-both : (s u r : Event → Bool) → ((e : Event) → (s e && u e) ≡ r e) → (es : List Event) → filter u (filter s es) ≡ filter r es
filter-both s u r alike [] = refl
filter-both s u r alike (e ∷ es) = grind (arith, alike e, filter-both s u r alike es)

pub unseen_events_give_rows : UnseenEventsGiveRows
unseen_events_give_rows h p place b above below table name there stays =
    subst (λ es. Give (columns_of table p) (rows table p) es (rows table r)) (sym same)
    (events_give_rows h p r place below (to-below (tick-since b.queue b.cur h)) b.queue table name there stays)
  where
    l : Legal h
    l = legal_place h place

    r : History
    r = at_tick b.queue b.cur h

    a : History
    a = at_tick b.queue b.prev h

    high : Since r h
    high = tick-since b.queue b.cur h

    low : Since p r
    low = from-below p r below

    lr : Legal r
    lr = legal-since high l

    lp : Legal p
    lp = legal-since low lr

    alike : (e : Event) → ((has_committed r e.ev_txid && not (has_committed a e.ev_txid)) && not (sees (snapshot p) e.ev_txid)) ≡ (has_committed r e.ev_txid && not (has_committed p e.ev_txid))
    alike e =
        let t : ℕ = e.ev_txid in
        let seen = sees-snapshot p lp t in
        let earlier : has_committed a t ≡ true → has_ended p t ≡ true = λ is. committed-ended p lp t (committed-since (from-below a p above) t is) in
        let ended = committed-ended p lp t in
        let joined = committed-then low lr t in
        grind (arith, seen, earlier, ended, joined)

    same : unseen_events (snapshot p) (table_events name (batch_events h b)) ≡ between p r (table_events name (events b.queue h))
    same =
        ap (unseen_events (snapshot p)) (batch-between h l b name)
        ∙ filter-both (λ e. has_committed r e.ev_txid && not (has_committed a e.ev_txid)) (λ e. not (sees (snapshot p) e.ev_txid)) (λ e. has_committed r e.ev_txid && not (has_committed p e.ev_txid)) alike
        (table_events name (events b.queue h))

-- ---- from the later of a place and the opening tick

module _ (h : History) (l : Legal h) (s a b : History) (s_h : Since s h) (a_b : Since a b) (b_h : Since b h) where
  lb : Legal b
  lb = legal-since b_h l

  -- which of two places is the later one
  if-later : {p q : History} → Since p h → Since q h → nat_lt (length p) (length q) ≡ true → Since p q
  if-later {p = p} {q = q} p_h q_h is = elim (either-since p_h q_h) [
    | inl up ↦ up
    | inr down ↦ let less : length p < length q = grind (arith, nat_tests, is) in absurd (omega (arith, less, length-since down))
  ]

  if-not : {p q : History} → Since p h → Since q h → nat_lt (length p) (length q) ≡ false → Since q p
  if-not {p = p} {q = q} p_h q_h isnt = elim (either-since q_h p_h) [
    | inl up ↦ up
    | inr down ↦ let le : length q ≤ length p = grind (arith, nat_tests, isnt) in subst (λ z. Since z p) (same-length down le) here
  ]

  -- the events that are left are those between two places
  record LeadsOn (x y : History) : Type 0 where
    below : Since x y
    top : Since y h
    alike : (t : ℕ) → ((has_committed b t && not (has_committed a t)) && not (sees (snapshot s) t)) ≡ (has_committed y t && not (has_committed x t))

  leads : LeadsOn (later_of s a) (later_of s b)
  leads =
      by_test (λ c. nat_lt (length s) (length a) ≡ c → LeadsOn (if c then a else s) (later_of s b)) (nat_lt (length s) (length a))
      (λ _ less_a. by_test (λ c. nat_lt (length s) (length b) ≡ c → LeadsOn a (if c then b else s)) (nat_lt (length s) (length b))
      (λ _ _. above_both (if-later s_h (since-joined a_b b_h) less_a))
      (λ _ not_b.
      let less : length s < length a = grind (arith, nat_tests, less_a) in
      let le : length b ≤ length s = grind (arith, nat_tests, not_b) in
      absurd (omega (arith, less, le, length-since a_b))) refl)
      (λ _ not_a. by_test (λ c. nat_lt (length s) (length b) ≡ c → LeadsOn s (if c then b else s)) (nat_lt (length s) (length b))
      (λ _ less_b. between_both (if-not s_h (since-joined a_b b_h) not_a) (if-later s_h b_h less_b))
      (λ _ not_b. below_both (if-not s_h b_h not_b)) refl) refl
    where
      seen : (t : ℕ) → sees (snapshot s) t ≡ has_ended s t
      seen t = sees-snapshot s (legal-since s_h l) t

      over : (t : ℕ) → has_committed s t ≡ true → has_ended s t ≡ true
      over t is = committed-ended s (legal-since s_h l) t is

      above_both : Since s a → LeadsOn a b
      above_both s_a = record {
        below = a_b;
        top = b_h;
        alike = λ t. grind (arith, seen t, committed-then (since-joined s_a a_b) lb t, committed-since s_a t);
      }

      between_both : Since a s → Since s b → LeadsOn s b
      between_both a_s s_b = record {
        below = s_b;
        top = b_h;
        alike = λ t. grind (arith, seen t, over t, committed-then s_b lb t, committed-since a_s t);
      }

      below_both : Since b s → LeadsOn s s
      below_both b_s = record {
        below = here;
        top = s_h;
        alike = λ t. grind (arith, seen t, over t, committed-since b_s t);
      }

-- the later of a place and a batch's opening tick, and of this place and the closing one
abbrev opening : (h s : History) → Batch → History
opening h s b = later_of s (at_tick b.queue b.prev h)

abbrev closing : (h s : History) → Batch → History
closing h s b = later_of s (at_tick b.queue b.cur h)

pub unseen_events_lead_on : UnseenEventsLeadOn
unseen_events_lead_on h s place s_h b le made_it table name there stays =
    subst (λ es. Give (columns_of table (opening h s b)) (rows table (opening h s b)) es (rows table (closing h s b))) (sym same)
    (events_give_rows h (opening h s b) (closing h s b) place (to-below on.below) (to-below on.top) b.queue table name there stays)
  where
    l : Legal h
    l = legal_place h place

    on : LeadsOn h l s (at_tick b.queue b.prev h) (at_tick b.queue b.cur h) (from-below s h s_h)
        (from-below (at_tick b.queue b.prev h) (at_tick b.queue b.cur h) (ticks_are_in_order h place b.queue b.prev b.cur le made_it)) (tick-since b.queue b.cur h) (opening h s b) (closing h s b)
    on = leads h l s (at_tick b.queue b.prev h) (at_tick b.queue b.cur h) (from-below s h s_h)
        (from-below (at_tick b.queue b.prev h) (at_tick b.queue b.cur h) (ticks_are_in_order h place b.queue b.prev b.cur le made_it)) (tick-since b.queue b.cur h)

    same : unseen_events (snapshot s) (table_events name (batch_events h b)) ≡ between (opening h s b) (closing h s b) (table_events name (events b.queue h))
    same =
        ap (unseen_events (snapshot s)) (batch-between h l b name)
        ∙ filter-both (λ e. has_committed (at_tick b.queue b.cur h) e.ev_txid && not (has_committed (at_tick b.queue b.prev h) e.ev_txid)) (λ e. not (sees (snapshot s) e.ev_txid))
        (λ e. has_committed (closing h s b) e.ev_txid && not (has_committed (opening h s b) e.ev_txid)) (λ e. on.alike e.ev_txid) (table_events name (events b.queue h))
