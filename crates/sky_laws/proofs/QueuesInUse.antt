-- What needs a queue finds it, and of one that doesn't stand nothing is kept.
use Rattle.std.proofs.Common.{◌≡◌, ℕ, List, [], ◌∷◌, ◌++◌, true, false, ◌==◌, ◌||◌, bytes_eq, is_some, All, get_or, Option, Some, None, option_map, refl, sym, subst, ◌∙◌, ap, arith, if◌then◌else◌}
use Rattle.std.specs.List.{list_any}
use Rattle.std.proofs.lemmas.Bool.Decides.{nat_tests}
use Rattle.std.proofs.lemmas.Bool.{eqb-true}
use Rattle.std.proofs.lemmas.List.Elements.{All-nil, All-push}
use Rattle.sky_val.specs.declared.event.Event.{Event}
use Rattle.sky_txid.specs.Ids.{contains}
use Rattle.londiste_state.specs.Nodes.{all_but}
use Rattle.sky_model.specs.History.{began, ended, queued, dropped, History}
use Rattle.sky_model.specs.Transactions.{running, snapshot}
use Rattle.sky_model.specs.Config.{default_config}
use Rattle.sky_model.specs.Queues.{new_tick, NamedQueue, queues_made, queues, others_than, config, sequence, events, event_tables, without_transaction, kept_ticks, ticks_above, second_step_of}
use Rattle.sky_model.specs.Consumers.{consumers, subscription_id, position, active}
use Rattle.sky_model.specs.Retries.{brought_by}
use Rattle.sky_model.specs.LawsOfQueues.{QueuesOfConsumersStand, QueuesOfTriggersStand, BusyQueuesStand, OtherQueuesKeepNothing, NewQueuesAreOthers}
use Rattle.sky_histories.proofs.Legal.{IsAmong, IsQueue, makes, raises, puts, puts_back, ticks_next, registers, unregisters, begins_switch, makes_switch, ends_switch, configures, drops, Legal, start, next}
use Rattle.pgq_tables.specs.Tables as tables_of
use Rattle.pgq_tables.specs.Tables.{no_tables, new_tables, with_stored, with_pending, with_second_step}
use Rattle.sky_model.specs.StepQueue.{has_part_in}
use Rattle.sky_histories.proofs.QueueNumbers.{among-before, among-last, among-others}
use Rattle.sky_histories.proofs.EventsBegun.{Begun, events-begun}
use Rattle.sky_histories.proofs.Members.{among-consumers}
use Rattle.sky_histories.proofs.Snapshots.{sound, begun-next, contains-push, contains-filter}
use Rattle.sky_histories.proofs.StandingQueues.{beyond, registered-stands}
use Rattle.sky_histories.proofs.Rotation.{running-stored}
use Rattle.sky_histories.proofs.LawfulTelling.{trigger-queues}
use Rattle.sky_histories.proofs.SnapshotLaws.{legal_place}
use Rattle.sky_names.proofs.PlaceLemmas.{bytes_eq_refl}
use Rattle.sky_histories.proofs.WrittenTables.{contained}
use Rattle.sky_model.proofs.Cases.{by_test, by_same}

-- ---- running transactions

-- the queue of an event stands while the event's transaction runs
abbrev Needs : History → ℕ → Event → Type 0
Needs h q e = contains e.ev_txid (running h) ≡ true → IsQueue h q

running-stands : (h : History) → Legal h → (q : ℕ) → All (Needs h q) (events q h)
running-stands [] start q = All-nil (Needs [] q)
running-stands (began whose t ∷ h) (next l fine) q =
    λ k e less runs. running-stands h l q k e less
    (let begun : Begun h (get_or (events q h) k e) = events-begun h l q k e less in
    grind (arith, nat_tests, contains-push (get_or (events q h) k e).ev_txid t (running h), runs, begun, begun-next h whose t fine))
running-stands (ended whose t committed ∷ h) (next l fine) q =
    λ k e less runs. running-stands h l q k e less (grind (arith, contains-filter (get_or (events q h) k e).ev_txid t (running h), runs))
running-stands _ (next {h = h} l (makes name t time new)) q =
    λ k e less runs. among-before (queues h) (record { number = queues_made h; name = name }) q (running-stands h l q k e less runs)
running-stands _ (next {h = h} l (puts who p event i at mine newest)) q =
    by_same (λ b. All (Needs h q) (if b then events q h ++ event ∷ [] else events q h)) p q
    (λ same. All-push (Needs h q) (events q h) event (running-stands h l q) (λ _. subst (IsQueue h) same i)) (λ _. running-stands h l q)
running-stands _ (next {h = h} l (puts_back retry t back)) q =
    by_same (λ b. All (Needs h q) (if b then events q h ++ brought_by t retry.event ∷ [] else events q h)) retry.queue q
    (λ same. All-push (Needs h q) (events q h) (brought_by t retry.event) (running-stands h l q) (λ _. subst (IsQueue h) same back.stands)) (λ _. running-stands h l q)
running-stands _ (next {h = h} l (drops p none untold idle aside)) q =
    λ k e less runs.
    let stands : IsQueue h q = running-stands h l q k e less runs in
    among-others p (queues h) q stands
    (by_same (λ b. b ≡ false) q p
    (λ same. absurd (clash (get_or (events q h) k e).ev_txid runs
    (running-stored h l q stands k e less runs) (subst (λ n. All (λ t. has_part_in (event_tables n h) t ≡ false) (running h)) (sym same) idle)))
    (λ _. refl))
  where
    -- a running transaction that has put an event isn't one that hasn't
    clash : (t : ℕ) → contains t (running h) ≡ true → has_part_in (event_tables q h) t ≡ true → All (λ t. has_part_in (event_tables q h) t ≡ false) (running h) → ⊥
    clash t runs has idle = cc (sym has ∙ contained (λ t. has_part_in (event_tables q h) t ≡ false) t (running h) idle runs)
running-stands _ (next {h = h} l _) q = running-stands h l q

-- ---- what is kept of other queues

-- a queue that stands isn't one that doesn't
apart : (all : List NamedQueue) (p q : ℕ) → IsAmong p all → list_any (λ x. x.number == q) all ≡ false → (p == q) ≡ false
apart all p q is away = by_same (λ b. b ≡ false) p q (λ same. absurd (cc (sym is ∙ ap (λ n. list_any (λ x. x.number == n) all) same ∙ away))) (λ _. refl)

-- one that doesn't stand once another was made didn't before
away-before : (queues : List NamedQueue) (last : NamedQueue) (q : ℕ) → list_any (λ x. x.number == q) (queues ++ last ∷ []) ≡ false → list_any (λ x. x.number == q) queues ≡ false
away-before queues last q away =
    by_test (λ b. b ≡ false) (list_any (λ x. x.number == q) queues) (λ is. absurd (cc (sym away ∙ among-before queues last q is))) (λ _. refl)

-- and isn't that one
away-last : (queues : List NamedQueue) (last : NamedQueue) (q : ℕ) → list_any (λ x. x.number == q) (queues ++ last ∷ []) ≡ false → (last.number == q) ≡ false
away-last queues last q away =
    by_same (λ b. b ≡ false) last.number q (λ same. absurd (cc (sym away ∙ subst (λ n. IsAmong n (queues ++ last ∷ [])) same (among-last queues last)))) (λ _. refl)

-- nor did one that isn't among the others than another
away-others : (p : ℕ) (queues : List NamedQueue) (q : ℕ) → (p == q) ≡ false → list_any (λ x. x.number == q) (others_than p queues) ≡ false → list_any (λ x. x.number == q) queues ≡ false
away-others p queues q other away =
    by_test (λ b. b ≡ false) (list_any (λ x. x.number == q) queues) (λ is. absurd (cc (sym away ∙ among-others p queues q is (grind (arith, nat_tests, other))))) (λ _. refl)

-- a queue without subscriptions has no consumers
unsubscribed-empty : (h : History) (q : ℕ) → ((consumer : List ℕ) → subscription_id q consumer h ≡ None) → consumers q h ≡ []
unsubscribed-empty h q none = of (consumers q h) refl
  where
    of : (names : List (List ℕ)) → consumers q h ≡ names → consumers q h ≡ []
    of [] is = is
    of (name ∷ names) is =
        let first : list_any (λ n. bytes_eq name n) (name ∷ names) ≡ true = ap (λ b. b || list_any (λ n. bytes_eq name n) names) (bytes_eq_refl name) in
        absurd (cc (sym first ∙ ap (list_any (λ n. bytes_eq name n)) (sym is) ∙ among-consumers h q name ∙ ap is_some (none name)))

-- but for its subscriptions nothing is kept of such a queue
pub record IsBare (h : History) (q : ℕ) : Type 0 where
  pub unset : config q h ≡ default_config
  pub no_id : sequence q h ≡ 0
  pub no_event : event_tables q h ≡ no_tables
  pub no_tick : kept_ticks q h ≡ []
  pub no_consumer : consumers q h ≡ []

pub bare : (h : History) → Legal h → (q : ℕ) → list_any (λ x. x.number == q) (queues h) ≡ false → IsBare h q
bare [] start q away = record { unset = refl; no_id = refl; no_event = refl; no_tick = refl; no_consumer = refl }
bare (ended whose t false ∷ h) (next l fine) q away =
    let b : IsBare h q = bare h l q away in
    record { unset = b.unset; no_id = b.no_id; no_event = ap (without_transaction t) b.no_event; no_tick = b.no_tick; no_consumer = b.no_consumer }
bare _ (next {h = h} l (makes name t time new)) q away =
    let b : IsBare h q = bare h l q (away-before (queues h) (record { number = queues_made h; name = name }) q away) in
    let other : (queues_made h == q) ≡ false = away-last (queues h) (record { number = queues_made h; name = name }) q away in
    record { unset = b.unset; no_id = b.no_id; no_event = ap (λ c. if c then new_tables t time else event_tables q h) other ∙ b.no_event; no_tick = ap (λ c. if c then kept_ticks q h ++ new_tick time h ∷ [] else kept_ticks q h) other ∙ b.no_tick; no_consumer = b.no_consumer }
bare _ (next {h = h} l (begins_switch p t may)) q away =
    let b : IsBare h q = bare h l q away in
    record { unset = b.unset; no_id = b.no_id; no_event = ap (λ c. if c then with_pending t (event_tables q h) else event_tables q h) (apart (queues h) p q may.within away) ∙ b.no_event; no_tick = b.no_tick; no_consumer = b.no_consumer }
bare _ (next {h = h} l (makes_switch p t time i is)) q away =
    let b : IsBare h q = bare h l q away in
    record {
      unset = b.unset;
      no_id = b.no_id;
      no_event = ap (λ c. if c then tables_of.with_switch time (event_tables q h) else event_tables q h) (apart (queues h) p q i away) ∙ b.no_event;
      no_tick = ap (λ c. if c then ticks_above (second_step_of (event_tables q h)) (kept_ticks q h) else kept_ticks q h) (apart (queues h) p q i away) ∙ b.no_tick;
      no_consumer = b.no_consumer;
    }
bare _ (next {h = h} l (ends_switch p t may)) q away =
    let b : IsBare h q = bare h l q away in
    record { unset = b.unset; no_id = b.no_id; no_event = ap (λ c. if c then with_second_step t (event_tables q h) else event_tables q h) (apart (queues h) p q may.within away) ∙ b.no_event; no_tick = b.no_tick; no_consumer = b.no_consumer }
bare _ (next {h = h} l (raises p value i le)) q away =
    let b : IsBare h q = bare h l q away in
    record { unset = b.unset; no_id = ap (λ c. if c then value else sequence q h) (apart (queues h) p q i away) ∙ b.no_id; no_event = b.no_event; no_tick = b.no_tick; no_consumer = b.no_consumer }
bare _ (next {h = h} l (puts who p event i at mine newest)) q away =
    let b : IsBare h q = bare h l q away in
    record { unset = b.unset; no_id = b.no_id; no_event = ap (λ c. if c then with_stored event (event_tables q h) else event_tables q h) (apart (queues h) p q i away) ∙ b.no_event; no_tick = b.no_tick; no_consumer = b.no_consumer }
bare _ (next {h = h} l (puts_back retry t back)) q away =
    let b : IsBare h q = bare h l q away in
    record {
      unset = b.unset;
      no_id = b.no_id;
      no_event = ap (λ c. if c then with_stored (brought_by t retry.event) (event_tables q h) else event_tables q h) (apart (queues h) retry.queue q back.stands away) ∙ b.no_event;
      no_tick = b.no_tick;
      no_consumer = b.no_consumer;
    }
bare _ (next {h = h} l (ticks_next p id time seq i e c)) q away =
    let b : IsBare h q = bare h l q away in
    record {
      unset = b.unset;
      no_id = b.no_id;
      no_event = b.no_event;
      no_tick = ap (λ c. if c then kept_ticks q h ++ record { id = id; time = time; snapshot = snapshot h; seq = seq } ∷ [] else kept_ticks q h) (apart (queues h) p q i away) ∙ b.no_tick;
      no_consumer = b.no_consumer;
    }
bare _ (next {h = h} l (registers p name sub tick i none f g low few)) q away =
    let b : IsBare h q = bare h l q away in
    record { unset = b.unset; no_id = b.no_id; no_event = b.no_event; no_tick = b.no_tick; no_consumer = ap (λ c. if c then consumers q h ++ name ∷ [] else consumers q h) (apart (queues h) p q i away) ∙ b.no_consumer }
bare _ (next {h = h} l (unregisters p name sub i has)) q away =
    let b : IsBare h q = bare h l q away in
    record { unset = b.unset; no_id = b.no_id; no_event = b.no_event; no_tick = b.no_tick; no_consumer = ap (λ c. if c then all_but name (consumers q h) else consumers q h) (apart (queues h) p q i away) ∙ b.no_consumer }
bare _ (next {h = h} l (configures p c i)) q away =
    let b : IsBare h q = bare h l q away in
    record { unset = ap (λ t. if t then c else config q h) (apart (queues h) p q i away) ∙ b.unset; no_id = b.no_id; no_event = b.no_event; no_tick = b.no_tick; no_consumer = b.no_consumer }
bare _ (next {h = h} l (drops p none untold idle aside)) q away =
    by_test (λ b. (p == q) ≡ b → IsBare (queued (dropped p) ∷ h) q) (p == q)
    (λ _ is. record {
      unset = ap (λ c. if c then default_config else config q h) is;
      no_id = ap (λ c. if c then 0 else sequence q h) is;
      no_event = ap (λ c. if c then no_tables else event_tables q h) is;
      no_tick = ap (λ c. if c then [] else kept_ticks q h) is;
      no_consumer = unsubscribed-empty h q (λ c. ap (λ n. subscription_id n c h) (sym (eqb-true p q is)) ∙ none c);
    })
    (λ _ other.
    let b : IsBare h q = bare h l q (away-others p (queues h) q other away) in
    record {
      unset = ap (λ c. if c then default_config else config q h) other ∙ b.unset;
      no_id = ap (λ c. if c then 0 else sequence q h) other ∙ b.no_id;
      no_event = ap (λ c. if c then no_tables else event_tables q h) other ∙ b.no_event;
      no_tick = ap (λ c. if c then [] else kept_ticks q h) other ∙ b.no_tick;
      no_consumer = b.no_consumer;
    }) refl
bare _ (next {h = h} l _) q away =
    let b : IsBare h q = bare h l q away in
    record { unset = b.unset; no_id = b.no_id; no_event = b.no_event; no_tick = b.no_tick; no_consumer = b.no_consumer }

-- nor a subscription
unsubscribed : (h : History) → Legal h → (q : ℕ) → list_any (λ x. x.number == q) (queues h) ≡ false → (consumer : List ℕ) → subscription_id q consumer h ≡ None
unsubscribed h l q away consumer = of (subscription_id q consumer h) refl
  where
    of : (o : Option ℕ) → subscription_id q consumer h ≡ o → o ≡ None
    of None is = refl
    of (Some sub) is = absurd (cc (sym away ∙ registered-stands h l q consumer sub is))

-- ---- the laws

pub queues_of_consumers_stand : QueuesOfConsumersStand
queues_of_consumers_stand p is = registered-stands p (legal_place p is)

pub queues_of_triggers_stand : QueuesOfTriggersStand
queues_of_triggers_stand p is = trigger-queues p (legal_place p is)

pub busy_queues_stand : BusyQueuesStand
busy_queues_stand p is queue = λ k e less unended.
    let l : Legal p = legal_place p is in
    let begun : Begun p (get_or (events queue p) k e) = events-begun p l queue k e less in
    running-stands p l queue k e less (grind (arith, nat_tests, (sound p l).runs (get_or (events queue p) k e).ev_txid, begun, unended))

pub other_queues_keep_nothing : OtherQueuesKeepNothing
other_queues_keep_nothing p is queue away =
    let l : Legal p = legal_place p is in
    let b : IsBare p queue = bare p l queue away in
    record {
      unset = b.unset;
      no_id = b.no_id;
      no_event = b.no_event;
      no_tick = b.no_tick;
      no_consumer = b.no_consumer;
      unsubscribed = λ consumer. ap (option_map (λ id. record { id = id; position = position queue consumer p; active = active queue consumer p })) (unsubscribed p l queue away consumer);
    }

pub new_queues_are_others : NewQueuesAreOthers
new_queues_are_others p is = let b = beyond p (legal_place p is) (queues_made p) (omega arith) in (b.events, b.ticks)
