-- What a database and the world show changes by marks and facts alone.
use Rattle.std.proofs.Common.{◌≡◌, ℕ, ◌+◌, List, [], ◌∷◌, ◌++◌, Bool, true, false, not, ◌&&◌, ◌==◌, filter, Option, Some, None, refl, ◌∙◌, ap, bytes_eq, option_map, if◌then◌else◌}
use Rattle.sky_keys.specs.Waits.{released}
use Rattle.sky_keys.specs.Versions.{forgotten}
use Rattle.pgq_retry.specs.Retries.{without_sub}
use Rattle.londiste_state.specs.Nodes.{all_but}
use Rattle.sky_model.specs.History.{Mark, of_session, of_worker, began, ended, block_begun, repeats, sight_taken, block_failed, block_ended, connected, disconnected, tabled, wrote, queued, QueueMark, made, raised, put, ticked, registered, moved, unregistered, opened, closed, asked, returned, switching, switched, second_step, configured, dropped, traced, untraced, noded, History, Fact, appeared, founded, entered, left, within, clock_at, daemon_on, daemon_off, node_made, in_hand, batch_in_hand, Past, of_copy, hold_begun, hold_ended}
use Rattle.sky_model.specs.Config.{default_config}
use Rattle.pgq_tables.specs.Tables as tables_of
use Rattle.pgq_tables.specs.Tables.{new_tables, with_stored, with_pending, with_second_step, no_tables}
use Rattle.sky_model.specs.Queues.{new_tick, queues_made, queues, others_than, without_transaction, ticks_above, second_step_of}
use Rattle.sky_model.specs.Consumers.{Subscription, subscription_id, position, active, of_another}
use Rattle.sky_model.specs.Transactions.{next_txid, running, snapshot}
use Rattle.sky_model.specs.Sessions.{outside, inside, failed, at_each, at_first, at_place, sight, sight_by, session}
use Rattle.sky_model.specs.Versions.{versions}
use Rattle.sky_model.specs.State.{queue_of, part_of, database_of, changed_at, changed_for, with_batch, at_position, after_queue_mark, after_part, after_mark, after_marks}
use Rattle.sky_model.specs.Settling.{marked}
use Rattle.sky_model.specs.World.{world_of, history_in, after_fact, after_facts, on_top}

-- what something is in each case, by cases
by_case : {A : Type 0} (b : Bool) (f : Bool → A) → f b ≡ (if b then f true else f false)
by_case true f = refl
by_case false f = refl

-- a subscription of these parts
abbrev sub_of : Option ℕ → ℕ → Option ℕ → Option Subscription
sub_of id position active = option_map (λ n. record { id = n; position = position; active = active }) id

-- what is read of each name is changed for one of them
changed_sub : (b : Bool) (name : List ℕ) (sub : Bool → List ℕ → Option Subscription) (change : Option Subscription → Option Subscription) → ((n : List ℕ) → sub true n ≡ change (sub false n))
    → (λ n. sub (b && bytes_eq n name) n) ≡ (if b then changed_for name change (sub false) else sub false)
changed_sub true name sub change same = λ i n. (by_case (bytes_eq n name) (λ c. sub c n) ∙ ap (λ s. if bytes_eq n name then s else sub false n) (same n)) i
changed_sub false name sub change same = refl

opens : (id : Option ℕ) (position : ℕ) (active : Option ℕ) (batch : ℕ) → sub_of id position (Some batch) ≡ option_map (with_batch batch) (sub_of id position active)
opens None position active batch = refl
opens (Some id) position active batch = refl

closes : (id : Option ℕ) (position : ℕ) (active : Option ℕ) (tick : ℕ) → sub_of id tick None ≡ option_map (at_position tick) (sub_of id position active)
closes None position active tick = refl
closes (Some id) position active tick = refl

pub database_of-queue_mark : (h : History) (mark : QueueMark) → database_of (queued mark ∷ h) ≡ after_queue_mark (database_of h) mark
database_of-queue_mark h (made name t time) = λ i. record (database_of h) {
  queues_made = queues_made h + 1;
  queues = queues h ++ record { number = queues_made h; name = name } ∷ [];
  queue = λ n. by_case (queues_made h == n) (λ b. record (queue_of h n) {
    event_tables = if b then new_tables t time else (queue_of h n).event_tables;
    tick_list = if b then (queue_of h n).tick_list ++ new_tick time h ∷ [] else (queue_of h n).tick_list;
  }) i;
}
database_of-queue_mark h (raised q value) = λ i. record (database_of h) { queue = λ n. by_case (q == n) (λ b. record (queue_of h n) { seq = if b then value else (queue_of h n).seq }) i }
database_of-queue_mark h (put q event) = λ i. record (database_of h) { queue = λ n. by_case (q == n) (λ b. record (queue_of h n) { event_tables = if b then with_stored event (queue_of h n).event_tables else (queue_of h n).event_tables }) i }
database_of-queue_mark h (ticked q id time seq) = λ i. record (database_of h) {
  queue = λ n. by_case (q == n) (λ b. record (queue_of h n) {
    tick_list = if b then (queue_of h n).tick_list ++ record { id = id; time = time; snapshot = snapshot h; seq = seq } ∷ [] else (queue_of h n).tick_list;
  }) i;
}
database_of-queue_mark h (registered q name sub tick) = λ i. record (database_of h) {
  last_sub_id = sub;
  queue = λ n. (ap (λ s. record (queue_of h n) { members = if q == n then (queue_of h n).members ++ name ∷ [] else (queue_of h n).members; sub = s })
      (changed_sub (q == n) name (λ b c. sub_of (if b then Some sub else subscription_id n c h) (if b then tick else position n c h) (if b then None else active n c h)) (new sub tick) (λ c. refl))
      ∙ by_case (q == n) (λ b. record (queue_of h n) {
        members = if b then (queue_of h n).members ++ name ∷ [] else (queue_of h n).members;
        sub = if b then changed_for name (new sub tick) (queue_of h n).sub else (queue_of h n).sub;
      })) i;
}
  where
    new : ℕ → ℕ → Option Subscription → Option Subscription
    new id tick _ = Some (record { id = id; position = tick; active = None })
database_of-queue_mark h (moved q name tick) = λ i. record (database_of h) {
  batch = λ id. of_another q name ((database_of h).batch id);
  queue = λ n. (ap (λ s. record (queue_of h n) { sub = s })
      (changed_sub (q == n) name (λ c m. sub_of (subscription_id n m h) (if c then tick else position n m h) (if c then None else active n m h)) (option_map (at_position tick))
      (λ m. closes (subscription_id n m h) (position n m h) (active n m h) tick))
      ∙ by_case (q == n) (λ c. record (queue_of h n) { sub = if c then changed_for name (option_map (at_position tick)) (queue_of h n).sub else (queue_of h n).sub })) i;
}
database_of-queue_mark h (unregistered q name sub) = λ i. record (database_of h) {
  retries = without_sub sub (database_of h).retries;
  batch = λ id. of_another q name ((database_of h).batch id);
  queue = λ n. (ap (λ s. record (queue_of h n) { members = if q == n then all_but name (queue_of h n).members else (queue_of h n).members; sub = s })
      (changed_sub (q == n) name (λ b c. sub_of (if b then None else subscription_id n c h) (if b then 0 else position n c h) (if b then None else active n c h)) (λ _. None) (λ c. refl))
      ∙ by_case (q == n) (λ b. record (queue_of h n) {
        members = if b then all_but name (queue_of h n).members else (queue_of h n).members;
        sub = if b then changed_for name (λ _. None) (queue_of h n).sub else (queue_of h n).sub;
      })) i;
}
database_of-queue_mark h (asked retry) = refl
database_of-queue_mark h (returned retry moment) = refl
database_of-queue_mark h (opened b) = λ i. record (database_of h) {
  last_batch_id = b.id;
  batch = changed_at b.id (λ _. Some b) (database_of h).batch;
  queue = λ n. (ap (λ s. record (queue_of h n) { sub = s })
      (changed_sub (b.queue == n) b.consumer (λ c m. sub_of (subscription_id n m h) (position n m h) (if c then Some b.id else active n m h)) (option_map (with_batch b.id))
      (λ m. opens (subscription_id n m h) (position n m h) (active n m h) b.id))
      ∙ by_case (b.queue == n) (λ c. record (queue_of h n) { sub = if c then changed_for b.consumer (option_map (with_batch b.id)) (queue_of h n).sub else (queue_of h n).sub })) i;
}
database_of-queue_mark h (closed b) = λ i. record (database_of h) {
  batch = changed_at b.id (λ _. None) (database_of h).batch;
  queue = λ n. (ap (λ s. record (queue_of h n) { sub = s })
      (changed_sub (b.queue == n) b.consumer (λ c m. sub_of (subscription_id n m h) (if c then b.cur else position n m h) (if c then None else active n m h)) (option_map (at_position b.cur))
      (λ m. closes (subscription_id n m h) (position n m h) (active n m h) b.cur))
      ∙ by_case (b.queue == n) (λ c. record (queue_of h n) { sub = if c then changed_for b.consumer (option_map (at_position b.cur)) (queue_of h n).sub else (queue_of h n).sub })) i;
}
database_of-queue_mark h (switching q t) = λ i. record (database_of h) { queue = λ n. by_case (q == n) (λ b. record (queue_of h n) { event_tables = if b then with_pending t (queue_of h n).event_tables else (queue_of h n).event_tables }) i }
database_of-queue_mark h (switched q time) = λ i. record (database_of h) {
  queue = λ n. by_case (q == n) (λ b. record (queue_of h n) {
    event_tables = if b then tables_of.with_switch time (queue_of h n).event_tables else (queue_of h n).event_tables;
    tick_list = if b then ticks_above (second_step_of (queue_of h n).event_tables) (queue_of h n).tick_list else (queue_of h n).tick_list;
  }) i;
}
database_of-queue_mark h (second_step q t) = λ i. record (database_of h) { queue = λ n. by_case (q == n) (λ b. record (queue_of h n) { event_tables = if b then with_second_step t (queue_of h n).event_tables else (queue_of h n).event_tables }) i }
database_of-queue_mark h (configured q c) = λ i. record (database_of h) { queue = λ n. by_case (q == n) (λ b. record (queue_of h n) { config = if b then c else (queue_of h n).config }) i }
database_of-queue_mark h (dropped q) = λ i. record (database_of h) {
  queues = others_than q (queues h);
  queue = λ n. by_case (q == n) (λ b. record (queue_of h n) {
    config = if b then default_config else (queue_of h n).config;
    seq = if b then 0 else (queue_of h n).seq;
    event_tables = if b then no_tables else (queue_of h n).event_tables;
    tick_list = if b then [] else (queue_of h n).tick_list;
  }) i;
}
database_of-queue_mark h (traced table name trigger) = refl
database_of-queue_mark h (untraced table) = refl

-- a mark changes transactions, sessions and tables as `after_part` says
pub part_of-mark : (h : History) (mark : Mark) → part_of (mark ∷ h) ≡ after_part (part_of h) mark
part_of-mark h (began (of_session who) t) = λ i. record (part_of h) {
  next = next_txid h + 1;
  running_ids = running h ++ t ∷ [];
  session = λ n. by_case (who == n) (λ b. record (session h n) { txid = if b then Some t else (session h n).txid }) i;
}
part_of-mark h (ended (of_session who) t true) = λ i. record (part_of h) {
  running_ids = filter (λ u. not (u == t)) (running h);
  session = λ n. by_case (who == n) (λ b. record (session h n) { txid = if b then None else (session h n).txid }) i;
  wrote_in = λ n u. not (t == u) && (part_of h).wrote_in n u;
  holder = released who (part_of h).holder;
}
part_of-mark h (ended (of_session who) t false) = λ i. record (part_of h) {
  running_ids = filter (λ u. not (u == t)) (running h);
  session = λ n. by_case (who == n) (λ b. record (session h n) { txid = if b then None else (session h n).txid }) i;
  versions = λ n. forgotten t (versions n h);
  wrote_in = λ n u. not (t == u) && (part_of h).wrote_in n u;
  holder = released who (part_of h).holder;
}
part_of-mark h (block_begun who) = λ i. record (part_of h) { session = λ n. by_case (who == n) (λ b. record (session h n) { block = if b then inside else (session h n).block }) i }
part_of-mark h (repeats who) = λ i. record (part_of h) { session = λ n. by_case (who == n) (λ b. record (session h n) { sight = sight_by snapshot (if b then at_first else sight n h) }) i }
part_of-mark h (sight_taken who) = λ i. record (part_of h) { session = λ n. by_case (who == n) (λ b. record (session h n) { sight = sight_by snapshot (if b then (at_place h) else sight n h) }) i }
part_of-mark h (block_failed who) = λ i. record (part_of h) { session = λ n. by_case (who == n) (λ b. record (session h n) { block = if b then failed else (session h n).block; sight = sight_by snapshot (if b then at_each else sight n h) }) i }
part_of-mark h (block_ended who) = λ i. record (part_of h) { session = λ n. by_case (who == n) (λ b. record (session h n) { block = if b then outside else (session h n).block; sight = sight_by snapshot (if b then at_each else sight n h) }) i }
part_of-mark h (connected who) = λ i. record (part_of h) { session = λ n. by_case (who == n) (λ b. record (session h n) { is_open = if b then true else (session h n).is_open }) i }
part_of-mark h (disconnected who) = λ i. record (part_of h) { session = λ n. by_case (who == n) (λ b. record (session h n) { is_open = if b then false else (session h n).is_open }) i }
part_of-mark h (ended of_worker t true) = refl
part_of-mark h (ended of_worker t false) = refl
part_of-mark h (ended (of_copy table) t true) = refl
part_of-mark h (ended (of_copy table) t false) = refl
part_of-mark h (tabled (wrote of_worker t table key old new)) = refl
part_of-mark h (tabled (wrote (of_copy n) t table key old new)) = refl
part_of-mark h _ = refl

-- and a database as `after_mark` says
pub database_of-mark : (h : History) (mark : Mark) → database_of (mark ∷ h) ≡ after_mark (database_of h) mark
database_of-mark h (ended (of_session who) t false) = λ i. record (database_of h) { part = part_of-mark h (ended (of_session who) t false) i; queue = λ n. record (queue_of h n) { event_tables = without_transaction t (queue_of h n).event_tables } }
database_of-mark h (ended of_worker t false) = refl
database_of-mark h (ended (of_copy table) t false) = refl
database_of-mark h (ended (of_copy table) t true) = refl
database_of-mark h (began (of_copy table) t) = refl
database_of-mark h (queued mark) = database_of-queue_mark h mark
database_of-mark h (noded (hold_begun number)) = refl
database_of-mark h (noded (hold_ended number)) = refl
database_of-mark h (noded mark) = refl
database_of-mark h mark = λ i. record (database_of h) { part = part_of-mark h mark i }

-- and so do marks one after another
pub database_of-marks : (h : History) (marks : List Mark) → database_of (marked h marks) ≡ after_marks (database_of h) marks
database_of-marks h [] = refl
database_of-marks h (mark ∷ marks) = database_of-marks (mark ∷ h) marks ∙ ap (λ d. after_marks d marks) (database_of-mark h mark)

within_at : (b : Bool) (h : History) (mark : Mark) → database_of (if b then mark ∷ h else h) ≡ (if b then after_mark (database_of h) mark else database_of h)
within_at true h mark = database_of-mark h mark
within_at false h mark = refl

-- a fact changes what the world shows as `after_fact` says
pub world_of-fact : (past : Past) (fact : Fact) → world_of (fact ∷ past) ≡ after_fact (world_of past) fact
world_of-fact past (appeared name) = refl
world_of-fact past (founded name) = refl
world_of-fact past (entered who d) = refl
world_of-fact past (left who) = refl
world_of-fact past (clock_at moment) = refl
world_of-fact past (daemon_on d) = refl
world_of-fact past (daemon_off d) = refl
world_of-fact past (node_made d) = refl
world_of-fact past (in_hand d table hand) = refl
world_of-fact past (batch_in_hand d batch) = refl
world_of-fact past (within d mark) = λ i. record (world_of past) { database = λ n. within_at (d == n) (history_in past n) mark i }

-- and so do facts one after another
pub world_of-facts : (past : Past) (facts : List Fact) → world_of (on_top past facts) ≡ after_facts (world_of past) facts
world_of-facts past [] = refl
world_of-facts past (fact ∷ facts) = world_of-facts (fact ∷ past) facts ∙ ap (λ w. after_facts w facts) (world_of-fact past fact)
