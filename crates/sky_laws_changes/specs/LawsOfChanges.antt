-- The laws on the events of replicated tables, at each place of each history that calls of a database make.
use Rattle.std.specs.Prelude.{◌≡◌, ℕ, ◌≤◌, true, false, not, ◌&&◌, All, List, ◌++◌, Some, is_some, filter}
use Rattle.sky_val.specs.declared.val.Val.{Val}
use Rattle.sky_val.specs.declared.column.Column.{Column}
use Rattle.sky_val.specs.declared.event.Event.{Event}
use Rattle.sky_val.specs.Entries.{Entries}
use Rattle.sky_names.specs.Places.{place_of}
use Rattle.sky_urlenc.specs.Changes.{put, applies}
use Rattle.sky_model.specs.History.{Batch, Mark, History}
use Rattle.sky_model.specs.Transactions.{has_committed, snapshot}
use Rattle.sky_model.specs.Rows.{table_names, columns_of, rows}
use Rattle.sky_model.specs.Queues.{events, ticks, tick, at_tick}
use Rattle.sky_model.specs.Batches.{batch_events}
use Rattle.sky_model.specs.HistoryPlaces.{IsPlace}
use Rattle.sky_laws_changes.specs.TableEvents.{table_events, unseen_events}
use Rattle.sky_laws_changes.specs.Listing.{IsBelow, later_of, IsListed, StaysListed, is_unlisting}

-- events apply to some rows, one after another, and that gives these rows
pub record Give (columns : List Column) (before : Entries (List Val)) (events : List Event) (after : Entries (List Val)) : Type 0 where
  pub apply : applies columns before events ≡ true
  pub give : put columns before events ≡ after

-- the events of transactions that had committed at `q`, and hadn't at `p`
abbrev pub between : (p q : History) → List Event → List Event
between p q events = filter (λ e. has_committed q e.ev_txid && not (has_committed p e.ev_txid)) events

-- a table that is in a set is in it at each later place, until a mark takes it out
abbrev pub TablesStayInSets : Type 0
TablesStayInSets = (later : List Mark) (p : History) → IsPlace (later ++ p) → (queue : ℕ) (name : List ℕ) → IsListed p queue name
    → All (λ mark. is_unlisting name mark ≡ false) later → StaysListed p (later ++ p) queue name

-- if a table stays in a set from one place to another, its events between them, in the order of storing, apply to its rows at the one and give those at
-- the other
abbrev pub EventsGiveRows : Type 0
EventsGiveRows = (h p q : History) → IsPlace h → IsBelow p q → IsBelow q h → (queue table : ℕ) (name : List ℕ) → place_of name (table_names p) ≡ Some table
    → StaysListed p q queue name
    → Give (columns_of table p) (rows table p) (between p q (table_events name (events queue h))) (rows table q)

-- the place of a tick is below that of each later one that was made
abbrev pub TicksAreInOrder : Type 0
TicksAreInOrder = (h : History) → IsPlace h → (queue from to : ℕ) → from ≤ to → is_some (tick to (ticks queue h)) ≡ true
    → IsBelow (at_tick queue from h) (at_tick queue to h)

-- if a table stays in the queue's set from the opening tick of a batch to the closing one, its events of the batch, by id, apply to its rows at the
-- opening tick and give those at the closing one
abbrev pub BatchesGiveRows : Type 0
BatchesGiveRows = (h : History) → IsPlace h → (b : Batch) → b.prev ≤ b.cur → is_some (tick b.cur (ticks b.queue h)) ≡ true
    → (table : ℕ) (name : List ℕ) → place_of name (table_names (at_tick b.queue b.prev h)) ≡ Some table
    → StaysListed (at_tick b.queue b.prev h) (at_tick b.queue b.cur h) b.queue name
    → Give (columns_of table (at_tick b.queue b.prev h)) (rows table (at_tick b.queue b.prev h)) (table_events name (batch_events h b))
    (rows table (at_tick b.queue b.cur h))

-- and if it stays in the set from a place between the two ticks to the closing one, its events of the batch that aren't of transactions which the
-- snapshot of the place sees apply to its rows there and give those at the closing tick
abbrev pub UnseenEventsGiveRows : Type 0
UnseenEventsGiveRows = (h p : History) → IsPlace h → (b : Batch) → IsBelow (at_tick b.queue b.prev h) p → IsBelow p (at_tick b.queue b.cur h)
    → (table : ℕ) (name : List ℕ) → place_of name (table_names p) ≡ Some table
    → StaysListed p (at_tick b.queue b.cur h) b.queue name
    → Give (columns_of table p) (rows table p) (unseen_events (snapshot p) (table_events name (batch_events h b))) (rows table (at_tick b.queue b.cur h))

-- so they lead from the later of a place and the opening tick to the later of this place and the closing one, wherever the place is
abbrev pub UnseenEventsLeadOn : Type 0
UnseenEventsLeadOn = (h s : History) → IsPlace h → IsBelow s h → (b : Batch) → b.prev ≤ b.cur → is_some (tick b.cur (ticks b.queue h)) ≡ true
    → (let x : History = later_of s (at_tick b.queue b.prev h) in
    let y : History = later_of s (at_tick b.queue b.cur h) in
    (table : ℕ) (name : List ℕ) → place_of name (table_names x) ≡ Some table → StaysListed x y b.queue name
    → Give (columns_of table x) (rows table x) (unseen_events (snapshot s) (table_events name (batch_events h b))) (rows table y))
