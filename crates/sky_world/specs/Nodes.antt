-- What the world's methods on nodes give, by what the world showed.
use Rattle.std.specs.Prelude.{◌≡◌, ℕ, List, [], ◌∷◌, All, true, not, Option, Some, option_map, Result, Ok, Err, is_ok}
use Rattle.sky_val.specs.declared.column.Column.{Column}
use Rattle.londiste_state.specs.Nodes.{Leaf}
use Rattle.sky_model.specs.declared.reply.Reply.{Reply}
use Rattle.sky_model.specs.declared.reply.Refusal.TheVariants.{NotInSet, NotProvider, SchemaDiffers}
use Rattle.sky_model.specs.declared.stop.Stop.{Stop}
use Rattle.sky_model.specs.declared.stop.Stop.TheVariants.{Refused, NoMemory}
use Rattle.sky_model.specs.History.{Fact}
use Rattle.sky_model.specs.State.{Database}
use Rattle.sky_model.specs.World.{World, after_facts}
use Rattle.sky_model.specs.Outcome.{Checked, ◌>>=◌, refused_if, found_or}
use Rattle.sky_model.specs.Printed.{ReplyHasMoments}
use Rattle.sky_model.specs.StepQueue.{newest_id}
use Rattle.sky_model.specs.StepNode.{set_queue, joins, joining, node_does}
use Rattle.sky_model.specs.NodesOfWorld.{WorldOutcome, node_called, provides, are_columns, columns_called, leaf_of}
use Rattle.sky_model.specs.WorkersOfWorld.{call_facts}
use Rattle.sky_world.specs.Views.{StateView}
use Rattle.sky_world.specs.Seen.{seen_state}
use Rattle.sky_world.specs.Whole.{IsWhole}

-- the world shows what it showed, and is whole
pub record Stays {D : Type 0} (seen : D → Database) (old new : StateView D) : Type 0 where
  pub shown : seen_state seen new ≡ seen_state seen old
  pub whole : IsWhole seen new

-- the world is then as after these facts, with the same sessions and databases, and whole
pub record Happened {D : Type 0} (seen : D → Database) (old new : StateView D) (facts : List Fact) : Type 0 where
  pub changed : seen_state seen new ≡ after_facts (seen_state seen old) facts
  pub sessions : new.sessions.names ≡ old.sessions.names
  pub databases : new.databases.names ≡ old.databases.names
  pub whole : IsWhole seen new

-- a statement on nodes did what its definition says, with this answer
pub record Does {D : Type 0} (seen : D → Database) (old new : StateView D) (reply : Reply) (checked : Checked WorldOutcome) : Type 0 where
  pub facts : List Fact
  pub outcome : checked ≡ Ok (record { replies = reply ∷ []; facts = facts })
  pub moments : ReplyHasMoments reply
  pub happened : Happened seen old new facts

-- it is refused, and nothing is changed; or memory ran out
abbrev pub Stopped : {D : Type 0} → (seen : D → Database) → (old new : StateView D) → Stop → Checked WorldOutcome → Type 0
Stopped seen old new (Refused refusal) checked = (checked ≡ Err refusal) × Stays seen old new
Stopped seen old new NoMemory checked = Unit {0}

-- a statement on nodes was run: it does what its definition says, or is refused as it says, and then changes nothing
abbrev pub Ran : {D : Type 0} → (seen : D → Database) → (old new : StateView D) → Result Reply Stop → Checked WorldOutcome → Type 0
Ran seen old new (Ok reply) checked = Does seen old new reply checked
Ran seen old new (Err stop) checked = Stopped seen old new stop checked

-- it did so, with these answers
pub record DoesAll {D : Type 0} (seen : D → Database) (old new : StateView D) (replies : List Reply) (checked : Checked WorldOutcome) : Type 0 where
  pub facts : List Fact
  pub outcome : checked ≡ Ok (record { replies = replies; facts = facts })
  pub moments : All ReplyHasMoments replies
  pub happened : Happened seen old new facts

-- the answer of a statement that has one, as a list
abbrev pub as_list : Result Reply Stop → Result (List Reply) Stop
as_list (Ok reply) = Ok (reply ∷ [])
as_list (Err stop) = Err stop

-- it stopped so, or memory ran out
abbrev pub StopsLike : Result Reply Stop → Stop → Type 0
StopsLike ran (Refused refusal) = ran ≡ Err (Refused refusal)
StopsLike ran NoMemory = Unit {0}

-- the newest tick of the queue of a database's set
abbrev pub set_tick : Database → Option ℕ
set_tick d = option_map (λ queue. newest_id (d.queue queue)) (set_queue d)

-- a consumer joined the queue of a set, at this tick
pub record Joins {D : Type 0} (seen : D → Database) (old new : StateView D) (database tick : ℕ) (consumer : List ℕ) : Type 0 where
  pub newest : set_tick ((seen_state seen old).database database) ≡ Some tick
  pub accepted : is_ok (node_does ((seen_state seen old).database database) (joining consumer)) ≡ true
  pub happened : Happened seen old new (call_facts (seen_state seen old) database (joining consumer))

-- it joined, or didn't, as its definition says, and then nothing is changed
abbrev pub Joined : {D : Type 0} → (seen : D → Database) → (old new : StateView D) → ℕ → Result ℕ Stop → List ℕ → Type 0
Joined seen old new database (Ok tick) consumer = Joins seen old new database tick consumer
Joined seen old new database (Err (Refused refusal)) consumer = (node_does ((seen_state seen old).database database) (joining consumer) ≡ Err refusal) × Stays seen old new
Joined seen old new database (Err NoMemory) consumer = Unit {0}

-- a leaf of a provider of this name, in this database
abbrev pub leaf_from : World → ℕ → (name provider : List ℕ) → (from : ℕ) → Checked WorldOutcome
leaf_from w d name provider from = do
  queue ← found_or (set_queue (w.database from)) (NotProvider provider)
  leaf_of d from name provider (newest_id ((w.database from).queue queue)) (joins (w.database from) queue name)

-- why a table with these columns may not join a leaf: its provider doesn't have it, or with other columns
abbrev pub provided_as : World → List Column → List ℕ → Leaf → Checked (Unit {0})
provided_as w columns table l = do
  p ← found_or (provides table (node_called w l.provider)) (NotInSet table)
  refused_if (not (are_columns columns (columns_called table (w.database p)))) (SchemaDiffers table)
