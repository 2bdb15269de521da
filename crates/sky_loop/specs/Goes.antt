-- How far a run has got, as the code keeps it.
use Rattle.std.specs.Prelude.{◌≡◌, ℕ, ◌+◌, ◌≤◌, List, [], Option, None}
use Rattle.sky_model.specs.State.{Database}
use Rattle.sky_model.specs.World.{world_of}
use Rattle.sky_world.specs.Seen.{seen_world}
use Rattle.sky_loop.specs.declared.run.Run.{Run}
use Rattle.sky_loop.specs.Running.{GoesOn}

-- the run has got so far
abbrev pub Goes : {D : Type 0} → (D → Database) → Run D → (source first held : Option (List ℕ)) → List ℕ → Type 0
Goes seen run source first held bytes = GoesOn (seen_world seen run.world) run.number run.reader.taken run.reader.pending run.gathered.items source first held bytes

-- no line was taken
pub record IsFresh {D : Type 0} (seen : D → Database) (run : Run D) : Type 0 where
  pub world_is : seen_world seen run.world ≡ world_of []
  pub reader_is : run.reader ≡ record { pending = []; line = []; taken = 0; fault = None }
  pub gathered_is : run.gathered.items ≡ []
  pub number_is : run.number ≡ 1

-- each line that was taken has one byte or more, and the reader gave no fault
pub record Counts {D : Type 0} (run : Run D) : Type 0 where
  pub number_fits : run.number ≤ run.reader.taken + 1
  pub sound : run.reader.fault ≡ None

-- all but what is gathered is unchanged
pub record SameButGathered {D : Type 0} (old new : Run D) : Type 0 where
  pub world_is : new.world ≡ old.world
  pub reader_is : new.reader ≡ old.reader
  pub number_is : new.number ≡ old.number
