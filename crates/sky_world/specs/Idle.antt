-- How the clock passes over moments at which no daemon changes anything.
use Rattle.std.specs.Prelude.{◌≡◌, ℕ, ◌<◌, ℤ, pos, ◌+ℤ◌, ◌≤ℤ◌, ◌<ℤ◌, length, IfSome}
use Rattle.sky_model.specs.Moment.{last_moment}
use Rattle.sky_model.specs.World.{World}
use Rattle.sky_store.specs.Idle.{IsIdleUntil}
use Rattle.sky_model.specs.State.{Database}
use Rattle.sky_world.specs.Views.{StateView}
use Rattle.sky_world.specs.Seen.{seen_state}

-- no daemon that is on changes anything in its database at a moment, or at one before it
abbrev pub AreIdle : ℤ → World → Type 0
AreIdle moment w = (d : ℕ) → d < length w.databases → IfSome (w.daemons d) (λ start. IsIdleUntil moment (w.database d))

-- a time by which moving the clock on is tried: at most twice its last moment, since one by which it was moved is doubled at most
abbrev pub IsLeap : ℤ → Type 0
IsLeap leap = (pos 0 <ℤ leap) × (leap ≤ℤ (last_moment +ℤ last_moment))

-- one that is a second at least
abbrev pub IsReach : ℤ → Type 0
IsReach leap = (pos 1_000_000 ≤ℤ leap) × (leap ≤ℤ (last_moment +ℤ last_moment))

-- only the clock is moved on, not beyond a moment, and no daemon changes anything on the way
pub record Skips {D : Type 0} (seen : D → Database) (old new : StateView D) (last : ℤ) : Type 0 where
  pub only : new ≡ record old { now = new.now }
  pub later : old.now ≤ℤ new.now
  pub most : new.now ≤ℤ last
  pub idle : (moment : ℤ) → old.now <ℤ moment → moment ≤ℤ new.now → AreIdle moment (seen_state seen old)
