-- What holds of the state of a world as long as memory hasn't run out, after what the code changed in it.
use Rattle.std.proofs.Common.{◌≡◌, ℕ, ℤ, ◌<◌, ◌≤◌, List, [], ◌∷◌, ◌++◌, None, length, get_or, sym, ◌∙◌, ap, subst, arith, All}
use Rattle.std.proofs.lemmas.List.Elements.{All-nil, All-append, All-set, All-get_or, All-from_recursion, All-weaker}
use Rattle.sky_names.specs.Named.{with_value}
use Rattle.sky_keys.specs.Waits.{Waiting}
use Rattle.sky_model.specs.declared.daemon.DaemonPart.{DaemonPart}
use Rattle.sky_model.specs.declared.reply.Reply.{Reply}
use Rattle.sky_model.specs.State.{Database, database_of, after_marks}
use Rattle.sky_model.specs.Reader.{database_by_itself}
use Rattle.sky_model.specs.Settling.{Turn, ready}
use Rattle.sky_model.specs.Daemon.{quietly, daemon_does}
use Rattle.sky_model.specs.StepNode.{NodeCall, node_does}
use Rattle.sky_model.specs.DatabaseCalls.{DatabaseCall, IsDatabaseCallInForm, worked, served}
use Rattle.sky_model.specs.DatabaseSteps.{DatabaseSteps}
use Rattle.sky_histories.proofs.MadeCopies.{made-after}
use Rattle.sky_store.specs.Served.{Serves}
use Rattle.sky_store.specs.Waiters.{WaitersWithin, StaysWithin}
use Rattle.sky_store.proofs.Serving.{serves-steps}
use Rattle.sky_world.specs.Views.{StateView}
use Rattle.sky_world.specs.Whole.{IsWholeIn, AreWhole, IsWhole}
use Rattle.sky_world.proofs.Resting.{waits-served, ready-served, ready-worked}

-- ---- one database

-- one in which nothing has happened
pub whole-new : (sessions : ℕ) (d : Database) → d ≡ database_of [] → IsWholeIn sessions d
whole-new sessions d empty = record {
  waiters = subst (λ (x : Database). WaitersWithin sessions x.part.waiting) (sym empty) (λ k w at. absurd (omega arith));
  rests = ap (λ (x : Database). ready x.part) empty;
  made = record { calls = []; in_form = All-nil IsDatabaseCallInForm; shown = empty };
}

-- one that shows the same
pub whole-same : (sessions : ℕ) (old new : Database) → new ≡ old → IsWholeIn sessions old → IsWholeIn sessions new
whole-same sessions old new same whole = subst (IsWholeIn sessions) (sym same) whole

-- one after a call for a node
pub whole-served : (sessions : ℕ) (old new : Database) (call : NodeCall) → Serves old new call → IsWholeIn sessions old → IsWholeIn sessions new
whole-served sessions old new call serves whole = record {
  waiters = subst (WaitersWithin sessions) (sym (waits-served old new call serves)) whole.waiters;
  rests = ready-served old new call serves ∙ whole.rests;
  made = made-after old new (served call) (quietly (node_does old call)) whole.made tt (serves-steps old new call serves);
}

-- after a part of its daemon's work
pub whole-worked : (sessions : ℕ) (old new : Database) (part : DaemonPart) (now : ℤ) → new ≡ after_marks old (daemon_does database_by_itself old part now).marks → new.part.waiting ≡ old.part.waiting
    → DatabaseSteps old new (worked part now) (daemon_does database_by_itself old part now) → IsWholeIn sessions old → IsWholeIn sessions new
whole-worked sessions old new part now works waiting steps whole = record {
  waiters = subst (WaitersWithin sessions) (sym waiting) whole.waiters;
  rests = ready-worked old new part now works ∙ whole.rests;
  made = made-after old new (worked part now) (daemon_does database_by_itself old part now) whole.made tt steps;
}

-- after a call that answers sessions
pub whole-answered : (sessions who : ℕ) (old new : Database) (replies : List (ℕ × Reply)) (call : DatabaseCall) (turn : Turn) → who < sessions → StaysWithin old new who replies → ready new.part ≡ None → IsDatabaseCallInForm call
    → DatabaseSteps old new call turn → IsWholeIn sessions old → IsWholeIn sessions new
whole-answered sessions who old new replies call turn known stays rests form steps whole = record {
  waiters = stays.waiters sessions known whole.waiters;
  rests = rests;
  made = made-after old new call turn whole.made form steps;
}

-- with more sessions
abbrev WaitsWithin : ℕ → Waiting → Type 0
WaitsWithin count w = w.who < count

more-sessions : (sessions more : ℕ) (d : Database) → sessions ≤ more → IsWholeIn sessions d → IsWholeIn more d
more-sessions sessions more d le whole = record {
  waiters = All-weaker (WaitsWithin sessions) (WaitsWithin more) (λ w lt. omega (arith, lt, le)) d.part.waiting whole.waiters;
  rests = whole.rests;
  made = whole.made;
}

module _ {D : Type 0} (seen : D → Database) where
  -- ---- all of them

  abbrev pub HasWhole : ℕ → D → Type 0
  HasWhole sessions d = IsWholeIn sessions (seen d)

module _ {D : Type 0} {seen : D → Database} where
  pub whole-more : (sessions more : ℕ) (stores : List D) → sessions ≤ more → AreWhole seen sessions stores → AreWhole seen more stores
  whole-more sessions more stores le whole = record { each = All-weaker (HasWhole seen sessions) (HasWhole seen more) (λ d is. more-sessions sessions more (seen d) le is) stores whole.each }

  -- with a new database
  pub whole-founded : (sessions : ℕ) (old longer : List D) (new : D) → longer ≡ old ++ new ∷ [] → seen new ≡ database_of [] → AreWhole seen sessions old → AreWhole seen sessions longer
  whole-founded sessions old longer new is empty whole = record {
    each = subst (All (HasWhole seen sessions)) (sym is)
        (All-append (HasWhole seen sessions) old (new ∷ []) whole.each (All-from_recursion (HasWhole seen sessions) (new ∷ []) (whole-new sessions (seen new) empty, tt)));
  }

  -- the one that is kept at a place
  pub whole-at : (sessions d : ℕ) (stores : List D) (old : D) → d < length stores → old ≡ get_or stores d old → AreWhole seen sessions stores → IsWholeIn sessions (seen old)
  whole-at sessions d stores old lt at whole = subst (HasWhole seen sessions) (sym at) (All-get_or (HasWhole seen sessions) stores d old lt whole.each)

  pub whole-there : (v now : StateView D) (d : ℕ) (old : D) → v ≡ now → d < length v.databases.values → old ≡ get_or v.databases.values d old → IsWhole seen now → IsWholeIn (length now.sessions.names) (seen old)
  whole-there v now d old same lt at whole =
      subst (λ (w : StateView D). IsWholeIn (length w.sessions.names) (seen old)) same
      (whole-at (length v.sessions.names) d v.databases.values old lt at (subst (IsWhole seen) (sym same) whole))

  -- with a database of which it still holds
  pub whole-with : (v now : StateView D) (d : ℕ) (old new : D) → v ≡ now → d < length v.databases.values → old ≡ get_or v.databases.values d old → IsWhole seen now
      → (IsWholeIn (length now.sessions.names) (seen old) → IsWholeIn (length now.sessions.names) (seen new)) → IsWhole seen (record v { databases = with_value v.databases d new })
  whole-with v now d old new same lt at whole keeps = record {
    each = All-set (HasWhole seen (length v.sessions.names)) v.databases.values d new
        (subst (λ (w : StateView D). IsWholeIn (length w.sessions.names) (seen new)) (sym same) (keeps (whole-there v now d old same lt at whole)))
        (subst (IsWhole seen) (sym same) whole).each;
  }

  -- after a call that answers sessions
  pub whole-called : (v now : StateView D) (d who : ℕ) (old new : D) (replies : List (ℕ × Reply)) (call : DatabaseCall) (turn : Turn) → v ≡ now → d < length v.databases.values → old ≡ get_or v.databases.values d old → IsWhole seen now
      → who < length now.sessions.names → StaysWithin (seen old) (seen new) who replies → ready (seen new).part ≡ None → IsDatabaseCallInForm call → DatabaseSteps (seen old) (seen new) call turn
      → IsWhole seen (record v { databases = with_value v.databases d new })
  whole-called v now d who old new replies call turn same lt at whole known stays rests form steps =
      whole-with v now d old new same lt at whole (whole-answered (length now.sessions.names) who (seen old) (seen new) replies call turn known stays rests form steps)

  -- each of them is known
  pub known-there : (v now : StateView D) (d who : ℕ) (old new : D) (replies : List (ℕ × Reply)) → v ≡ now → d < length v.databases.values → old ≡ get_or v.databases.values d old → IsWhole seen now → who < length now.sessions.names
      → StaysWithin (seen old) (seen new) who replies → All (λ (answer : ℕ × Reply). answer.0 < length now.sessions.names) replies
  known-there v now d who old new replies same lt at whole known stays = stays.answers (length now.sessions.names) known (whole-there v now d old same lt at whole).waiters
