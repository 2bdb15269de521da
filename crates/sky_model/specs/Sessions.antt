-- The sessions that have a database open, their transaction blocks, and the places at which they read.
use Rattle.std.specs.Prelude.{ℕ, Bool, true, false, [], ◌∷◌, Option, Some, None, ◌==◌, if◌then◌else◌}
use Rattle.sky_txid.specs.Snapshot.{SnapshotView}
use Rattle.sky_model.specs.History.{of_session, began, ended, block_begun, repeats, sight_taken, block_failed, block_ended, connected, disconnected, History}
use Rattle.sky_model.specs.Transactions.{snapshot}

-- whether a session has the database open
abbrev pub has_open : ℕ → History → Bool
has_open who [] = false
has_open who (connected w ∷ h) = if w == who then true else has_open who h
has_open who (disconnected w ∷ h) = if w == who then false else has_open who h
has_open who (_ ∷ h) = has_open who h

-- a session's transaction block: it is in none, in one, or in one that a refusal has aborted
pub data Block : Type 0 where
  outside : Block
  inside : Block
  failed : Block

abbrev pub is_outside : Block → Bool
is_outside outside = true
is_outside _ = false

abbrev pub block : ℕ → History → Block
block who [] = outside
block who (block_begun w ∷ h) = if w == who then inside else block who h
block who (block_failed w ∷ h) = if w == who then failed else block who h
block who (block_ended w ∷ h) = if w == who then outside else block who h
block who (_ ∷ h) = block who h

-- the id of a session's running transaction, if it has one
abbrev pub own_txid : ℕ → History → Option ℕ
own_txid who [] = None
own_txid who (began (of_session w) t ∷ h) = if w == who then Some t else own_txid who h
own_txid who (ended (of_session w) t committed ∷ h) = if w == who then None else own_txid who h
own_txid who (_ ∷ h) = own_txid who h

-- where a session's statements read: each at its own place; all at that of the first one, which is still to come; or at this one
pub data Sight (P : Type 0) : Type 0 where
  at_each : Sight P
  at_first : Sight P
  at_place : P → Sight P

-- a repeatable read block reads the history as it was at its first statement
abbrev pub sight : ℕ → History → Sight History
sight who [] = at_each
sight who (repeats w ∷ h) = if w == who then at_first else sight who h
sight who (sight_taken w ∷ h) = if w == who then at_place h else sight who h
sight who (block_failed w ∷ h) = if w == who then at_each else sight who h
sight who (block_ended w ∷ h) = if w == who then at_each else sight who h
sight who (_ ∷ h) = sight who h

-- a sight, as what `f` gives of its place
abbrev pub sight_by : {P Q : Type 0} → (P → Q) → Sight P → Sight Q
sight_by f at_each = at_each
sight_by f at_first = at_first
sight_by f (at_place p) = at_place (f p)

-- the place of a statement's sight, which may be its own
abbrev pub place_of_sight : {P : Type 0} → P → Sight P → P
place_of_sight own (at_place p) = p
place_of_sight own _ = own

-- a session: its sight is given by the snapshot there
pub record Session : Type 0 where
  pub is_open : Bool
  pub block : Block
  pub txid : Option ℕ
  pub sight : Sight SnapshotView

abbrev pub session : History → ℕ → Session
session h who = record { is_open = has_open who h; block = block who h; txid = own_txid who h; sight = sight_by snapshot (sight who h) }
