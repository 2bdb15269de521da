-- The world, as a statement reads it, and how what happens changes it.
use Rattle.std.specs.Prelude.{ℕ, ℤ, pos, List, [], ◌∷◌, ◌++◌, Option, Some, None, ◌==◌, if◌then◌else◌}
use Rattle.sky_model.specs.History.{History, Fact, appeared, founded, entered, left, within, clock_at, daemon_on, daemon_off, node_made, in_hand, batch_in_hand, Past}
use Rattle.sky_model.specs.Hands.{BatchHand, Hand}
use Rattle.sky_model.specs.State.{Database, database_of, changed_at, changed_for, after_mark}

-- the sessions, in the order of appearance: a session's number is its place here
abbrev pub session_names : Past → List (List ℕ)
session_names [] = []
session_names (appeared name ∷ past) = session_names past ++ name ∷ []
session_names (_ ∷ past) = session_names past

-- the databases, in the order of making: a database's number is its place here
abbrev pub database_names : Past → List (List ℕ)
database_names [] = []
database_names (founded name ∷ past) = database_names past ++ name ∷ []
database_names (_ ∷ past) = database_names past

-- the database that a session has open
abbrev pub home : Past → ℕ → Option ℕ
home [] who = None
home (entered w database ∷ past) who = if w == who then Some database else home past who
home (left w ∷ past) who = if w == who then None else home past who
home (_ ∷ past) who = home past who

-- what happened in one database
abbrev pub history_in : Past → ℕ → History
history_in [] database = []
history_in (within d mark ∷ past) database = if d == database then mark ∷ history_in past database else history_in past database
history_in (_ ∷ past) database = history_in past database

-- the moment that the clock is at
abbrev pub clock : Past → ℤ
clock [] = pos 0
clock (clock_at moment ∷ past) = moment
clock (_ ∷ past) = clock past

-- since when the daemon of a database is on
abbrev pub daemon : Past → ℕ → Option ℤ
daemon [] database = None
daemon (daemon_on d ∷ past) database = if d == database then Some (clock past) else daemon past database
daemon (daemon_off d ∷ past) database = if d == database then None else daemon past database
daemon (_ ∷ past) database = daemon past database

-- the databases that have a node, in the order of making
abbrev pub nodes : Past → List ℕ
nodes [] = []
nodes (node_made d ∷ past) = nodes past ++ d ∷ []
nodes (_ ∷ past) = nodes past

-- what the worker that copies a table of a database has in hand
abbrev pub hands : Past → ℕ → List ℕ → Option Hand
hands [] = λ database table. None
hands (in_hand database table hand ∷ past) = changed_at database (changed_for table (λ _. hand)) (hands past)
hands (_ ∷ past) = hands past

-- what the worker of the leaf of a database has in hand
abbrev pub batches : Past → ℕ → Option BatchHand
batches [] = λ database. None
batches (batch_in_hand database batch ∷ past) = changed_at database (λ _. batch) (batches past)
batches (_ ∷ past) = batches past

-- the world, as a statement reads it
pub record World : Type 0 where
  pub now : ℤ
  pub sessions : List (List ℕ)
  pub databases : List (List ℕ)
  pub homes : ℕ → Option ℕ
  pub database : ℕ → Database
  pub daemons : ℕ → Option ℤ
  pub nodes : List ℕ
  pub hands : ℕ → List ℕ → Option Hand
  pub batches : ℕ → Option BatchHand

abbrev pub world_of : Past → World
world_of past = record {
  now = clock past;
  sessions = session_names past;
  databases = database_names past;
  homes = home past;
  database = λ d. database_of (history_in past d);
  daemons = daemon past;
  nodes = nodes past;
  hands = hands past;
  batches = batches past;
}

-- the world after something happened
abbrev pub after_fact : World → Fact → World
after_fact w (appeared name) = record w { sessions = w.sessions ++ name ∷ [] }
after_fact w (founded name) = record w { databases = w.databases ++ name ∷ [] }
after_fact w (entered who d) = record w { homes = changed_at who (λ _. Some d) w.homes }
after_fact w (left who) = record w { homes = changed_at who (λ _. None) w.homes }
after_fact w (within d mark) = record w { database = changed_at d (λ x. after_mark x mark) w.database }
after_fact w (clock_at moment) = record w { now = moment }
after_fact w (daemon_on d) = record w { daemons = changed_at d (λ _. Some w.now) w.daemons }
after_fact w (daemon_off d) = record w { daemons = changed_at d (λ _. None) w.daemons }
after_fact w (node_made d) = record w { nodes = w.nodes ++ d ∷ [] }
after_fact w (in_hand d table hand) = record w { hands = changed_at d (changed_for table (λ _. hand)) w.hands }
after_fact w (batch_in_hand d batch) = record w { batches = changed_at d (λ _. batch) w.batches }

abbrev pub after_facts : World → List Fact → World
after_facts w [] = w
after_facts w (fact ∷ facts) = after_facts (after_fact w fact) facts

-- facts on top of what happened, the first one first
abbrev pub on_top : Past → List Fact → Past
on_top past [] = past
on_top past (fact ∷ facts) = on_top (fact ∷ past) facts
