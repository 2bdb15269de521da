-- What the world shows after the code switched a daemon on or off, or did a part of its work.
use Rattle.std.proofs.Common.{◌≡◌, ℕ, ◌<◌, List, [], ◌∷◌, Bool, true, false, Option, Some, None, is_some, map, length, append-nil, get_or, refl, sym, ◌∙◌, ap, subst, cond, nat_cmp, if◌then◌else◌, ℤ}
use Rattle.std.specs.BTreeMap.{is_at}
use Rattle.std.specs.Map.{lookup}
use Rattle.sky_names.specs.Named.{with_value}
use Rattle.sky_model.specs.declared.daemon.DaemonPart.{DaemonPart}
use Rattle.sky_model.specs.declared.daemon.DaemonPart.TheVariants.{Tick, Retry, Maintain}
use Rattle.sky_model.specs.History.{within, daemon_on, daemon_off}
use Rattle.sky_model.specs.State.{Database, changed_at, after_mark, after_marks}
use Rattle.sky_model.specs.World.{World, after_fact, after_facts}
use Rattle.sky_model.specs.Reader.{database_by_itself, within_database, by_world, Deed, idles, followed}
use Rattle.sky_model.specs.Settling.{Turn}
use Rattle.sky_model.specs.Daemon.{daemon_does, is_due_at}
use Rattle.sky_model.specs.Clock.{deed_in, part_works, daemon_works}
use Rattle.sky_model.specs.Calls.{on_unless}
use Rattle.sky_histories.proofs.Good.{same-session}
use Rattle.sky_histories.proofs.DaemonTurns.{same-daemon_does}
use Rattle.sky_world.specs.Views.{StateView}
use Rattle.sky_world.specs.Seen.{seen_state}
use Rattle.sky_world.specs.Whole.{IsWhole}
use Rattle.sky_world.specs.Works.{Works}
use Rattle.sky_world.specs.Nodes.{Happened}
use Rattle.sky_world.proofs.Worlds.{after_facts-append, entries-updated, store-there, store-changed}

module _ {D : Type 0} {seen : D → Database} where
  -- ---- the daemons that are on

  -- one is on, from now on
  pub daemon-started : (v now : StateView D) (entries : List (ℕ × ℤ)) (d : ℕ) (t : ℤ) (there : Bool) → v ≡ now → IsWhole seen now
      → ((q : ℕ) → lookup (is_at (nat_cmp q)) entries ≡ cond (is_at (nat_cmp d) q) (Some t) (lookup (is_at (nat_cmp q)) v.daemons)) → t ≡ v.now
      → there ≡ is_some ((seen_state seen v).daemons d) → there ≡ false → Happened seen now (record v { daemons = entries }) (on_unless d ((seen_state seen now).daemons d))
  daemon-started v now entries d t there same whole updates is at none = subst (λ (w : StateView D). Happened seen w (record v { daemons = entries }) (on_unless d ((seen_state seen w).daemons d))) same (record {
    changed = (λ i. record (seen_state seen v) { daemons = entries-updated v.daemons entries d (Some t) updates i })
        ∙ ap (λ x. record (seen_state seen v) { daemons = changed_at d (λ _. Some x) (seen_state seen v).daemons }) is
        ∙ off ((seen_state seen v).daemons d) (sym at ∙ none);
    sessions = refl;
    databases = refl;
    whole = subst (IsWhole seen) (sym same) whole;
  })
    where
      off : (o : Option ℤ) → is_some o ≡ false → after_fact (seen_state seen v) (daemon_on d) ≡ after_facts (seen_state seen v) (on_unless d o)
      off None e = refl
      off (Some start) e = absurd (cc)

  -- one that is on stays so
  pub daemon-still-on : (v now : StateView D) (d : ℕ) (there : Bool) → v ≡ now → IsWhole seen now → there ≡ is_some ((seen_state seen v).daemons d) → there ≡ true → Happened seen now now (on_unless d ((seen_state seen now).daemons d))
  daemon-still-on v now d there same whole at some = by ((seen_state seen now).daemons d) (sym (at ∙ ap (λ (w : StateView D). is_some ((seen_state seen w).daemons d)) same) ∙ some)
    where
      by : (o : Option ℤ) → is_some o ≡ true → Happened seen now now (on_unless d o)
      by None e = absurd (cc)
      by (Some start) e = record { changed = refl; sessions = refl; databases = refl; whole = whole }

  -- one is off
  pub daemon-stopped : (v now : StateView D) (entries : List (ℕ × ℤ)) (d : ℕ) → v ≡ now → IsWhole seen now
      → ((q : ℕ) → lookup (is_at (nat_cmp q)) entries ≡ cond (is_at (nat_cmp d) q) None (lookup (is_at (nat_cmp q)) v.daemons))
      → Happened seen now (record v { daemons = entries }) (daemon_off d ∷ [])
  daemon-stopped v now entries d same whole updates = record {
    changed = (λ i. record (seen_state seen v) { daemons = entries-updated v.daemons entries d None updates i }) ∙ ap (λ (w : StateView D). after_fact (seen_state seen w) (daemon_off d)) same;
    sessions = ap (λ (w : StateView D). w.sessions.names) same;
    databases = ap (λ (w : StateView D). w.databases.names) same;
    whole = subst (IsWhole seen) (sym same) whole;
  }

  -- ---- the work of daemons

  -- a part that isn't due
  pub works-idle : (v : StateView D) (d : ℕ) (part : DaemonPart) → IsWhole seen v → is_due_at v.now part ((seen_state seen v).daemons d) ≡ false → Works seen v v (part_works by_world d part (seen_state seen v))
  works-idle v d part whole other =
      subst (Works seen v v) (ap (λ b. if b then deed_in d [] (daemon_does (within_database by_world d) (seen_state seen v) part v.now) else idles) (sym other))
      (record { changed = refl; now = refl; sessions = refl; databases = refl; whole = whole })

module _ {D : Type 0} (seen : D → Database) where
  pub not-due : (v now : StateView D) (d : ℕ) (part : DaemonPart) (start clock begun : ℤ) (due : Bool) → v ≡ now → clock ≡ v.now → begun ≡ start → (seen_state seen now).daemons d ≡ Some start
      → due ≡ is_due_at clock part (Some begun) → due ≡ false → is_due_at now.now part ((seen_state seen now).daemons d) ≡ false
  not-due v now d part start clock begun due same at from started is not_so =
      ap (is_due_at now.now part) (started ∙ ap Some (sym from))
      ∙ ap (λ (w : StateView D). is_due_at w.now part (Some begun)) (sym same)
      ∙ ap (λ t. is_due_at t part (Some begun)) (sym at)
      ∙ sym is
      ∙ not_so

-- within the world the daemon of a database does what it does in the database
pub daemon-within : (w : World) (d : ℕ) (part : DaemonPart) (now : ℤ) → daemon_does (within_database by_world d) w part now ≡ daemon_does database_by_itself (w.database d) part now
daemon-within w d part now =
    same-daemon_does (within_database by_world d) database_by_itself (λ (v : World). v.database d) (λ v. refl)
    (λ v mark. ap (λ b. if b then after_mark (v.database d) mark else v.database d) (same-session d)) w part now

module _ {D : Type 0} {seen : D → Database} where
  -- a part that is due
  pub works-part : (v now : StateView D) (d : ℕ) (part : DaemonPart) (old new : D) (t : ℤ) → v ≡ now → d < length v.databases.values → old ≡ get_or v.databases.values d old → t ≡ v.now
      → is_due_at now.now part ((seen_state seen now).daemons d) ≡ true
      → seen new ≡ after_marks (seen old) (daemon_does database_by_itself (seen old) part t).marks → IsWhole seen (record v { databases = with_value v.databases d new })
      → Works seen now (record v { databases = with_value v.databases d new }) (part_works by_world d part (seen_state seen now))
  works-part v now d part old new t same lt at is due works whole =
      subst (Works seen now (record v { databases = with_value v.databases d new })) (ap (λ b. if b then deed_in d [] turned else idles) (sym due)) (record {
        changed = store-changed seen v d old new done.marks lt at works
            ∙ ap (λ (u : Turn). after_facts (seen_state seen v) (map (within d) u.marks)) turn_is
            ∙ ap (λ w. after_facts (seen_state seen w) (map (within d) turned.marks)) same
            ∙ ap (λ facts. after_facts (seen_state seen now) facts) (sym (append-nil (map (within d) turned.marks)));
        now = ap (λ (w : StateView D). w.now) same;
        sessions = ap (λ (w : StateView D). w.sessions.names) same;
        databases = ap (λ (w : StateView D). w.databases.names) same;
        whole = whole;
      })
    where
      turned : Turn
      turned = daemon_does (within_database by_world d) (seen_state seen now) part now.now

      done : Turn
      done = daemon_does database_by_itself (seen old) part t

      turn_is : done ≡ turned
      turn_is =
          ap (λ x. daemon_does database_by_itself (seen old) part x) is
          ∙ ap (λ x. daemon_does database_by_itself x part v.now) (sym (store-there seen v d old lt at))
          ∙ ap (λ (w : StateView D). daemon_does database_by_itself ((seen_state seen w).database d) part w.now) same
          ∙ sym (daemon-within (seen_state seen now) d part now.now)

  -- one after another
  pub works-then : (old s new : StateView D) (first : Deed) (rest : World → Deed) → Works seen old s first → Works seen s new (rest (seen_state seen s)) → Works seen old new (followed by_world (seen_state seen old) rest first)
  works-then old s new first rest one two = record {
    changed = two.changed
        ∙ ap (λ w. after_facts w (rest w).facts) one.changed
        ∙ sym (after_facts-append (seen_state seen old) first.facts (rest (after_facts (seen_state seen old) first.facts)).facts);
    now = two.now ∙ one.now;
    sessions = two.sessions ∙ one.sessions;
    databases = two.databases ∙ one.databases;
    whole = two.whole;
  }

  pub works-all : (old ticked retried new : StateView D) (d : ℕ) → Works seen old ticked (part_works by_world d Tick (seen_state seen old)) → Works seen ticked retried (part_works by_world d Retry (seen_state seen ticked))
      → Works seen retried new (part_works by_world d Maintain (seen_state seen retried)) → Works seen old new (daemon_works by_world d (seen_state seen old))
  works-all old ticked retried new d ticks retries maintains =
      works-then old ticked new (part_works by_world d Tick (seen_state seen old)) (λ q. followed by_world q (part_works by_world d Maintain) (part_works by_world d Retry q)) ticks
      (works-then ticked retried new (part_works by_world d Retry (seen_state seen ticked)) (part_works by_world d Maintain) retries maintains)
