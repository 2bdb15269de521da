-- What a statement adds that is allowed only outside blocks.
use Rattle.std.proofs.Common.{◌≡◌, ℕ, ◌<◌, List, [], ◌∷◌, ◌++◌, Bool, true, false, Option, Some, None, length, append_assoc, refl, sym, ◌∙◌, ap, subst, All}
use Rattle.std.proofs.lemmas.List.Elements.{All-cons, All-from_recursion}
use Rattle.sky_model.specs.declared.stmt.NodeStmt.{NodeStmt}
use Rattle.sky_model.specs.declared.stmt.WorldStmt.TheVariants.{PgqdOn, PgqdOff}
use Rattle.sky_model.specs.declared.reply.Reply.{Reply}
use Rattle.sky_model.specs.declared.reply.Reply.TheVariants.{Done, Refused}
use Rattle.sky_model.specs.declared.reply.Refusal.{Refusal}
use Rattle.sky_model.specs.History.{Fact, daemon_off}
use Rattle.sky_model.specs.World.{World, after_facts}
use Rattle.sky_model.specs.Printed.{ReplyHasMoments, HaveMoments}
use Rattle.sky_model.specs.Outcome.{Checked, aborts}
use Rattle.sky_model.specs.Reader.{within_database, by_world, Deed, answers_with}
use Rattle.sky_model.specs.Settling.{Turn, with_rest}
use Rattle.sky_model.specs.Clock.{deed_in}
use Rattle.sky_model.specs.WorkersOfWorld.{node_form}
use Rattle.sky_model.specs.Calls.{fails_if, refused_in, if_allowed, if_outside, world_does, node_stmt_does, on_unless, world_stmt_does}
use Rattle.sky_world.specs.Views.{StateView}
use Rattle.sky_world.specs.Seen.{seen_state}
use Rattle.sky_world.specs.Whole.{IsWhole}
use Rattle.sky_world.specs.Adds.{AddsDeed}
use Rattle.sky_world.specs.Nodes.{Stays, Happened}
use Rattle.sky_world.specs.Outside.{IsOutside, Enters}
use Rattle.sky_model.specs.State.{Database}

module _ {D : Type 0} {seen : D → Database} where
  -- ---- deeds

  -- a deed after nothing changed
  pub adds-after : (old s new : StateView D) (deed : World → Deed) (before after : List (ℕ × Reply)) → Stays seen old s → AddsDeed seen s new before after (deed (seen_state seen s)) → AddsDeed seen old new before after (deed (seen_state seen old))
  adds-after old s new deed before after stays adds = record {
    answered = adds.answered ∙ ap (λ w. before ++ (deed w).answers) stays.shown;
    known = subst (λ (w : World). All (λ (answer : ℕ × Reply). answer.0 < length w.sessions) (deed w).answers) stays.shown adds.known;
    moments = subst (λ (w : World). HaveMoments (deed w).answers) stays.shown adds.moments;
    changed = adds.changed ∙ ap (λ w. after_facts w (deed w).facts) stays.shown;
    sessions = adds.sessions ∙ ap (λ (w : World). w.sessions) stays.shown;
    whole = adds.whole;
  }

  -- an answer, with what happened
  pub answers-alone : (old new : StateView D) (who : ℕ) (reply : Reply) (facts : List Fact) (before after : List (ℕ × Reply)) → who < length old.sessions.names → ReplyHasMoments reply
      → seen_state seen new ≡ after_facts (seen_state seen old) facts → new.sessions.names ≡ old.sessions.names → IsWhole seen new → after ≡ before ++ (who, reply) ∷ [] → AddsDeed seen old new before after (answers_with who reply facts)
  answers-alone old new who reply facts before after lt moments changed sessions whole is = record {
    answered = is;
    known = All-from_recursion (λ (answer : ℕ × Reply). answer.0 < length old.sessions.names) ((who, reply) ∷ []) (lt, tt);
    moments = All-from_recursion (λ (answer : ℕ × Reply). ReplyHasMoments answer.1) ((who, reply) ∷ []) (moments, tt);
    changed = changed;
    sessions = sessions;
    whole = whole;
  }

  pub answers-happened : (old new : StateView D) (who : ℕ) (reply : Reply) (facts : List Fact) (before after : List (ℕ × Reply)) → who < length old.sessions.names → ReplyHasMoments reply → Happened seen old new facts
      → after ≡ before ++ (who, reply) ∷ [] → AddsDeed seen old new before after (answers_with who reply facts)
  answers-happened old new who reply facts before after lt moments happened is = answers-alone old new who reply facts before after lt moments happened.changed happened.sessions happened.whole is

-- ---- refusals

-- what a refusal does in a database, by whether it aborts
abbrev refused_as : World → ℕ → ℕ → Refusal → Bool → Deed
refused_as w who d refusal kind = deed_in d [] (with_rest (record { answers = (who, Refused refusal) ∷ []; marks = [] }) (fails_if (within_database by_world d) w w.now who kind))

module _ {D : Type 0} {seen : D → Database} where
  -- one that leaves the session's block
  pub refused-stays : (v : StateView D) (d who : ℕ) (refusal : Refusal) (kind : Bool) (before after : List (ℕ × Reply)) → IsWhole seen v → who < length v.sessions.names
      → kind ≡ aborts refusal → kind ≡ false → after ≡ before ++ (who, Refused refusal) ∷ [] → AddsDeed seen v v before after (refused_in by_world (seen_state seen v) who d refusal)
  refused-stays v d who refusal kind before after whole lt is not_so added =
      subst (λ k. AddsDeed seen v v before after (refused_as (seen_state seen v) who d refusal k)) (sym not_so ∙ is)
      (answers-alone v v who (Refused refusal) [] before after lt tt refl refl whole added)

  -- or aborts it
  pub refused-aborts : (old new : StateView D) (d who : ℕ) (refusal : Refusal) (kind : Bool) (before mid after : List (ℕ × Reply)) → who < length old.sessions.names
      → kind ≡ aborts refusal → kind ≡ true → mid ≡ before ++ (who, Refused refusal) ∷ []
      → AddsDeed seen old new mid after (deed_in d [] (fails_if (within_database by_world d) (seen_state seen old) (seen_state seen old).now who true))
      → AddsDeed seen old new before after (refused_in by_world (seen_state seen old) who d refusal)
  refused-aborts old new d who refusal kind before mid after lt is so added adds =
      subst (λ k. AddsDeed seen old new before after (refused_as (seen_state seen old) who d refusal k)) (sym so ∙ is) (record {
        answered = adds.answered ∙ ap (λ xs. xs ++ rest.answers) added ∙ append_assoc before ((who, Refused refusal) ∷ []) rest.answers;
        known = All-cons (λ (answer : ℕ × Reply). answer.0 < length old.sessions.names) (who, Refused refusal) rest.answers lt adds.known;
        moments = All-cons (λ (answer : ℕ × Reply). ReplyHasMoments answer.1) (who, Refused refusal) rest.answers tt adds.moments;
        changed = adds.changed;
        sessions = adds.sessions;
        whole = adds.whole;
      })
    where
      rest : Turn
      rest = fails_if (within_database by_world d) (seen_state seen old) (seen_state seen old).now who true

-- ---- whether it is refused

-- what it does then, by whether it is allowed
abbrev if_may : World → ℕ → ℕ → Deed → Checked (Unit {0}) → Deed
if_may w who d deed may = if_allowed by_world w who d may deed

module _ {D : Type 0} {seen : D → Database} where
  -- one that may
  pub outside-done : (old s new : StateView D) (who d : ℕ) (deed : World → ℕ → Deed) (before mid after : List (ℕ × Reply)) → IsOutside seen old s who d → mid ≡ before → AddsDeed seen s new mid after (deed (seen_state seen s) d)
      → AddsDeed seen old new before after (if_outside by_world (seen_state seen old) who (deed (seen_state seen old)) ((seen_state seen old).homes who))
  outside-done old s new who d deed before mid after outside same adds =
      subst (λ h. AddsDeed seen old new before after (if_outside by_world (seen_state seen old) who (deed (seen_state seen old)) h)) (sym outside.home)
      (subst (λ m. AddsDeed seen old new before after (if_may (seen_state seen old) who d (deed (seen_state seen old) d) m)) (sym outside.allowed)
      (subst (λ xs. AddsDeed seen old new xs after (deed (seen_state seen old) d)) same (adds-after old s new (λ w. deed w d) mid after outside.stays adds)))

  -- as the code finds it
  pub entered-not : (old new : StateView D) (who : ℕ) (entered : Option ℕ) (deed : ℕ → Deed) (whole : Deed) (before after : List (ℕ × Reply)) → Enters seen old new before after who entered → entered ≡ None
      → if_outside by_world (seen_state seen old) who deed ((seen_state seen old).homes who) ≡ whole → AddsDeed seen old new before after whole
  entered-not old new who entered deed whole before after enters none is = subst (AddsDeed seen old new before after) is (subst (Enters seen old new before after who) none enters deed)

  pub entered-done : (old s new : StateView D) (who d : ℕ) (entered : Option ℕ) (deed : World → ℕ → Deed) (whole : Deed) (before mid after : List (ℕ × Reply)) → Enters seen old s before mid who entered → entered ≡ Some d
      → (who < length s.sessions.names → AddsDeed seen s new mid after (deed (seen_state seen s) d)) → if_outside by_world (seen_state seen old) who (deed (seen_state seen old)) ((seen_state seen old).homes who) ≡ whole → AddsDeed seen old new before after whole
  entered-done old s new who d entered deed whole before mid after enters there adds is =
      let outside : IsOutside seen old s who d × (mid ≡ before) = subst (Enters seen old s before mid who) there enters in
      subst (AddsDeed seen old new before after) is (outside-done old s new who d deed before mid after outside.0 outside.1 (adds outside.0.known))

-- ---- the statements

pub nodes-outside : (w : World) (who : ℕ) (stmt : NodeStmt) (home : Option ℕ) → if_outside by_world w who (λ d. world_does who (node_form w d stmt)) home ≡ node_stmt_does by_world w who stmt home
nodes-outside w who stmt None = refl
nodes-outside w who stmt (Some d) = refl

pub on-outside : (w : World) (who : ℕ) (home : Option ℕ) → if_outside by_world w who (λ d. answers_with who Done (on_unless d (w.daemons d))) home ≡ world_stmt_does by_world w who PgqdOn home
on-outside w who None = refl
on-outside w who (Some d) = refl

pub off-outside : (w : World) (who : ℕ) (home : Option ℕ) → if_outside by_world w who (λ d. answers_with who Done (daemon_off d ∷ [])) home ≡ world_stmt_does by_world w who PgqdOff home
off-outside w who None = refl
off-outside w who (Some d) = refl
