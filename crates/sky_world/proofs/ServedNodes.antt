-- What the world shows after a statement on nodes.
use Rattle.std.proofs.Common.{All, ◌≡◌, ℕ, ℤ, ◌<◌, List, [], ◌∷◌, ◌++◌, Bool, true, false, ◌==◌, map, length, Option, Some, None, not, is_some, is_ok, option_map, append-nil, Result, Ok, Err, get_or, refl, sym, ◌∙◌, ap, subst, arith, if◌then◌else◌}
use Rattle.std.specs.Result.{IsErrAnd, IfErr, IfOk, OnOk}
use Rattle.std.proofs.lemmas.Bool.Decides.{nat_tests}
use Rattle.sky_val.specs.declared.column.Column.{Column}
use Rattle.std.proofs.lemmas.List.Elements.{All-nil, All-cons, All-head, All-tail, All-from_recursion}
use Rattle.sky_names.specs.Places.{place_of}
use Rattle.sky_names.specs.Named.{with_value}
use Rattle.londiste_state.specs.Nodes.{Leaf, of_leaf, is_among, tables_of}
use Rattle.sky_model.specs.Printed.{HaveMoments, ReplyHasMoments}
use Rattle.sky_model.specs.declared.reply.Reply.{Reply}
use Rattle.sky_model.specs.declared.reply.Reply.TheVariants.{Done}
use Rattle.sky_model.specs.declared.reply.Refusal.{Refusal}
use Rattle.sky_model.specs.declared.reply.Refusal.TheVariants.{AlreadyInSet, NoNode, NoTable, NotInSet, NotProvider, SchemaDiffers}
use Rattle.sky_model.specs.declared.stop.Stop.{Stop}
use Rattle.sky_model.specs.declared.stop.Stop.TheVariants as halt
use Rattle.sky_model.specs.declared.stop.Stop.TheVariants.{NoMemory}
use Rattle.sky_model.specs.History.{Mark, Fact, within, noded, leaf_made, node_made}
use Rattle.sky_model.specs.State.{Database, after_marks}
use Rattle.sky_model.specs.World.{World, after_facts}
use Rattle.sky_model.specs.Outcome.{Outcome, Checked, ◌>>=◌, ◌>>◌, refused_if, found_or, marks_of}
use Rattle.sky_model.specs.Stops.{StopsAs, Refuses}
use Rattle.sky_model.specs.SessionMarks.{Enters, entry_place}
use Rattle.sky_model.specs.StepQueue.{newest_id}
use Rattle.sky_model.specs.StepRows.{table_called}
use Rattle.sky_model.specs.StepNode.{makes_root, set_queue, set_queue_of, joins, adds, NodeCall, joining, making_root, making_leaf, adding, if_there, table_number, may_serve, node_does}
use Rattle.sky_model.specs.NodesOfWorld.{WorldOutcome, Located, node_called, done_in, root_of, leaf_of, provides, are_columns, columns_called, adds_to, add_table}
use Rattle.sky_model.specs.WorkersOfWorld.{call_facts}
use Rattle.sky_model.specs.Calls.{world_does}
use Rattle.sky_histories.proofs.NodeDeeds.{called-there, is-served, may-add}
use Rattle.sky_store.specs.Served.{Serves}
use Rattle.sky_world.specs.Views.{StateView}
use Rattle.sky_world.specs.Seen.{seen_state}
use Rattle.sky_world.specs.Whole.{IsWhole}
use Rattle.sky_world.specs.Adds.{AddsDeed}
use Rattle.sky_world.specs.Nodes.{Stays, Happened, Does, DoesAll, Stopped, Ran, as_list, StopsLike, set_tick, Joins, Joined, leaf_from, provided_as}
use Rattle.sky_world.proofs.Whole.{whole-same, whole-served, whole-with}
use Rattle.sky_world.proofs.Worlds.{after_facts-within, after_facts-append, store-there, store-changed}

-- a table whose columns are found by its name is there
pub columns-found : (d e : Database) (name : List ℕ) (table : ℕ) (columns : List Column) → table_number d name ≡ Some table → columns ≡ d.part.columns table → d ≡ e → Some columns ≡ columns_called name e
columns-found d e name table columns number of_table same = ap Some of_table ∙ sym (ap (option_map d.part.columns) number) ∙ ap (columns_called name) same

module _ {D : Type 0} (seen : D → Database) where
  -- ---- in one database

  -- what is kept at a place shows what the world shows there
  shown-there : (v now : StateView D) (d : ℕ) (old : D) → v ≡ now → d < length v.databases.values → old ≡ get_or v.databases.values d old → seen old ≡ (seen_state seen now).database d
  shown-there v now d old same lt at = sym (store-there seen v d old lt at) ∙ ap (λ w. (seen_state seen w).database d) same

module _ {D : Type 0} {seen : D → Database} where
  -- a call for a node
  pub served-there : (v now : StateView D) (d : ℕ) (old new : D) (call : NodeCall) → v ≡ now → d < length v.databases.values → old ≡ get_or v.databases.values d old → IsWhole seen now
      → Serves (seen old) (seen new) call
      → Happened seen now (record v { databases = with_value v.databases d new }) (call_facts (seen_state seen now) d call)
  served-there v now d old new call same lt at whole serves = record {
    changed = store-changed seen v d old new (marks_of (node_does (seen old) call)) lt at serves.changed
        ∙ ap (λ x. after_facts (seen_state seen v) (map (within d) (marks_of (node_does x call)))) (sym (store-there seen v d old lt at))
        ∙ ap (λ (w : StateView D). after_facts (seen_state seen w) (call_facts (seen_state seen w) d call)) same;
    sessions = ap (λ (w : StateView D). w.sessions.names) same;
    databases = ap (λ (w : StateView D). w.databases.names) same;
    whole = whole-with v now d old new same lt at whole (whole-served (length now.sessions.names) (seen old) (seen new) call serves);
  }

  -- nothing
  pub stays-there : (v now : StateView D) (d : ℕ) (old new : D) → v ≡ now → d < length v.databases.values → old ≡ get_or v.databases.values d old → IsWhole seen now → seen new ≡ seen old
      → Stays seen now (record v { databases = with_value v.databases d new })
  stays-there v now d old new same lt at whole is = record {
    shown = store-changed seen v d old new [] lt at is ∙ ap (seen_state seen) same;
    whole = whole-with v now d old new same lt at whole (whole-same (length now.sessions.names) (seen old) (seen new) is);
  }

  -- a consumer joins
  pub joined-there : (v now : StateView D) (d tick : ℕ) (old new : D) (consumer : List ℕ) → v ≡ now → d < length v.databases.values → old ≡ get_or v.databases.values d old → IsWhole seen now
      → set_tick (seen old) ≡ Some tick → Serves (seen old) (seen new) (joining consumer)
      → Joins seen now (record v { databases = with_value v.databases d new }) d tick consumer
  joined-there v now d tick old new consumer same lt at whole newest serves =
      let there : seen old ≡ (seen_state seen now).database d = shown-there seen v now d old same lt at in record {
        newest = subst (λ x. set_tick x ≡ Some tick) there newest;
        accepted = subst (λ x. is_ok (node_does x (joining consumer)) ≡ true) there serves.accepted;
        happened = served-there v now d old new (joining consumer) same lt at whole serves;
      }

  -- a call is refused
  pub refused-there : (v now : StateView D) (d : ℕ) (old new : D) (call : NodeCall) (refusal : Refusal) → v ≡ now → d < length v.databases.values → old ≡ get_or v.databases.values d old → IsWhole seen now
      → node_does (seen old) call ≡ Err refusal → seen new ≡ seen old
      → (node_does ((seen_state seen now).database d) call ≡ Err refusal) × Stays seen now (record v { databases = with_value v.databases d new })
  refused-there v now d old new call refusal same lt at whole refused is =
      (subst (λ x. node_does x call ≡ Err refusal) (shown-there seen v now d old same lt at) refused, stays-there v now d old new same lt at whole is)

-- what is done in a database with `ok`, or isn't
done-outcome : (d : ℕ) (c : Checked Outcome) → is_ok c ≡ true → done_in d Done c ≡ Ok (record { replies = Done ∷ []; facts = map (within d) (marks_of c) })
done-outcome d (Ok outcome) ok = refl
done-outcome d (Err refusal) ok = absurd (cc)

module _ {D : Type 0} {seen : D → Database} where
  pub done-there : (v now : StateView D) (d : ℕ) (old new : D) (call : NodeCall) → v ≡ now → d < length v.databases.values → old ≡ get_or v.databases.values d old → IsWhole seen now
      → Serves (seen old) (seen new) call
      → Does seen now (record v { databases = with_value v.databases d new }) Done (done_in d Done (node_does ((seen_state seen now).database d) call))
  done-there v now d old new call same lt at whole serves = record {
    facts = call_facts (seen_state seen now) d call;
    outcome = done-outcome d (node_does ((seen_state seen now).database d) call) (subst (λ x. is_ok (node_does x call) ≡ true) (shown-there seen v now d old same lt at) serves.accepted);
    moments = tt;
    happened = served-there v now d old new call same lt at whole serves;
  }

  pub undone-there : (v now : StateView D) (d : ℕ) (old new : D) (call : NodeCall) (refusal : Refusal) → v ≡ now → d < length v.databases.values → old ≡ get_or v.databases.values d old → IsWhole seen now
      → node_does (seen old) call ≡ Err refusal → seen new ≡ seen old
      → (done_in d Done (node_does ((seen_state seen now).database d) call) ≡ Err refusal) × Stays seen now (record v { databases = with_value v.databases d new })
  undone-there v now d old new call refusal same lt at whole refused is =
      let both : (node_does ((seen_state seen now).database d) call ≡ Err refusal) × Stays seen now (record v { databases = with_value v.databases d new })
      = refused-there v now d old new call refusal same lt at whole refused is in (ap (done_in d Done) both.0, both.1)

module _ {D : Type 0} (seen : D → Database) where
  -- what the code gives is this
  pub ran-as : (old new : StateView D) (ran given : Result Reply Stop) (checked : Checked WorldOutcome) → ran ≡ given → Ran seen old new given checked → Ran seen old new ran checked
  ran-as old new ran given checked same is = subst (λ r. Ran seen old new r checked) (sym same) is

module _ {D : Type 0} (seen : D → Database) where
  pub joined-as : (old new : StateView D) (d : ℕ) (joined given : Result ℕ Stop) (consumer : List ℕ) → joined ≡ given → Joined seen old new d given consumer → Joined seen old new d joined consumer
  joined-as old new d joined given consumer same is = subst (λ r. Joined seen old new d r consumer) (sym same) is

-- ---- whether a session may make a statement

pub entered-same : (old new : Database) (who : ℕ) (refusal : Option Refusal) → Enters old.part new.part who (entry_place true) refusal → new ≡ record old { part = new.part } → new ≡ old
entered-same old new who None enters but = but ∙ (λ i. record old { part = enters.1 i })
entered-same old new who (Some refusal) enters but = but ∙ (λ i. record old { part = enters.1 i })

module _ {D : Type 0} {seen : D → Database} where
  pub entered-stays : {E : Type 0} → (v now : StateView D) (d who : ℕ) (old new : D) (result : Result (Option Refusal) E) → v ≡ now → d < length v.databases.values → old ≡ get_or v.databases.values d old → IsWhole seen now
      → IfOk result (λ refusal. Enters (seen old).part (seen new).part who (entry_place true) refusal)
      → seen new ≡ record (seen old) { part = (seen new).part }
      → OnOk result (Stays seen now (record v { databases = with_value v.databases d new }))
  entered-stays v now d who old new (Ok refusal) same lt at whole enters but =
      stays-there v now d old new same lt at whole (entered-same (seen old) (seen new) who refusal enters but)
  entered-stays v now d who old new (Err fault) same lt at whole enters but = tt

-- ---- what a statement answers

-- its answers
known-all : (who count : ℕ) (replies : List Reply) → who < count → All (λ (answer : ℕ × Reply). answer.0 < count) (map (λ reply. (who, reply)) replies)
known-all who count [] lt = All-nil (λ (answer : ℕ × Reply). answer.0 < count)
known-all who count (reply ∷ replies) lt =
    All-cons (λ (answer : ℕ × Reply). answer.0 < count) (who, reply) (map (λ r. (who, r)) replies) lt (known-all who count replies lt)

moments-all : (who : ℕ) (replies : List Reply) → All ReplyHasMoments replies → HaveMoments (map (λ reply. (who, reply)) replies)
moments-all who [] all = All-nil (λ (answer : ℕ × Reply). ReplyHasMoments answer.1)
moments-all who (reply ∷ replies) all =
    All-cons (λ (answer : ℕ × Reply). ReplyHasMoments answer.1) (who, reply) (map (λ r. (who, r)) replies) (All-head ReplyHasMoments reply replies all)
    (moments-all who replies (All-tail ReplyHasMoments reply replies all))

module _ {D : Type 0} {seen : D → Database} where
  pub form-done : (old s : StateView D) (who : ℕ) (replies : List Reply) (checked : Checked WorldOutcome) (before after : List (ℕ × Reply)) → who < length old.sessions.names → DoesAll seen old s replies checked
      → after ≡ before ++ map (λ reply. (who, reply)) replies → AddsDeed seen old s before after (world_does who checked)
  form-done old s who replies checked before after lt does added =
      subst (λ c. AddsDeed seen old s before after (world_does who c)) (sym does.outcome) (record {
        answered = added;
        known = known-all who (length old.sessions.names) replies lt;
        moments = moments-all who replies does.moments;
        changed = does.happened.changed;
        sessions = does.happened.sessions;
        whole = does.happened.whole;
      })

-- no answer is left
pub none-left : (who : ℕ) (before : List (ℕ × Reply)) (left : List Reply) → length left ≡ 0 → before ≡ before ++ map (λ reply. (who, reply)) left
none-left who before [] none = sym (append-nil before)
none-left who before (reply ∷ left) none = absurd (omega (arith, none))

module _ {D : Type 0} {seen : D → Database} where
  -- one answer as a list
  pub does-alone : (old s : StateView D) (ran : Result Reply Stop) (replies : List Reply) (checked : Checked WorldOutcome) → Ran seen old s ran checked → as_list ran ≡ Ok replies → DoesAll seen old s replies checked
  does-alone old s (Err stop) replies checked does is = absurd (cc is)
  does-alone old s (Ok reply) replies checked does is = subst (λ rs. DoesAll seen old s rs checked) (let one : reply ∷ [] ≡ replies = cc is in one) (record {
    facts = does.facts;
    outcome = does.outcome;
    moments = All-from_recursion ReplyHasMoments (reply ∷ []) (does.moments, tt);
    happened = does.happened;
  })

module _ {D : Type 0} (seen : D → Database) where
  -- or why there is none
  pub stops-alone : (old s : StateView D) (ran : Result Reply Stop) (stop : Stop) (checked : Checked WorldOutcome) → Ran seen old s ran checked → StopsLike ran stop → Stopped seen old s stop checked
  stops-alone old s ran NoMemory checked does is = tt
  stops-alone old s ran (halt.Refused refusal) checked does is = subst (λ r. Ran seen old s r checked) is does

module _ {D : Type 0} {seen : D → Database} where
  -- ---- `create_root`

  -- a database without a node gets a root
  pub root-there : (v now new : StateView D) (d : ℕ) (was is : D) (name queue : List ℕ) (moment t : ℤ) → v ≡ now → d < length v.databases.values → was ≡ get_or v.databases.values d was
      → ((seen_state seen now).database d).node ≡ None → IsWhole seen now → t ≡ moment → Serves (seen was) (seen is) (making_root name queue t)
      → Happened seen (record v { databases = with_value v.databases d is }) new (node_made d ∷ []) → Does seen now new Done (root_of d (makes_root ((seen_state seen now).database d) moment name queue))
  root-there v now new d was is name queue moment t same lt at bare whole time serves gets = record {
    facts = map (within d) (marks_of made) ++ node_made d ∷ [];
    outcome = by made (subst (λ c. is_ok c ≡ true) call_is (subst (λ x. is_ok (node_does x call) ≡ true) (shown-there seen v now d was same lt at) serves.accepted));
    moments = tt;
    happened = record {
      changed = gets.changed ∙ ap (λ w. after_facts w (node_made d ∷ [])) served.changed ∙ sym (after_facts-append (seen_state seen now) (map (within d) (marks_of made)) (node_made d ∷ []));
      sessions = gets.sessions ∙ served.sessions;
      databases = gets.databases ∙ served.databases;
      whole = gets.whole;
    };
  }
    where
      call : NodeCall
      call = making_root name queue t

      made : Checked Outcome
      made = makes_root ((seen_state seen now).database d) moment name queue

      call_is : node_does ((seen_state seen now).database d) call ≡ made
      call_is = is-served ((seen_state seen now).database d) call (ap (may_serve call) bare) ∙ ap (λ m. makes_root ((seen_state seen now).database d) m name queue) time

      served : Happened seen now (record v { databases = with_value v.databases d is }) (map (within d) (marks_of made))
      served = subst (λ c. Happened seen now (record v { databases = with_value v.databases d is }) (map (within d) (marks_of c))) call_is (served-there v now d was is call same lt at whole serves)

      by : (c : Checked Outcome) → is_ok c ≡ true → root_of d c ≡ Ok (record { replies = Done ∷ []; facts = map (within d) (marks_of c) ++ node_made d ∷ [] })
      by (Ok outcome) ok = refl
      by (Err refusal) ok = absurd (cc)

  -- or doesn't get it
  pub unrooted-there : (v now : StateView D) (d : ℕ) (was is : D) (name queue : List ℕ) (moment t : ℤ) (refusal : Refusal) → v ≡ now → d < length v.databases.values → was ≡ get_or v.databases.values d was
      → ((seen_state seen now).database d).node ≡ None → IsWhole seen now → t ≡ moment → Refuses (seen was) (seen is) refusal (node_does (seen was) (making_root name queue t))
      → Stopped seen now (record v { databases = with_value v.databases d is }) (halt.Refused refusal) (root_of d (makes_root ((seen_state seen now).database d) moment name queue))
  unrooted-there v now d was is name queue moment t refusal same lt at bare whole time refuses =
      let call : NodeCall = making_root name queue t in (
        ap (root_of d) (sym (ap (λ x. node_does x call) (shown-there seen v now d was same lt at) ∙ is-served ((seen_state seen now).database d) call (ap (may_serve call) bare)
            ∙ ap (λ m. makes_root ((seen_state seen now).database d) m name queue) time) ∙ refuses.refused),
        stays-there v now d was is same lt at whole refuses.same,
      )

  -- ---- `create_leaf`

  -- a database other than the provider's has no node still
  pub free-still : (old s : StateView D) (d from tick : ℕ) (consumer : List ℕ) → ((seen_state seen old).database d).node ≡ None → is_some (set_queue ((seen_state seen old).database from)) ≡ true
      → Joins seen old s from tick consumer → ((seen_state seen s).database d).node ≡ None
  free-still old s d from tick consumer free provider joins =
      ap (λ (w : World). (w.database d).node) (joins.happened.changed ∙ after_facts-within (seen_state seen old) from marks) ∙ by (from == d) refl
    where
      marks : List Mark
      marks = marks_of (node_does ((seen_state seen old).database from) (joining consumer))

      none : (x : Database) → x.node ≡ None → is_some (set_queue x) ≡ false
      none x e = ap (λ n. is_some (set_queue_of x n)) e

      apart : (o : Option ℕ) → is_some o ≡ true → is_some o ≡ false → ⊥
      apart o there gone = cc

      by : (b : Bool) → (from == d) ≡ b → (if b then after_marks ((seen_state seen old).database d) marks else (seen_state seen old).database d).node ≡ None
      by true e =
          let one : from ≡ d = grind (arith, nat_tests) in
          absurd (apart (set_queue ((seen_state seen old).database from)) provider (none ((seen_state seen old).database from) (ap (λ n. ((seen_state seen old).database n).node) one ∙ free)))
      by false e = free

  -- a database without a node gets a leaf
  pub leaf-there : (v now new : StateView D) (d tick : ℕ) (was is : D) (name provider : List ℕ) → v ≡ now → d < length v.databases.values → was ≡ get_or v.databases.values d was
      → ((seen_state seen now).database d).node ≡ None → IsWhole seen now → Serves (seen was) (seen is) (making_leaf name provider tick)
      → Happened seen (record v { databases = with_value v.databases d is }) new (node_made d ∷ []) → Happened seen now new (within d (noded (leaf_made name provider tick)) ∷ node_made d ∷ [])
  leaf-there v now new d tick was is name provider same lt at free whole serves gets = record {
    changed = gets.changed ∙ ap (λ w. after_facts w (node_made d ∷ [])) made.changed;
    sessions = gets.sessions ∙ made.sessions;
    databases = gets.databases ∙ made.databases;
    whole = gets.whole;
  }
    where
      made : Happened seen now (record v { databases = with_value v.databases d is }) (within d (noded (leaf_made name provider tick)) ∷ [])
      made =
          subst (λ c. Happened seen now (record v { databases = with_value v.databases d is }) (map (within d) (marks_of c)))
          (is-served ((seen_state seen now).database d) (making_leaf name provider tick) (ap (may_serve (making_leaf name provider tick)) free))
          (served-there v now d was is (making_leaf name provider tick) same lt at whole serves)

leaf-outcome : (d from tick : ℕ) (name provider : List ℕ) (c : Checked Outcome) → is_ok c ≡ true
    → leaf_of d from name provider tick c ≡ Ok (record { replies = Done ∷ []; facts = map (within from) (marks_of c) ++ within d (noded (leaf_made name provider tick)) ∷ node_made d ∷ [] })
leaf-outcome d from tick name provider (Ok outcome) ok = refl
leaf-outcome d from tick name provider (Err refusal) ok = absurd (cc)

leaf-given : (w : World) (d from tick : ℕ) (name provider : List ℕ) (o : Option ℕ) → option_map (λ q. newest_id ((w.database from).queue q)) o ≡ Some tick
    → is_ok (if_there o (λ q. joins (w.database from) q name)) ≡ true
    → (found_or o (NotProvider provider) >>= (λ q. leaf_of d from name provider (newest_id ((w.database from).queue q)) (joins (w.database from) q name)))
    ≡ Ok (record { replies = Done ∷ []; facts = map (within from) (marks_of (if_there o (λ q. joins (w.database from) q name))) ++ within d (noded (leaf_made name provider tick)) ∷ node_made d ∷ [] })
leaf-given w d from tick name provider None newest ok = absurd (cc)
leaf-given w d from tick name provider (Some q) newest ok =
    let same : newest_id ((w.database from).queue q) ≡ tick = cc in
    ap (λ n. leaf_of d from name provider n (joins (w.database from) q name)) same ∙ leaf-outcome d from tick name provider (joins (w.database from) q name) ok

module _ {D : Type 0} {seen : D → Database} where
  pub leaf-made : (old s new : StateView D) (d from tick : ℕ) (name provider : List ℕ) (checked : Checked WorldOutcome) → checked ≡ leaf_from (seen_state seen old) d name provider from
      → Joins seen old s from tick name → Happened seen s new (within d (noded (leaf_made name provider tick)) ∷ node_made d ∷ []) → Does seen old new Done checked
  leaf-made old s new d from tick name provider checked is joins made = record {
    facts = call_facts (seen_state seen old) from (joining name) ++ rest;
    outcome = is ∙ leaf-given (seen_state seen old) d from tick name provider (set_queue ((seen_state seen old).database from)) joins.newest joins.accepted;
    moments = tt;
    happened = record {
      changed = made.changed ∙ ap (λ w. after_facts w rest) joins.happened.changed ∙ sym (after_facts-append (seen_state seen old) (call_facts (seen_state seen old) from (joining name)) rest);
      sessions = made.sessions ∙ joins.happened.sessions;
      databases = made.databases ∙ joins.happened.databases;
      whole = made.whole;
    };
  }
    where
      rest : List Fact
      rest = within d (noded (leaf_made name provider tick)) ∷ node_made d ∷ []

  -- ---- a check that changes nothing

  -- what stops it stops the statement
  pub stops-then : {A : Type 0} (v : StateView D) (result : Result Reply Stop) (stop : Stop) (check : Checked A) (rest : A → Checked WorldOutcome) (checked : Checked WorldOutcome) → IsWhole seen v → checked ≡ (check >>= rest)
      → IsErrAnd result (λ e. e ≡ stop) → StopsAs stop check → Ran seen v v result checked
  stops-then v (Ok reply) stop check rest checked whole is errs stops = absurd errs
  stops-then v (Err e) stop check rest checked whole is errs stops = subst (λ r. Ran seen v v (Err r) checked) (sym errs) (by stop stops)
    where
      by : (r : Stop) → StopsAs r check → Ran seen v v (Err r) checked
      by NoMemory none = tt
      by (halt.Refused refusal) refused = (is ∙ ap (λ c. c >>= rest) refused, record { shown = refl; whole = whole })

  -- the same of one that answers something else
  pub halts-then : {A B : Type 0} (v : StateView D) (result : Result B Stop) (stop : Stop) (check : Checked A) (rest : A → Checked WorldOutcome) (checked : Checked WorldOutcome) → IsWhole seen v → checked ≡ (check >>= rest)
      → IsErrAnd result (λ e. e ≡ stop) → StopsAs stop check → IfErr result (λ s. Stopped seen v v s checked)
  halts-then v (Ok b) stop check rest checked whole is errs stops = tt
  halts-then v (Err e) stop check rest checked whole is errs stops = stops-then v (Err e) stop check rest checked whole is errs stops

-- ---- `add_table` and `remove_table`

-- the table isn't in the node: it may join
add-goes : (w : World) (name table : List ℕ) (n : Located) → node_called w name ≡ Some n → is_among table (tables_of n.node) ≡ false
    → add_table w name table ≡ (found_or (place_of table (w.database n.database).part.tables) (NoTable table) >>= (λ t. adds_to w n.database t table n.node))
add-goes w name table n there new =
    ap (λ o. found_or o (NoNode name) >>= (λ m. table_called table (w.database m.database).part >>= (λ t. refused_if (is_among table (tables_of m.node)) (AlreadyInSet table) >> adds_to w m.database t table m.node))) there
    ∙ ap (λ b. found_or (place_of table (w.database n.database).part.tables) (NoTable table) >>= (λ t. refused_if b (AlreadyInSet table) >> adds_to w n.database t table n.node)) new

pub add-to_leaf : (w : World) (name table : List ℕ) (d : ℕ) (l : Leaf) (columns : List Column) → node_called w name ≡ Some (record { database = d; node = of_leaf l }) → Some columns ≡ columns_called table (w.database d)
    → is_among table (tables_of (of_leaf l)) ≡ false
    → add_table w name table ≡ (provided_as w columns table l >>= (λ _. done_in d Done (node_does (w.database d) (adding table))))
add-to_leaf w name table d l columns there has new =
    add-goes w name table (record { database = d; node = of_leaf l }) there new
    ∙ by (place_of table (w.database d).part.tables) has (provides table (node_called w l.provider))
    ∙ ap (λ c. provided_as w columns table l >>= (λ _. done_in d Done c))
    (sym (is-served (w.database d) (adding table) (may-add (w.database d).node l table (called-there w name (record { database = d; node = of_leaf l }) there) new)))
  where
    tested : (b : Bool) (c : Checked WorldOutcome) → (refused_if b (SchemaDiffers table) >> c) ≡ (refused_if b (SchemaDiffers table) >>= (λ _. c))
    tested true c = refl
    tested false c = refl

    by : (o : Option ℕ) → Some columns ≡ option_map (w.database d).part.columns o → (p : Option ℕ)
        → (found_or o (NoTable table) >>= (λ t. found_or p (NotInSet table) >>= (λ q. refused_if (not (are_columns ((w.database d).part.columns t) (columns_called table (w.database q)))) (SchemaDiffers table)
        >> done_in d Done (adds (w.database d) t table))))
        ≡ ((found_or p (NotInSet table) >>= (λ q. refused_if (not (are_columns columns (columns_called table (w.database q)))) (SchemaDiffers table)))
        >>= (λ _. done_in d Done (if_there o (λ t. adds (w.database d) t table))))
    by None e p = absurd (cc)
    by (Some t) e None = refl
    by (Some t) e (Some q) =
        let same : (w.database d).part.columns t ≡ columns = cc in
        ap (λ cs. refused_if (not (are_columns cs (columns_called table (w.database q)))) (SchemaDiffers table) >> done_in d Done (adds (w.database d) t table)) same
        ∙ tested (not (are_columns columns (columns_called table (w.database q)))) (done_in d Done (adds (w.database d) t table))

-- a table that has columns has a number
numbered : {A : Type 0} (w : World) (d : ℕ) (table : List ℕ) (next : ℕ → Checked A) (same : Checked A) → is_some (columns_called table (w.database d)) ≡ true → ((t : ℕ) → place_of table (w.database d).part.tables ≡ Some t → next t ≡ same)
    → (found_or (place_of table (w.database d).part.tables) (NoTable table) >>= next) ≡ same
numbered w d table next same has each = by (place_of table (w.database d).part.tables) has each
  where
    by : (o : Option ℕ) → is_some (option_map (w.database d).part.columns o) ≡ true → ((t : ℕ) → o ≡ Some t → next t ≡ same) → (found_or o (NoTable table) >>= next) ≡ same
    by None e goes = absurd (cc)
    by (Some t) e goes = goes t refl
