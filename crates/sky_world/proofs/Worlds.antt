-- What the world shows after what the code changed in it.
use Rattle.std.proofs.Common.{◌≡◌, ℕ, suc, zero, ◌<◌, ◌≤◌, List, [], ◌∷◌, ◌++◌, Bool, true, false, ◌==◌, nat_le, Option, Some, None, map, length, append-nil, get_or, slice_set, get_or-set_same, get_or-set_other, ◌≢◌, refl, sym, ◌∙◌, ap, subst, arith, All, cond, nat_cmp, if◌then◌else◌, IfSome, ℤ, pos}
use Rattle.std.specs.BTreeMap.{is_at}
use Rattle.std.specs.Map.{lookup}
use Rattle.std.proofs.lemmas.List.Elements.{All-append, All-set, All-get_or, All-from_recursion, All-weaker}
use Rattle.std.proofs.lemmas.Bool.Decides.{nat_tests}
use Rattle.std.proofs.lemmas.List.{get_or_past, map-append, map-set, get_or-map, length-map}
use Rattle.sky_names.specs.Places.{place_of}
use Rattle.sky_names.specs.Named.{NamedView, with_value}
use Rattle.sky_keys.specs.Waits.{is_waiting}
use Rattle.sky_model.specs.declared.stmt.DbStmt.{DbStmt}
use Rattle.sky_model.specs.declared.reply.Refusal.TheVariants.{TooMany}
use Rattle.sky_model.specs.declared.reply.Limit.TheVariants.{Sessions, Databases}
use Rattle.sky_model.specs.declared.reply.Reply.{Reply}
use Rattle.sky_model.specs.Hands.{BatchHand}
use Rattle.sky_model.specs.History.{Mark, Fact, appeared, founded, left, within}
use Rattle.sky_model.specs.State.{Database, database_of, changed_at, after_mark, after_marks}
use Rattle.sky_model.specs.World.{World, world_of, after_fact, after_facts}
use Rattle.sky_model.specs.Printed.{HaveMoments}
use Rattle.sky_model.specs.Reader.{database_by_itself, within_database, by_world, Deed, refuses, appears, founds, deed_with, followed}
use Rattle.sky_model.specs.Settling.{Turn}
use Rattle.sky_model.specs.Clock.{deed_in}
use Rattle.sky_model.specs.Calls.{Call, database_turn, is_leaving, left_if, db_stmt_does, fails_if, opens_in, opens, turn, called}
use Rattle.sky_model.specs.Steps.{Steps, deed_at}
use Rattle.sky_histories.proofs.Standing.{steps_from_exact}
use Rattle.sky_histories.proofs.RowStanding.{turn-within, fails-within}
use Rattle.sky_store.specs.Gives.{Adds}
use Rattle.sky_databases.specs.Hands.{HandAt}
use Rattle.sky_world.specs.Views.{StateView}
use Rattle.sky_world.specs.Seen.{seen_state, no_database}
use Rattle.sky_world.specs.Homes.{HomesWithin, NodesWithin}
use Rattle.sky_world.specs.Whole.{IsWhole}
use Rattle.sky_world.specs.Adds.{AddsDeed, AddsCall}

-- marks in a database change that database alone
pub after_facts-within : (w : World) (d : ℕ) (marks : List Mark) → after_facts w (map (within d) marks) ≡ record w { database = changed_at d (λ x. after_marks x marks) w.database }
after_facts-within w d [] = λ i. record w { database = λ n. by (d == n) (w.database n) i }
  where
    by : (b : Bool) (x : Database) → x ≡ (if b then x else x)
    by true x = refl
    by false x = refl
after_facts-within w d (mark ∷ marks) =
    after_facts-within (after_fact w (within d mark)) d marks
    ∙ (λ i. record w { database = λ n. by (d == n) (w.database n) i })
  where
    by : (b : Bool) (x : Database) → (if b then after_marks (if b then after_mark x mark else x) marks else (if b then after_mark x mark else x)) ≡ (if b then after_marks (after_mark x mark) marks else x)
    by true x = refl
    by false x = refl

-- ---- the databases that sessions have open

abbrev IsHome : ℕ → Option ℕ → Type 0
IsHome count home = IfSome home (λ d. d < count)

-- another session has none open
pub homes-push : (count : ℕ) (homes longer : List (Option ℕ)) → longer ≡ homes ++ None ∷ [] → HomesWithin count homes → HomesWithin count longer
homes-push count homes longer is all = subst (All (IsHome count)) (sym is) (All-append (IsHome count) homes (None ∷ []) all (All-from_recursion (IsHome count) (None ∷ []) (tt, tt)))

-- with more databases
pub homes-more : (count more : ℕ) (homes : List (Option ℕ)) → count ≤ more → HomesWithin count homes → HomesWithin more homes
homes-more count more homes le all = All-weaker (IsHome count) (IsHome more) weaker homes all
  where
    weaker : (home : Option ℕ) → IsHome count home → IsHome more home
    weaker None lt = tt
    weaker (Some d) lt = omega (arith, lt, le)

-- the same of the databases that have a node
pub nodes-more : (count more : ℕ) (nodes : List ℕ) → count ≤ more → NodesWithin count nodes → NodesWithin more nodes
nodes-more count more nodes le all = All-weaker (λ d. d < count) (λ d. d < more) (λ d lt. omega (arith, lt, le)) nodes all

module _ {D : Type 0} where
  -- a session opens one of them, or none
  pub homes-set : (v now : StateView D) (who : ℕ) (home : Option ℕ) → v ≡ now → HomesWithin (length v.databases.names) v.sessions.values → IfSome home (λ d. d < length now.databases.names)
      → HomesWithin (length v.databases.names) (slice_set v.sessions.values who home)
  homes-set v now who home same all is =
      All-set (IsHome (length v.databases.names)) v.sessions.values who home (subst (λ (w : StateView D). IsHome (length w.databases.names) home) (sym same) is) all

  -- what the world keeps of a session
  pub homes-at : (v now : StateView D) (who : ℕ) (home : Option ℕ) → v ≡ now → HomesWithin (length v.databases.names) v.sessions.values → who < length v.sessions.values → home ≡ get_or v.sessions.values who home
      → IfSome home (λ d. d < length now.databases.names)
  homes-at v now who home same all lt is =
      subst (λ (w : StateView D). IsHome (length w.databases.names) home) same
      (subst (IsHome (length v.databases.names)) (sym is) (All-get_or (IsHome (length v.databases.names)) v.sessions.values who home lt all))

-- ---- what is shown

none-there : {A : Type 0} (n : ℕ) (d : A) → get_or [] n d ≡ d
none-there n d = get_or_past [] n d (omega arith)

module _ {D : Type 0} (seen : D → Database) where
  pub world-new : (sessions : NamedView (Option ℕ)) (databases : NamedView D) (daemons : List (ℕ × ℤ)) (nodes : List ℕ) (hands : List HandAt) (batches : List (ℕ × BatchHand)) → sessions ≡ record { names = []; values = [] } → databases ≡ record { names = []; values = [] }
      → daemons ≡ [] → nodes ≡ [] → hands ≡ [] → batches ≡ []
      → seen_state seen (record { now = pos 0; sessions = sessions; databases = databases; daemons = daemons; nodes = nodes; hands = hands; batches = batches }) ≡ world_of []
  world-new sessions databases daemons nodes hands batches nobody nothing none no_node no_hand no_batch =
      (λ i. seen_state seen (record { now = pos 0; sessions = nobody i; databases = nothing i; daemons = none i; nodes = no_node i; hands = no_hand i; batches = no_batch i }))
      ∙ (λ i. record (world_of []) { homes = λ who. none-there who None i; database = λ d. none-there d no_database i })

-- appending an entry that is read as those past the end changes nothing that is shown
read-push : {A : Type 0} (xs : List A) (x d : A) (n : ℕ) → x ≡ d → get_or (xs ++ x ∷ []) n d ≡ get_or xs n d
read-push [] x d zero same = same
read-push [] x d (suc n) same = refl
read-push (y ∷ xs) x d zero same = refl
read-push (y ∷ xs) x d (suc n) same = read-push xs x d n same

pub get_or-changed : {A : Type 0} (xs : List A) (i n : ℕ) (x d : A) → i < length xs → get_or (slice_set xs i x) n d ≡ (if i == n then x else get_or xs n d)
get_or-changed xs i n x d lt = by (i == n) refl
  where
    by : (b : Bool) → (i == n) ≡ b → get_or (slice_set xs i x) n d ≡ (if b then x else get_or xs n d)
    by true e = let same : i ≡ n = grind (arith, nat_tests) in ap (λ m. get_or (slice_set xs i x) m d) (sym same) ∙ get_or-set_same xs i x d lt
    by false e = let other : n ≢ i = grind (arith, nat_tests) in get_or-set_other xs i n x d other

-- the test on an entry's key is equality
is_at-nat : (k n : ℕ) → is_at (nat_cmp k) n ≡ (k == n)
is_at-nat k n = grind (arith, nat_tests)

-- an entry that changed
pub entries-updated : {A : Type 0} (old new : List (ℕ × A)) (d : ℕ) (o : Option A) → ((q : ℕ) → lookup (is_at (nat_cmp q)) new ≡ cond (is_at (nat_cmp d) q) o (lookup (is_at (nat_cmp q)) old))
    → (λ n. lookup (is_at (nat_cmp n)) new) ≡ changed_at d (λ _. o) (λ n. lookup (is_at (nat_cmp n)) old)
entries-updated old new d o updates = λ i n. pointwise n i
  where
    by : (n : ℕ) (b : Bool) → cond b o (lookup (is_at (nat_cmp n)) old) ≡ (if b then o else lookup (is_at (nat_cmp n)) old)
    by n true = refl
    by n false = refl

    pointwise : (n : ℕ) → lookup (is_at (nat_cmp n)) new ≡ (if d == n then o else lookup (is_at (nat_cmp n)) old)
    pointwise n = updates n ∙ ap (λ b. cond b o (lookup (is_at (nat_cmp n)) old)) (is_at-nat d n) ∙ by n (d == n)

module _ {D : Type 0} (seen : D → Database) where
  -- a session that opened a database, or left it
  pub home-as : (v now : StateView D) (who : ℕ) (home : Option ℕ) → v ≡ now → who < length v.sessions.values
      → seen_state seen (record v { sessions = with_value v.sessions who home }) ≡ record (seen_state seen now) { homes = changed_at who (λ _. home) (seen_state seen now).homes }
  home-as v now who home same lt =
      (λ i. record (seen_state seen v) { homes = λ n. get_or-changed v.sessions.values who n home None lt i })
      ∙ ap (λ w. record (seen_state seen w) { homes = changed_at who (λ _. home) (seen_state seen w).homes }) same

module _ {D : Type 0} (seen : D → Database) where
  -- a session that appeared has none open
  pub appeared-as : (v now : StateView D) (sessions : NamedView (Option ℕ)) (name copied : List ℕ) → v ≡ now → sessions ≡ record { names = v.sessions.names ++ copied ∷ []; values = v.sessions.values ++ None ∷ [] } → copied ≡ name
      → seen_state seen (record v { sessions = sessions }) ≡ after_fact (seen_state seen now) (appeared name)
  appeared-as v now sessions name copied same more is =
      (λ i. seen_state seen (record v { sessions = more i }))
      ∙ (λ i. record (seen_state seen v) { sessions = v.sessions.names ++ is i ∷ []; homes = λ n. read-push v.sessions.values None None n refl i })
      ∙ ap (λ w. after_fact (seen_state seen w) (appeared name)) same

module _ {D : Type 0} (seen : D → Database) where
  -- a database that is made shows nothing yet
  pub founded-as : (v now : StateView D) (databases : NamedView D) (new : D) (name copied : List ℕ) → v ≡ now → databases ≡ record { names = v.databases.names ++ copied ∷ []; values = v.databases.values ++ new ∷ [] }
      → copied ≡ name → seen new ≡ database_of [] → seen_state seen (record v { databases = databases }) ≡ after_fact (seen_state seen now) (founded name)
  founded-as v now databases new name copied same more is empty =
      (λ i. seen_state seen (record v { databases = more i }))
      ∙ (λ i. record (seen_state seen v) {
        databases = v.databases.names ++ is i ∷ [];
        database = λ n. (ap (λ shown. get_or shown n no_database) (map-append seen v.databases.values (new ∷ [])) ∙ read-push (map seen v.databases.values) (seen new) no_database n empty) i;
      })
      ∙ ap (λ w. after_fact (seen_state seen w) (founded name)) same

-- facts one after the other
pub after_facts-append : (w : World) (xs ys : List Fact) → after_facts w (xs ++ ys) ≡ after_facts (after_facts w xs) ys
after_facts-append w [] ys = refl
after_facts-append w (x ∷ xs) ys = after_facts-append (after_fact w x) xs ys

-- answers of sessions that exist
abbrev IsKnown : ℕ → ℕ × Reply → Type 0
IsKnown count answer = answer.0 < count

abbrev IsWithin : ℕ → ℕ × Reply → Type 0
IsWithin count answer = answer.0 ≤ count

known-numbered : (count more : ℕ) (replies : List (ℕ × Reply)) → count ≤ more → All (λ (answer : ℕ × Reply). answer.0 < count) replies → All (λ (answer : ℕ × Reply). answer.0 ≤ more) replies
known-numbered count more replies le all = All-weaker (IsKnown count) (IsWithin more) (λ answer lt. omega (arith, lt, le)) replies all

module _ {D : Type 0} (seen : D → Database) where
  -- the database that is kept at a place
  pub store-there : (v : StateView D) (d : ℕ) (old : D) → d < length v.databases.values → old ≡ get_or v.databases.values d old → get_or (map seen v.databases.values) d no_database ≡ seen old
  store-there v d old lt at = get_or-map seen v.databases.values d old no_database lt ∙ ap seen (sym at)

module _ {D : Type 0} (seen : D → Database) where
  -- marks in it
  pub store-changed : (v : StateView D) (d : ℕ) (old new : D) (marks : List Mark) → d < length v.databases.values → old ≡ get_or v.databases.values d old → seen new ≡ after_marks (seen old) marks
      → seen_state seen (record v { databases = with_value v.databases d new }) ≡ after_facts (seen_state seen v) (map (within d) marks)
  store-changed v d old new marks lt at is = marked ∙ sym (after_facts-within (seen_state seen v) d marks)
    where
      shown : List Database
      shown = map seen v.databases.values

      by : (n : ℕ) (b : Bool) → (d == n) ≡ b → (if b then seen new else get_or shown n no_database) ≡ (if b then after_marks (get_or shown n no_database) marks else get_or shown n no_database)
      by n true e =
          let one : d ≡ n = grind (arith, nat_tests) in
          is ∙ ap (λ x. after_marks x marks) (sym (store-there seen v d old lt at)) ∙ ap (λ m. after_marks (get_or shown m no_database) marks) one
      by n false e = refl

      marked : seen_state seen (record v { databases = with_value v.databases d new }) ≡ record (seen_state seen v) { database = changed_at d (λ y. after_marks y marks) (seen_state seen v).database }
      marked = λ i. record (seen_state seen v) {
        database = λ n. (ap (λ xs. get_or xs n no_database) (map-set seen v.databases.values d new)
            ∙ get_or-changed shown d n (seen new) no_database (omega (arith, lt, length-map v.databases.values seen)) ∙ by n (d == n) refl) i;
      }

module _ {D : Type 0} {seen : D → Database} where
  -- what is done in a database at a moment adds in the world
  pub adds-in : (turn : Database → ℤ → Turn) (v now : StateView D) (d : ℕ) (old new : D) (before after : List (ℕ × Reply)) (t : ℤ) → v ≡ now → d < length v.databases.values
      → old ≡ get_or v.databases.values d old → t ≡ v.now → Adds (seen old) (seen new) before after (turn (seen old) t) → HaveMoments (turn (seen old) t).answers
      → All (λ (answer : ℕ × Reply). answer.0 < length now.sessions.names) (turn (seen old) t).answers → IsWhole seen (record v { databases = with_value v.databases d new })
      → AddsDeed seen now (record v { databases = with_value v.databases d new }) before after (deed_in d [] (turn ((seen_state seen now).database d) now.now))
  adds-in turn v now d old new before after t same lt at is adds moments known whole = record {
    answered = adds.replied ∙ ap (λ (u : Turn). before ++ u.answers) turn_is;
    known = subst (λ (u : Turn). All (IsKnown (length now.sessions.names)) u.answers) turn_is known;
    moments = subst (λ (u : Turn). HaveMoments u.answers) turn_is moments;
    changed = store-changed seen v d old new (turn (seen old) t).marks lt at adds.changed
        ∙ ap (λ (u : Turn). after_facts (seen_state seen v) (map (within d) u.marks)) turn_is
        ∙ ap (λ w. after_facts (seen_state seen w) (map (within d) turned.marks)) same
        ∙ ap (λ facts. after_facts (seen_state seen now) facts) (sym (append-nil (map (within d) turned.marks)));
    sessions = ap (λ (w : StateView D). w.sessions.names) same;
    whole = whole;
  }
    where
      turned : Turn
      turned = turn ((seen_state seen now).database d) now.now

      turn_is : turn (seen old) t ≡ turned
      turn_is =
          ap (turn (seen old)) is
          ∙ ap (λ x. turn x v.now) (sym (store-there seen v d old lt at))
          ∙ ap (λ (w : StateView D). turn ((seen_state seen w).database d) w.now) same

  -- what a statement does there
  pub adds-within : (v now : StateView D) (d who : ℕ) (old new : D) (stmt : DbStmt) (before after : List (ℕ × Reply)) (t : ℤ) → v ≡ now → d < length v.databases.values
      → old ≡ get_or v.databases.values d old → t ≡ v.now
      → Adds (seen old) (seen new) before after (database_turn database_by_itself (seen old) t who stmt)
      → HaveMoments (database_turn database_by_itself (seen old) t who stmt).answers
      → All (λ (answer : ℕ × Reply). answer.0 < length now.sessions.names) (database_turn database_by_itself (seen old) t who stmt).answers → IsWhole seen (record v { databases = with_value v.databases d new })
      → AddsDeed seen now (record v { databases = with_value v.databases d new }) before after
      (deed_in d [] (database_turn (within_database by_world d) (seen_state seen now) (seen_state seen now).now who stmt))
  adds-within v now d who old new stmt before after t same lt at is adds moments known whole =
      subst (λ u. AddsDeed seen now (record v { databases = with_value v.databases d new }) before after (deed_in d [] u)) (sym (turn-within (seen_state seen now) d (seen_state seen now).now who stmt))
      (adds-in (λ x moment. database_turn database_by_itself x moment who stmt) v now d old new before after t same lt at is adds moments known whole)

  -- and what fails there in a session's name
  pub adds-failed : (v now : StateView D) (d who : ℕ) (old new : D) (before after : List (ℕ × Reply)) (t : ℤ) → v ≡ now → d < length v.databases.values
      → old ≡ get_or v.databases.values d old → t ≡ v.now
      → Adds (seen old) (seen new) before after (fails_if database_by_itself (seen old) t who true)
      → HaveMoments (fails_if database_by_itself (seen old) t who true).answers
      → All (λ (answer : ℕ × Reply). answer.0 < length now.sessions.names) (fails_if database_by_itself (seen old) t who true).answers → IsWhole seen (record v { databases = with_value v.databases d new })
      → AddsDeed seen now (record v { databases = with_value v.databases d new }) before after
      (deed_in d [] (fails_if (within_database by_world d) (seen_state seen now) (seen_state seen now).now who true))
  adds-failed v now d who old new before after t same lt at is adds moments known whole =
      subst (λ u. AddsDeed seen now (record v { databases = with_value v.databases d new }) before after (deed_in d [] u)) (sym (fails-within (seen_state seen now) d (seen_state seen now).now who true))
      (adds-in (λ x moment. fails_if database_by_itself x moment who true) v now d old new before after t same lt at is adds moments known whole)

  -- and what it changes outside of databases
  pub adds-moved : (old s new : StateView D) (d : ℕ) (fact : Fact) (before after : List (ℕ × Reply)) (turn : Turn) → AddsDeed seen old s before after (deed_in d [] turn)
      → seen_state seen new ≡ after_fact (seen_state seen s) fact → new.sessions.names ≡ s.sessions.names → IsWhole seen new → AddsDeed seen old new before after (deed_in d (fact ∷ []) turn)
  adds-moved old s new d fact before after turn adds is same whole = record {
    answered = adds.answered;
    known = adds.known;
    moments = adds.moments;
    changed = is ∙ ap (λ w. after_fact w fact) (adds.changed ∙ ap (λ facts. after_facts (seen_state seen old) facts) (append-nil (map (within d) turn.marks)))
        ∙ sym (after_facts-append (seen_state seen old) (map (within d) turn.marks) (fact ∷ []));
    sessions = same ∙ adds.sessions;
    whole = whole;
  }

  -- a statement by which its session leaves
  pub adds-left : (old s new : StateView D) (d who : ℕ) (stmt : DbStmt) (leaving : Bool) (before after : List (ℕ × Reply))
      → leaving ≡ is_leaving (is_waiting who ((seen_state seen old).database d).part.waiting) stmt → leaving ≡ true
      → AddsDeed seen old s before after (deed_in d [] (database_turn (within_database by_world d) (seen_state seen old) (seen_state seen old).now who stmt))
      → seen_state seen new ≡ after_fact (seen_state seen s) (left who) → new.sessions.names ≡ s.sessions.names → IsWhole seen new → AddsDeed seen old new before after (db_stmt_does by_world (seen_state seen old) who stmt (Some d))
  adds-left old s new d who stmt leaving before after is leaves adds shows same whole =
      subst (λ facts. AddsDeed seen old new before after (deed_in d facts turn)) (ap (left_if who) (sym leaves ∙ is)) (adds-moved old s new d (left who) before after turn adds shows same whole)
    where
      turn : Turn
      turn = database_turn (within_database by_world d) (seen_state seen old) (seen_state seen old).now who stmt

  -- or stays
  pub adds-stayed : (old new : StateView D) (d who : ℕ) (stmt : DbStmt) (leaving : Bool) (before after : List (ℕ × Reply))
      → leaving ≡ is_leaving (is_waiting who ((seen_state seen old).database d).part.waiting) stmt → leaving ≡ false
      → AddsDeed seen old new before after (deed_in d [] (database_turn (within_database by_world d) (seen_state seen old) (seen_state seen old).now who stmt))
      → AddsDeed seen old new before after (db_stmt_does by_world (seen_state seen old) who stmt (Some d))
  adds-stayed old new d who stmt leaving before after is stays adds =
      subst (λ facts. AddsDeed seen old new before after (deed_in d facts (database_turn (within_database by_world d) (seen_state seen old) (seen_state seen old).now who stmt))) (ap (left_if who) (sym stays ∙ is)) adds

  -- `open` of a database that it creates
  pub opens-new : (old s new : StateView D) (who number : ℕ) (stmt : DbStmt) (name : List ℕ) (before after : List (ℕ × Reply)) → length old.databases.names < 16 → number ≡ length old.databases.names
      → seen_state seen s ≡ after_fact (seen_state seen old) (founded name) → s.sessions.names ≡ old.sessions.names
      → AddsDeed seen s new before after (opens_in by_world who stmt number (seen_state seen s)) → AddsDeed seen old new before after (opens by_world (seen_state seen old) who stmt name None)
  opens-new old s new who number stmt name before after room numbered is same adds = subst (AddsDeed seen old new before after) (sym whole) (record {
    answered = adds.answered ∙ ap (λ (x : Deed). before ++ x.answers) there;
    known = subst (λ n. All (IsKnown n) then_does.answers) (ap length same) (subst (λ (x : Deed). All (IsKnown (length s.sessions.names)) x.answers) there adds.known);
    moments = subst (λ (x : Deed). HaveMoments x.answers) there adds.moments;
    changed = adds.changed ∙ ap (λ (x : Deed). after_facts (seen_state seen s) x.facts) there ∙ ap (λ w. after_facts w then_does.facts) is;
    sessions = adds.sessions ∙ same;
    whole = adds.whole;
  })
    where
      then_does : Deed
      then_does = opens_in by_world who stmt (length old.databases.names) (after_fact (seen_state seen old) (founded name))

      there : opens_in by_world who stmt number (seen_state seen s) ≡ then_does
      there = ap (λ n. opens_in by_world who stmt n (seen_state seen s)) numbered ∙ ap (opens_in by_world who stmt (length old.databases.names)) is

      left_over : nat_le 16 (length old.databases.names) ≡ false
      left_over = grind (arith, nat_tests)

      whole : opens by_world (seen_state seen old) who stmt name None ≡ followed by_world (seen_state seen old) (opens_in by_world who stmt (length old.databases.names)) (founds name)
      whole = ap (λ b. if b then refuses who (TooMany Databases) else followed by_world (seen_state seen old) (opens_in by_world who stmt (length old.databases.names)) (founds name)) left_over

  -- a call of a known session
  pub answers-known : (old new : StateView D) (call : Call) (who : ℕ) (before after : List (ℕ × Reply)) → Some who ≡ place_of call.who old.sessions.names
      → AddsDeed seen old new before after (turn by_world who call.stmt (seen_state seen old)) → AddsCall (seen_state seen old) (seen_state seen new) call before after
  answers-known old new call who before after place adds = record {
    replies = (turn by_world who call.stmt (seen_state seen old)).answers;
    answered = adds.answered;
    steps = steps_from_exact (seen_state seen old) (seen_state seen new) call _ (ap Deed.answers whole) (adds.changed ∙ ap (λ (x : Deed). after_facts (seen_state seen old) x.facts) whole);
    numbered = known-numbered _ _ _ (omega (arith, ap length adds.sessions)) adds.known;
    moments = adds.moments;
  }
    where
      whole : turn by_world who call.stmt (seen_state seen old) ≡ deed_at (seen_state seen old) call
      whole = ap (called by_world (seen_state seen old) call) place

-- what a session does that isn't known: it is refused, or appears and makes its turn
abbrev unknown : World → Call → Bool → Deed
unknown w call full = if full then refuses (length w.sessions) (TooMany Sessions) else followed by_world w (turn by_world (length w.sessions) call.stmt) (appears call.who)

module _ {D : Type 0} {seen : D → Database} where
  -- the first call of a session
  pub answers-new : (old with_it new : StateView D) (call : Call) (who : ℕ) (before after : List (ℕ × Reply)) → place_of call.who old.sessions.names ≡ None → length old.sessions.names < 256
      → seen_state seen with_it ≡ after_fact (seen_state seen old) (appeared call.who) → who ≡ length old.sessions.names
      → AddsDeed seen with_it new before after (turn by_world who call.stmt (seen_state seen with_it)) → AddsCall (seen_state seen old) (seen_state seen new) call before after
  answers-new old with_it new call who before after place room is number adds = record {
    replies = (turn by_world who call.stmt (seen_state seen with_it)).answers;
    answered = adds.answered;
    steps = steps_from_exact (seen_state seen old) (seen_state seen new) call _ (sym (ap Deed.answers (whole ∙ same)))
        (adds.changed ∙ ap (λ w. after_facts w (turn by_world who call.stmt (seen_state seen with_it)).facts) is ∙ ap (λ (x : Deed). after_facts (seen_state seen old) x.facts) (sym (whole ∙ same)));
    numbered = known-numbered _ _ _ (omega (arith, ap length adds.sessions)) adds.known;
    moments = adds.moments;
  }
    where
      whole : deed_at (seen_state seen old) call ≡ followed by_world (seen_state seen old) (turn by_world (length old.sessions.names) call.stmt) (appears call.who)
      whole =
          let few : nat_le 256 (length old.sessions.names) ≡ false = grind (arith, nat_tests) in
          ap (called by_world (seen_state seen old) call) place ∙ ap (unknown (seen_state seen old) call) few

      same : followed by_world (seen_state seen old) (turn by_world (length old.sessions.names) call.stmt) (appears call.who) ≡ deed_with (appears call.who) (turn by_world who call.stmt (seen_state seen with_it))
      same = ap (deed_with (appears call.who)) (ap (λ n. turn by_world n call.stmt (after_fact (seen_state seen old) (appeared call.who))) (sym number) ∙ ap (turn by_world who call.stmt) (sym is))

-- a call's replies in a list that was empty
pub added-alone : (old new : World) (call : Call) (before after : List (ℕ × Reply)) → before ≡ [] → AddsCall old new call before after
    → Steps old new call after × All (λ (answer : ℕ × Reply). answer.0 ≤ length new.sessions) after × HaveMoments after
added-alone old new call before after none adds =
    let same : adds.replies ≡ after = sym (adds.answered ∙ ap (λ xs. xs ++ adds.replies) none) in
    (subst (Steps old new call) same adds.steps, subst (All (IsWithin (length new.sessions))) same adds.numbered, subst HaveMoments same adds.moments)
