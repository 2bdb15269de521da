-- What calls for nodes give.
use Rattle.std.proofs.Common.{◌≡◌, ℕ, ◌+◌, ◌<◌, ◌≤◌, ◌^◌, List, [], ◌∷◌, ◌++◌, Bool, true, false, nat_le, Option, Some, None, Result, Ok, Err, OnOk, is_ok, is_some, is_none, not, ◌||◌, cond, bytes_eq, length, option_map, All, refl, sym, ◌∙◌, ap, subst, arith}
use Rattle.std.proofs.lemmas.Bool.Decides.{nat_tests}
use Rattle.std.proofs.lemmas.List.Elements.{All-head, All-tail}
use Rattle.sky_names.specs.Places.{place_of}
use Rattle.sky_names.proofs.PlaceLemmas.{bytes_eq_refl, same_name}
use Rattle.londiste_state.specs.declared.state.TableState.{TableState}
use Rattle.londiste_state.specs.Nodes.{Node, of_root, of_leaf, is_among, all_but}
use Rattle.sky_model.specs.declared.reply.Reply.TheVariants.{Done, Number, Null}
use Rattle.sky_model.specs.declared.reply.Limit.TheVariants.{Consumers, Triggers}
use Rattle.sky_model.specs.declared.reply.Refusal.TheVariants.{ConsumerExists, IdsSpent, TableBusy, TooMany}
use Rattle.sky_model.specs.History.{Mark, tabled, read_only, queued, registered, traced, untraced, noded, NodeMark, set_added, set_removed, joined, parted, leaf_made, leaf_added, leaf_removed, state_set, History}
use Rattle.sky_model.specs.Rows.{table_names}
use Rattle.sky_model.specs.Nodes.{after_node, node, leaf_tables}
use Rattle.sky_model.specs.Triggers.{triggers_of}
use Rattle.sky_model.specs.Copies.{copy_txid}
use Rattle.sky_model.specs.State.{after_part, Database, after_mark, after_marks}
use Rattle.sky_model.specs.StepCopy.{given_up}
use Rattle.sky_model.specs.ShownRows.{least_writer}
use Rattle.sky_model.specs.Outcome.{Outcome, ◌>>=◌, ◌>>◌, refused_if, refused_by, answers, does_marks, marks_of}
use Rattle.sky_model.specs.StepQueue.{newest_id}
use Rattle.sky_model.specs.StepConsumer.{registers}
use Rattle.sky_model.specs.StepNode.{set_queue, set_trigger, joins, lists, unlists, adds, removes, moves_table, NodeCall, joining, making_leaf, adding, removing, moving, listing, unlisting, if_there, table_number, may_serve, call_form, node_does}
use Rattle.sky_model.specs.Daemon.{quietly}
use Rattle.sky_model.specs.DatabaseCalls.{served, database_part}
use Rattle.sky_model.specs.DatabaseSteps.{DatabaseSteps, IsMade}
use Rattle.sky_model.specs.Promises.{after_all}
use Rattle.sky_model.proofs.Cases.{by_test}
use Rattle.sky_histories.proofs.DatabaseStanding.{database_steps_from_exact, after_marks-append}
use Rattle.sky_histories.proofs.Histories.{legal_calls}
use Rattle.sky_histories.proofs.NodeDeeds.{is-served}
use Rattle.sky_histories.proofs.NodeTables.{have-tables}
use Rattle.sky_state.specs.Views.{RowStateView}
use Rattle.sky_state.specs.Seen.{seen}
use Rattle.pgq_queues.specs.Views.{QueuesView}
use Rattle.pgq_queues.specs.Seen.{seen_with, Beside}
use Rattle.pgq_parts.specs.Views.{DbView}
use Rattle.pgq_parts.specs.Seen.{with_node, seen_database}
use Rattle.sky_store.proofs.Serving.{serves-steps}
use Rattle.sky_store.specs.Served.{set_consumers, Serves, ServesUnlessBusy}

-- what a call's definition says was done
pub serves-by : (old new : Database) (call : NodeCall) (o : Outcome) → node_does old call ≡ Ok o → new ≡ after_marks old o.marks → Serves old new call
serves-by old new call o does changed = record { accepted = ap is_ok does; changed = changed ∙ ap (λ c. after_marks old (marks_of c)) (sym does) }

-- so its promise is kept
pub steps-if : {A E : Type 0} → (r : Result A E) (old new : Database) (call : NodeCall) → OnOk r (Serves old new call) → OnOk r (DatabaseSteps old new (served call) (quietly (node_does old call)))
steps-if (Ok a) old new call serves = serves-steps old new call serves
steps-if (Err e) old new call serves = tt

pub steps-unless : (old new : Database) (call : NodeCall) (busy : Option ℕ) → ServesUnlessBusy busy old new call → DatabaseSteps old new (served call) (quietly (node_does old call))
steps-unless old new call None serves = serves-steps old new call serves
steps-unless old new call (Some txid) refuses =
    database_steps_from_exact old new (served call) (refuses.same ∙ ap (λ c. after_marks old (marks_of c)) (sym refuses.refused))

-- nothing, if what it is about isn't there
pub served-nothing : (d : Database) (call : NodeCall) → may_serve call d.node ≡ true → call_form d call ≡ answers Null → Serves d d call
served-nothing d call may none = let same : node_does d call ≡ answers Null = is-served d call may ∙ none in record { accepted = ap is_ok same; changed = sym (ap (λ c. after_marks d (marks_of c)) same) }

pub table-missing : (v now : DbView) (table : List ℕ) → v ≡ now → place_of table (seen v.rows).tables ≡ None → place_of table (seen_database now).part.tables ≡ None
table-missing v now table same missing = subst (λ (w : DbView). place_of table (seen w.rows).tables ≡ None) same missing

-- one that is there isn't missing
pub table-not : (v now : DbView) (table : List ℕ) → v ≡ now → place_of table (seen v.rows).tables ≡ None → is_some (table_number (seen_database now) table) ≡ true → ⊥
table-not v now table same missing there = let none : is_some (table_number (seen_database now) table) ≡ false = ap is_some (table-missing v now table same missing) in absurd (cc)

-- so no table of a leaf is missing, as calls made its database
among-all : (P : List ℕ → Type 0) (name : List ℕ) (names : List (List ℕ)) → All P names → is_among name names ≡ true → P name
among-all P name [] all is = absurd (cc)
among-all P name (x ∷ xs) all is =
    by_test (λ b. bytes_eq name x ≡ b → (b || is_among name xs) ≡ true → P name) (bytes_eq name x)
    (λ _ same _. subst P (sym (same_name name x same)) (All-head P x xs all)) (λ _ _ rest. among-all P name xs (All-tail P x xs all) rest) refl is

pub leaf-there : (d : Database) → IsMade d → (name : List ℕ) → is_among name (leaf_tables d.node) ≡ true → is_some (table_number d name) ≡ true
leaf-there d made name among =
    let h : History = after_all database_part made.calls in
    subst (λ (x : Database). is_some (table_number x name) ≡ true) (sym made.shown)
    (among-all (λ x. is_some (place_of x (table_names h)) ≡ true) name (leaf_tables (node h)) (have-tables h (legal_calls made.calls)).leaf
    (ap (λ (x : Database). is_among name (leaf_tables x.node)) (sym made.shown) ∙ among))

pub listing-nowhere : (d : Database) (name : List ℕ) → may_serve (listing name) d.node ≡ true → set_queue d ≡ None → Serves d d (listing name)
listing-nowhere d name may none = served-nothing d (listing name) may (ap (λ o. if_there o (λ queue. if_there (table_number d name) (λ t. lists d queue t name))) none)

-- ---- a name that the queues have no memory for is taken out of the node again

added-back : (name : List ℕ) (names : List (List ℕ)) → is_among name names ≡ false → all_but name (names ++ name ∷ []) ≡ names
added-back name [] new = ap (λ b. cond (not b) (name ∷ []) []) (bytes_eq_refl name)
added-back name (first ∷ names) new = by (added-back name names) (bytes_eq name first) refl new
  where
    by : (is_among name names ≡ false → all_but name (names ++ name ∷ []) ≡ names) → (b : Bool) → bytes_eq name first ≡ b → (b || is_among name names) ≡ false
        → all_but name (first ∷ names ++ name ∷ []) ≡ first ∷ names
    by others true e new = absurd (cc)
    by others false e new = ap (λ b. cond (not b) (first ∷ all_but name (names ++ name ∷ [])) (all_but name (names ++ name ∷ []))) e ∙ ap (λ ns. first ∷ ns) (others new)

pub joined-back : (node : Option Node) (consumer : List ℕ) → is_among consumer (set_consumers node) ≡ false → after_node (parted consumer) (after_node (joined consumer) node) ≡ node
joined-back (Some (of_root r)) consumer new = ap (λ (names : List (List ℕ)). Some (of_root (record r { consumers = names }))) (added-back consumer r.consumers new)
joined-back (Some (of_leaf l)) consumer new = refl
joined-back None consumer new = refl

pub set_added-back : (node : Option Node) (table : List ℕ) → may_serve (listing table) node ≡ true → after_node (set_removed table) (after_node (set_added table) node) ≡ node
set_added-back (Some (of_root r)) table may = ap (λ (names : List (List ℕ)). Some (of_root (record r { tables = names }))) (added-back table r.tables (new (is_among table r.tables) may))
  where
    new : (b : Bool) → not b ≡ true → b ≡ false
    new true may = absurd (cc)
    new false may = refl
set_added-back (Some (of_leaf l)) table may = refl
set_added-back None table may = refl

pub back-as : (v now : DbView) (queues : QueuesView) (node : Option Node) → v ≡ now → ((beside : Beside) → seen_with beside queues ≡ seen_with beside v.queues) → node ≡ v.node.own
    → seen_database (record v { queues = queues; node = record v.node { own = node } }) ≡ seen_database now
back-as v now queues node same is back = is (with_node (record v.node { own = node }) (seen v.rows)) ∙ (λ i. seen_with (with_node (record v.node { own = back i }) (seen v.rows)) v.queues) ∙ ap seen_database same

-- ---- a leaf's consumer joins

module _ (d : Database) (q : ℕ) (consumer : List ℕ) (set : set_queue d ≡ Some q) where
  joins-there : (b : Bool) → is_some ((d.queue q).sub consumer) ≡ b → node_does d (joining consumer) ≡ (refused_if b (ConsumerExists consumer) >> (registers d q consumer (newest_id (d.queue q))
      >>= (λ registering. does_marks (Number (newest_id (d.queue q))) (registering.marks ++ noded (joined consumer) ∷ []))))
  joins-there b is =
      ap (λ o. if_there o (λ queue. joins d queue consumer)) set
      ∙ ap (λ x. refused_if x (ConsumerExists consumer) >> (registers d q consumer (newest_id (d.queue q))
      >>= (λ registering. does_marks (Number (newest_id (d.queue q))) (registering.marks ++ noded (joined consumer) ∷ [])))) is

  registers-by : (full spent : Bool) → nat_le 256 (length (d.queue q).members) ≡ full → nat_le (2 ^ 64) (d.last_sub_id + 1) ≡ spent
      → registers d q consumer (newest_id (d.queue q)) ≡ (refused_if full (TooMany Consumers) >> (refused_if spent IdsSpent
      >> does_marks (Number 1) (queued (registered q consumer (d.last_sub_id + 1) (newest_id (d.queue q))) ∷ [])))
  registers-by full spent f s = λ i. refused_if (f i) (TooMany Consumers) >> (refused_if (s i) IdsSpent
      >> does_marks (Number 1) (queued (registered q consumer (d.last_sub_id + 1) (newest_id (d.queue q))) ∷ []))

  pub join-exists : is_some ((d.queue q).sub consumer) ≡ true → node_does d (joining consumer) ≡ Err (ConsumerExists consumer)
  join-exists there = joins-there true there

  pub join-full : is_some ((d.queue q).sub consumer) ≡ false → (n : ℕ) → n ≡ length (d.queue q).members → 256 ≤ n → node_does d (joining consumer) ≡ Err (TooMany Consumers)
  join-full new n is many =
      let full : nat_le 256 (length (d.queue q).members) ≡ true = grind (arith, nat_tests) in
      joins-there false new ∙ ap (λ c. c >>= (λ registering. does_marks (Number (newest_id (d.queue q))) (registering.marks ++ noded (joined consumer) ∷ []))) (registers-by true _ full refl)

  pub join-spent : is_some ((d.queue q).sub consumer) ≡ false → (n : ℕ) → n ≡ length (d.queue q).members → n < 256 → (last : ℕ) → last ≡ d.last_sub_id → 2 ^ 64 ≤ last + 1
      → node_does d (joining consumer) ≡ Err IdsSpent
  join-spent new n is few last at spent =
      let room : nat_le 256 (length (d.queue q).members) ≡ false = grind (arith, nat_tests) in
      let over : nat_le (2 ^ 64) (d.last_sub_id + 1) ≡ true = grind (arith, nat_tests) in
      joins-there false new ∙ ap (λ c. c >>= (λ registering. does_marks (Number (newest_id (d.queue q))) (registering.marks ++ noded (joined consumer) ∷ []))) (registers-by false true room over)

  pub join-does : is_some ((d.queue q).sub consumer) ≡ false → (n : ℕ) → n ≡ length (d.queue q).members → n < 256 → (last : ℕ) → last ≡ d.last_sub_id → last + 1 < 2 ^ 64
      → node_does d (joining consumer) ≡ does_marks (Number (newest_id (d.queue q))) (queued (registered q consumer (d.last_sub_id + 1) (newest_id (d.queue q))) ∷ noded (joined consumer) ∷ [])
  join-does new n is few last at left =
      let room : nat_le 256 (length (d.queue q).members) ≡ false = grind (arith, nat_tests) in
      let unspent : nat_le (2 ^ 64) (d.last_sub_id + 1) ≡ false = grind (arith, nat_tests) in
      joins-there false new ∙ ap (λ c. c >>= (λ registering. does_marks (Number (newest_id (d.queue q))) (registering.marks ++ noded (joined consumer) ∷ []))) (registers-by false false room unspent)

-- the queues have a consumer more, and the node too
pub joined-as : (v now : DbView) (queues : QueuesView) (node : Option Node) (q tick newest : ℕ) (consumer : List ℕ) → v ≡ now
    → ((beside : Beside) → seen_with beside queues ≡ after_mark (seen_with beside v.queues) (queued (registered q consumer (v.queues.last_sub_id + 1) tick)))
    → node ≡ after_node (joined consumer) v.node.own → tick ≡ newest
    → seen_database (record v { queues = queues; node = record v.node { own = node } }) ≡ after_marks (seen_database now) (queued (registered q consumer ((seen_database now).last_sub_id + 1) newest) ∷ noded (joined consumer) ∷ [])
joined-as v now queues node q tick newest consumer same mark noding at =
    mark (with_node (record v.node { own = node }) (seen v.rows))
    ∙ (λ i. after_mark (seen_with (with_node (record v.node { own = noding i }) (seen v.rows)) v.queues) (queued (registered q consumer (v.queues.last_sub_id + 1) (at i))))
    ∙ ap (λ (w : DbView). after_marks (seen_database w) (queued (registered q consumer ((seen_database w).last_sub_id + 1) newest) ∷ noded (joined consumer) ∷ [])) same

-- ---- the database gets a leaf

noded-as : (v now : DbView) (node : Option Node) (mark : NodeMark) → ((d : Database) → after_mark d (noded mark) ≡ record d { node = after_node mark d.node }) → v ≡ now → node ≡ after_node mark v.node.own → seen_database (record v { node = record v.node { own = node } }) ≡ after_marks (seen_database now) (noded mark ∷ [])
noded-as v now node mark plain same noding = (λ i. seen_with (with_node (record v.node { own = noding i }) (seen v.rows)) v.queues) ∙ sym (plain (seen_database v)) ∙ ap (λ (w : DbView). after_marks (seen_database w) (noded mark ∷ [])) same

pub leaf-if : {E : Type 0} (v now : DbView) (node : Option Node) (name provider : List ℕ) (tick : ℕ) (r : Result (Unit {0}) E) → v ≡ now → (seen_database now).node ≡ None
    → OnOk r (node ≡ after_node (leaf_made name provider tick) v.node.own) → OnOk r (Serves (seen_database now) (seen_database (record v { node = record v.node { own = node } })) (making_leaf name provider tick))
leaf-if v now node name provider tick (Ok _) same bare noding =
    let may : may_serve (making_leaf name provider tick) (seen_database now).node ≡ true = ap is_none bare in
    serves-by (seen_database now) _ (making_leaf name provider tick) _ (is-served (seen_database now) (making_leaf name provider tick) may) (noded-as v now node (leaf_made name provider tick) (λ d. refl) same noding)
leaf-if v now node name provider tick (Err e) same bare noding = tt

-- ---- a table joins a leaf, or leaves it

pub adding-there : (d : Database) (name : List ℕ) (table : ℕ) (o : Option ℕ) → may_serve (adding name) d.node ≡ true → place_of name d.part.tables ≡ Some table → least_writer d.part table ≡ o
    → node_does d (adding name) ≡ (refused_by (option_map TableBusy o) >> does_marks Done (noded (leaf_added name) ∷ tabled (read_only table true) ∷ []))
adding-there d name table o may there busy =
    is-served d (adding name) may ∙ ap (λ x. if_there x (λ t. adds d t name)) there ∙ ap (λ x. refused_by (option_map TableBusy x) >> does_marks Done (noded (leaf_added name) ∷ tabled (read_only table true) ∷ [])) busy

pub removing-there : (d : Database) (name : List ℕ) (table : ℕ) → may_serve (removing name) d.node ≡ true → place_of name d.part.tables ≡ Some table
    → node_does d (removing name) ≡ does_marks Done (given_up table name (copy_txid table d.copies) ++ noded (leaf_removed name) ∷ tabled (read_only table false) ∷ [])
removing-there d name table may there = is-served d (removing name) may ∙ ap (λ x. if_there x (λ t. removes d t name)) there

moving-there : (d : Database) (name : List ℕ) (state : TableState) (table : ℕ) → may_serve (moving name state) d.node ≡ true → place_of name d.part.tables ≡ Some table
    → node_does d (moving name state) ≡ does_marks Done (given_up table name (copy_txid table d.copies) ++ noded (state_set name state) ∷ [])
moving-there d name state table may there = is-served d (moving name state) may ∙ ap (λ x. if_there x (λ t. moves_table d t name state)) there

-- ---- a table joins a set, or leaves it

module _ (d : Database) (q : ℕ) (name : List ℕ) (table : ℕ) (may : may_serve (listing name) d.node ≡ true) (set : set_queue d ≡ Some q) (there : place_of name d.part.tables ≡ Some table) where
  listing-there : (b : Bool) (o : Option ℕ) → nat_le 8 (length (triggers_of table d.triggers)) ≡ b → least_writer d.part table ≡ o
      → node_does d (listing name) ≡ (refused_if b (TooMany Triggers) >> (refused_by (option_map TableBusy o) >> does_marks Done (noded (set_added name) ∷ queued (traced table None (set_trigger q)) ∷ [])))
  listing-there b o full busy =
      is-served d (listing name) may ∙ ap (λ x. if_there x (λ queue. if_there (table_number d name) (λ t. lists d queue t name))) set ∙ ap (λ x. if_there x (λ t. lists d q t name)) there
      ∙ (λ i. refused_if (full i) (TooMany Triggers) >> (refused_by (option_map TableBusy (busy i)) >> does_marks Done (noded (set_added name) ∷ queued (traced table None (set_trigger q)) ∷ [])))

  pub list-full : (n : ℕ) → n ≡ length (triggers_of table d.triggers) → 8 ≤ n → node_does d (listing name) ≡ Err (TooMany Triggers)
  list-full n is many = let full : nat_le 8 (length (triggers_of table d.triggers)) ≡ true = grind (arith, nat_tests) in listing-there true _ full refl

  pub list-busy : (n txid : ℕ) → n ≡ length (triggers_of table d.triggers) → n < 8 → Some txid ≡ least_writer d.part table → node_does d (listing name) ≡ Err (TableBusy txid)
  list-busy n txid is few busy = let room : nat_le 8 (length (triggers_of table d.triggers)) ≡ false = grind (arith, nat_tests) in listing-there false (Some txid) room (sym busy)

  pub list-does : (n : ℕ) → n ≡ length (triggers_of table d.triggers) → n < 8 → None ≡ least_writer d.part table
      → node_does d (listing name) ≡ does_marks Done (noded (set_added name) ∷ queued (traced table None (set_trigger q)) ∷ [])
  list-does n is few free = let room : nat_le 8 (length (triggers_of table d.triggers)) ≡ false = grind (arith, nat_tests) in listing-there false None room (sym free)

pub unlisting-there : (d : Database) (name : List ℕ) (table : ℕ) → may_serve (unlisting name) d.node ≡ true → place_of name d.part.tables ≡ Some table
    → node_does d (unlisting name) ≡ does_marks Done (noded (set_removed name) ∷ queued (untraced table) ∷ [])
unlisting-there d name table may there = is-served d (unlisting name) may ∙ ap (λ x. if_there x (λ t. unlists t name)) there

pub set_added-as : (v now : DbView) (queues : QueuesView) (node : Option Node) (q table : ℕ) (name : List ℕ) → v ≡ now
    → ((beside : Beside) → seen_with beside queues ≡ after_mark (seen_with beside v.queues) (queued (traced table None (set_trigger q))))
    → node ≡ after_node (set_added name) v.node.own
    → seen_database (record v { queues = queues; node = record v.node { own = node } }) ≡ after_marks (seen_database now) (noded (set_added name) ∷ queued (traced table None (set_trigger q)) ∷ [])
set_added-as v now queues node q table name same mark noding =
    mark (with_node (record v.node { own = node }) (seen v.rows))
    ∙ (λ i. after_mark (seen_with (with_node (record v.node { own = noding i }) (seen v.rows)) v.queues) (queued (traced table None (set_trigger q))))
    ∙ ap (λ (w : DbView). after_marks (seen_database w) (noded (set_added name) ∷ queued (traced table None (set_trigger q)) ∷ [])) same

pub set_removed-as : (v now : DbView) (queues : QueuesView) (node : Option Node) (table : ℕ) (name : List ℕ) → v ≡ now
    → ((beside : Beside) → seen_with beside queues ≡ after_mark (seen_with beside v.queues) (queued (untraced table)))
    → node ≡ after_node (set_removed name) v.node.own
    → seen_database (record v { queues = queues; node = record v.node { own = node } }) ≡ after_marks (seen_database now) (noded (set_removed name) ∷ queued (untraced table) ∷ [])
set_removed-as v now queues node table name same mark noding =
    mark (with_node (record v.node { own = node }) (seen v.rows))
    ∙ (λ i. after_mark (seen_with (with_node (record v.node { own = noding i }) (seen v.rows)) v.queues) (queued (untraced table)))
    ∙ ap (λ (w : DbView). after_marks (seen_database w) (noded (set_removed name) ∷ queued (untraced table) ∷ [])) same

-- sessions may not write a table of a leaf, or may again
pub guarded-as : (v now : DbView) (rows : RowStateView) (node : Option Node) (table : ℕ) (on : Bool) (mark : Mark) → v ≡ now → seen rows ≡ after_part (seen v.rows) (tabled (read_only table on))
    → (change : Option Node → Option Node) → ((d : Database) → after_mark d mark ≡ record d { node = change d.node }) → node ≡ change v.node.own
    → seen_database (record v { rows = rows; node = record v.node { own = node } }) ≡ after_marks (seen_database now) (mark ∷ tabled (read_only table on) ∷ [])
guarded-as v now rows node table on mark same guarding change marks noding =
    (λ i. seen_with (with_node (record v.node { own = noding i }) (guarding i)) v.queues)
    ∙ ap (λ d. after_mark d (tabled (read_only table on))) (sym (marks (seen_database v)))
    ∙ ap (λ (w : DbView). after_marks (seen_database w) (mark ∷ tabled (read_only table on) ∷ [])) same

-- so a table joins a leaf
module _ (v now : DbView) (name : List ℕ) (table : ℕ) (same : v ≡ now) (may : may_serve (adding name) (seen_database now).node ≡ true) (number : table_number (seen_database now) name ≡ Some table) where
  adding-with : (o : Option ℕ) → o ≡ least_writer (seen v.rows) table
      → node_does (seen_database now) (adding name) ≡ (refused_by (option_map TableBusy o) >> does_marks Done (noded (leaf_added name) ∷ tabled (read_only table true) ∷ []))
  adding-with o busy =
      adding-there (seen_database now) name table o may number (ap (λ (w : DbView). least_writer (seen w.rows) table) (sym same) ∙ sym busy)

  -- unless a running transaction has written it
  pub adding-busy : (txid : ℕ) → Some txid ≡ least_writer (seen v.rows) table → ServesUnlessBusy (Some txid) (seen_database now) (seen_database now) (adding name)
  adding-busy txid busy = record { refused = adding-with (Some txid) busy; same = refl }

  pub adding-does : (rows : RowStateView) (node : Option Node) → None ≡ least_writer (seen v.rows) table → seen rows ≡ after_part (seen v.rows) (tabled (read_only table true)) → node ≡ after_node (leaf_added name) v.node.own
      → Serves (seen_database now) (seen_database (record v { rows = rows; node = record v.node { own = node } })) (adding name)
  adding-does rows node free guarding noding =
      serves-by (seen_database now) _ (adding name) _ (adding-with None free) (guarded-as v now rows node table true (noded (leaf_added name)) same guarding (after_node (leaf_added name)) (λ d. refl) noding)

-- goes into a state, after a copy of it was given up
module _ (now : DbView) (name : List ℕ) (table : ℕ) (number : table_number (seen_database now) name ≡ Some table) where
  pub moving-does : (state : TableState) → may_serve (moving name state) (seen_database now).node ≡ true
      → (w left : DbView) → w ≡ left → seen_database left ≡ after_marks (seen_database now) (given_up table name (copy_txid table now.node.copies))
      → (node : Option Node) → node ≡ after_node (state_set name state) w.node.own
      → Serves (seen_database now) (seen_database (record w { node = record w.node { own = node } })) (moving name state)
  moving-does state may w left is given node noding =
      serves-by (seen_database now) _ (moving name state) _ (moving-there (seen_database now) name state table may number)
      (noded-as w left node (state_set name state) (λ d. refl) is noding
      ∙ ap (λ d. after_marks d (noded (state_set name state) ∷ [])) given
      ∙ sym (after_marks-append (seen_database now) (given_up table name (copy_txid table now.node.copies)) (noded (state_set name state) ∷ [])))

-- and leaves it, after a copy of it was given up
module _ (now : DbView) (name : List ℕ) (table : ℕ) (may : may_serve (removing name) (seen_database now).node ≡ true) (number : table_number (seen_database now) name ≡ Some table) where
  abbrev gone : List Mark
  gone = given_up table name (copy_txid table now.node.copies)

  pub removing-does : (w left : DbView) → w ≡ left → seen_database left ≡ after_marks (seen_database now) gone
      → (rows : RowStateView) (node : Option Node) → seen rows ≡ after_part (seen w.rows) (tabled (read_only table false)) → node ≡ after_node (leaf_removed name) w.node.own
      → Serves (seen_database now) (seen_database (record w { rows = rows; node = record w.node { own = node } })) (removing name)
  removing-does w left is given rows node guarding noding =
      serves-by (seen_database now) _ (removing name) _ (removing-there (seen_database now) name table may number)
      (guarded-as w left rows node table false (noded (leaf_removed name)) is guarding (after_node (leaf_removed name)) (λ d. refl) noding
      ∙ ap (λ d. after_marks d (noded (leaf_removed name) ∷ tabled (read_only table false) ∷ [])) given
      ∙ sym (after_marks-append (seen_database now) gone (noded (leaf_removed name) ∷ tabled (read_only table false) ∷ [])))
