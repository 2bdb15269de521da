-- The laws on nodes.
use Rattle.std.proofs.Common.{◌≡◌, ℕ, Bool, true, false, not, ◌||◌, nat_le, List, [], ◌∷◌, Option, Some, None, Ok, Err, is_some, option_map, bytes_eq, length, refl, sym, ◌∙◌, ap, subst, if◌then◌else◌}
use Rattle.std.specs.Result.{IfErr}
use Rattle.std.proofs.lemmas.Bool.{not-false}
use Rattle.std.proofs.lemmas.List.Elements.{All-head, All-tail}
use Rattle.londiste_state.specs.Nodes.{Node, of_root, of_leaf, Leaf, is_among, tables_of}
use Rattle.sky_names.specs.Places.{place_of}
use Rattle.sky_names.proofs.PlaceLemmas.{same_name}
use Rattle.sky_model.specs.declared.reply.Reply.{Reply}
use Rattle.sky_model.specs.declared.reply.Reply.TheVariants.{Done}
use Rattle.sky_model.specs.declared.reply.Limit.TheVariants.{Triggers}
use Rattle.sky_model.specs.declared.reply.Refusal.{Refusal}
use Rattle.sky_model.specs.declared.reply.Refusal.TheVariants.{AlreadyInSet, NoNode, NoTable, NotInSet, NotProvider, SchemaDiffers, TableBusy, TableInUse, TooMany}
use Rattle.sky_model.specs.History.{History, Past}
use Rattle.sky_model.specs.Rows.{table_names}
use Rattle.sky_model.specs.Nodes.{node, is_root, set_tables, leaf_tables}
use Rattle.sky_model.specs.Triggers.{triggers_of}
use Rattle.sky_model.specs.State.{Database, database_of}
use Rattle.sky_model.specs.ShownRows.{least_writer}
use Rattle.sky_model.specs.Outcome.{Outcome, Checked, ◌>>=◌, ◌>>◌, refused_if, refused_by, found_or}
use Rattle.sky_model.specs.StepNode.{set_queue, lists, adds}
use Rattle.sky_model.specs.NodesOfWorld.{node_called, done_in, provides, columns_called, are_columns, adds_to, add_table, first_user}
use Rattle.sky_model.specs.WorkersOfWorld.{source, removes_from, remove_table}
use Rattle.sky_model.specs.World.{World, world_of, history_in}
use Rattle.sky_model.specs.Calls.{past_of}
use Rattle.sky_model.specs.Promises.{after_all}
use Rattle.sky_model.specs.DatabaseCalls.{database_part}
use Rattle.sky_model.specs.LawsOfNodes.{SetsHaveQueues, AreTables, NodesHaveTables, is_one_of, triggers_into, SetsHaveTriggers, LeafTablesAreReadOnly, RootsAreProviders, RemovedTablesExist}
use Rattle.sky_histories.proofs.Legal.{Legal}
use Rattle.sky_histories.proofs.NodeReadings.{set-number}
use Rattle.sky_histories.proofs.NodeTables.{has-queue, HaveTables, have-tables}
use Rattle.sky_histories.proofs.NodeDeeds.{called-there}
use Rattle.sky_histories.proofs.Histories.{stands_calls, legal_past}
use Rattle.sky_histories.proofs.SnapshotLaws.{legal_place}
use Rattle.sky_model.proofs.Cases.{by_test}

-- ---- in a database

set-there : (h : History) → Legal h → is_root (node h) ≡ true → is_some (set_queue (database_of h)) ≡ true
set-there h l root = ap is_some (set-number (database_of h)) ∙ has-queue h l root

pub sets_have_queues : SetsHaveQueues
sets_have_queues p is = set-there p (legal_place p is)

pub nodes_have_tables : NodesHaveTables
nodes_have_tables p is = let have : HaveTables (table_names p) (node p) = have-tables p (legal_place p is) in (have.set, have.leaf)

pub sets_have_triggers : SetsHaveTriggers
sets_have_triggers calls table =
    let h : History = after_all database_part calls in
    (stands_calls calls).tracing table ∙ ap (λ o. if is_one_of (table_names h) (set_tables (node h)) table then triggers_into table o else []) (sym (set-number (database_of h)))

pub leaf_tables_are_read_only : LeafTablesAreReadOnly
leaf_tables_are_read_only calls = (stands_calls calls).guarding

-- ---- in the world

-- what is refused is none of these
abbrev NeverAs : {A : Type 0} → (Refusal → Bool) → Checked A → Type 0
NeverAs p c = IfErr c (λ refusal. p refusal ≡ false)

never-is : {A : Type 0} (p : Refusal → Bool) (c : Checked A) (refusal : Refusal) → p refusal ≡ true → NeverAs p c → c ≡ Err refusal → ⊥
never-is p (Ok a) refusal such never is = cc
never-is p (Err r) refusal such never is = let same : r ≡ refusal = cc in cc (sym never ∙ ap p same ∙ such)

never-test : {A : Type 0} (p : Refusal → Bool) (b : Bool) (refusal : Refusal) (c : Checked A) → p refusal ≡ false → (b ≡ false → NeverAs p c) → NeverAs p (refused_if b refusal >> c)
never-test p true refusal c other never = other
never-test p false refusal c other never = never refl

never-by : {A : Type 0} (p : Refusal → Bool) (o : Option Refusal) (c : Checked A) → ((refusal : Refusal) → o ≡ Some refusal → p refusal ≡ false) → NeverAs p c → NeverAs p (refused_by o >> c)
never-by p None c other never = never
never-by p (Some refusal) c other never = other refusal refl

never-found : {A B : Type 0} (p : Refusal → Bool) (o : Option A) (refusal : Refusal) (next : A → Checked B) → p refusal ≡ false → ((a : A) → o ≡ Some a → NeverAs p (next a)) → NeverAs p (found_or o refusal >>= next)
never-found p None refusal next other never = other
never-found p (Some a) refusal next other never = never a refl

-- what is there is found
never-there : {A B : Type 0} (p : Refusal → Bool) (o : Option A) (refusal : Refusal) (next : A → Checked B) → is_some o ≡ true → ((a : A) → o ≡ Some a → NeverAs p (next a)) → NeverAs p (found_or o refusal >>= next)
never-there p None refusal next there never = absurd (cc)
never-there p (Some a) refusal next there never = never a refl

never-done : (p : Refusal → Bool) (d : ℕ) (reply : Reply) (c : Checked Outcome) → NeverAs p c → NeverAs p (done_in d reply c)
never-done p d reply (Ok outcome) never = tt
never-done p d reply (Err refusal) never = never

-- a refusal that a list of options gives is one that each gives
by-map : {A : Type 0} (p : Refusal → Bool) (f : A → Refusal) → ((a : A) → p (f a) ≡ false) → (o : Option A) (refusal : Refusal) → option_map f o ≡ Some refusal → p refusal ≡ false
by-map p f other None refusal is = absurd (cc)
by-map p f other (Some a) refusal is = let same : f a ≡ refusal = cc in ap p (sym same) ∙ other a

abbrev is_no_provider : Refusal → Bool
is_no_provider (NotProvider name) = true
is_no_provider _ = false

abbrev is_no_table : Refusal → Bool
is_no_table (NoTable name) = true
is_no_table _ = false

busy-other : (d : Database) (table : ℕ) (refusal : Refusal) → option_map TableBusy (least_writer d.part table) ≡ Some refusal → is_no_provider refusal ≡ false
busy-other d table refusal is = by-map is_no_provider TableBusy (λ t. refl) (least_writer d.part table) refusal is

-- a table that joins finds the set's queue
never-adds : (past : Past) → ((d : ℕ) → Legal (history_in past d)) → (d table : ℕ) (name : List ℕ) (n : Node) → node (history_in past d) ≡ Some n → NeverAs is_no_provider (adds_to (world_of past) d table name n)
never-adds past all d table name (of_root r) there =
    never-there is_no_provider (set_queue (database_of (history_in past d))) (NotProvider r.name) _ (set-there (history_in past d) (all d) (ap is_root there)) (λ queue _.
    never-done is_no_provider d Done (lists (database_of (history_in past d)) queue table name)
    (never-test is_no_provider (nat_le 8 (length (triggers_of table (database_of (history_in past d)).triggers))) (TooMany Triggers) _ refl (λ _.
    never-by is_no_provider (option_map TableBusy (least_writer (database_of (history_in past d)).part table)) _ (busy-other (database_of (history_in past d)) table) tt)))
never-adds past all d table name (of_leaf l) there =
    never-found is_no_provider (provides name (node_called (world_of past) l.provider)) (NotInSet name) _ refl (λ p _.
    never-test is_no_provider (not (are_columns ((database_of (history_in past d)).part.columns table) (columns_called name (database_of (history_in past p))))) (SchemaDiffers name) _ refl (λ _.
    never-done is_no_provider d Done (adds (database_of (history_in past d)) table name)
    (never-by is_no_provider (option_map TableBusy (least_writer (database_of (history_in past d)).part table)) _ (busy-other (database_of (history_in past d)) table) tt)))

pub roots_are_providers : RootsAreProviders
roots_are_providers calls name table root =
    let w : World = world_of (past_of calls) in
    never-is is_no_provider (add_table w name table) (NotProvider root) refl
    (never-found is_no_provider (node_called w name) (NoNode name) _ refl (λ n found.
    never-found is_no_provider (place_of table (w.database n.database).part.tables) (NoTable table) _ refl (λ number _.
    never-test is_no_provider (is_among table (tables_of n.node)) (AlreadyInSet table) _ refl (λ _.
    never-adds (past_of calls) (legal_past calls) n.database number table n.node (called-there w name n found)))))

-- a table that leaves is one of the database
pub among-are : (tables names : List (List ℕ)) (name : List ℕ) → AreTables tables names → is_among name names ≡ true → is_some (place_of name tables) ≡ true
among-are tables [] name are among = absurd (cc)
among-are tables (x ∷ xs) name are among =
    by_test (λ b. bytes_eq name x ≡ b → (b || is_among name xs) ≡ true → is_some (place_of name tables) ≡ true) (bytes_eq name x)
    (λ _ same _. ap (λ y. is_some (place_of y tables)) (same_name name x same) ∙ All-head (λ y. is_some (place_of y tables) ≡ true) x xs are)
    (λ _ other e. among-are tables xs name (All-tail (λ y. is_some (place_of y tables) ≡ true) x xs are) e) refl among

node-tables : (h : History) → Legal h → (n : Node) → node h ≡ Some n → AreTables (table_names h) (tables_of n)
node-tables h l (of_root r) there = subst (λ m. AreTables (table_names h) (set_tables m)) there (have-tables h l).set
node-tables h l (of_leaf leaf) there = subst (λ m. AreTables (table_names h) (leaf_tables m)) there (have-tables h l).leaf

-- the database from which it was to be copied is refused for other reasons
never-then : {A B : Type 0} (p : Refusal → Bool) (c : Checked A) (next : A → Checked B) → NeverAs p c → ((a : A) → NeverAs p (next a)) → NeverAs p (c >>= next)
never-then p (Ok a) next never rest = rest a
never-then p (Err refusal) next never rest = never

never-source : (w : World) (l : Leaf) (name : List ℕ) → NeverAs is_no_table (source w l name)
never-source w l name =
    never-found is_no_table (provides name (node_called w l.provider)) (NotInSet name) _ refl (λ p _.
    never-found is_no_table (set_queue (w.database p)) (NotProvider l.provider) _ refl (λ queue _. tt))

never-removes : (w : World) (d table : ℕ) (name : List ℕ) (n : Node) → NeverAs is_no_table (removes_from w d table name n)
never-removes w d table name (of_root r) =
    never-by is_no_table (option_map TableInUse (first_user w r.name name)) _ (by-map is_no_table TableInUse (λ user. refl) (first_user w r.name name)) tt
never-removes w d table name (of_leaf l) = never-then is_no_table (source w l name) _ (never-source w l name) (λ p. tt)

pub removed_tables_exist : RemovedTablesExist
removed_tables_exist calls name table other =
    let past : Past = past_of calls in
    let w : World = world_of past in
    never-is is_no_table (remove_table w name table) (NoTable other) refl
    (never-found is_no_table (node_called w name) (NoNode name) _ refl (λ n found.
    never-test is_no_table (not (is_among table (tables_of n.node))) (NotInSet table) _ refl (λ among.
    never-there is_no_table (place_of table (w.database n.database).part.tables) (NoTable table) _
    (among-are (table_names (history_in past n.database)) (tables_of n.node) table (node-tables (history_in past n.database) (legal_past calls n.database) n.node (called-there w name n found))
    (not-false (is_among table (tables_of n.node)) among)) (λ number _.
    never-removes w n.database number table n.node))))
