-- What holds of the tables of a leaf, of copies that run, and of rows that are read, in a database that calls have made.
use Rattle.std.proofs.Common.{◌≡◌, ℕ, ◌≤◌, ◌<◌, ◌==◌, Bool, true, false, not, ◌&&◌, ◌||◌, ◌∙◌, List, [], ◌∷◌, ◌++◌, length, bytes_eq, is_some, Option, Some, None, IfSome, IsSome, option_map, nat_le, refl, sym, ap, subst, arith, if◌then◌else◌, ◌⊎◌, inl, inr}
use Rattle.std.specs.List.{list_any}
use Rattle.std.proofs.lemmas.List.{length-append}
use Rattle.std.proofs.lemmas.List.Elements.{All-cons}
use Rattle.std.proofs.lemmas.Bool.{false_from_ne_true}
use Rattle.std.proofs.lemmas.Bool.Decides.{nat_tests}
use Rattle.sky_val.specs.declared.val.Val.{Val}
use Rattle.sky_txid.specs.Ids.{contains}
use Rattle.sky_txid.specs.Snapshot.{SnapshotView}
use Rattle.sky_keys.specs.declared.version.Version.{Version}
use Rattle.sky_keys.specs.Versions.{version_of, is_other, newest_from, newest_but, read, versions_at}
use Rattle.sky_keys.proofs.VersionLemmas.{OnlyLast}
use Rattle.sky_names.specs.Places.{place_of}
use Rattle.sky_val.specs.declared.event.Event.{Event}
use Rattle.londiste_state.specs.Nodes.{Leaf, of_leaf, is_among, all_but}
use Rattle.sky_model.specs.StepApply.{picks, picked, is_of_copied}
use Rattle.sky_model.specs.History.{Pick, queued, unregistered, History}
use Rattle.sky_model.specs.Transactions.{next_txid, workers, has_ended}
use Rattle.sky_model.specs.Rows.{table_names}
use Rattle.sky_model.specs.Locks.{holder}
use Rattle.sky_model.specs.Copies.{copies, is_copied_by, copy_txid}
use Rattle.sky_model.specs.Consumers.{consumers, Subscription, subscription_id, position, active}
use Rattle.sky_model.specs.Nodes.{node, leaf_tables}
use Rattle.sky_model.specs.State.{Database}
use Rattle.sky_model.specs.StepNode.{may_copy, table_number}
use Rattle.sky_model.specs.Promises.{after_all}
use Rattle.sky_model.specs.Settling.{Turn}
use Rattle.sky_model.specs.DatabaseCalls.{DatabaseCall, IsDatabaseCallInForm, database_part}
use Rattle.sky_model.specs.DatabaseSteps.{DatabaseSteps, IsMade}
use Rattle.sky_model.specs.LawsOfWrites.{IsRowOf}
use Rattle.sky_histories.proofs.Legal.{registers, Legal, start, next}
use Rattle.sky_histories.proofs.Members.{among-consumers}
use Rattle.sky_histories.proofs.Snapshots.{sound, runs-unended, copys-of}
use Rattle.sky_histories.proofs.RowKeys.{begun}
use Rattle.sky_histories.proofs.KeyVersions.{kept, key_holds}
use Rattle.sky_histories.proofs.WrittenRows.{read-left, all-left}
use Rattle.sky_histories.proofs.Guarded.{IsGuarded, copied-by, copies-guarded, copy_txid-some}
use Rattle.sky_histories.proofs.CopyCalls.{leafs, among-one}
use Rattle.sky_histories.proofs.NodeCalls.{leaf-has}
use Rattle.sky_histories.proofs.ApplyCalls.{picked-among}
use Rattle.sky_histories.proofs.ApplyingLaws.{picked-idle}
use Rattle.sky_histories.proofs.CopyLaws.{unheld}
use Rattle.sky_histories.proofs.Histories.{legal_calls, stands_calls}
use Rattle.sky_model.proofs.Cases.{by_test, by_same}

-- the history of such a database
abbrev made_by : {d : Database} → IsMade d → History
made_by made = after_all database_part made.calls

legal-made : {d : Database} → (made : IsMade d) → Legal (made_by made)
legal-made made = legal_calls made.calls

-- one more call makes the next
pub made-after : (old new : Database) (call : DatabaseCall) (turn : Turn) → IsMade old → IsDatabaseCallInForm call → DatabaseSteps old new call turn → IsMade new
made-after old new call turn made form steps = record {
  calls = call ∷ made.calls;
  in_form = All-cons IsDatabaseCallInForm call made.calls form made.in_form;
  shown = steps.stands made.calls made.in_form made.shown;
}

-- ---- the version of a transaction that runs is the newest

last-own : (p : ℕ → Bool) (t : ℕ) (vs : List Version) → OnlyLast p vs → p t ≡ false → (newest : Option Version) → IsSome (version_of t vs) → newest_from (is_other None) newest vs ≡ version_of t vs
last-own p t [] only unseen newest is = absurd (cc)
last-own p t (v ∷ vs) only unseen newest is = of only.0 (last-own p t vs only.1 unseen (Some v)) is
  where
    of : ((p v.txid ≡ true) ⊎ (vs ≡ [])) → (IsSome (version_of t vs) → newest_from (is_other None) (Some v) vs ≡ version_of t vs) → IsSome (version_of t (v ∷ vs))
        → newest_from (is_other None) newest (v ∷ vs) ≡ version_of t (v ∷ vs)
    of (inl seen) rest is = (let other : (t == v.txid) ≡ false = grind (arith, nat_tests, seen, unseen) in
        let own : version_of t (v ∷ vs) ≡ version_of t vs = ap (λ b. if b then Some v else version_of t vs) other in rest (subst IsSome own is) ∙ sym own)
    of (inr last) rest is = subst (λ ws. IsSome (version_of t (v ∷ ws)) → newest_from (is_other None) newest (v ∷ ws) ≡ version_of t (v ∷ ws)) (sym last) single is
      where
        single : IsSome (version_of t (v ∷ [])) → Some v ≡ version_of t (v ∷ [])
        single = by_test (λ b. IsSome (if b then Some v else None) → Some v ≡ (if b then Some v else None)) (t == v.txid) (λ _ _. refl) (λ _ none. absurd (cc none))

-- ---- a copy may begin, and a leaf's table be written

-- no session holds a key of the table, and the next transaction has no version in it
pub record CopyMayBegin (d : Database) (table : ℕ) : Type 0 where
  pub free : (key : List Val) → d.part.holder table key ≡ None
  pub fresh : (key : List Val) → version_of d.part.next (versions_at key (d.part.versions table)) ≡ None

fresh-at : (h : History) → Legal h → (table : ℕ) (key : List Val) → version_of (next_txid h) (kept h table key) ≡ None
fresh-at h l table key =
    let unended : has_ended h (next_txid h) ≡ false = false_from_ne_true (has_ended h (next_txid h)) (λ is. let below = (sound h l).ended_below (next_txid h) is in absurd (omega arith)) in
    let none = begun h l table (next_txid h) (omega arith) in
    grind (arith, (key_holds h l table key).own (next_txid h) unended, none)

-- so it is of each table of a leaf
pub leaf-may-write : (d : Database) → IsMade d → (name : List ℕ) (table : ℕ) → is_among name (leaf_tables d.node) ≡ true → table_number d name ≡ Some table → CopyMayBegin d table
leaf-may-write d made name table among there = subst (λ (x : Database). CopyMayBegin x table) (sym made.shown) (record { free = λ key. unheld h l table g key (holder table key h) refl; fresh = fresh-at h l table })
  where
    h : History
    h = made_by made

    l : Legal h
    l = legal-made made

    is : is_among name (leaf_tables (node h)) ≡ true
    is = ap (λ (x : Database). is_among name (leaf_tables x.node)) (sym made.shown) ∙ among

    at : place_of name (table_names h) ≡ Some table
    at = ap (λ (x : Database). table_number x name) (sym made.shown) ∙ there

    g : IsGuarded h table
    g = record { leaf = leaf-has (node h) name is; guarded = (stands_calls made.calls).guarding table ∙ among-one (table_names h) (leaf_tables (node h)) name table at is }

pub copy-may-begin : (d : Database) → IsMade d → (name : List ℕ) (table : ℕ) → may_copy name d.node ≡ true → table_number d name ≡ Some table → CopyMayBegin d table
copy-may-begin d made name table may there = leaf-may-write d made name table (leafs d.node name may).among there

-- and so of that of each event that is picked
pub picked-may-write : (d : Database) → IsMade d → (l : Leaf) → d.node ≡ Some (of_leaf l) → (pick : Pick) (event : Event) → picks l pick event ≡ true → (name : List ℕ) → event.ev_extra1 ≡ Some name
    → (table : ℕ) → table_number d name ≡ Some table → CopyMayBegin d table
picked-may-write d made l leaf pick event is name named table there =
    leaf-may-write d made name table (ap (λ n. is_among name (leaf_tables n)) leaf ∙ picked-among l pick event name named is) there

-- and no copy runs of any of these
pub picked-uncopied : (d : Database) → IsMade d → (pick : Pick) (events : List Event) → list_any (is_of_copied d) (picked d.node pick events) ≡ false
picked-uncopied d made pick events = subst (λ (x : Database). list_any (is_of_copied x) (picked x.node pick events) ≡ false) (sym made.shown) (picked-idle (made_by made) (legal-made made) pick events)

-- ---- a copy that runs

-- its transaction is a worker's that runs; no session holds a key of the table; and its version of a key is the newest
pub record CopyGoesOn (d : Database) (table t : ℕ) : Type 0 where
  pub runs : contains t d.part.workers ≡ true
  pub free : (key : List Val) → d.part.holder table key ≡ None
  pub last : (key : List Val) → let vs : List Version = versions_at key (d.part.versions table) in IsSome (version_of t vs) → newest_but None vs ≡ version_of t vs

pub copy-goes-on : (d : Database) → IsMade d → (table t : ℕ) → copy_txid table d.copies ≡ Some t → CopyGoesOn d table t
copy-goes-on d made table t is = subst (λ (x : Database). CopyGoesOn x table t) (sym made.shown) (record {
  runs = works;
  free = λ key. unheld h l table (copies-guarded h l table (copied-by table t (copies h) runs)) key (holder table key h) refl;
  last = λ key own. last-own (has_ended h) t (kept h table key) (key_holds h l table key).only unended None own;
})
  where
    h : History
    h = made_by made

    l : Legal h
    l = legal-made made

    runs : is_copied_by table t (copies h) ≡ true
    runs = copy_txid-some table t (copies h) (ap (λ (x : Database). copy_txid table x.copies) (sym made.shown) ∙ is)

    works : contains t (workers h) ≡ true
    works = (sound h l).copying t (copys-of table t (copies h) runs)

    unended : has_ended h t ≡ false
    unended = runs-unended h (sound h l) t ((sound h l).works t works)

-- ---- rows that are read

-- a row that is read of a table is one that the table may have under its key
pub read-fits : (d : Database) → IsMade d → (s : SnapshotView) (own : Option ℕ) (table : ℕ) (key : List Val) → IfSome (read s own (versions_at key (d.part.versions table))) (IsRowOf (d.part.columns table) key)
read-fits d made s own table key = subst (λ (x : Database). IfSome (read s own (versions_at key (x.part.versions table))) (IsRowOf (x.part.columns table) key)) (sym made.shown) (read-left (made_by made) (all-left (made_by made) (legal-made made)) s own table key)

-- ---- the consumers of a queue

pub all_but-fewer : (name : List ℕ) (names : List (List ℕ)) → length (all_but name names) ≤ length names
all_but-fewer name [] = omega arith
all_but-fewer name (n ∷ names) = grind (arith, all_but-fewer name names)

pub few-consumers : (h : History) → Legal h → (q : ℕ) → length (consumers q h) ≤ 256
few-consumers [] start q = omega arith
few-consumers _ (next {h = h} l (registers p name sub tick i none f g low few)) q =
    by_same (λ b. length (if b then consumers q h ++ name ∷ [] else consumers q h) ≤ 256) p q (λ same. let now : length (consumers q h) < 256 = subst (λ k. length (consumers k h) < 256) same few in omega (arith, now, length-append (consumers q h) (name ∷ []))) (λ _. few-consumers h l q)
few-consumers (queued (unregistered p name sub) ∷ h) (next l fine) q =
    by_test (λ b. length (if b then all_but name (consumers q h) else consumers q h) ≤ 256) (p == q) (λ _. omega (arith, few-consumers h l q, all_but-fewer name (consumers q h))) (λ _. few-consumers h l q)
few-consumers (_ ∷ h) (next l fine) q = few-consumers h l q

-- without one of them they are fewer
pub all_but-less : (name : List ℕ) (names : List (List ℕ)) → list_any (λ n. bytes_eq name n) names ≡ true → length (all_but name names) < length names
all_but-less name [] is = absurd (cc)
all_but-less name (n ∷ names) is =
    by_test (λ b. bytes_eq name n ≡ b → (b || list_any (λ n. bytes_eq name n) names) ≡ true → length (all_but name (n ∷ names)) < length (n ∷ names)) (bytes_eq name n)
    (λ _ same _. grind (arith, same, all_but-fewer name names))
    (λ _ _ rest. let less = all_but-less name names rest in grind (arith, less, all_but-fewer name names)) refl is

-- a queue that isn't full for a consumer has room for it once it has left
pub room-without : (d : Database) → IsMade d → (q : ℕ) (consumer : List ℕ) → (nat_le 256 (length (d.queue q).members) && not (is_some ((d.queue q).sub consumer))) ≡ false
    → length (all_but consumer (d.queue q).members) < 256
room-without d made q consumer = subst (λ (x : Database). (nat_le 256 (length (x.queue q).members) && not (is_some ((x.queue q).sub consumer))) ≡ false → length (all_but consumer (x.queue q).members) < 256)
    (sym made.shown) (of (subscription_id q consumer h) (among-consumers h q consumer))
  where
    h : History
    h = made_by made

    few : length (consumers q h) ≤ 256
    few = few-consumers h (legal-made made) q

    of : (o : Option ℕ) → list_any (λ n. bytes_eq consumer n) (consumers q h) ≡ is_some o → (nat_le 256 (length (consumers q h)) && not (is_some {T = Subscription} (option_map (λ id. record { id = id; position = position q consumer h; active = active q consumer h }) o))) ≡ false
        → length (all_but consumer (consumers q h)) < 256
    of None there free = grind (arith, nat_tests, free, all_but-fewer consumer (consumers q h))
    of (Some id) there free = omega (arith, few, all_but-less consumer (consumers q h) there)
