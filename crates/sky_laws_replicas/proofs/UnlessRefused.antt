-- What holds of what is done, unless it is refused.
use Rattle.std.proofs.Common.{◌≡◌, ℕ, ℤ, nat_le, length, List, [], ◌∷◌, map, Bool, true, false, ◌||◌, Option, Some, None, Ok, Err, IfOk, is_some, refl, ap, if◌then◌else◌}
use Rattle.std.proofs.lemmas.Bool.{or_parts}
use Rattle.sky_model.specs.declared.reply.Limit.TheVariants.{Queues}
use Rattle.sky_model.specs.declared.reply.Refusal.{Refusal}
use Rattle.sky_model.specs.declared.reply.Refusal.TheVariants.{NodeExists, QueueExists, TooMany}
use Rattle.sky_model.specs.declared.reply.Reply.TheVariants.{Done}
use Rattle.sky_model.specs.History.{Mark, of_worker, began, ended, queued, made, noded, root_made, within, node_made, Past}
use Rattle.sky_model.specs.Nodes.{node}
use Rattle.sky_model.specs.Queues.{queues, queue_number}
use Rattle.sky_model.specs.State.{part_of}
use Rattle.sky_model.specs.Outcome.{Checked, ◌>>=◌, ◌>>◌, refused_if, refused_by, found_or, does_marks}
use Rattle.sky_model.specs.OwnTransaction.{next_id}
use Rattle.sky_model.specs.NodesOfWorld.{node_called, root_of, create_root}
use Rattle.sky_model.specs.World.{world_of, history_in, on_top}
use Rattle.sky_histories.proofs.LawfulRows.{nothing}
use Rattle.sky_histories.proofs.Good.{same-session}

-- by a test that holds
pub if-test : {A : Type 0} (P : A → Type 0) (b : Bool) (refusal : Refusal) (c : Checked A) → (b ≡ false → IfOk c P) → IfOk (refused_if b refusal >> c) P
if-test P true refusal c holds = tt
if-test P false refusal c holds = holds refl

-- for a reason that there may be
pub if-refused : {A : Type 0} (P : A → Type 0) (o : Option Refusal) (c : Checked A) → (o ≡ None → IfOk c P) → IfOk (refused_by o >> c) P
if-refused P None c holds = holds refl
if-refused P (Some refusal) c holds = tt

-- because nothing is found
pub if-found : {A B : Type 0} (P : B → Type 0) (o : Option A) (refusal : Refusal) (next : A → Checked B) → ((a : A) → o ≡ Some a → IfOk (next a) P) → IfOk (found_or o refusal >>= next) P
if-found P None refusal next holds = tt
if-found P (Some a) refusal next holds = holds a refl

-- ---- the making of a root

abbrev pub root_marks : (t : ℕ) (name queue : List ℕ) (now : ℤ) → List Mark
root_marks t name queue now = began of_worker t ∷ ended of_worker t true ∷ queued (made queue t now) ∷ noded (root_made name queue) ∷ []

-- of a database that has no node, and then has one
pub if-root : (P : Past → Type 0) (past : Past) (d : ℕ) (name queue : List ℕ)
    → (node (history_in past d) ≡ None → (t : ℕ) → (let q : Past = on_top past (map (within d) (root_marks t name queue (world_of past).now)) in is_some (node (history_in q d)) ≡ true → P (node_made d ∷ q)))
    → IfOk (create_root (world_of past) d name queue) (λ o. P (on_top past o.facts))
if-root P past d name queue holds =
    if-test _ (is_some (node_called (world_of past) name) || is_some (node (history_in past d))) (NodeExists name) _ (λ new.
    let bare : node (history_in past d) ≡ None = nothing (node (history_in past d)) (or_parts (is_some (node_called (world_of past) name)) (is_some (node (history_in past d))) new).1 in
    by bare (is_some (queue_number queue (queues (history_in past d)))) (nat_le 64 (length (queues (history_in past d)))) (next_id (part_of (history_in past d))))
  where
    there : (q : Past) → is_some (node (history_in (within d (noded (root_made name queue)) ∷ q) d)) ≡ true
    there q = ap (λ b. is_some (node (if b then noded (root_made name queue) ∷ history_in q d else history_in q d))) (same-session d)

    by : node (history_in past d) ≡ None → (taken full : Bool) (c : Checked ℕ) → IfOk (root_of d (refused_if taken (QueueExists queue) >> (refused_if full (TooMany Queues) >> (c >>= (λ t.
        does_marks Done (root_marks t name queue (world_of past).now)))))) (λ o. P (on_top past o.facts))
    by bare true full c = tt
    by bare false true c = tt
    by bare false false (Err refusal) = tt
    by bare false false (Ok t) = holds bare t (there (on_top past (map (within d) (began of_worker t ∷ ended of_worker t true ∷ queued (made queue t (world_of past).now) ∷ []))))
