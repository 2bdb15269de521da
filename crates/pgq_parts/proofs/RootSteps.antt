-- What the root of a set that is made gives.
use Rattle.std.proofs.Common.{◌≡◌, ℕ, ℤ, ◌<◌, List, [], ◌∷◌, true, false, nat_le, Option, None, Ok, is_some, is_none, length, ◌∙◌, ap, subst, arith}
use Rattle.std.proofs.lemmas.Bool.Decides.{nat_tests}
use Rattle.londiste_state.specs.Nodes.{Node}
use Rattle.sky_model.specs.declared.reply.Limit.TheVariants.{Queues}
use Rattle.sky_model.specs.declared.reply.Refusal.TheVariants.{QueueExists, TooMany}
use Rattle.sky_model.specs.declared.reply.Reply.TheVariants.{Done}
use Rattle.sky_model.specs.History.{of_worker, began, ended, queued, made, noded, root_made}
use Rattle.sky_model.specs.Nodes.{after_node}
use Rattle.sky_model.specs.Outcome.{Checked, Outcome, ◌>>=◌, ◌>>◌, refused_if, does_marks}
use Rattle.sky_model.specs.OwnTransaction.{next_id}
use Rattle.sky_model.specs.Queues.{queue_number}
use Rattle.sky_model.specs.State.{after_part, Database, after_mark, after_marks}
use Rattle.sky_model.specs.StepNode.{making_root, node_does}
use Rattle.sky_histories.proofs.NodeDeeds.{is-served}
use Rattle.sky_state.specs.Views.{RowStateView}
use Rattle.sky_state.specs.Seen.{seen}
use Rattle.pgq_queues.specs.Seen.{seen_with, queues_of}
use Rattle.pgq_parts.specs.Views.{DbView}
use Rattle.pgq_parts.specs.Seen.{with_node, seen_database}
use Rattle.sky_store.specs.Served.{Serves}
use Rattle.pgq_parts.proofs.NodeSteps.{serves-by}

-- with an id for its transaction
abbrev makes : ℤ → (name queue : List ℕ) → ℕ → Checked Outcome
makes now name queue t = does_marks Done (began of_worker t ∷ ended of_worker t true ∷ queued (made queue t now) ∷ noded (root_made name queue) ∷ [])

-- once nothing is against it, that decides
by-id : (d : Database) (now : ℤ) (name queue : List ℕ) → d.node ≡ None → queue_number queue d.queues ≡ None → length d.queues < 64
    → node_does d (making_root name queue now) ≡ (next_id d.part >>= makes now name queue)
by-id d now name queue bare new room =
    let few : nat_le 64 (length d.queues) ≡ false = grind (arith, nat_tests) in
    is-served d (making_root name queue now) (ap is_none bare)
    ∙ (λ i. refused_if (is_some (new i)) (QueueExists queue) >> (refused_if (few i) (TooMany Queues) >> (next_id d.part >>= makes now name queue)))

-- its transaction takes the id and ends
transacted-as : (v now : DbView) (begun after : RowStateView) (t : ℕ) → v ≡ now → seen begun ≡ after_part (seen v.rows) (began of_worker t) → seen after ≡ after_part (seen begun) (ended of_worker t true)
    → seen_database (record v { rows = after }) ≡ after_marks (seen_database now) (began of_worker t ∷ ended of_worker t true ∷ [])
transacted-as v now begun after t same begins ends =
    (λ i. seen_with (with_node v.node (ends i)) v.queues)
    ∙ (λ i. seen_with (with_node v.node (after_part (begins i) (ended of_worker t true))) v.queues)
    ∙ ap (λ (w : DbView). after_marks (seen_database w) (began of_worker t ∷ ended of_worker t true ∷ [])) same

-- the node is the root from then on
rooted-as : (v now : DbView) (own : Option Node) (name queue : List ℕ) → v ≡ now → own ≡ after_node (root_made name queue) v.node.own
    → seen_database (record v { node = record v.node { own = own } }) ≡ after_mark (seen_database now) (noded (root_made name queue))
rooted-as v now own name queue same noding =
    (λ i. seen_with (with_node (record v.node { own = noding i }) (seen v.rows)) v.queues) ∙ ap (λ (w : DbView). after_mark (seen_database w) (noded (root_made name queue))) same

pub root-serves : (v now : DbView) (name queue : List ℕ) (time : ℤ) → v ≡ now → (seen_database now).node ≡ None → queue_number queue (queues_of v.queues) ≡ None → length (queues_of v.queues) < 64
    → (t : ℕ) → next_id (seen v.rows) ≡ Ok t → (begun after : RowStateView) → seen begun ≡ after_part (seen v.rows) (began of_worker t) → seen after ≡ after_part (seen begun) (ended of_worker t true)
    → (w left : DbView) (copied : List ℕ) (at : ℤ) → w ≡ left → seen_database left ≡ after_mark (seen_database (record v { rows = after })) (queued (made copied t at)) → copied ≡ queue → at ≡ time
    → (own : Option Node) → own ≡ after_node (root_made name queue) w.node.own
    → Serves (seen_database now) (seen_database (record w { node = record w.node { own = own } })) (making_root name queue time)
root-serves v now name queue time same bare new room t left_id begun after begins ends w left copied at there making copy is own noding =
    serves-by (seen_database now) _ (making_root name queue time) _
    (by-id (seen_database now) time name queue bare (subst (λ (x : DbView). queue_number queue (queues_of x.queues) ≡ None) same new) (subst (λ (x : DbView). length (queues_of x.queues) < 64) same room)
    ∙ ap (λ c. c >>= makes time name queue) (subst (λ (x : DbView). next_id (seen x.rows) ≡ Ok t) same left_id))
    (rooted-as w left own name queue there noding
    ∙ ap (λ d. after_mark d (noded (root_made name queue))) (making ∙ (λ i. after_mark (transacted-as v now begun after t same begins ends i) (queued (made (copy i) t (is i))))))
