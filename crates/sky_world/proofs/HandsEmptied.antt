-- A world in which a worker of a leaf has nothing in hand any more.
use Rattle.std.proofs.Common.{◌≡◌, ℕ, List, [], ◌∷◌, None, sym, ◌∙◌, ap, subst}
use Rattle.sky_model.specs.Hands.{BatchHand}
use Rattle.sky_model.specs.State.{Database, changed_at, changed_for}
use Rattle.sky_model.specs.History.{in_hand, batch_in_hand}
use Rattle.sky_model.specs.World.{after_facts}
use Rattle.sky_databases.specs.Hands.{HandAt, hand_at, batch_at}
use Rattle.sky_world.specs.Views.{StateView}
use Rattle.sky_world.specs.Seen.{seen_state}
use Rattle.sky_world.specs.Whole.{IsWhole}
use Rattle.sky_world.specs.Nodes.{Happened}

module _ {D : Type 0} {seen : D → Database} where
  -- a worker has nothing in hand
  pub emptied-there : (v now : StateView D) (d : ℕ) (table : List ℕ) (hands : List HandAt) → v ≡ now → hand_at hands ≡ changed_at d (changed_for table (λ _. None)) (hand_at v.hands) → IsWhole seen now
      → Happened seen now (record v { hands = hands }) (in_hand d table None ∷ [])
  emptied-there v now d table hands same is whole = record {
    changed = (λ i. record (seen_state seen v) { hands = is i }) ∙ ap (λ (w : StateView D). after_facts (seen_state seen w) (in_hand d table None ∷ [])) same;
    sessions = ap (λ (w : StateView D). w.sessions.names) same;
    databases = ap (λ (w : StateView D). w.databases.names) same;
    whole = subst (IsWhole seen) (sym same) whole;
  }

  -- the worker of a leaf has
  pub batch-emptied : (v now : StateView D) (d : ℕ) (batches : List (ℕ × BatchHand)) → v ≡ now → batch_at batches ≡ changed_at d (λ _. None) (batch_at v.batches) → IsWhole seen now
      → Happened seen now (record v { batches = batches }) (batch_in_hand d None ∷ [])
  batch-emptied v now d batches same is whole = record {
    changed = (λ i. record (seen_state seen v) { batches = is i }) ∙ ap (λ (w : StateView D). after_facts (seen_state seen w) (batch_in_hand d None ∷ [])) same;
    sessions = ap (λ (w : StateView D). w.sessions.names) same;
    databases = ap (λ (w : StateView D). w.databases.names) same;
    whole = subst (IsWhole seen) (sym same) whole;
  }
