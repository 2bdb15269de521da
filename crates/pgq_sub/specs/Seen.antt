-- A queue's subscriptions: its consumers, and what is kept under each.
use Rattle.std.specs.Prelude.{ℕ, List, [], ◌∷◌, ◌++◌, Option, Some, None, option_map, option_and_then}
use Rattle.sky_names.specs.Named.{NamedView, value_of}
use Rattle.londiste_state.specs.Nodes.{all_but}
use Rattle.sky_model.specs.Consumers.{Subscription}
use Rattle.sky_model.specs.State.{changed_for}
use Rattle.pgq_sub.specs.declared.sub.OpenBatch.{OpenBatch}
use Rattle.pgq_sub.specs.Views.{SubView, seen_sub}

-- the consumers in the order of registering, and the subscription of each
pub record SubsSeen : Type 0 where
  pub members : List (List ℕ)
  pub kept : List ℕ → Option SubView

abbrev pub seen_subs : NamedView SubView → SubsSeen
seen_subs s = record { members = s.names; kept = λ name. value_of name s }

-- the subscriptions as the definitions see them
abbrev pub shown : (List ℕ → Option SubView) → List ℕ → Option Subscription
shown kept name = option_map seen_sub (kept name)

-- the active batch of a subscription, if there is one
abbrev pub open_in : Option SubView → Option OpenBatch
open_in s = option_and_then SubView.active s

-- those of a queue at which nobody has registered
abbrev pub no_subs : NamedView SubView
no_subs = record { names = []; values = [] }

-- with a new consumer's, by its id and the tick where it is
abbrev pub with_member : List ℕ → (id position : ℕ) → SubsSeen → SubsSeen
with_member consumer id position s = record {
  members = s.members ++ consumer ∷ [];
  kept = changed_for consumer (λ _. Some (record { id = id; position = position; active = None })) s.kept;
}

-- with a consumer's changed, if it is registered
abbrev pub with_sub : List ℕ → (SubView → SubView) → SubsSeen → SubsSeen
with_sub consumer change s = record s { kept = changed_for consumer (option_map change) s.kept }

-- without a consumer and its subscription; the others keep their order
abbrev pub without_member : List ℕ → SubsSeen → SubsSeen
without_member consumer s = record { members = all_but consumer s.members; kept = changed_for consumer (λ _. None) s.kept }
