-- A move of a worker of a leaf.
use Rattle.std.specs.Prelude.{ℕ, List, [], ◌∷◌, ◌++◌, Option, None, option_map, Ok, Err}
use Rattle.londiste_state.specs.declared.state.TableState.{TableState}
use Rattle.sky_model.specs.declared.reply.Reply.{Reply}
use Rattle.sky_model.specs.declared.reply.Reply.TheVariants.{TableMoved}
use Rattle.sky_model.specs.Outcome.{Checked}
use Rattle.sky_model.specs.StepNode.{NodeCall, moving}

-- what it does in the provider's database and in the leaf's, each as calls for nodes, one after another; what it prints; and what the worker then has
-- in hand
pub record Move (H : Type 0) : Type 0 where
  pub provider : List NodeCall
  pub replica : List NodeCall
  pub replies : List Reply
  pub hand : Option H

-- nothing is done, and this is printed
abbrev pub only_prints : {H : Type 0} → Reply → Option H → Checked (Move H)
only_prints reply hand = Ok (record { provider = []; replica = []; replies = reply ∷ []; hand = hand })

-- a table goes into a state; nothing is in hand
abbrev pub moves_to : {H : Type 0} → TableState → (table : List ℕ) → Checked (Move H)
moves_to state table = Ok (record { provider = []; replica = moving table state ∷ []; replies = TableMoved table state ∷ []; hand = None })

-- calls that come before those of a move
abbrev pub behind_calls : {H : Type 0} → (provider replica : List NodeCall) → Move H → Move H
behind_calls provider replica move = record move { provider = provider ++ move.provider; replica = replica ++ move.replica }

-- a move with what is in hand said another way
abbrev pub handing : {H I : Type 0} → (H → I) → Checked (Move H) → Checked (Move I)
handing kind (Ok move) = Ok (record { provider = move.provider; replica = move.replica; replies = move.replies; hand = option_map kind move.hand })
handing kind (Err refusal) = Err refusal
