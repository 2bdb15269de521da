-- What a move of a worker of a leaf does to its two databases, or why it is refused.
use Rattle.std.specs.Prelude.{◌≡◌, true, List, [], ◌∷◌, Option, Ok, is_ok}
use Rattle.sky_model.specs.declared.reply.Reply.{Reply}
use Rattle.sky_model.specs.declared.reply.Limit.TheVariants.{Consumers}
use Rattle.sky_model.specs.declared.reply.Refusal.TheVariants as refusal
use Rattle.sky_model.specs.State.{Database, after_marks}
use Rattle.sky_model.specs.Outcome.{Checked, marks_of}
use Rattle.sky_model.specs.StepNode.{NodeCall, node_does}
use Rattle.sky_model.specs.WorkerMoves.{Move}
use Rattle.sky_model.specs.Stops.{Refuses}
use Rattle.londiste_calls.specs.declared.faults.WorkerFault.{WorkerFault}
use Rattle.londiste_calls.specs.declared.faults.WorkerFault.TheVariants as fault

-- a database after a call, and after calls, one after another
abbrev pub after_call : Database → NodeCall → Database
after_call d call = after_marks d (marks_of (node_does d call))

abbrev pub after_calls : Database → List NodeCall → Database
after_calls d [] = d
after_calls d (call ∷ calls) = after_calls (after_call d call) calls

-- none of them is refused
abbrev pub AllAccepted : Database → List NodeCall → Type 0
AllAccepted d [] = Unit {0}
AllAccepted d (call ∷ calls) = (is_ok (node_does d call) ≡ true) × AllAccepted (after_call d call) calls

-- a database did what calls say, one after another
pub record ServesAll (old new : Database) (calls : List NodeCall) : Type 0 where
  pub accepted : AllAccepted old calls
  pub changed : new ≡ after_calls old calls

-- both databases did what a move says; this was printed, and this is in hand then
pub record MovesAs {H : Type 0} (move : Move H) (p_old p_new r_old r_new : Database) (replies : List Reply) (hand : Option H) : Type 0 where
  pub provider : ServesAll p_old p_new move.provider
  pub replica : ServesAll r_old r_new move.replica
  pub printed : replies ≡ move.replies
  pub in_hand : hand ≡ move.hand

-- the move isn't refused, and they did so
pub record MovesBy {H : Type 0} (checked : Checked (Move H)) (p_old p_new r_old r_new : Database) (replies : List Reply) (hand : Option H) : Type 0 where
  pub move : Move H
  pub is : checked ≡ Ok move
  pub moved : MovesAs move p_old p_new r_old r_new replies hand

-- what a move may change
abbrev pub All : Type 0 → Type 0
All H = Database × Database × Option H

-- it is refused as its definition says, and nothing has changed; or memory ran out
abbrev pub MoveRefused : {H : Type 0} → WorkerFault → Checked (Move H) → (p_old p_new r_old r_new : Database) → (hand_old hand_new : Option H) → Type 0
MoveRefused {H} fault.TooManyConsumers checked p p_new r r_new hand hand_new = Refuses {S = All H} (p, r, hand) (p_new, r_new, hand_new) (refusal.TooMany Consumers) checked
MoveRefused {H} fault.IdsSpent checked p p_new r r_new hand hand_new = Refuses {S = All H} (p, r, hand) (p_new, r_new, hand_new) refusal.IdsSpent checked
MoveRefused {H} fault.TxidsSpent checked p p_new r r_new hand hand_new = Refuses {S = All H} (p, r, hand) (p_new, r_new, hand_new) refusal.TxidsSpent checked
MoveRefused fault.NoMemory checked p p_new r r_new hand hand_new = Unit {0}
