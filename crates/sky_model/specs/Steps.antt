-- What a call of the world promises: after all calls in form after which the world was as it was, the answers are those
-- that the definitions give there, and the world is then as it is after this call too.
use Rattle.std.specs.Prelude.{ℕ, List}
use Rattle.sky_model.specs.declared.reply.Reply.{Reply}
use Rattle.sky_model.specs.Kinds.{Name}
use Rattle.sky_model.specs.InForm.{IsOf, IsInForm}
use Rattle.sky_model.specs.World.{World, after_facts}
use Rattle.sky_model.specs.Reader.{by_world, Deed}
use Rattle.sky_model.specs.Calls.{Call, step, world_part}
use Rattle.sky_model.specs.Promises.{Promises}

-- its session has a name, and its statement is in form
abbrev pub IsCallInForm : Call → Type 0
IsCallInForm call = IsOf Name call.who × IsInForm call.stmt

abbrev pub Steps : (old new : World) (call : Call) (replies : List (ℕ × Reply)) → Type 0
Steps old new call replies = Promises world_part IsCallInForm old new call replies

-- what a call does in a world, by what the world shows alone
abbrev pub deed_at : World → Call → Deed
deed_at w call = step by_world w call

-- the answers of a call, by what the world shows alone
abbrev pub answers_at : World → Call → List (ℕ × Reply)
answers_at w call = (deed_at w call).answers

-- the world after a call, by what the world showed alone
abbrev pub after_call : World → Call → World
after_call w call = after_facts w (deed_at w call).facts
