-- What holds a switch back, as it is printed.
use Rattle.sky_model.specs.declared.reply.HeldBack.{HeldBack}
use Rattle.sky_model.specs.declared.reply.Reply.TheVariants as replies
use Rattle.sky_model.specs.Printed.{ReplyHasMoments}

-- a reply of it has moments that are printed
abbrev pub IsPrinted : HeldBack → Type 0
IsPrinted held = ReplyHasMoments (replies.HeldBack held)
