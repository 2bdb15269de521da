use Rattle.sky_model.specs.declared.line.Cause.TheVariants.{TooLong, Truncated, ScriptTooLong, NotUtf8, BadWord}
use Rattle.sky_program.proofs.StatusLemmas.{bad_text-parts}
use Rattle.sky_program.proofs.program.bad_text.Goals as goal

pub returns-in-TooLong : goal.returns-in-TooLong
returns-in-TooLong c = rw (c.in-TooLong.is, bad_text-parts c.args.line TooLong) c.format.ensures.ok

pub returns-in-Truncated : goal.returns-in-Truncated
returns-in-Truncated c = rw (c.in-Truncated.is, bad_text-parts c.args.line Truncated) c.format-in-Truncated.ensures.ok

pub returns-in-ScriptTooLong : goal.returns-in-ScriptTooLong
returns-in-ScriptTooLong c = rw (c.in-ScriptTooLong.is, bad_text-parts c.args.line ScriptTooLong) c.format-in-ScriptTooLong.ensures.ok

pub returns-in-NotUtf8 : goal.returns-in-NotUtf8
returns-in-NotUtf8 c = rw (c.in-NotUtf8.is, bad_text-parts c.args.line NotUtf8) c.format-in-NotUtf8.ensures.ok

pub returns-in-BadWord : goal.returns-in-BadWord
returns-in-BadWord c = rw (c.in-BadWord.is, bad_text-parts c.args.line (BadWord c.in-BadWord.word)) c.format-in-BadWord.ensures.ok
