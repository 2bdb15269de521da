-- One more answer is printed after those before it.
use Rattle.std.proofs.Common.{arith}
use Rattle.sky_print.proofs.Keeping.{ok-failed, kept-failed}
use Rattle.sky_print.proofs.Printing.{named-at, moments-at, printed-more}
use Rattle.sky_print.proofs.print.append_replies.Goals as goal

pub bounds-names-session : goal.bounds-names-session
bounds-names-session c =
    named-at c.args.names.now c.args.replies.now c.loop-session.session-index c.loop-session-item.result c.requires.named (omega arith) c.loop-session-item.is

pub append_reply-requires : goal.append_reply-requires
append_reply-requires c =
    moments-at c.args.replies.now c.loop-session.session-index c.loop-session-item.result c.requires.moments (omega arith) c.loop-session-item.is

pub loop-session-preserved : goal.loop-session-preserved
loop-session-preserved c =
    printed-more c.args.names.now c.args.replies.now c.loop-session.session-index c.loop-session-item.result c.index-names-session.result c.bytes.result.now
    _ _ _ c.requires.named (omega arith) c.loop-session-item.is c.index-names-session.is c.bytes.ensures.value c.loop-session.invariant c.in_ok-append_reply.ensures.ok

pub returns-in_err-append_reply-clause-ok : goal.returns-in_err-append_reply-clause-ok
returns-in_err-append_reply-clause-ok c = ok-failed c.from_residual.result _ c.from_residual.ensures.0

pub returns-in_err-append_reply-clause-kept : goal.returns-in_err-append_reply-clause-kept
returns-in_err-append_reply-clause-kept c = kept-failed c.from_residual.result _ _ _ _ c.loop-session.invariant c.in_err-append_reply.ensures.kept
