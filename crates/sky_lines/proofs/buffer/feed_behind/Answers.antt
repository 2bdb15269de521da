use Rattle.std.proofs.Common.{None, Some}
use Rattle.sky_lines.proofs.FeedLemmas.{IsFirstFeed-behind}
use Rattle.sky_lines.proofs.buffer.feed_behind.Goals as goal

pub returns-in_err-at : goal.returns-in_err-at
returns-in_err-at c =
    rw c.from_residual.ensures (IsFirstFeed-behind c.args.bytes.now c.args.len None c.requires.within c.requires.none c.in_err-at.ensures)

pub returns : goal.returns
returns c =
    IsFirstFeed-behind c.args.bytes.now c.args.len (Some c.in_ok-at.at) c.requires.within c.requires.none c.in_ok-at.ensures
