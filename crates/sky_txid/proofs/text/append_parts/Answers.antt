-- If the list runs out of memory, the text still begins with the old one.
use Rattle.std.specs.Fmt.{decimal}
use Rattle.std.proofs.lemmas.Result.{on_err_weaker}
use Rattle.sky_txid.specs.SnapshotText.{colon}
use Rattle.sky_txid.proofs.Texts.{kept_by, head_text}
use Rattle.sky_txid.proofs.text.append_parts.Goals as goal

pub returns-clause-kept : goal.returns-clause-kept
returns-clause-kept c =
    let head = head_text c.args.into.now.items c.append_number.new.into.items c.push.new.self.items c.append_number-2.new.into.items c.push-2.new.self.items
    (decimal c.args.xmin) (decimal c.args.xmax) colon colon
    c.in_ok-append_number.ensures.ok c.in_ok-push.ensures.items c.in_ok-append_number-2.ensures.ok c.in_ok-push-2.ensures.items in
    on_err_weaker c.append_list.result (kept_by _ _ _ _ head) c.append_list.ensures.kept
