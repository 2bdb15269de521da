use Rattle.std.proofs.Common.{◌∙◌, ap, sym}
use Rattle.sky_lock_table.specs.Holders.{holder_of}
use Rattle.sky_lock_table.specs.Table.{TableView}
use Rattle.sky_lock_table.proofs.SlotLemmas.{held-is}
use Rattle.sky_lock_table.proofs.lock_table.LockTable.holder_at.Goals as goal

pub returns : goal.returns
returns c = c.holder_at.ensures ∙ sym (held-is c.self.inside.slots c.args.key.now) ∙ ap (λ (v : TableView). holder_of v.held c.args.key.now) c.self.view_is
