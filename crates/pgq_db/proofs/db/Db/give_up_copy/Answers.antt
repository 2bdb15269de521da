use Rattle.std.proofs.Common.{◌∙◌, ap}
use Rattle.sky_model.specs.Copies.{copy_txid}
use Rattle.pgq_parts.specs.Seen.{seen_database}
use Rattle.pgq_parts.specs.Views.{DbView}
use Rattle.pgq_parts.proofs.CopySteps.{some-runs, gives-up, gives-none}
use Rattle.pgq_db.proofs.db.Db.give_up_copy.Goals as goal

pub roll_back_copy-requires : goal.roll_back_copy-requires
roll_back_copy-requires g c =
    some-runs (copy_txid c.args.number (seen_database c.args.self.now).copies) (seen_database c.args.self.now).part.workers c.in-Some.txid c.requires
    (c.in-Some.ensures ∙ ap (λ (v : DbView). copy_txid c.args.number v.node.copies) c.self.view_is)

pub returns-in-Some : goal.returns-in-Some
returns-in-Some g c = λ name.
    gives-up (seen_database c.args.self.now) (seen_database c.roll_back_copy.new.self) c.args.number c.in-Some.txid name _
    (c.in-Some.ensures ∙ ap (λ (v : DbView). copy_txid c.args.number v.node.copies) c.self.view_is) (c.roll_back_copy.ensures c.args.number)

pub returns-in_default : goal.returns-in_default
returns-in_default g c = λ name.
    gives-none (seen_database c.args.self.now) c.args.number name _ (c.in_default.ensures ∙ ap (λ (v : DbView). copy_txid c.args.number v.node.copies) c.self.view_is)
