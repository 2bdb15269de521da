use Rattle.std.proofs.Common.{to_z, of_z, w64}
use Rattle.std.proofs.lemmas.Int.{to_z-of_z}
use Rattle.pgq_parts.specs.Seen.{seen_database}
use Rattle.pgq_parts.proofs.Databases.{made-queue}
use Rattle.pgq_parts.proofs.Results.{on-ok}
use Rattle.pgq_db.proofs.db.Db.new_queue.Goals as goal

pub returns : goal.returns
returns g c =
    on-ok c.make_queue.result c.make_queue.ensures (λ marked.
    made-queue (seen_database c.args.self.now) (seen_database c.take_txid.new.self) _ c.args.now (to_z w64 (of_z w64 c.args.now)) c.args.who c.args.txid c.args.name.now c.in_ok-name.name c.in_ok-name.ensures
    (to_z-of_z w64 c.args.now c.ranges.now) c.in_ok-take_txid.ensures.marks marked)
