use Rattle.pgq_queues.specs.Seen.{seen_with}
use Rattle.pgq_parts.specs.Seen.{with_node}
use Rattle.pgq_db.proofs.db.Db.new.Goals as goal

pub returns : goal.returns
returns g c = λ i. seen_with (with_node (c.new-3.ensures i) (c.new.ensures i)) (c.new-2.ensures i)
