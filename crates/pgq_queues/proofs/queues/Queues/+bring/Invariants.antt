use Rattle.pgq_queues.proofs.queues.Queues.+bring.Given as goal

-- those that are to come back
abbrev pub decreases-bring : goal.decreases-bring
decreases-bring l = l.count
