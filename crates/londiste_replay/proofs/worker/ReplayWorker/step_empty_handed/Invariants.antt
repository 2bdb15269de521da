use Rattle.londiste_replay.proofs.worker.ReplayWorker.step_empty_handed.Given as goal

abbrev pub ghost-take_leaf_batch : goal.ghost-take_leaf_batch
ghost-take_leaf_batch g a = g.leaf
