use Rattle.londiste_replay.proofs.worker.ReplayWorker.step.Given as goal

abbrev pub ghost-step_empty_handed : goal.ghost-step_empty_handed
ghost-step_empty_handed g a = g.leaf
