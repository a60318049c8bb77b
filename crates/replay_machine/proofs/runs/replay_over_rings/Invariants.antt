use Rattle.replay_machine.proofs.runs.replay_over_rings.Given as goal

abbrev pub ghosts-replay_as : goal.ghosts-replay_as
ghosts-replay_as g a = record { shape = a.job.now.setup.shape; dumps = a.job.now.setup.dump }
