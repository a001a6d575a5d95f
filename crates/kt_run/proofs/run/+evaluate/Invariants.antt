use Rattle.kt_run.proofs.run.+evaluate.Given as goal

abbrev pub decreases-evaluate : goal.decreases-evaluate
decreases-evaluate g l = l.depth
