use Rattle.kt_run.proofs.Steps.{write_quiet}
use Rattle.kt_run.proofs.single_steps.write.Goals as goal

pub returns : goal.returns
returns c = write_quiet c.args.target.fixed c.args.target.local c.args.value _ _ _ c.requires.right c.store.ensures
