use Rattle.std.proofs.Common.{sym, ◌∙◌}
use Rattle.kt_run.proofs.Steps.{no_value}
use Rattle.kt_run.proofs.single_steps.read.Goals as goal

pub unreachable-requires : goal.unreachable-requires
unreachable-requires c = no_value c.args.state.now c.args.local (sym c.in_ok-held.ensures ∙ c.in-None.is) c.requires.right
