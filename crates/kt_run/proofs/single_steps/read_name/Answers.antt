use Rattle.std.proofs.Common.{sym, subst}
use Rattle.kt_model.specs.declared.uses.Named.{Named}
use Rattle.kt_run.specs.Scene.{Right}
use Rattle.kt_run.specs.Running.{name_run}
use Rattle.kt_run.proofs.Steps.{no_local}
use Rattle.kt_run.proofs.single_steps.read_name.Goals as goal

pub unreachable-requires : goal.unreachable-requires
unreachable-requires c =
    no_local c.named.result c.args.state.now c.in_default.not-Variable (subst (λ (n : Named). Right (name_run n) c.args.state.now) (sym c.named.ensures) c.requires.right)
