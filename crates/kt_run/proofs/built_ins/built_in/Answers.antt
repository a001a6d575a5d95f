use Rattle.std.proofs.Common.{◌∷◌, []}
use Rattle.kt_run.specs.Scene.{scene}
use Rattle.kt_run.proofs.Chain.{prints_runs, same_runs}
use Rattle.kt_run.proofs.Steps.{line_end, too_many_values}
use Rattle.kt_run.proofs.built_ins.built_in.Goals as goal

pub unreachable-requires : goal.unreachable-requires
unreachable-requires g c = too_many_values c.args.name c.args.values.now c.args.state.now c.in_default.len_at_least c.requires.right

pub returns-in-empty : goal.returns-in-empty
returns-in-empty g c =
    let state = c.args.state.now in
    let old = g.O.Output.state c.args.out.now in
    let new = g.O.Output.state c.end_line.new.out in
    same_runs _ _ (scene state old) c.end_line.result (scene state new) (line_end c.args.name c.args.values.now state c.in-empty.len_below c.requires.right)
    (prints_runs state old new (10 ∷ []) c.end_line.result c.end_line.ensures)
