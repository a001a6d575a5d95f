use Rattle.std.proofs.Common.{◌≡◌, ◌+◌, ◌<◌, ◌≤◌, arith}
use Rattle.kt_mean.specs.Evaluation.{most_cells}
use Rattle.kt_run.proofs.Steps.{cells_over, cells_taken}
use Rattle.kt_run.proofs.single_steps.take_cells.Goals as goal

pub returns-then-cells-gt-MOST_CELLS : goal.returns-then-cells-gt-MOST_CELLS
returns-then-cells-gt-MOST_CELLS c =
    let past : most_cells < c.args.state.now.cells + c.args.count = omega arith in
    cells_over c.args.count c.args.state.now past

pub returns : goal.returns
returns c =
    let count = c.saturating_add-cells.result in
    let is : count ≡ c.args.state.now.cells + c.args.count = omega arith in
    let within : count ≤ most_cells = omega arith in
    cells_taken c.args.count count c.args.state.now is within
