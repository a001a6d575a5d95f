use Rattle.kt_graph.proofs.Walks.{leaves_branch, leaves_at}
use Rattle.kt_graph.proofs.building.Builder.leave.Goals as goal

pub returns-in_ok-out-in-Branch : goal.returns-in_ok-out-in-Branch
returns-in_ok-out-in-Branch c =
    leaves_at c.args.context c.in-Branch.is (leaves_branch c.in-Branch.on_true c.in-Branch.on_false c.args.context c.in_ok-b-in-Branch.ensures c.in_ok-a-in-Branch.ensures c.in_ok-out-in-Branch.ensures)
