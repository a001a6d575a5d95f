use Rattle.std.proofs.Common.{arith, length, ap}
use Rattle.kt_decl.proofs.RowLemmas.{members_few}
use Rattle.kt_decl.proofs.meeting.own.Goals as goal

pub overflow_cast-result : goal.overflow_cast-result
overflow_cast-result c =
    let few = members_few c.args.rows.now c.requires c.args.class in
    let same = ap length c.members_at.ensures in
    let within = c.in-Some.ensures.within in
    omega arith
