use Rattle.std.proofs.Common.{◌≡◌, ◌∙◌, arith, ap, subst, length, vec_len}
use Rattle.kt_decl.specs.Marks.{AreSettled}
use Rattle.kt_decl.proofs.TableLemmas.{settled_table}
use Rattle.kt_decl.proofs.ClassSteps.{length_classes_of}
use Rattle.kt_decl.proofs.table.settled_rows.Goals as goal

pub all_rows-requires-clause-long : goal.all_rows-requires-clause-long
all_rows-requires-clause-long c =
    let aboves = c.in_ok-aboves.aboves in
    let same = ap length c.deref.ensures.value in
    let classes = ap length c.requires.classes in
    omega (arith, same, classes, aboves.ok.0, c.in_ok-aboves.ensures.len, length_classes_of c.args.file.now)

pub settle_all-requires-clause-few : goal.settle_all-requires-clause-few
settle_all-requires-clause-few c =
    let aboves = c.in_ok-aboves.aboves in
    let same = ap length c.deref.ensures.value in
    omega (arith, c.in_ok-rows.ensures.len, same, aboves.ok.0, c.in_ok-aboves.ensures.len, c.requires.few)

pub returns-clause-settled : goal.returns-clause-settled
returns-clause-settled c =
    let rows = c.settle_all.new.rows.items in
    let e = c.in_ok-settle_all.ensures in
    let n : vec_len c.in_ok-rows.rows ≡ length rows = omega (arith, e.len, c.settle_all.new.rows.ok.0) in
    let settled = subst (λ k. AreSettled k rows) n e.settled in
    rw c.from_vec.ensures (settled_table c.args.file.now c.args.classes.now rows c.requires.classes c.requires.ranked (e.outlines ∙ c.in_ok-rows.ensures.outlines) e.rowed settled)
