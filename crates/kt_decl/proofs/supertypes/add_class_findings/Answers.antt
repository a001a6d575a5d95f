use Rattle.std.proofs.Common.{arith, ap, refl, length, ◌<◌}
use Rattle.std.proofs.lemmas.Option.{slice_get_read}
use Rattle.kt_decl.proofs.ClassSteps.{class_step, all_classes, read_cycle}
use Rattle.kt_decl.proofs.supertypes.add_class_findings.Goals as goal

pub loop-c-preserved : goal.loop-c-preserved
loop-c-preserved c =
    let i = c.loop-c.invariant in
    let is = rw c.as_slice-c-items.ensures at (slice_get_read _ _ c.loop-c.c-index c.c-item.result refl c.loop-c-test.true c.c-item.is) in
    let file = c.args.file.now in
    let within : c.loop-c.c-index < length file.classes = rw c.as_slice-c-items.ensures at c.loop-c-test.true in
    let read = read_cycle file c.args.cycles.now c.loop-c.number c.loop-c.c-index c.requires.marked c.requires.long i.number within in
    let grown = rw (c.requires.tops, c.requires.kinds) at c.in_ok-at_class_hierarchy.ensures in
    record {
      number = omega (arith, i.number);
      adds = class_step file c.loop-c.c-index c.c-item.result _ _ _ _ read.0 read.1 is i.adds grown;
    }

pub returns : goal.returns
returns c =
    let same = ap length c.as_slice-c-items.ensures in
    all_classes c.args.file.now c.loop-c.c-index _ _ (omega (arith, same, c.loop-c-test.false)) c.loop-c.invariant.adds
