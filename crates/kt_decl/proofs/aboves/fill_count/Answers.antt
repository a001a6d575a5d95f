use Rattle.std.proofs.Common.{◌≡◌, ◌<◌, arith, ap, ◌∙◌, length}
use Rattle.std.proofs.Math.ListN.{length-set}
use Rattle.kt_model.specs.Classes.{supers}
use Rattle.kt_decl.proofs.AboveLemmas.{supers_filled, still_filled, filled_more, filled_past, filled_all}
use Rattle.kt_decl.proofs.aboves.fill_count.Goals as goal
use Rattle.kt_decl.proofs.aboves.fill_count.Goals.{then-counts-i+in_ok-fill_class, else-counts-i}

pub fill_class-requires-clause-filled : goal.fill_class-requires-clause-filled
fill_class-requires-clause-filled c =
    supers_filled c.args.classes.now c.args.counts.now c.args.count c.requires.falls c.requires.closed c.loop-i.aboves.items c.loop-i.i c.if-counts-i.true c.loop-i.invariant.filled

pub loop-i-preserved : goal.loop-i-preserved
loop-i-preserved c =
    let i = c.loop-i.invariant in
    let classes = c.args.classes.now in
    let counts = c.args.counts.now in
    let old = c.loop-i.aboves in
    let inside : c.loop-i.i < length old.items = omega (arith, old.ok.0, i.len) in
    elim c.if-counts-i.branch [
      | then-counts-i+in_ok-fill_class w ↦ (
          let new = w.fill_class.new.aboves in
          let grown = w.in_ok-fill_class.ensures in
          let same : length new.items ≡ length old.items = ap length grown ∙ length-set old.items c.loop-i.i (supers classes c.loop-i.i) in
          rw w.aboves-is record {
            len = omega (arith, new.ok.0, old.ok.0, same, i.len);
            filled = still_filled classes counts c.args.count old.items new.items c.loop-i.i inside grown i.filled;
            here = filled_more classes counts c.args.count old.items new.items c.loop-i.i inside grown i.here;
          }
          )
      | else-counts-i w ↦ rw w.aboves-is record {
        len = i.len;
        filled = i.filled;
        here = filled_past classes counts c.args.count old.items c.loop-i.i w.if-counts-i.false i.here;
      }
    ]

pub returns : goal.returns
returns c =
    let i = c.loop-i.invariant in
    record {
      len = i.len;
      filled = filled_all c.args.classes.now c.args.counts.now c.args.count c.loop-i.aboves.items c.loop-i.i c.loop-i-test.false i.filled i.here;
    }
