use Rattle.std.proofs.Common.{◌≡◌, ◌++◌, ◌∙◌, ap, sym}
use Rattle.kt_model.specs.DeadTrees.{owner_dead}
use Rattle.kt_init.specs.Marks.{dead_by}
use Rattle.kt_init.proofs.Marking.{marked_dead}
use Rattle.kt_init.proofs.init.Init.dead.Goals as goal

pub returns : goal.returns
returns c = record {
  dead = dead_by c.in_ok-marks.marks;
  is_dead = marked_dead c.args.g.now c.args.self.now c.in_ok-marks.marks.begun.keys c.in_ok-marks.marks.entered.keys c.requires c.in_ok-marks.ensures;
  are_outermost = c.in_ok-owned.ensures ∙ ap (λ l. l ++ owner_dead (dead_by c.in_ok-marks.marks) c.args.body.now.file.now c.args.body.now.owner) c.new-found.ensures;
}
