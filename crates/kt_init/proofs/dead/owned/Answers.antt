use Rattle.std.proofs.Common.{◌≡◌, ◌∙◌, ap, sym}
use Rattle.std.specs.Option.{option_copied}
use Rattle.kt_model.specs.DeadTrees.{body_dead}
use Rattle.kt_init.specs.Marks.{dead_by}
use Rattle.kt_init.proofs.Found.{nothing_found, same_found}
use Rattle.kt_init.proofs.dead.owned.Goals as goal

pub returns-in-Some : goal.returns-in-Some
returns-in-Some c =
    same_found c.written.result c.args.found.now c.written.new.found (sym (c.body_of.ensures (dead_by c.args.marks.now) ∙ ap (λ o. body_dead (dead_by c.args.marks.now) (option_copied o)) c.in-Some.is)) c.written.ensures

pub returns-in-None : goal.returns-in-None
returns-in-None c =
    nothing_found c.args.found.now (c.body_of.ensures (dead_by c.args.marks.now) ∙ ap (λ o. body_dead (dead_by c.args.marks.now) (option_copied o)) c.in-None.is)
