use Rattle.std.proofs.Common.{◌≡◌, refl, sym, ◌∙◌}
use Rattle.kt_shape.proofs.ShapeFolds as fold
use Rattle.kt_shape.proofs.kinds.is_else.Goals as goal

pub returns : goal.returns
returns c = fold.none_by _ _ c.is_none.ensures ∙ sym (fold.is_else_by c.args.branch.now _ refl)
