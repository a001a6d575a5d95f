use Rattle.std.proofs.Common.{◌≡◌, true, false, ap, sym, ◌∙◌}
use Rattle.kt_shape.specs.ShapeRules.{kind_shape, is_dot}
use Rattle.kt_shape.proofs.ShapeFolds as fold
use Rattle.kt_shape.proofs.kinds.is_target.Goals as goal

pub returns-in-Name : goal.returns-in-Name
returns-in-Name c = sym (ap (λ k. (kind_shape k).is_target) c.in-Name.is ∙ fold.name_target _)

pub returns-in-Dot : goal.returns-in-Dot
returns-in-Dot c = sym (ap (λ k. (kind_shape k).is_target) c.in-Member.is ∙ fold.member_target _ _ _ ∙ ap is_dot c.in-Dot.is)

pub returns-in-Safe : goal.returns-in-Safe
returns-in-Safe c = sym (ap (λ k. (kind_shape k).is_target) c.in-Member.is ∙ fold.member_target _ _ _ ∙ ap is_dot c.in-Safe.is)

pub returns-in_default : goal.returns-in_default
returns-in_default c = sym (fold.other_target c.args.kind.now c.in_default.not-Name c.in_default.not-Member)
