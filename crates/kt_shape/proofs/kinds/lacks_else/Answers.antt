use Rattle.std.proofs.Common.{◌≡◌, not, sym, ap, ◌∙◌}
use Rattle.std.specs.List.{list_any}
use Rattle.kt_shape.specs.ShapeRules.{kind_shape, case_shape}
use Rattle.kt_shape.proofs.ShapeFolds as fold
use Rattle.kt_shape.proofs.kinds.lacks_else.Goals as goal

pub returns-in-If : goal.returns-in-If
returns-in-If c =
    fold.none_by _ _ c.is_none.ensures ∙ sym (ap (λ k. (kind_shape k).lacks_else) c.in-If.is ∙ fold.if_lacks _ _ _)

pub returns-in-When : goal.returns-in-When
returns-in-When c =
    ap not (c.has_else.ensures ∙ ap (list_any (λ b. (case_shape b).is_else)) c.as_slice.ensures) ∙ sym (ap (λ k. (kind_shape k).lacks_else) c.in-When.is ∙ fold.when_lacks _ _)

pub returns-in_default : goal.returns-in_default
returns-in_default c = sym (fold.other_lacks c.args.kind.now c.in_default.not-If c.in_default.not-When)
