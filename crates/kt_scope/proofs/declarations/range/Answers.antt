use Rattle.std.proofs.Common.{◌≡◌, ◌∙◌, ◌+◌, ◌++◌, ◌∷◌, [], ap, sym, arith}
use Rattle.kt_scope.proofs.Ranges.{range_more}
use Rattle.kt_scope.proofs.declarations.range.Goals as goal

pub loop-i-preserved : goal.loop-i-preserved
loop-i-preserved c =
    let sum : c.in-Some.number ≡ c.args.first + c.loop-i.i = grind (arith, c.in-Some.ensures) in
    c.in_ok-push-in-Some.ensures.ok ∙ ap (λ z. z ++ c.in-Some.number ∷ []) c.loop-i.invariant ∙ sym (range_more c.args.first c.loop-i.i c.in-Some.number sum)
