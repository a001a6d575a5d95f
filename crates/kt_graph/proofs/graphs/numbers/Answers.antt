use Rattle.std.proofs.Common.{◌∷◌, [], ◌++◌, ap, sym, ◌∙◌, add-one, arith}
use Rattle.std.specs.List.{range_with_len}
use Rattle.kt_graph.proofs.Declarations.{range_more}
use Rattle.kt_graph.proofs.graphs.numbers.Goals as goal

pub loop-n-preserved : goal.loop-n-preserved
loop-n-preserved c =
    c.in_ok-push.ensures.ok ∙ ap (λ l. l ++ c.loop-n.n ∷ []) c.loop-n.invariant
    ∙ sym (ap (range_with_len 0) (add-one c.loop-n.n) ∙ range_more c.loop-n.n 0 c.loop-n.n (omega arith))
