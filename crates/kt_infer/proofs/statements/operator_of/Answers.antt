use Rattle.std.proofs.Common.{◌≡◌, Some, sym, ap, ◌∙◌}
use Rattle.kt_model.specs.BodyTrees.{Operation, Arithmetic', compound_of}
use Rattle.kt_typing.specs.Typing.{operator_of}
use Rattle.kt_infer.proofs.statements.operator_of.Goals as goal

same_operation : (a b : Operation) → Some a ≡ Some b → a ≡ b
same_operation a b e = cc

pub returns-in-Arithmetic : goal.returns-in-Arithmetic
returns-in-Arithmetic c o e =
    let same : Arithmetic' c.in-Arithmetic.o ≡ o = same_operation _ _ (ap compound_of (sym c.in-Arithmetic.is) ∙ e) in
    ap (λ z. operator_of z c.args.text) (sym same) ∙ c.arithmetic_operator.ensures c.args.text
