use Rattle.std.proofs.Common.{ap, ◌∙◌}
use Rattle.kt_tree.specs.declared.ast.body.ExprKind.TheVariants as e
use Rattle.kt_flow.proofs.Followed.{followed_return, followed_return_at, followed_throw, followed_other}
use Rattle.kt_flow.proofs.ends.followed_expr.Goals as goal

pub returns-in-None : goal.returns-in-None
returns-in-None c uses =
    followed_return uses c.args.e.now c.in-Return.value (c.in-Return.is ∙ ap (λ l. e.Return l c.in-Return.value) c.in-None.is)

pub returns-in-Some : goal.returns-in-Some
returns-in-Some c uses =
    followed_return_at uses c.args.e.now _ c.in-Return.value (c.in-Return.is ∙ ap (λ l. e.Return l c.in-Return.value) c.in-Some.is)

pub returns-in-Throw : goal.returns-in-Throw
returns-in-Throw c uses = followed_throw uses c.args.e.now _ c.in-Throw.is

pub returns-in_default : goal.returns-in_default
returns-in_default c uses = followed_other uses c.args.e.now c.in_default.not-Return c.in_default.not-Throw
