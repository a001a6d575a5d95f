use Rattle.std.proofs.Common.{ap, sym, ◌∙◌, map}
use Rattle.std.specs.Option.{option_copied}
use Rattle.kt_model.specs.NameUses.{named_at}
use Rattle.kt_model.specs.BodyTrees.{listed, stmt_tree}
use Rattle.kt_model.specs.Bodies.{body_trees_of, written_trees}
use Rattle.kt_model.proofs.BodyFolds.{block_list}
use Rattle.kt_graph.proofs.Counts.{all_counted, count_one}
use Rattle.kt_graph.proofs.graphs.body_count.Goals as goal

pub returns-in-Expr : goal.returns-in-Expr
returns-in-Expr c =
    let uses = named_at c.args.uses.now in
    all_counted (ap (λ w. body_trees_of uses (option_copied w)) c.in-Some.is ∙ ap (written_trees uses) c.in-Expr.is) (count_one _ c.expr.ensures)

pub returns-in-Block : goal.returns-in-Block
returns-in-Block c =
    let uses = named_at c.args.uses.now in
    all_counted (ap (λ w. body_trees_of uses (option_copied w)) c.in-Some.is ∙ ap (written_trees uses) c.in-Block.is ∙ block_list uses _ ∙ ap (λ l. listed (map (stmt_tree uses) l)) (sym c.as_slice.ensures)) c.statements.ensures
