use Rattle.std.proofs.Common.{ap, sym, ◌∙◌, map}
use Rattle.std.specs.Option.{option_copied}
use Rattle.kt_model.specs.NameUses.{named_at}
use Rattle.kt_model.specs.BodyTrees.{listed, stmt_tree}
use Rattle.kt_model.specs.Bodies.{body_trees_of, written_trees}
use Rattle.kt_model.proofs.BodyFolds.{block_list}
use Rattle.kt_graph.proofs.Walks.{same_trees, walk_one, walk_empty}
use Rattle.kt_graph.proofs.building.Builder.body.Goals as goal

pub returns-in_ok-n-in-Expr : goal.returns-in_ok-n-in-Expr
returns-in_ok-n-in-Expr c =
    let uses = named_at c.args.uses.now in
    same_trees (ap (λ w. body_trees_of uses (option_copied w)) c.in-Some.is ∙ ap (written_trees uses) c.in-Expr.is) (walk_one c.in_ok-n-in-Expr.ensures)

pub returns-in_ok-n-in-Block : goal.returns-in_ok-n-in-Block
returns-in_ok-n-in-Block c =
    let uses = named_at c.args.uses.now in
    same_trees (ap (λ w. body_trees_of uses (option_copied w)) c.in-Some.is ∙ ap (written_trees uses) c.in-Block.is ∙ block_list uses _ ∙ ap (λ l. listed (map (stmt_tree uses) l)) (sym c.as_slice.ensures)) c.in_ok-n-in-Block.ensures

pub returns-in-None : goal.returns-in-None
returns-in-None c =
    same_trees (ap (λ w. body_trees_of (named_at c.args.uses.now) (option_copied w)) c.in-None.is) (walk_empty c.args.self.now c.args.context c.args.next)
