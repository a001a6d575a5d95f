use Rattle.std.proofs.Common.{ap, sym, ◌∙◌, map}
use Rattle.std.specs.Option.{option_copied}
use Rattle.kt_model.specs.NameUses.{named_at}
use Rattle.kt_model.specs.BodyTrees.{expr_tree, stmt_tree, listed}
use Rattle.kt_model.specs.Bodies.{body_trees_of, written_trees}
use Rattle.kt_typing.specs.Typing.{Each, all_judged, body_ways, written_ways, value_way}
use Rattle.kt_typing.specs.declared.claims.Way.TheVariants.{Unvalued}
use Rattle.kt_model.proofs.BodyFolds.{block_list}
use Rattle.kt_infer.specs.Noting.{typing_of, by_last}
use Rattle.kt_infer.proofs.Passing.{same_judgements, same_complete_of, judges_in, one_branch, no_branch}
use Rattle.kt_infer.proofs.notes.Notes.trees.Goals as goal

pub returns-in_ok-found-in-Expr : goal.returns-in_ok-found-in-Expr
returns-in_ok-found-in-Expr c =
    let uses = named_at c.args.body.now.uses.now in
    let cx = typing_of c.args.body.now in
    let L = c.args.self.now.locals.entries in
    same_judgements
    (ap (λ w. by_last (all_judged cx (body_ways c.args.gives (option_copied w)) L (body_trees_of uses (option_copied w)))) c.in-Some.is
    ∙ ap (λ b. by_last (all_judged cx (written_ways c.args.gives b) L (written_trees uses b))) c.in-Expr.is)
    (same_complete_of c.is_some.ensures (one_branch cx (expr_tree uses c.in-Expr.e) (Each (value_way c.args.gives)) (judges_in cx (expr_tree uses c.in-Expr.e) (value_way c.args.gives) c.value_way.ensures c.in_ok-found-in-Expr.ensures)))

pub returns-in_ok-typed-in-Block : goal.returns-in_ok-typed-in-Block
returns-in_ok-typed-in-Block c =
    let uses = named_at c.args.body.now.uses.now in
    let cx = typing_of c.args.body.now in
    let L = c.args.self.now.locals.entries in
    same_judgements
    (ap (λ w. by_last (all_judged cx (body_ways c.args.gives (option_copied w)) L (body_trees_of uses (option_copied w)))) c.in-Some.is
    ∙ ap (λ b. by_last (all_judged cx (written_ways c.args.gives b) L (written_trees uses b))) c.in-Block.is
    ∙ ap (λ ts. by_last (all_judged cx (Each Unvalued) L ts)) (block_list uses _ ∙ ap (λ l. listed (map (stmt_tree uses) l)) (sym c.as_slice.ensures))) c.in_ok-typed-in-Block.ensures

pub returns-in-None : goal.returns-in-None
returns-in-None c =
    let uses = named_at c.args.body.now.uses.now in
    let cx = typing_of c.args.body.now in
    let L = c.args.self.now.locals.entries in
    same_judgements (ap (λ w. by_last (all_judged cx (body_ways c.args.gives (option_copied w)) L (body_trees_of uses (option_copied w)))) c.in-None.is) (no_branch cx c.args.self.now (Each Unvalued))
