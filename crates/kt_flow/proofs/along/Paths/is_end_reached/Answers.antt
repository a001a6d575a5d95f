use Rattle.std.proofs.Common.{◌↔◌, map, subst, sym, IsTrue, ◌∙◌}
use Rattle.kt_model.specs.BodyTrees.{listed, stmt_tree}
use Rattle.kt_flow.specs.Ends.{IsLeftBefore}
use Rattle.kt_flow.proofs.Followed.{last_of_listed}
use Rattle.kt_flow.proofs.Ended.{end_by_last, end_never}
use Rattle.kt_flow.proofs.along.Paths.is_end_reached.Goals as goal

pub returns-in-Some-followed_stmt : goal.returns-in-Some-followed_stmt
returns-in-Some-followed_stmt c uses =
    let g = c.args.self.now.graph.now in
    let ss = c.args.statements.now in
    let s = c.in-Some.s.now in
    end_by_last g (listed (map (stmt_tree uses) ss)) (stmt_tree uses s) (last_of_listed (stmt_tree uses) ss s (sym c.in-Some.ensures.value)) c.in-Some-followed_stmt.tree c.is_left.result
    (c.followed_stmt.ensures uses ∙ c.in-Some-followed_stmt.is) (subst (λ n. IsTrue c.is_left.result ↔ IsLeftBefore g c.in-Some-followed_stmt.tree n) c.requires.within c.is_left.ensures)

pub returns-in-None-followed_stmt : goal.returns-in-None-followed_stmt
returns-in-None-followed_stmt c uses =
    let ss = c.args.statements.now in
    let s = c.in-Some.s.now in
    end_never c.args.self.now.graph.now (listed (map (stmt_tree uses) ss)) (stmt_tree uses s) (last_of_listed (stmt_tree uses) ss s (sym c.in-Some.ensures.value)) (c.followed_stmt.ensures uses ∙ c.in-None-followed_stmt.is)
