use Rattle.std.proofs.Common.{sym, ap, ◌∙◌, Some, option_map}
use Rattle.kt_model.specs.NameUses.{named_at}
use Rattle.kt_model.specs.BodyTrees.{stmt_tree, seen, assign_tree, named_there}
use Rattle.kt_model.proofs.BodyFolds.{stmt_expr, stmt_local_any, stmt_assign_any, stmt_while, stmt_do_while, stmt_for}
use Rattle.kt_infer.specs.Left.{declared_number, if_variable, assigned_number}
use Rattle.kt_infer.proofs.OtherNames.{no_word}
use Rattle.kt_infer.proofs.BlockEnds.{no_declared_expr, same_there, declared_local, declared_assign}
use Rattle.kt_infer.proofs.endings.declared_number.Goals as goal

pub returns-in-Expr : goal.returns-in-Expr
returns-in-Expr c =
    let uses = named_at c.args.uses.now in
    sym (ap declared_number (ap (stmt_tree uses) c.in-Expr.is ∙ stmt_expr uses _) ∙ no_declared_expr uses _)

pub returns-in-Local : goal.returns-in-Local
returns-in-Local c =
    let uses = named_at c.args.uses.now in
    let n = c.in-Local.number in
    c.if_variable.ensures ∙ ap (λ m. if_variable m (Some n)) c.named.ensures
    ∙ declared_local (uses n) (named_there n c.in-Local.span c.in-Local.name.span) (option_map (seen uses) c.in-Local.value)
    ∙ sym (ap declared_number (ap (stmt_tree uses) c.in-Local.is ∙ stmt_local_any uses _ _ _ _ _ _))

pub returns-in-Some : goal.returns-in-Some
returns-in-Some c =
    let uses = named_at c.args.uses.now in
    let n = c.in-Assign.number in
    let a = c.in-Assign.assignment in
    let value = option_map (seen uses) c.in-Assign.value in
    c.if_variable-in-Some.ensures ∙ ap (λ m. if_variable m c.assigned_number-assigned.result) c.named-in-Some.ensures
    ∙ ap (if_variable (uses n)) (c.assigned_number-assigned.ensures ∙ ap (λ b. assigned_number a b n) (c.is_some.ensures ∙ sym (same_there (seen uses) c.in-Assign.value)))
    ∙ declared_assign (uses n) n c.in-Assign.span c.in-Some.field-0 a value
    ∙ sym (ap declared_number (ap (stmt_tree uses) c.in-Assign.is ∙ stmt_assign_any uses _ _ _ _ _
    ∙ ap (λ w. assign_tree (uses n) n c.in-Assign.span w a value) (c.name_of.ensures uses ∙ c.in-Some.is)))

pub returns-in-None : goal.returns-in-None
returns-in-None c =
    let uses = named_at c.args.uses.now in
    let n = c.in-Assign.number in
    let a = c.in-Assign.assignment in
    let value = option_map (seen uses) c.in-Assign.value in
    sym (ap declared_number (ap (stmt_tree uses) c.in-Assign.is ∙ stmt_assign_any uses _ _ _ _ _
    ∙ ap (λ w. assign_tree (uses n) n c.in-Assign.span w a value) (c.name_of.ensures uses ∙ c.in-None.is) ∙ no_word (uses n) n c.in-Assign.span a value))

pub returns-in-While : goal.returns-in-While
returns-in-While c =
    let uses = named_at c.args.uses.now in sym (ap declared_number (ap (stmt_tree uses) c.in-While.is ∙ stmt_while uses _ _ _ _))

pub returns-in-DoWhile : goal.returns-in-DoWhile
returns-in-DoWhile c =
    let uses = named_at c.args.uses.now in sym (ap declared_number (ap (stmt_tree uses) c.in-DoWhile.is ∙ stmt_do_while uses _ _ _ _))

pub returns-in-For : goal.returns-in-For
returns-in-For c =
    let uses = named_at c.args.uses.now in sym (ap declared_number (ap (stmt_tree uses) c.in-For.is ∙ stmt_for uses _ _ _ _ _ _ _ _))
