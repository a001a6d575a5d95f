use Rattle.std.proofs.Common.{sym, ap, ◌∙◌}
use Rattle.kt_tree.specs.declared.grammar.terminal.Terminal.TheVariants as t
use Rattle.kt_tree.specs.declared.grammar.production.First.TheVariants as first
use Rattle.kt_grammar.specs.Lookup.{row_for}
use Rattle.kt_grammar.proofs.Precedence.{row_named, row_modified, row_begun, row_word}
use Rattle.kt_grammar.proofs.lookup.row.Goals as goal

pub returns-in-Some : goal.returns-in-Some
returns-in-Some c = row_named c.args.nonterminal c.args.class c.in-Some.named (sym c.row_for.ensures ∙ c.in-Some.is)

pub returns-in-Some-row_for : goal.returns-in-Some-row_for
returns-in-Some-row_for c =
    let modified = ap (λ b. row_for b c.args.nonterminal first.Modifier c.args.class) (sym c.is_modifier-modifier.ensures) ∙ sym c.row_for-2.ensures in
    row_modified c.args.nonterminal c.args.class c.in-Some-row_for.modified (λ y e. c.in_default.not-Some y (c.row_for.ensures ∙ e))
    (modified ∙ c.in-Some-row_for.is)

pub returns-in-Some-row_for-2 : goal.returns-in-Some-row_for-2
returns-in-Some-row_for-2 c =
    let modified = ap (λ b. row_for b c.args.nonterminal first.Modifier c.args.class) (sym c.is_modifier-modifier.ensures) ∙ sym c.row_for-2.ensures in
    let begun = ap (λ b. row_for b c.args.nonterminal first.Expression c.args.class) (sym c.begins_expression-begins.ensures) ∙ sym c.row_for-3.ensures in
    row_begun c.args.nonterminal c.args.class c.in-Some-row_for-2.begun (λ y e. c.in_default.not-Some y (c.row_for.ensures ∙ e))
    (λ y e. c.in_default-row_for.not-Some y (sym modified ∙ e))
    (begun ∙ c.in-Some-row_for-2.is)

pub returns : goal.returns
returns c =
    let modified = ap (λ b. row_for b c.args.nonterminal first.Modifier c.args.class) (sym c.is_modifier-modifier.ensures) ∙ sym c.row_for-2.ensures in
    let begun = ap (λ b. row_for b c.args.nonterminal first.Expression c.args.class) (sym c.begins_expression-begins.ensures) ∙ sym c.row_for-3.ensures in
    c.row_for-4.ensures
    ∙ ap (λ b. row_for b c.args.nonterminal (first.Just t.Id) c.args.class) c.is_word.ensures
    ∙ row_word c.args.nonterminal c.args.class (λ y e. c.in_default.not-Some y (c.row_for.ensures ∙ e))
    (λ y e. c.in_default-row_for.not-Some y (sym modified ∙ e))
    (λ y e. c.in_default-row_for-2.not-Some y (sym begun ∙ e))
