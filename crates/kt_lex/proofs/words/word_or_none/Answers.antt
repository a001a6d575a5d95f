use Rattle.std.proofs.Common.{◌≡◌, true, false, sym, ◌∙◌, rules}
use Rattle.std.proofs.lemmas.Bool.Decides.{nat_tests}
use Rattle.std.specs.Str.{chars}
use Rattle.kt_tree.specs.Characters.{begins_name, is_digit}
use Rattle.kt_tree.specs.Text.{first}
use Rattle.kt_lex.proofs.IntegerFronts.{token_at-integer}
use Rattle.kt_lex.proofs.OperatorFronts.{token_at-operator}
use Rattle.kt_lex.proofs.words.word_or_none.Goals as goal

pub returns-then-is_ascii_digit : goal.returns-then-is_ascii_digit
returns-then-is_ascii_digit c =
    let b : begins_name (first (chars c.args.s.now)) ≡ false = search rules in
    let d : is_digit (first (chars c.args.s.now)) ≡ true = search (rules, nat_tests) in
    c.number_at.ensures ∙ sym (token_at-integer (chars c.args.s.now) b d)

pub returns-else-is_ascii_digit : goal.returns-else-is_ascii_digit
returns-else-is_ascii_digit c =
    let b : begins_name (first (chars c.args.s.now)) ≡ false = search rules in
    let d : is_digit (first (chars c.args.s.now)) ≡ false = search (rules, nat_tests) in
    c.operator_at.ensures ∙ sym (token_at-operator (chars c.args.s.now) b d)
