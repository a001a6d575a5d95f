-- What terminals are to the choices of the grammar: the tests of the grammar as one value. It is this project's own.
use Rattle.std.specs.Prelude.{Bool, true, false, if◌then◌else◌}
use Rattle.kt_tree.specs.declared.grammar.terminal.Terminal.{Terminal}
use Rattle.kt_tree.specs.Classes.{is_modifier, wants_brace, wants_round, is_identifier, begins_expression}
use Rattle.kt_grammar.specs.declared.roles.Role.{Role}
use Rattle.kt_grammar.specs.declared.roles.Role.TheVariants.{Identifier, Modifier, BeforeBrace, BeforeRound, Expression, Other}

unfoldable pub role_of : Terminal → Role
role_of x =
    if is_modifier x then Modifier
    else if wants_brace x then BeforeBrace
    else if wants_round x then BeforeRound
    else if is_identifier x then Identifier
    else if begins_expression x then Expression
    else Other

-- may stand before a declaration
abbrev pub modifies : Role → Bool
modifies Identifier = false
modifies Modifier = true
modifies BeforeBrace = false
modifies BeforeRound = false
modifies Expression = false
modifies Other = false

-- has a meaning only before a brace
abbrev pub before_brace : Role → Bool
before_brace Identifier = false
before_brace Modifier = false
before_brace BeforeBrace = true
before_brace BeforeRound = false
before_brace Expression = false
before_brace Other = false

-- has a meaning only before `(`
abbrev pub before_round : Role → Bool
before_round Identifier = false
before_round Modifier = false
before_round BeforeBrace = false
before_round BeforeRound = true
before_round Expression = false
before_round Other = false

-- is an identifier
abbrev pub identifies : Role → Bool
identifies Identifier = true
identifies Modifier = true
identifies BeforeBrace = true
identifies BeforeRound = true
identifies Expression = false
identifies Other = false

-- may begin an expression
abbrev pub begins : Role → Bool
begins Identifier = true
begins Modifier = true
begins BeforeBrace = true
begins BeforeRound = true
begins Expression = true
begins Other = false
