-- Classes of tokens: what a choice of the grammar looks at. The Kotlin specification's "Syntax and grammar", narrowed; that
-- these words have a meaning only before certain tokens is this project's own way to say it.
use Rattle.std.specs.Prelude.{ℕ, ◌+◌, Bool, true, false, ◌||◌, List, slice_get, if◌then◌else◌, codes, Option, Some, None}
use Rattle.std.specs.Str.{bytes_eq}
use denote.Enum.Bare.{sameb}
use Rattle.kt_tree.specs.contracts.grammar.terminal.Terminal as terminal
use Rattle.kt_tree.specs.declared.grammar.terminal.Terminal.{Terminal}
use Rattle.kt_tree.specs.declared.grammar.terminal.Terminal.TheVariants as t
use Rattle.kt_tree.specs.declared.grammar.terminal.Class.{Class}
use Rattle.kt_tree.specs.declared.token.Kind.{Kind}
use Rattle.kt_tree.specs.declared.token.Kind.TheVariants as k
use Rattle.kt_tree.specs.declared.token.Token.{Token}
use Rattle.kt_tree.specs.declared.tokens.Tokens.{Tokens}

unfoldable pub same_terminal : Terminal → Terminal → Bool
same_terminal = sameb terminal.the_type

-- words that begin or stand before declarations
abbrev pub declaration_word : List ℕ → Option Terminal
declaration_word text =
    if bytes_eq text (codes "import") then Some t.Import else
    if bytes_eq text (codes "kotlin") then Some t.Kotlin else
    if bytes_eq text (codes "contracts") then Some t.Contracts else
    if bytes_eq text (codes "ExperimentalContracts") then Some t.ExperimentalContracts else
    if bytes_eq text (codes "OptIn") then Some t.OptIn else
    if bytes_eq text (codes "public") then Some t.Public else
    if bytes_eq text (codes "private") then Some t.Private else
    if bytes_eq text (codes "open") then Some t.Open else
    if bytes_eq text (codes "abstract") then Some t.Abstract else
    if bytes_eq text (codes "final") then Some t.Final else
    if bytes_eq text (codes "override") then Some t.Override else
    if bytes_eq text (codes "inline") then Some t.Inline else None

-- words inside classes, loops and `try`
abbrev pub member_word : List ℕ → Option Terminal
member_word text =
    if bytes_eq text (codes "init") then Some t.Init else
    if bytes_eq text (codes "get") then Some t.Get else
    if bytes_eq text (codes "until") then Some t.Until else
    if bytes_eq text (codes "downTo") then Some t.DownTo else
    if bytes_eq text (codes "catch") then Some t.Catch else
    if bytes_eq text (codes "finally") then Some t.Finally else None

-- words of contracts
abbrev pub contract_word : List ℕ → Option Terminal
contract_word text =
    if bytes_eq text (codes "contract") then Some t.Contract else
    if bytes_eq text (codes "returns") then Some t.Returns else
    if bytes_eq text (codes "returnsNotNull") then Some t.ReturnsNotNull else
    if bytes_eq text (codes "callsInPlace") then Some t.CallsInPlace else
    if bytes_eq text (codes "InvocationKind") then Some t.InvocationKind else
    if bytes_eq text (codes "implies") then Some t.Implies else None

-- an identifier with this text
abbrev pub first_word : Option Terminal → Option Terminal → Option Terminal → Terminal
first_word (Some w) b c = w
first_word None (Some w) c = w
first_word None None (Some w) = w
first_word None None None = t.Id

abbrev pub word_of : Option (List ℕ) → Terminal
word_of (Some text) = first_word (declaration_word text) (member_word text) (contract_word text)
word_of None = t.Id

abbrev pub terminal_of : List (List ℕ) → Kind → Terminal
terminal_of names k.As = t.As
terminal_of names k.Break = t.Break
terminal_of names k.Class = t.Class
terminal_of names k.Continue = t.Continue
terminal_of names k.Do = t.Do
terminal_of names k.Else = t.Else
terminal_of names k.False = t.False
terminal_of names k.For = t.For
terminal_of names k.Fun = t.Fun
terminal_of names k.If = t.If
terminal_of names k.In = t.In
terminal_of names k.Interface = t.Interface
terminal_of names k.Is = t.Is
terminal_of names k.Null = t.Null
terminal_of names k.Object = t.Object
terminal_of names k.Package = t.Package
terminal_of names k.Return = t.Return
terminal_of names k.Super = t.Super
terminal_of names k.This = t.This
terminal_of names k.Throw = t.Throw
terminal_of names k.True = t.True
terminal_of names k.Try = t.Try
terminal_of names k.Typealias = t.Typealias
terminal_of names k.Typeof = t.Typeof
terminal_of names k.Val = t.Val
terminal_of names k.Var = t.Var
terminal_of names k.When = t.When
terminal_of names k.While = t.While
terminal_of names k.AsSafe = t.AsSafe
terminal_of names k.NotIs = t.NotIs
terminal_of names k.NotIn = t.NotIn
terminal_of names k.OpenRound = t.OpenRound
terminal_of names k.CloseRound = t.CloseRound
terminal_of names k.OpenBrace = t.OpenBrace
terminal_of names k.CloseBrace = t.CloseBrace
terminal_of names k.OpenSquare = t.OpenSquare
terminal_of names k.CloseSquare = t.CloseSquare
terminal_of names k.Dot = t.Dot
terminal_of names k.Comma = t.Comma
terminal_of names k.Semicolon = t.Semicolon
terminal_of names k.Colon = t.Colon
terminal_of names k.ColonColon = t.ColonColon
terminal_of names k.Assign = t.Assign
terminal_of names k.Equal = t.Equal
terminal_of names k.NotEqual = t.NotEqual
terminal_of names k.Less = t.Less
terminal_of names k.Greater = t.Greater
terminal_of names k.LessEqual = t.LessEqual
terminal_of names k.GreaterEqual = t.GreaterEqual
terminal_of names k.Plus = t.Plus
terminal_of names k.Minus = t.Minus
terminal_of names k.Star = t.Star
terminal_of names k.Slash = t.Slash
terminal_of names k.Percent = t.Percent
terminal_of names k.Not = t.Not
terminal_of names k.NotNull = t.NotNull
terminal_of names k.And = t.And
terminal_of names k.Or = t.Or
terminal_of names k.Question = t.Question
terminal_of names k.SafeDot = t.SafeDot
terminal_of names k.Elvis = t.Elvis
terminal_of names k.Range = t.Range
terminal_of names k.Arrow = t.Arrow
terminal_of names k.PlusAssign = t.PlusAssign
terminal_of names k.MinusAssign = t.MinusAssign
terminal_of names k.StarAssign = t.StarAssign
terminal_of names k.SlashAssign = t.SlashAssign
terminal_of names k.PercentAssign = t.PercentAssign
terminal_of names k.PlusPlus = t.PlusPlus
terminal_of names k.MinusMinus = t.MinusMinus
terminal_of names k.At = t.At
terminal_of names (k.Id n) = word_of (slice_get names n)
terminal_of names (k.ReturnAt n) = t.ReturnAt
terminal_of names (k.Int n) = t.Int
terminal_of names (k.Text bytes) = t.TextPart
terminal_of names (k.NamePart n) = t.NamePart
terminal_of names k.Open = t.OpenString
terminal_of names k.ThisPart = t.ThisPart
terminal_of names k.ExprPart = t.ExprPart
terminal_of names k.Close = t.CloseString
terminal_of names k.End = t.End

abbrev pub terminal_or_end : List (List ℕ) → Option Token → Terminal
terminal_or_end names (Some token) = terminal_of names token.kind
terminal_or_end names None = t.End

abbrev pub is_modifier : Terminal → Bool
is_modifier t.Public = true
is_modifier t.Private = true
is_modifier t.Open = true
is_modifier t.Abstract = true
is_modifier t.Final = true
is_modifier t.Override = true
is_modifier t.Inline = true
is_modifier w = false

-- `init`, `contract` and `finally` have a meaning only before a brace
abbrev pub wants_brace : Terminal → Bool
wants_brace t.Init = true
wants_brace t.Contract = true
wants_brace t.Finally = true
wants_brace w = false

-- `catch` and `get` have a meaning only before `(`
abbrev pub wants_round : Terminal → Bool
wants_round t.Catch = true
wants_round t.Get = true
wants_round w = false

abbrev pub is_else : Terminal → Bool
is_else t.Else = true
is_else w = false

abbrev pub is_identifier : Terminal → Bool
is_identifier t.Id = true
is_identifier t.Import = true
is_identifier t.Kotlin = true
is_identifier t.Contracts = true
is_identifier t.ExperimentalContracts = true
is_identifier t.OptIn = true
is_identifier t.Public = true
is_identifier t.Private = true
is_identifier t.Open = true
is_identifier t.Abstract = true
is_identifier t.Final = true
is_identifier t.Override = true
is_identifier t.Inline = true
is_identifier t.Init = true
is_identifier t.Get = true
is_identifier t.Until = true
is_identifier t.DownTo = true
is_identifier t.Catch = true
is_identifier t.Finally = true
is_identifier t.Contract = true
is_identifier t.Returns = true
is_identifier t.ReturnsNotNull = true
is_identifier t.CallsInPlace = true
is_identifier t.InvocationKind = true
is_identifier t.Implies = true
is_identifier w = false

-- what a terminal means before the one that follows it
abbrev pub meaning : Terminal → Terminal → Terminal
meaning w next =
    if wants_brace w then (if same_terminal next t.OpenBrace then w else t.Id)
    else if wants_round w then (if same_terminal next t.OpenRound then w else t.Id)
    else if is_modifier w then (if same_terminal next t.Colon then t.Id else w)
    else if is_else w then (if same_terminal next t.Arrow then t.ElseArrow else w)
    else w

abbrev pub is_leading : Terminal → Bool
is_leading next = same_terminal next t.Arrow || (same_terminal next t.Comma || same_terminal next t.Colon)

abbrev pub is_fresh : Option Token → Bool
is_fresh (Some token) = token.fresh
is_fresh None = false

abbrev pub class_of : List (List ℕ) → Option Token → Option Token → Class
class_of names token next = record {
  terminal = meaning (terminal_or_end names token) (terminal_or_end names next);
  fresh = is_fresh token;
  leads = is_leading (terminal_or_end names next);
}

-- the class of the token at a place; past the end it is that of the end
unfoldable pub class_at : Tokens → ℕ → Class
class_at tokens at = class_of tokens.names (slice_get tokens.list at) (slice_get tokens.list (at + 1))

-- an expected terminal is there: any identifier is an `Id`
abbrev pub stands_for : Terminal → Terminal → Bool
stands_for expected found = if same_terminal expected t.Id then is_identifier found else same_terminal expected found

abbrev pub begins_expression : Terminal → Bool
begins_expression t.Int = true
begins_expression t.True = true
begins_expression t.False = true
begins_expression t.Null = true
begins_expression t.This = true
begins_expression t.OpenString = true
begins_expression t.OpenRound = true
begins_expression t.If = true
begins_expression t.When = true
begins_expression t.Try = true
begins_expression t.Return = true
begins_expression t.ReturnAt = true
begins_expression t.Throw = true
begins_expression t.Break = true
begins_expression t.Continue = true
begins_expression t.Minus = true
begins_expression t.Plus = true
begins_expression t.Not = true
begins_expression w = is_identifier w
