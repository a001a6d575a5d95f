-- The code's table of operators.
use Rattle.kt_tree.specs.declared.token.Kind.{Kind}
use Rattle.kt_tree.specs.declared.token.Kind.TheVariants.{Not, NotNull, NotEqual, NotIn, NotIs, Open, Percent, PercentAssign, And, OpenRound, CloseRound, Star, StarAssign, Plus, PlusPlus, PlusAssign, Comma, Minus, MinusMinus, MinusAssign, Arrow, Dot, Range, Slash, SlashAssign, Colon, ColonColon, Semicolon, Less, LessEqual, Assign, Equal, Greater, GreaterEqual, Question, SafeDot, Elvis, At, OpenSquare, CloseSquare, OpenBrace, Or, CloseBrace}
use Rattle.kt_lex.specs.declared.operators.Operator.{Operator}
use Rattle.kt_lex.specs.declared.operators.Operator.TheVariants as variants

-- the token that an operator is
abbrev pub kind_of : Operator → Kind
kind_of variants.Not = Not
kind_of variants.NotNull = NotNull
kind_of variants.NotEqual = NotEqual
kind_of variants.NotIn = NotIn
kind_of variants.NotIs = NotIs
kind_of variants.Open = Open
kind_of variants.Percent = Percent
kind_of variants.PercentAssign = PercentAssign
kind_of variants.And = And
kind_of variants.OpenRound = OpenRound
kind_of variants.CloseRound = CloseRound
kind_of variants.Star = Star
kind_of variants.StarAssign = StarAssign
kind_of variants.Plus = Plus
kind_of variants.PlusPlus = PlusPlus
kind_of variants.PlusAssign = PlusAssign
kind_of variants.Comma = Comma
kind_of variants.Minus = Minus
kind_of variants.MinusMinus = MinusMinus
kind_of variants.MinusAssign = MinusAssign
kind_of variants.Arrow = Arrow
kind_of variants.Dot = Dot
kind_of variants.Range = Range
kind_of variants.Slash = Slash
kind_of variants.SlashAssign = SlashAssign
kind_of variants.Colon = Colon
kind_of variants.ColonColon = ColonColon
kind_of variants.Semicolon = Semicolon
kind_of variants.Less = Less
kind_of variants.LessEqual = LessEqual
kind_of variants.Assign = Assign
kind_of variants.Equal = Equal
kind_of variants.Greater = Greater
kind_of variants.GreaterEqual = GreaterEqual
kind_of variants.Question = Question
kind_of variants.SafeDot = SafeDot
kind_of variants.Elvis = Elvis
kind_of variants.At = At
kind_of variants.OpenSquare = OpenSquare
kind_of variants.CloseSquare = CloseSquare
kind_of variants.OpenBrace = OpenBrace
kind_of variants.Or = Or
kind_of variants.CloseBrace = CloseBrace
