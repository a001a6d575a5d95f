-- What a token says, before its name has a number.
use Rattle.std.specs.Prelude.{ℕ, Bool, true, false, ◌&&◌, ◌==◌, if◌then◌else◌, List, [], ◌∷◌, codes, Option, Some, None}
use Rattle.kt_tree.specs.declared.token.Kind.{Kind}
use Rattle.kt_tree.specs.declared.token.Kind.TheVariants.{As, Break, Class, Continue, Do, Else, False, For, Fun, If, In, Interface, Is, Null, Object, Package, Return, Super, This, Throw, True, Try, Typealias, Typeof, Val, Var, When, While, NotIs, NotIn, OpenRound, CloseRound, OpenBrace, CloseBrace, OpenSquare, CloseSquare, Dot, Comma, Semicolon, Colon, ColonColon, Assign, Equal, NotEqual, Less, Greater, LessEqual, GreaterEqual, Plus, Minus, Star, Slash, Percent, Not, NotNull, And, Or, Question, SafeDot, Elvis, Range, Arrow, PlusAssign, MinusAssign, StarAssign, SlashAssign, PercentAssign, PlusPlus, MinusMinus, At, Open}

-- A keyword, an operator or a mark of a string is fixed; the others carry their characters or their value.
pub data Lexeme : Type 0 where
  fixed : Kind → Lexeme
  name : List ℕ → Lexeme
  return_at : List ℕ → Lexeme
  number : ℕ → Lexeme
  piece : List ℕ → Lexeme
  name_part : List ℕ → Lexeme

-- two texts are one
abbrev pub same : List ℕ → List ℕ → Bool
same [] [] = true
same [] (d ∷ ds) = false
same (c ∷ cs) [] = false
same (c ∷ cs) (d ∷ ds) = (c == d) && same cs ds

-- the kind of the first row with the text
abbrev pub find : List (List ℕ × Kind) → List ℕ → Option Kind
find [] text = None
find (row ∷ rows) text = if same row.0 text then Some row.1 else find rows text

-- the hard keywords
abbrev pub keywords : List (List ℕ × Kind)
keywords =
    (codes "as", As) ∷ (codes "break", Break) ∷ (codes "class", Class) ∷ (codes "continue", Continue) ∷ (codes "do", Do)
    ∷ (codes "else", Else) ∷ (codes "false", False) ∷ (codes "for", For) ∷ (codes "fun", Fun) ∷ (codes "if", If)
    ∷ (codes "in", In) ∷ (codes "interface", Interface) ∷ (codes "is", Is) ∷ (codes "null", Null) ∷ (codes "object", Object)
    ∷ (codes "package", Package) ∷ (codes "return", Return) ∷ (codes "super", Super) ∷ (codes "this", This)
    ∷ (codes "throw", Throw) ∷ (codes "true", True) ∷ (codes "try", Try) ∷ (codes "typealias", Typealias)
    ∷ (codes "typeof", Typeof) ∷ (codes "val", Val) ∷ (codes "var", Var) ∷ (codes "when", When) ∷ (codes "while", While) ∷ []

-- The operators, and the quote that opens a string. `as?` begins with a letter and stands elsewhere.
abbrev pub operators : List (List ℕ × Kind)
operators =
    (codes "!", Not) ∷ (codes "!!", NotNull) ∷ (codes "!=", NotEqual) ∷ (codes "!in", NotIn) ∷ (codes "!is", NotIs)
    ∷ (34 ∷ [], Open) ∷ (codes "%", Percent) ∷ (codes "%=", PercentAssign) ∷ (codes "&&", And) ∷ (codes "(", OpenRound)
    ∷ (codes ")", CloseRound) ∷ (codes "*", Star) ∷ (codes "*=", StarAssign) ∷ (codes "+", Plus) ∷ (codes "++", PlusPlus)
    ∷ (codes "+=", PlusAssign) ∷ (codes ",", Comma) ∷ (codes "-", Minus) ∷ (codes "--", MinusMinus) ∷ (codes "-=", MinusAssign)
    ∷ (codes "->", Arrow) ∷ (codes ".", Dot) ∷ (codes "..", Range) ∷ (codes "/", Slash) ∷ (codes "/=", SlashAssign)
    ∷ (codes ":", Colon) ∷ (codes "::", ColonColon) ∷ (codes ";", Semicolon) ∷ (codes "<", Less) ∷ (codes "<=", LessEqual)
    ∷ (codes "=", Assign) ∷ (codes "==", Equal) ∷ (codes ">", Greater) ∷ (codes ">=", GreaterEqual) ∷ (codes "?", Question)
    ∷ (codes "?.", SafeDot) ∷ (codes "?:", Elvis) ∷ (codes "@", At) ∷ (codes "[", OpenSquare) ∷ (codes "]", CloseSquare)
    ∷ (codes "{", OpenBrace) ∷ (codes "||", Or) ∷ (codes "}", CloseBrace) ∷ []

-- the hard keyword that the text is
unfoldable pub keyword_of : List ℕ → Option Kind
keyword_of text = find keywords text

-- the operator that the text is
unfoldable pub operator_of : List ℕ → Option Kind
operator_of text = find operators text
