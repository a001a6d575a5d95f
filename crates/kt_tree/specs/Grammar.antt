-- The grammar as data: the rows of each nonterminal, what a production is made of, and what stands in a nonterminal's place
-- where no row fits. The Kotlin specification's "Syntax and grammar", narrowed to this project's profile. The code looks rows
-- up; here the first that fits counts.
use Rattle.std.specs.Prelude.{ℕ, Bool, true, false, ◌&&◌, nat_le, not, if◌then◌else◌, List, [], ◌∷◌, Option, Some, None}
use Rattle.kt_tree.specs.declared.grammar.terminal.Terminal.{Terminal}
use Rattle.kt_tree.specs.declared.grammar.terminal.Terminal.TheVariants as t
use Rattle.kt_tree.specs.declared.grammar.terminal.Class.{Class}
use Rattle.kt_tree.specs.declared.grammar.phrase.Form.TheVariants as f
use Rattle.kt_tree.specs.declared.grammar.production.Nonterminal.{Nonterminal}
use Rattle.kt_tree.specs.declared.grammar.production.Nonterminal.TheVariants as n
use Rattle.kt_tree.specs.declared.grammar.production.Production.{Production}
use Rattle.kt_tree.specs.declared.grammar.production.Production.TheVariants as p
use Rattle.kt_tree.specs.declared.grammar.production.First.{First}
use Rattle.kt_tree.specs.declared.grammar.production.First.TheVariants as first
use Rattle.kt_tree.specs.declared.grammar.production.Need.{Need}
use Rattle.kt_tree.specs.declared.grammar.production.Need.TheVariants as need
use Rattle.kt_tree.specs.declared.grammar.production.Row.{Row}
use Rattle.kt_tree.specs.declared.grammar.production.Step.TheVariants.{Take, Keep, KeepChosen, Separated, Exclude, Enter, Leave, Make, Add, Target}
use Rattle.kt_tree.specs.declared.grammar.production.Symbol.{Symbol}
use Rattle.kt_tree.specs.declared.grammar.production.Symbol.TheVariants.{Do, Part}
use Rattle.kt_tree.specs.declared.grammar.production.TheConstants.{OPEN}
use Rattle.kt_tree.specs.Classes.{stands_for, begins_expression, is_modifier}

-- a row for a token that may have its flag set, for one that has it clear, and for one before `->`, `,` or `:`
abbrev pub any : First → Production → ℕ → Row
any x p step = record { first = x; need = need.Any; production = p; opened_by = step }

abbrev pub clear : First → Production → ℕ → Row
clear x p step = record { first = x; need = need.Clear; production = p; opened_by = step }

abbrev pub leading : First → Production → ℕ → Row
leading x p step = record { first = x; need = need.Leading; production = p; opened_by = step }

-- the rows of a nonterminal
unfoldable pub rows : Nonterminal → List Row
rows n.File = []
rows n.Semicolons = any (first.Just t.Semicolon) p.Semicolon 2 ∷ []
rows n.Imports = any (first.Just t.Import) p.Import 2 ∷ []
rows n.Imported = any (first.Just t.Id) p.ImportedName 2 ∷ any (first.Just t.Star) p.ImportedAll 2 ∷ []
rows n.Declarations = any (first.Just t.At) p.FirstDeclaration 2 ∷ any first.Modifier p.FirstDeclaration 2 ∷ any (first.Just t.Class) p.FirstDeclaration 2 ∷ any (first.Just t.Interface) p.FirstDeclaration 2 ∷ any (first.Just t.Fun) p.FirstDeclaration 2 ∷ []
rows n.MoreDeclarations = any (first.Just t.At) p.NextDeclaration 3 ∷ any first.Modifier p.NextDeclaration 3 ∷ any (first.Just t.Class) p.NextDeclaration 3 ∷ any (first.Just t.Interface) p.NextDeclaration 3 ∷ any (first.Just t.Fun) p.NextDeclaration 3 ∷ []
rows n.Declaration = []
rows n.Declared = any (first.Just t.Class) p.ClassDeclared 4 ∷ any (first.Just t.Interface) p.InterfaceDeclared 4 ∷ any (first.Just t.Fun) p.FunctionDeclared 2 ∷ []
rows n.Annotations = any (first.Just t.At) p.Annotation 2 ∷ []
rows n.AnnotationName = any (first.Just t.ExperimentalContracts) p.ExperimentalContracts 2 ∷ any (first.Just t.OptIn) p.OptIn 2 ∷ []
rows n.Modifiers = []
rows n.ModifierList = any (first.Just t.Public) p.NextModifier 4 ∷ any (first.Just t.Private) p.NextModifier 4 ∷ any (first.Just t.Open) p.NextModifier 4 ∷ any (first.Just t.Abstract) p.NextModifier 4 ∷ any (first.Just t.Final) p.NextModifier 4 ∷ any (first.Just t.Override) p.NextModifier 4 ∷ any (first.Just t.Inline) p.NextModifier 8 ∷ []
rows n.Class = []
rows n.ClassParameters = any (first.Just t.OpenRound) p.ClassParameters 4 ∷ []
rows n.ClassParameterList = any first.Modifier p.NextClassParameter 4 ∷ any (first.Just t.Val) p.NextClassParameter 4 ∷ any (first.Just t.Var) p.NextClassParameter 4 ∷ any (first.Just t.Id) p.NextClassParameter 4 ∷ []
rows n.ClassParametersMore = any (first.Just t.Comma) p.MoreClassParameters 4 ∷ []
rows n.ClassParameter = []
rows n.PropertyKeyword = any (first.Just t.Val) p.PropertyKeyword 4 ∷ any (first.Just t.Var) p.PropertyKeyword 4 ∷ []
rows n.Interface = []
rows n.Supertypes = any (first.Just t.Colon) p.Supertypes 4 ∷ []
rows n.SupertypesMore = any (first.Just t.Comma) p.MoreSupertypes 4 ∷ []
rows n.Supertype = []
rows n.SupertypeArguments = any (first.Just t.OpenRound) p.SupertypeArguments 4 ∷ []
rows n.ClassBody = any (first.Just t.OpenBrace) p.ClassBody 4 ∷ []
rows n.Body = []
rows n.Members = any (first.Just t.Init) p.NextMember 4 ∷ any first.Modifier p.NextMember 4 ∷ any (first.Just t.Fun) p.NextMember 4 ∷ any (first.Just t.Val) p.NextMember 4 ∷ any (first.Just t.Var) p.NextMember 4 ∷ []
rows n.Member = any (first.Just t.Init) p.Initialiser 4 ∷ any first.Modifier p.DeclaredMember 4 ∷ any (first.Just t.Fun) p.DeclaredMember 4 ∷ any (first.Just t.Val) p.DeclaredMember 4 ∷ any (first.Just t.Var) p.DeclaredMember 4 ∷ []
rows n.MemberDeclared = any (first.Just t.Fun) p.MemberFunction 4 ∷ any (first.Just t.Val) p.MemberProperty 4 ∷ any (first.Just t.Var) p.MemberProperty 4 ∷ []
rows n.Property = []
rows n.Getter = any (first.Just t.Get) p.Getter 4 ∷ []
rows n.GetterBody = any (first.Just t.Assign) p.GetterExpression 4 ∷ any (first.Just t.OpenBrace) p.GetterBlock 4 ∷ []
rows n.Function = []
rows n.Parameters = any (first.Just t.Id) p.NextParameter 3 ∷ []
rows n.ParametersMore = any (first.Just t.Comma) p.MoreParameters 3 ∷ []
rows n.Parameter = []
rows n.ParameterType = any (first.Just t.Id) p.ValueType 3 ∷ any (first.Just t.OpenRound) p.FunctionType 8 ∷ []
rows n.Types = any (first.Just t.Id) p.NextType 8 ∷ []
rows n.TypesMore = any (first.Just t.Comma) p.MoreTypes 8 ∷ []
rows n.WrittenType = []
rows n.Nullable = any (first.Just t.Question) p.Nullable 5 ∷ []
rows n.Result = any (first.Just t.Colon) p.Result 3 ∷ []
rows n.FunctionBody = any (first.Just t.Assign) p.FunctionExpression 3 ∷ any (first.Just t.OpenBrace) p.FunctionBraces 2 ∷ []
rows n.FunctionBlock = []
rows n.ContractPart = any (first.Just t.Contract) p.Contract 8 ∷ []
rows n.Contract = []
rows n.Effects = any (first.Just t.Returns) p.NextEffect 8 ∷ any (first.Just t.ReturnsNotNull) p.NextEffect 8 ∷ any (first.Just t.CallsInPlace) p.NextEffect 8 ∷ any (first.Just t.Semicolon) p.EffectSemicolon 8 ∷ []
rows n.Effect = any (first.Just t.Returns) p.Returns 8 ∷ any (first.Just t.ReturnsNotNull) p.ReturnsNotNull 8 ∷ any (first.Just t.CallsInPlace) p.CallsInPlace 8 ∷ []
rows n.ReturnedLiteral = any (first.Just t.True) p.ReturnedLiteral 8 ∷ any (first.Just t.False) p.ReturnedLiteral 8 ∷ any (first.Just t.Null) p.ReturnedLiteral 8 ∷ []
rows n.InvocationKind = any (first.Just t.Comma) p.InvocationKind 8 ∷ []
rows n.InvocationKindName = any (first.Just t.InvocationKind) p.QualifiedKind 8 ∷ any (first.Just t.Id) p.PlainKind 8 ∷ []
rows n.Implies = clear (first.Just t.Implies) p.Implies 8 ∷ []
rows n.Implied = any (first.Just t.Id) p.ImpliedName 8 ∷ any (first.Just t.OpenRound) p.ImpliedCondition 8 ∷ []
rows n.Block = []
rows n.Statements = any (first.Just t.Val) p.NextStatement 2 ∷ any (first.Just t.Var) p.NextStatement 2 ∷ any (first.Just t.While) p.NextStatement 2 ∷ any (first.Just t.Do) p.NextStatement 2 ∷ any (first.Just t.For) p.NextStatement 2 ∷ any first.Expression p.NextStatement 2 ∷ any (first.Just t.Semicolon) p.StatementSemicolon 2 ∷ []
rows n.Statement = any (first.Just t.Val) p.LocalStatement 2 ∷ any (first.Just t.Var) p.LocalStatement 2 ∷ any (first.Just t.While) p.LoopStatement 6 ∷ any (first.Just t.Do) p.LoopStatement 6 ∷ any (first.Just t.For) p.LoopStatement 6 ∷ any first.Expression p.ActionStatement 2 ∷ []
rows n.Local = []
rows n.LocalKeyword = any (first.Just t.Val) p.LocalKeyword 2 ∷ any (first.Just t.Var) p.LocalKeyword 2 ∷ []
rows n.LocalType = any (first.Just t.Colon) p.LocalType 2 ∷ []
rows n.LocalValue = any (first.Just t.Assign) p.LocalValue 2 ∷ []
rows n.Loop = any (first.Just t.While) p.While 6 ∷ any (first.Just t.Do) p.DoWhile 6 ∷ any (first.Just t.For) p.For 6 ∷ []
rows n.Progression = any (first.Just t.Range) p.Progression 6 ∷ any (first.Just t.Until) p.Progression 6 ∷ any (first.Just t.DownTo) p.Progression 6 ∷ []
rows n.Action = []
rows n.Assignment = clear (first.Just t.Assign) p.Assigns 2 ∷ clear (first.Just t.PlusAssign) p.Assigns 2 ∷ clear (first.Just t.MinusAssign) p.Assigns 2 ∷ clear (first.Just t.StarAssign) p.Assigns 2 ∷ clear (first.Just t.SlashAssign) p.Assigns 3 ∷ clear (first.Just t.PercentAssign) p.Assigns 3 ∷ clear (first.Just t.PlusPlus) p.Counts 2 ∷ clear (first.Just t.MinusMinus) p.Counts 2 ∷ []
rows n.Inner = []
rows n.InnerPart = any (first.Just t.OpenBrace) p.InnerBlock 3 ∷ any (first.Just t.While) p.InnerLoop 6 ∷ any (first.Just t.Do) p.InnerLoop 6 ∷ any (first.Just t.For) p.InnerLoop 6 ∷ any first.Expression p.InnerAction 3 ∷ []
rows n.Expression = []
rows n.OrMore = any (first.Just t.Or) p.Or 3 ∷ []
rows n.Conjunction = []
rows n.AndMore = any (first.Just t.And) p.And 3 ∷ []
rows n.Equality = []
rows n.EqualMore = clear (first.Just t.Equal) p.Equal 3 ∷ clear (first.Just t.NotEqual) p.Equal 3 ∷ []
rows n.Comparison = []
rows n.CompareMore = clear (first.Just t.Less) p.Compare 3 ∷ clear (first.Just t.Greater) p.Compare 3 ∷ clear (first.Just t.LessEqual) p.Compare 3 ∷ clear (first.Just t.GreaterEqual) p.Compare 3 ∷ []
rows n.Test = []
rows n.TestMore = clear (first.Just t.Is) p.IsType 5 ∷ clear (first.Just t.NotIs) p.IsType 5 ∷ []
rows n.Alternative = []
rows n.ElvisMore = any (first.Just t.Elvis) p.Elvis 5 ∷ []
rows n.Sum = []
rows n.SumMore = clear (first.Just t.Plus) p.Sum 2 ∷ clear (first.Just t.Minus) p.Sum 2 ∷ []
rows n.Product = []
rows n.ProductMore = clear (first.Just t.Star) p.Product 2 ∷ clear (first.Just t.Slash) p.Product 3 ∷ clear (first.Just t.Percent) p.Product 3 ∷ []
rows n.Cast = []
rows n.CastMore = any (first.Just t.As) p.Cast 5 ∷ any (first.Just t.AsSafe) p.Cast 5 ∷ []
rows n.Prefix = any (first.Just t.Minus) p.Prefixed 2 ∷ any (first.Just t.Plus) p.Prefixed 2 ∷ any (first.Just t.Not) p.Prefixed 3 ∷ []
rows n.Postfix = []
rows n.PostfixMore = clear (first.Just t.NotNull) p.NotNull 5 ∷ any (first.Just t.Dot) p.Member 4 ∷ any (first.Just t.SafeDot) p.SafeMember 5 ∷ []
rows n.MemberArguments = clear (first.Just t.OpenRound) p.MemberCall 4 ∷ []
rows n.SafeMemberArguments = clear (first.Just t.OpenRound) p.SafeMemberCall 5 ∷ []
rows n.Arguments = any first.Expression p.NextArgument 2 ∷ []
rows n.ArgumentsMore = any (first.Just t.Comma) p.MoreArguments 2 ∷ []
rows n.Primary = any (first.Just t.Int) p.Int 2 ∷ any (first.Just t.True) p.Bool 3 ∷ any (first.Just t.False) p.Bool 3 ∷ any (first.Just t.Null) p.Null 5 ∷ any (first.Just t.This) p.This 4 ∷ any (first.Just t.OpenString) p.Template 3 ∷ any (first.Just t.OpenRound) p.Paren 2 ∷ any (first.Just t.Id) p.Name 2 ∷ any (first.Just t.If) p.If 3 ∷ any (first.Just t.When) p.When 6 ∷ any (first.Just t.Try) p.Try 7 ∷ any (first.Just t.Return) p.Return 3 ∷ any (first.Just t.ReturnAt) p.Return 8 ∷ any (first.Just t.Throw) p.Throw 7 ∷ any (first.Just t.Break) p.Jump 6 ∷ any (first.Just t.Continue) p.Jump 6 ∷ []
rows n.Operand = clear first.Expression p.Operand 3 ∷ []
rows n.NameMore = clear (first.Just t.OpenRound) p.Call 2 ∷ any (first.Just t.OpenBrace) p.LambdaCall 8 ∷ []
rows n.CallLambda = any (first.Just t.OpenBrace) p.CallLambda 8 ∷ []
rows n.Pieces = any (first.Just t.TextPart) p.TextPiece 3 ∷ any (first.Just t.NamePart) p.NamePiece 6 ∷ any (first.Just t.ThisPart) p.ThisPiece 6 ∷ any (first.Just t.ExprPart) p.InsertedPiece 6 ∷ []
rows n.Lambda = []
rows n.LambdaParameters = leading (first.Just t.Id) p.LambdaParameters 8 ∷ []
rows n.LambdaParametersMore = any (first.Just t.Comma) p.MoreLambdaParameters 8 ∷ []
rows n.LambdaParameter = []
rows n.If = []
rows n.ElsePart = any (first.Just t.Else) p.ElsePart 3 ∷ []
rows n.When = []
rows n.Subject = any (first.Just t.OpenRound) p.Subject 6 ∷ []
rows n.SubjectName = any (first.Just t.Val) p.SubjectName 6 ∷ []
rows n.WhenBranches = any (first.Just t.Else) p.NextBranch 6 ∷ any (first.Just t.ElseArrow) p.NextBranch 6 ∷ any (first.Just t.Is) p.NextBranch 6 ∷ any (first.Just t.NotIs) p.NextBranch 6 ∷ any first.Expression p.NextBranch 6 ∷ []
rows n.WhenBranch = any (first.Just t.Else) p.ElseBranch 6 ∷ any (first.Just t.ElseArrow) p.ElseBranch 6 ∷ any (first.Just t.Is) p.ConditionBranch 6 ∷ any (first.Just t.NotIs) p.ConditionBranch 6 ∷ any first.Expression p.ConditionBranch 6 ∷ []
rows n.ConditionsMore = any (first.Just t.Comma) p.MoreConditions 6 ∷ []
rows n.Condition = any (first.Just t.Is) p.TypeCondition 6 ∷ any (first.Just t.NotIs) p.TypeCondition 6 ∷ any first.Expression p.ValueCondition 6 ∷ []
rows n.Try = []
rows n.TryMore = any (first.Just t.Finally) p.FinallyAlone 7 ∷ any (first.Just t.Catch) p.FirstCatch 7 ∷ []
rows n.Catches = any (first.Just t.Catch) p.NextCatch 7 ∷ []
rows n.FinallyPart = any (first.Just t.Finally) p.FinallyPart 7 ∷ []
rows n.Catch = []

abbrev pub begins : First → Terminal → Bool
begins (first.Just expected) found = stands_for expected found
begins first.Expression found = begins_expression found
begins first.Modifier found = is_modifier found

abbrev pub allows : Need → Class → Bool
allows need.Any c = true
allows need.Clear c = not c.fresh
allows need.Leading c = c.leads

-- an open row that fits
abbrev pub fits : Class → Row → Bool
fits c r = nat_le r.opened_by OPEN && (begins r.first c.terminal && allows r.need c)

-- the production of the first that fits
abbrev pub row_in : List Row → Class → Option Production
row_in [] c = None
row_in (r ∷ rows) c = if fits c r then Some r.production else row_in rows c

unfoldable pub row : Nonterminal → Class → Option Production
row nt c = row_in (rows nt) c

-- what a production is made of
unfoldable pub symbols : Production → List Symbol
symbols p.Semicolon = Do (Take t.Semicolon) ∷ Part n.Semicolons ∷ []
symbols p.Import = Do (Take t.Import) ∷ Do (Take t.Kotlin) ∷ Do (Take t.Dot) ∷ Do (Take t.Contracts) ∷ Do (Take t.Dot) ∷ Part n.Imported ∷ Part n.Semicolons ∷ Part n.Imports ∷ []
symbols p.ImportedName = Do (Take t.Id) ∷ []
symbols p.ImportedAll = Do (Take t.Star) ∷ []
symbols p.FirstDeclaration = Part n.Declaration ∷ Do Add ∷ Part n.Semicolons ∷ Part n.MoreDeclarations ∷ []
symbols p.NextDeclaration = Part n.Declaration ∷ Do Add ∷ Part n.Semicolons ∷ Part n.MoreDeclarations ∷ []
symbols p.ClassDeclared = Part n.Class ∷ []
symbols p.InterfaceDeclared = Part n.Interface ∷ []
symbols p.FunctionDeclared = Part n.Function ∷ []
symbols p.Annotation = Do (Take t.At) ∷ Part n.AnnotationName ∷ Part n.Annotations ∷ []
symbols p.ExperimentalContracts = Do (Take t.ExperimentalContracts) ∷ []
symbols p.OptIn = Do (Take t.OptIn) ∷ Do (Take t.OpenRound) ∷ Do (Take t.ExperimentalContracts) ∷ Do (Take t.ColonColon) ∷ Do (Take t.Class) ∷ Do (Take t.CloseRound) ∷ []
symbols p.NextModifier = Do KeepChosen ∷ Do Add ∷ Part n.ModifierList ∷ []
symbols p.ClassParameters = Do (Take t.OpenRound) ∷ Do (Make f.List 0) ∷ Part n.ClassParameterList ∷ Do (Take t.CloseRound) ∷ []
symbols p.NextClassParameter = Part n.ClassParameter ∷ Do Add ∷ Part n.ClassParametersMore ∷ []
symbols p.MoreClassParameters = Do (Take t.Comma) ∷ Part n.ClassParameterList ∷ []
symbols p.PropertyKeyword = Do KeepChosen ∷ []
symbols p.Supertypes = Do (Take t.Colon) ∷ Do (Make f.List 0) ∷ Part n.Supertype ∷ Do Add ∷ Part n.SupertypesMore ∷ []
symbols p.MoreSupertypes = Do (Take t.Comma) ∷ Part n.Supertype ∷ Do Add ∷ Part n.SupertypesMore ∷ []
symbols p.SupertypeArguments = Do (Take t.OpenRound) ∷ Do (Make f.List 0) ∷ Part n.Arguments ∷ Do (Take t.CloseRound) ∷ []
symbols p.ClassBody = Part n.Body ∷ []
symbols p.NextMember = Part n.Member ∷ Do Add ∷ Part n.Semicolons ∷ Part n.Members ∷ []
symbols p.Initialiser = Do (Keep t.Init) ∷ Part n.Block ∷ Do (Make f.Initialiser 2) ∷ []
symbols p.DeclaredMember = Part n.Modifiers ∷ Part n.MemberDeclared ∷ []
symbols p.MemberFunction = Part n.Function ∷ []
symbols p.MemberProperty = Part n.Property ∷ []
symbols p.Getter = Do (Keep t.Get) ∷ Do (Take t.OpenRound) ∷ Do (Take t.CloseRound) ∷ Part n.LocalType ∷ Part n.GetterBody ∷ Do (Make f.Getter 3) ∷ []
symbols p.GetterExpression = Do (Take t.Assign) ∷ Part n.Expression ∷ []
symbols p.GetterBlock = Part n.Block ∷ []
symbols p.NextParameter = Part n.Parameter ∷ Do Add ∷ Part n.ParametersMore ∷ []
symbols p.MoreParameters = Do (Take t.Comma) ∷ Part n.Parameters ∷ []
symbols p.ValueType = Part n.WrittenType ∷ []
symbols p.FunctionType = Do (Take t.OpenRound) ∷ Do (Make f.List 0) ∷ Part n.Types ∷ Do (Take t.CloseRound) ∷ Do (Take t.Arrow) ∷ Part n.WrittenType ∷ Do (Make f.FunctionType 2) ∷ []
symbols p.NextType = Part n.WrittenType ∷ Do Add ∷ Part n.TypesMore ∷ []
symbols p.MoreTypes = Do (Take t.Comma) ∷ Part n.Types ∷ []
symbols p.Nullable = Do (Keep t.Question) ∷ []
symbols p.Result = Do (Take t.Colon) ∷ Part n.WrittenType ∷ []
symbols p.FunctionExpression = Do (Take t.Assign) ∷ Part n.Expression ∷ []
symbols p.FunctionBraces = Part n.FunctionBlock ∷ []
symbols p.Contract = Part n.Contract ∷ Do Separated ∷ []
symbols p.NextEffect = Part n.Effect ∷ Do Add ∷ Do Separated ∷ Part n.Effects ∷ []
symbols p.EffectSemicolon = Do (Take t.Semicolon) ∷ Part n.Effects ∷ []
symbols p.Returns = Do (Keep t.Returns) ∷ Do (Take t.OpenRound) ∷ Part n.ReturnedLiteral ∷ Do (Take t.CloseRound) ∷ Part n.Implies ∷ Do (Make f.Returns 3) ∷ []
symbols p.ReturnsNotNull = Do (Keep t.ReturnsNotNull) ∷ Do (Take t.OpenRound) ∷ Do (Take t.CloseRound) ∷ Part n.Implies ∷ Do (Make f.ReturnsNotNull 2) ∷ []
symbols p.CallsInPlace = Do (Keep t.CallsInPlace) ∷ Do (Take t.OpenRound) ∷ Do (Keep t.Id) ∷ Part n.InvocationKind ∷ Do (Take t.CloseRound) ∷ Do (Make f.CallsInPlace 3) ∷ []
symbols p.ReturnedLiteral = Do KeepChosen ∷ []
symbols p.InvocationKind = Do (Take t.Comma) ∷ Part n.InvocationKindName ∷ []
symbols p.QualifiedKind = Do (Take t.InvocationKind) ∷ Do (Take t.Dot) ∷ Do (Keep t.Id) ∷ []
symbols p.PlainKind = Do (Keep t.Id) ∷ []
symbols p.Implies = Do (Take t.Implies) ∷ Part n.Implied ∷ []
symbols p.ImpliedName = Do (Keep t.Id) ∷ Do (Make f.Name 1) ∷ []
symbols p.ImpliedCondition = Do (Take t.OpenRound) ∷ Part n.Expression ∷ Do (Take t.CloseRound) ∷ []
symbols p.NextStatement = Part n.Statement ∷ Do Add ∷ Do Separated ∷ Part n.Statements ∷ []
symbols p.StatementSemicolon = Do (Take t.Semicolon) ∷ Part n.Statements ∷ []
symbols p.LocalStatement = Part n.Local ∷ []
symbols p.LoopStatement = Part n.Loop ∷ []
symbols p.ActionStatement = Part n.Action ∷ []
symbols p.LocalKeyword = Do KeepChosen ∷ []
symbols p.LocalType = Do (Take t.Colon) ∷ Part n.WrittenType ∷ []
symbols p.LocalValue = Do (Take t.Assign) ∷ Part n.Expression ∷ []
symbols p.While = Do (Keep t.While) ∷ Do (Take t.OpenRound) ∷ Part n.Expression ∷ Do (Take t.CloseRound) ∷ Part n.Inner ∷ Do (Make f.While 3) ∷ []
symbols p.DoWhile = Do (Keep t.Do) ∷ Part n.Block ∷ Do (Take t.While) ∷ Do (Take t.OpenRound) ∷ Part n.Expression ∷ Do (Take t.CloseRound) ∷ Do (Make f.DoWhile 3) ∷ []
symbols p.For = Do (Keep t.For) ∷ Do (Take t.OpenRound) ∷ Do (Keep t.Id) ∷ Part n.LocalType ∷ Do (Take t.In) ∷ Part n.Sum ∷ Part n.Progression ∷ Part n.Sum ∷ Do (Take t.CloseRound) ∷ Part n.Inner ∷ Do (Make f.For 7) ∷ []
symbols p.Progression = Do KeepChosen ∷ []
symbols p.Assigns = Do Target ∷ Do KeepChosen ∷ Part n.Expression ∷ Do (Make f.Assignment 3) ∷ []
symbols p.Counts = Do Target ∷ Do KeepChosen ∷ Do (Make f.Absent 0) ∷ Do (Make f.Assignment 3) ∷ []
symbols p.InnerBlock = Part n.Block ∷ []
symbols p.InnerLoop = Part n.Loop ∷ []
symbols p.InnerAction = Part n.Action ∷ []
symbols p.Or = Do (Take t.Or) ∷ Part n.Conjunction ∷ Do (Make f.Or 2) ∷ Part n.OrMore ∷ []
symbols p.And = Do (Take t.And) ∷ Part n.Equality ∷ Do (Make f.And 2) ∷ Part n.AndMore ∷ []
symbols p.Equal = Do KeepChosen ∷ Part n.Comparison ∷ Do (Make f.Equal 3) ∷ Part n.EqualMore ∷ []
symbols p.Compare = Do KeepChosen ∷ Part n.Test ∷ Do (Make f.Compare 3) ∷ []
symbols p.IsType = Do KeepChosen ∷ Part n.WrittenType ∷ Do (Make f.IsType 3) ∷ Part n.TestMore ∷ []
symbols p.Elvis = Do (Take t.Elvis) ∷ Part n.Sum ∷ Do (Make f.Elvis 2) ∷ Part n.ElvisMore ∷ []
symbols p.Sum = Do KeepChosen ∷ Part n.Product ∷ Do (Make f.Sum 3) ∷ Part n.SumMore ∷ []
symbols p.Product = Do KeepChosen ∷ Part n.Cast ∷ Do (Make f.Product 3) ∷ Part n.ProductMore ∷ []
symbols p.Cast = Do KeepChosen ∷ Part n.WrittenType ∷ Do (Make f.Cast 3) ∷ Part n.CastMore ∷ []
symbols p.Prefixed = Do KeepChosen ∷ Part n.Prefix ∷ Do (Make f.Prefixed 2) ∷ []
symbols p.NotNull = Do (Take t.NotNull) ∷ Do (Make f.NotNull 1) ∷ Part n.PostfixMore ∷ []
symbols p.Member = Do (Take t.Dot) ∷ Do (Keep t.Id) ∷ Part n.MemberArguments ∷ Part n.PostfixMore ∷ []
symbols p.SafeMember = Do (Take t.SafeDot) ∷ Do (Keep t.Id) ∷ Part n.SafeMemberArguments ∷ Part n.PostfixMore ∷ []
symbols p.MemberCall = Do (Take t.OpenRound) ∷ Do (Make f.List 0) ∷ Part n.Arguments ∷ Do (Take t.CloseRound) ∷ Do (Make f.MemberCall 3) ∷ []
symbols p.SafeMemberCall = Do (Take t.OpenRound) ∷ Do (Make f.List 0) ∷ Part n.Arguments ∷ Do (Take t.CloseRound) ∷ Do (Make f.SafeMemberCall 3) ∷ []
symbols p.NextArgument = Part n.Expression ∷ Do Add ∷ Part n.ArgumentsMore ∷ []
symbols p.MoreArguments = Do (Take t.Comma) ∷ Part n.Arguments ∷ []
symbols p.Int = Do (Keep t.Int) ∷ Do (Make f.Int 1) ∷ []
symbols p.Bool = Do KeepChosen ∷ Do (Make f.Bool 1) ∷ []
symbols p.Null = Do (Keep t.Null) ∷ Do (Make f.Null 1) ∷ []
symbols p.This = Do (Keep t.This) ∷ Do (Make f.This 1) ∷ []
symbols p.Template = Do (Keep t.OpenString) ∷ Do (Make f.List 0) ∷ Part n.Pieces ∷ Do (Keep t.CloseString) ∷ Do (Make f.Template 3) ∷ []
symbols p.Paren = Do (Keep t.OpenRound) ∷ Part n.Expression ∷ Do (Take t.CloseRound) ∷ Do (Make f.Paren 2) ∷ []
symbols p.Name = Do (Keep t.Id) ∷ Part n.NameMore ∷ []
symbols p.If = Part n.If ∷ []
symbols p.When = Part n.When ∷ []
symbols p.Try = Part n.Try ∷ []
symbols p.Return = Do KeepChosen ∷ Part n.Operand ∷ Do (Make f.Return 2) ∷ []
symbols p.Throw = Do (Keep t.Throw) ∷ Part n.Expression ∷ Do (Make f.Throw 2) ∷ []
symbols p.Jump = Do KeepChosen ∷ Do (Make f.Jump 1) ∷ []
symbols p.Operand = Part n.Expression ∷ []
symbols p.Call = Do (Take t.OpenRound) ∷ Do (Make f.List 0) ∷ Part n.Arguments ∷ Do (Take t.CloseRound) ∷ Part n.CallLambda ∷ Do (Make f.Call 3) ∷ []
symbols p.LambdaCall = Do (Make f.List 0) ∷ Part n.Lambda ∷ Do (Make f.Call 3) ∷ []
symbols p.CallLambda = Part n.Lambda ∷ []
symbols p.TextPiece = Do (Keep t.TextPart) ∷ Do Add ∷ Part n.Pieces ∷ []
symbols p.NamePiece = Do (Keep t.NamePart) ∷ Do (Make f.NamePiece 1) ∷ Do Add ∷ Part n.Pieces ∷ []
symbols p.ThisPiece = Do (Keep t.ThisPart) ∷ Do (Make f.ThisPiece 1) ∷ Do Add ∷ Part n.Pieces ∷ []
symbols p.InsertedPiece = Do (Take t.ExprPart) ∷ Part n.Expression ∷ Do (Take t.CloseBrace) ∷ Do Add ∷ Part n.Pieces ∷ []
symbols p.LambdaParameters = Do (Make f.List 0) ∷ Part n.LambdaParameter ∷ Do Add ∷ Part n.LambdaParametersMore ∷ Do (Take t.Arrow) ∷ []
symbols p.MoreLambdaParameters = Do (Take t.Comma) ∷ Part n.LambdaParameter ∷ Do Add ∷ Part n.LambdaParametersMore ∷ []
symbols p.ElsePart = Do (Take t.Else) ∷ Part n.Inner ∷ []
symbols p.Subject = Do (Take t.OpenRound) ∷ Part n.SubjectName ∷ Part n.Expression ∷ Do (Take t.CloseRound) ∷ Do (Make f.Subject 2) ∷ []
symbols p.SubjectName = Do (Take t.Val) ∷ Do (Keep t.Id) ∷ Part n.LocalType ∷ Do (Take t.Assign) ∷ Do (Make f.SubjectName 2) ∷ []
symbols p.NextBranch = Part n.WhenBranch ∷ Do Add ∷ Do Separated ∷ Part n.Semicolons ∷ Part n.WhenBranches ∷ []
symbols p.ElseBranch = Do KeepChosen ∷ Do (Take t.Arrow) ∷ Part n.Inner ∷ Do (Make f.ElseBranch 2) ∷ []
symbols p.ConditionBranch = Do (Make f.List 0) ∷ Part n.Condition ∷ Do Add ∷ Part n.ConditionsMore ∷ Do (Take t.Arrow) ∷ Part n.Inner ∷ Do (Make f.ConditionBranch 2) ∷ []
symbols p.MoreConditions = Do (Take t.Comma) ∷ Part n.Condition ∷ Do Add ∷ Part n.ConditionsMore ∷ []
symbols p.TypeCondition = Do KeepChosen ∷ Part n.WrittenType ∷ Do (Make f.TypeCondition 2) ∷ []
symbols p.ValueCondition = Part n.Expression ∷ []
symbols p.FinallyAlone = Do (Make f.List 0) ∷ Do (Take t.Finally) ∷ Part n.Block ∷ []
symbols p.FirstCatch = Do (Make f.List 0) ∷ Part n.Catch ∷ Do Add ∷ Part n.Catches ∷ Part n.FinallyPart ∷ []
symbols p.NextCatch = Part n.Catch ∷ Do Add ∷ Part n.Catches ∷ []
symbols p.FinallyPart = Do (Take t.Finally) ∷ Part n.Block ∷ []

-- What stands in a nonterminal's place where no row fits: its only alternative, or what an option or a repetition leaves
-- that is passed over. `None` is a choice that must be made.
unfoldable pub otherwise : Nonterminal → Option (List Symbol)
otherwise n.File = Some (Part n.Semicolons ∷ Part n.Imports ∷ Do (Make f.List 0) ∷ Part n.Declarations ∷ Do (Take t.End) ∷ [])
otherwise n.Semicolons = Some ([])
otherwise n.Imports = Some ([])
otherwise n.Imported = None
otherwise n.Declarations = Some ([])
otherwise n.MoreDeclarations = Some ([])
otherwise n.Declaration = Some (Part n.Annotations ∷ Part n.Modifiers ∷ Part n.Declared ∷ [])
otherwise n.Declared = None
otherwise n.Annotations = Some ([])
otherwise n.AnnotationName = None
otherwise n.Modifiers = Some (Do (Make f.List 0) ∷ Part n.ModifierList ∷ [])
otherwise n.ModifierList = Some ([])
otherwise n.Class = Some (Do (Keep t.Class) ∷ Do (Keep t.Id) ∷ Part n.ClassParameters ∷ Part n.Supertypes ∷ Part n.ClassBody ∷ Do (Make f.Class 6) ∷ [])
otherwise n.ClassParameters = Some (Do (Make f.Absent 0) ∷ [])
otherwise n.ClassParameterList = Some ([])
otherwise n.ClassParametersMore = Some ([])
otherwise n.ClassParameter = Some (Part n.Modifiers ∷ Part n.PropertyKeyword ∷ Do (Keep t.Id) ∷ Do (Take t.Colon) ∷ Part n.WrittenType ∷ Do (Make f.ClassParameter 4) ∷ [])
otherwise n.PropertyKeyword = Some (Do (Make f.Absent 0) ∷ [])
otherwise n.Interface = Some (Do (Keep t.Interface) ∷ Do (Keep t.Id) ∷ Part n.Supertypes ∷ Part n.ClassBody ∷ Do (Make f.Interface 5) ∷ [])
otherwise n.Supertypes = Some (Do (Make f.List 0) ∷ [])
otherwise n.SupertypesMore = Some ([])
otherwise n.Supertype = Some (Do (Keep t.Id) ∷ Part n.SupertypeArguments ∷ Do (Make f.Supertype 2) ∷ [])
otherwise n.SupertypeArguments = Some (Do (Make f.Absent 0) ∷ [])
otherwise n.ClassBody = Some (Do (Make f.Absent 0) ∷ [])
otherwise n.Body = Some (Do Enter ∷ Do (Take t.OpenBrace) ∷ Part n.Semicolons ∷ Do (Make f.List 0) ∷ Part n.Members ∷ Do (Take t.CloseBrace) ∷ Do Leave ∷ [])
otherwise n.Members = Some ([])
otherwise n.Member = None
otherwise n.MemberDeclared = None
otherwise n.Property = Some (Part n.LocalKeyword ∷ Do (Keep t.Id) ∷ Part n.LocalType ∷ Part n.LocalValue ∷ Part n.Getter ∷ Do (Make f.Property 6) ∷ [])
otherwise n.Getter = Some (Do (Make f.Absent 0) ∷ [])
otherwise n.GetterBody = None
otherwise n.Function = Some (Do (Keep t.Fun) ∷ Do (Keep t.Id) ∷ Do (Take t.OpenRound) ∷ Do (Make f.List 0) ∷ Part n.Parameters ∷ Do (Take t.CloseRound) ∷ Part n.Result ∷ Part n.FunctionBody ∷ Do (Make f.Function 6) ∷ [])
otherwise n.Parameters = Some ([])
otherwise n.ParametersMore = Some ([])
otherwise n.Parameter = Some (Do (Keep t.Id) ∷ Do (Take t.Colon) ∷ Part n.ParameterType ∷ Do (Make f.Parameter 2) ∷ [])
otherwise n.ParameterType = None
otherwise n.Types = Some ([])
otherwise n.TypesMore = Some ([])
otherwise n.WrittenType = Some (Do (Keep t.Id) ∷ Do (Exclude t.Less) ∷ Part n.Nullable ∷ Do (Make f.WrittenType 2) ∷ [])
otherwise n.Nullable = Some (Do (Make f.Absent 0) ∷ [])
otherwise n.Result = Some (Do (Make f.Absent 0) ∷ [])
otherwise n.FunctionBody = Some (Do (Make f.Absent 0) ∷ [])
otherwise n.FunctionBlock = Some (Do (Keep t.OpenBrace) ∷ Part n.Semicolons ∷ Part n.ContractPart ∷ Do (Make f.List 0) ∷ Part n.Statements ∷ Do (Keep t.CloseBrace) ∷ Do (Make f.FunctionBlock 4) ∷ [])
otherwise n.ContractPart = Some (Do (Make f.Absent 0) ∷ [])
otherwise n.Contract = Some (Do (Keep t.Contract) ∷ Do (Take t.OpenBrace) ∷ Do (Make f.List 0) ∷ Part n.Effects ∷ Do (Take t.CloseBrace) ∷ Do (Make f.Contract 2) ∷ [])
otherwise n.Effects = Some ([])
otherwise n.Effect = None
otherwise n.ReturnedLiteral = Some (Do (Make f.Absent 0) ∷ [])
otherwise n.InvocationKind = Some (Do (Make f.Absent 0) ∷ [])
otherwise n.InvocationKindName = None
otherwise n.Implies = None
otherwise n.Implied = None
otherwise n.Block = Some (Do Enter ∷ Do (Keep t.OpenBrace) ∷ Do (Make f.List 0) ∷ Part n.Statements ∷ Do (Keep t.CloseBrace) ∷ Do (Make f.Block 3) ∷ Do Leave ∷ [])
otherwise n.Statements = Some ([])
otherwise n.Statement = None
otherwise n.Local = Some (Part n.LocalKeyword ∷ Do (Keep t.Id) ∷ Part n.LocalType ∷ Part n.LocalValue ∷ Do (Make f.Local 4) ∷ [])
otherwise n.LocalKeyword = None
otherwise n.LocalType = Some (Do (Make f.Absent 0) ∷ [])
otherwise n.LocalValue = Some (Do (Make f.Absent 0) ∷ [])
otherwise n.Loop = None
otherwise n.Progression = None
otherwise n.Action = Some (Part n.Expression ∷ Part n.Assignment ∷ [])
otherwise n.Assignment = Some ([])
otherwise n.Inner = Some (Do Enter ∷ Part n.InnerPart ∷ Do Leave ∷ [])
otherwise n.InnerPart = None
otherwise n.Expression = Some (Do Enter ∷ Part n.Conjunction ∷ Part n.OrMore ∷ Do Leave ∷ [])
otherwise n.OrMore = Some ([])
otherwise n.Conjunction = Some (Part n.Equality ∷ Part n.AndMore ∷ [])
otherwise n.AndMore = Some ([])
otherwise n.Equality = Some (Part n.Comparison ∷ Part n.EqualMore ∷ [])
otherwise n.EqualMore = Some ([])
otherwise n.Comparison = Some (Part n.Test ∷ Part n.CompareMore ∷ [])
otherwise n.CompareMore = Some ([])
otherwise n.Test = Some (Part n.Alternative ∷ Part n.TestMore ∷ [])
otherwise n.TestMore = Some ([])
otherwise n.Alternative = Some (Part n.Sum ∷ Part n.ElvisMore ∷ [])
otherwise n.ElvisMore = Some ([])
otherwise n.Sum = Some (Part n.Product ∷ Part n.SumMore ∷ [])
otherwise n.SumMore = Some ([])
otherwise n.Product = Some (Part n.Cast ∷ Part n.ProductMore ∷ [])
otherwise n.ProductMore = Some ([])
otherwise n.Cast = Some (Part n.Prefix ∷ Part n.CastMore ∷ [])
otherwise n.CastMore = Some ([])
otherwise n.Prefix = Some (Part n.Postfix ∷ [])
otherwise n.Postfix = Some (Part n.Primary ∷ Part n.PostfixMore ∷ [])
otherwise n.PostfixMore = Some ([])
otherwise n.MemberArguments = Some (Do (Make f.Member 2) ∷ [])
otherwise n.SafeMemberArguments = Some (Do (Make f.SafeMember 2) ∷ [])
otherwise n.Arguments = Some ([])
otherwise n.ArgumentsMore = Some ([])
otherwise n.Primary = None
otherwise n.Operand = Some (Do (Make f.Absent 0) ∷ [])
otherwise n.NameMore = Some (Do (Make f.Name 1) ∷ [])
otherwise n.CallLambda = Some (Do (Make f.Absent 0) ∷ [])
otherwise n.Pieces = Some ([])
otherwise n.Lambda = Some (Do (Keep t.OpenBrace) ∷ Part n.LambdaParameters ∷ Do (Make f.List 0) ∷ Part n.Statements ∷ Do (Keep t.CloseBrace) ∷ Do (Make f.Lambda 4) ∷ [])
otherwise n.LambdaParameters = Some (Do (Make f.List 0) ∷ [])
otherwise n.LambdaParametersMore = Some ([])
otherwise n.LambdaParameter = Some (Do (Keep t.Id) ∷ Part n.LocalType ∷ Do (Make f.LambdaParameter 2) ∷ [])
otherwise n.If = Some (Do (Keep t.If) ∷ Do (Take t.OpenRound) ∷ Part n.Expression ∷ Do (Take t.CloseRound) ∷ Part n.Inner ∷ Part n.ElsePart ∷ Do (Make f.If 4) ∷ [])
otherwise n.ElsePart = Some (Do (Make f.Absent 0) ∷ [])
otherwise n.When = Some (Do (Keep t.When) ∷ Part n.Subject ∷ Do (Take t.OpenBrace) ∷ Part n.Semicolons ∷ Do (Make f.List 0) ∷ Part n.WhenBranches ∷ Do (Take t.CloseBrace) ∷ Do (Make f.When 3) ∷ [])
otherwise n.Subject = Some (Do (Make f.Absent 0) ∷ [])
otherwise n.SubjectName = Some (Do (Make f.Absent 0) ∷ [])
otherwise n.WhenBranches = Some ([])
otherwise n.WhenBranch = None
otherwise n.ConditionsMore = Some ([])
otherwise n.Condition = None
otherwise n.Try = Some (Do (Keep t.Try) ∷ Part n.Block ∷ Part n.TryMore ∷ Do (Make f.Try 4) ∷ [])
otherwise n.TryMore = None
otherwise n.Catches = Some ([])
otherwise n.FinallyPart = Some (Do (Make f.Absent 0) ∷ [])
otherwise n.Catch = Some (Do (Keep t.Catch) ∷ Do (Take t.OpenRound) ∷ Do (Keep t.Id) ∷ Do (Take t.Colon) ∷ Part n.WrittenType ∷ Do (Take t.CloseRound) ∷ Part n.Block ∷ Do (Make f.Catch 4) ∷ [])

abbrev pub expanded : Nonterminal → Option Production → Option (List Symbol)
expanded nt (Some p) = Some (symbols p)
expanded nt None = otherwise nt

-- what stands in a nonterminal's place before a token of this class
unfoldable pub expansion : Nonterminal → Class → Option (List Symbol)
expansion nt c = expanded nt (row nt c)
