-- Each expansion reaches fewer steps before the next token than its nonterminal is worth.
use Rattle.std.proofs.Common.{◌≡◌, ◌≤◌, tests, ℕ, rules, arith, cond, subst, ◌+◌, ◌<◌, Bool, true, false, not, ◌&&◌, ◌||◌, ltb, List, [], ◌∷◌, ◌++◌, Option, Some, None, refl}
use Rattle.kt_tree.specs.declared.grammar.production.Symbol.{Symbol}
use Rattle.kt_tree.specs.declared.grammar.production.Symbol.TheVariants.{Do, Part}
use Rattle.kt_tree.specs.declared.grammar.terminal.Class.{Class}
use Rattle.kt_tree.specs.declared.grammar.production.Nonterminal.{Nonterminal}
use Rattle.kt_tree.specs.declared.grammar.production.Nonterminal.TheVariants as n
use Rattle.kt_tree.specs.declared.grammar.production.Production.{Production}
use Rattle.kt_tree.specs.declared.grammar.production.Row.{Row}
use Rattle.kt_parse.specs.Engine.{is_silent}
use Rattle.kt_parse.specs.Reach.{weight, takes, if_silent, unless, reach, sure}
use Rattle.kt_tree.specs.Grammar.{rows, row, row_in, fits, symbols, otherwise, expansion, expanded}

abbrev pub fits_in : Nonterminal → List Symbol → Bool
fits_in n xs = ltb (reach xs) (weight n) && (not (takes n) || sure xs)

if_silent-le : (b : Bool) (m a c : ℕ) → m ≤ a + c → if_silent b m ≤ if_silent b a + c
if_silent-le true m a c h = omega arith
if_silent-le false m a c h = omega arith

unless-le : (b : Bool) (w m a c : ℕ) → m ≤ a + c → w + unless b m ≤ (w + unless b a) + c
unless-le true w m a c h = omega arith
unless-le false w m a c h = omega arith

pub reach-append : (xs k : List Symbol) → reach (xs ++ k) ≤ reach xs + reach k
reach-append [] k = omega arith
reach-append (Do x ∷ xs) k = if_silent-le (is_silent x) _ _ _ (reach-append xs k)
reach-append (Part n ∷ xs) k = unless-le (takes n) (weight n) _ _ _ (reach-append xs k)

if_silent-sure : (b s : Bool) (m a : ℕ) → (not b || s) ≡ true → (s ≡ true → m ≡ a) → if_silent b m ≡ if_silent b a
if_silent-sure true s m a h f = let e : m ≡ a = f h in omega arith
if_silent-sure false s m a h f = refl

unless-sure : (b s : Bool) (w m a : ℕ) → (b || s) ≡ true → (s ≡ true → m ≡ a) → w + unless b m ≡ w + unless b a
unless-sure true s w m a h f = refl
unless-sure false s w m a h f = let e : m ≡ a = f h in omega arith

pub reach-sure : (xs k : List Symbol) → sure xs ≡ true → reach (xs ++ k) ≡ reach xs
reach-sure [] k h = cc
reach-sure (Do x ∷ xs) k h = if_silent-sure (is_silent x) (sure xs) _ _ h (reach-sure xs k)
reach-sure (Part n ∷ xs) k h = unless-sure (takes n) (sure xs) (weight n) _ _ h (reach-sure xs k)

both : (a b : Bool) → (a && b) ≡ true → (a ≡ true) × (b ≡ true)
both true b h = (refl, h)
both false b h = cc

less_by : (t s : Bool) (w x y m : ℕ) → x < w → y ≤ x + m → (not t || s) ≡ true → (s ≡ true → y ≡ x) → y < w + unless t m
less_by true s w x y m lt le h f = let e : y ≡ x = f h in omega arith
less_by false s w x y m lt le h f = omega arith

is_less : (a b : ℕ) → ltb a b ≡ true → a < b
is_less a b h = search (rules, arith, tests)

pub less : (n : Nonterminal) (xs k : List Symbol) → fits_in n xs ≡ true → reach (xs ++ k) < reach (Part n ∷ k)
less n xs k h =
    let p = both (ltb (reach xs) (weight n)) (not (takes n) || sure xs) h in
    less_by (takes n) (sure xs) (weight n) (reach xs) _ (reach k) (is_less _ _ p.0) (reach-append xs k) p.1 (reach-sure xs k)

abbrev pub all_fit : Nonterminal → List Row → Bool
all_fit n [] = true
all_fit n (r ∷ rs) = fits_in n (symbols r.production) && all_fit n rs

-- each row's production fits its nonterminal
rows_fit : (n : Nonterminal) → all_fit n (rows n) ≡ true
unfolding rows symbols
rows_fit n.File = refl
rows_fit n.Semicolons = refl
rows_fit n.Imports = refl
rows_fit n.Imported = refl
rows_fit n.Declarations = refl
rows_fit n.MoreDeclarations = refl
rows_fit n.Declaration = refl
rows_fit n.Declared = refl
rows_fit n.Annotations = refl
rows_fit n.AnnotationName = refl
rows_fit n.Modifiers = refl
rows_fit n.ModifierList = refl
rows_fit n.Class = refl
rows_fit n.ClassParameters = refl
rows_fit n.ClassParameterList = refl
rows_fit n.ClassParametersMore = refl
rows_fit n.ClassParameter = refl
rows_fit n.PropertyKeyword = refl
rows_fit n.Interface = refl
rows_fit n.Supertypes = refl
rows_fit n.SupertypesMore = refl
rows_fit n.Supertype = refl
rows_fit n.SupertypeArguments = refl
rows_fit n.ClassBody = refl
rows_fit n.Body = refl
rows_fit n.Members = refl
rows_fit n.Member = refl
rows_fit n.MemberDeclared = refl
rows_fit n.Property = refl
rows_fit n.Getter = refl
rows_fit n.GetterBody = refl
rows_fit n.Function = refl
rows_fit n.Parameters = refl
rows_fit n.ParametersMore = refl
rows_fit n.Parameter = refl
rows_fit n.ParameterType = refl
rows_fit n.Types = refl
rows_fit n.TypesMore = refl
rows_fit n.WrittenType = refl
rows_fit n.Nullable = refl
rows_fit n.Result = refl
rows_fit n.FunctionBody = refl
rows_fit n.FunctionBlock = refl
rows_fit n.ContractPart = refl
rows_fit n.Contract = refl
rows_fit n.Effects = refl
rows_fit n.Effect = refl
rows_fit n.ReturnedLiteral = refl
rows_fit n.InvocationKind = refl
rows_fit n.InvocationKindName = refl
rows_fit n.Implies = refl
rows_fit n.Implied = refl
rows_fit n.Block = refl
rows_fit n.Statements = refl
rows_fit n.Statement = refl
rows_fit n.Local = refl
rows_fit n.LocalKeyword = refl
rows_fit n.LocalType = refl
rows_fit n.LocalValue = refl
rows_fit n.Loop = refl
rows_fit n.Progression = refl
rows_fit n.Action = refl
rows_fit n.Assignment = refl
rows_fit n.Inner = refl
rows_fit n.InnerPart = refl
rows_fit n.Expression = refl
rows_fit n.OrMore = refl
rows_fit n.Conjunction = refl
rows_fit n.AndMore = refl
rows_fit n.Equality = refl
rows_fit n.EqualMore = refl
rows_fit n.Comparison = refl
rows_fit n.CompareMore = refl
rows_fit n.Test = refl
rows_fit n.TestMore = refl
rows_fit n.Alternative = refl
rows_fit n.ElvisMore = refl
rows_fit n.Sum = refl
rows_fit n.SumMore = refl
rows_fit n.Product = refl
rows_fit n.ProductMore = refl
rows_fit n.Cast = refl
rows_fit n.CastMore = refl
rows_fit n.Prefix = refl
rows_fit n.Postfix = refl
rows_fit n.PostfixMore = refl
rows_fit n.MemberArguments = refl
rows_fit n.SafeMemberArguments = refl
rows_fit n.Arguments = refl
rows_fit n.ArgumentsMore = refl
rows_fit n.Primary = refl
rows_fit n.Operand = refl
rows_fit n.NameMore = refl
rows_fit n.CallLambda = refl
rows_fit n.Pieces = refl
rows_fit n.Lambda = refl
rows_fit n.LambdaParameters = refl
rows_fit n.LambdaParametersMore = refl
rows_fit n.LambdaParameter = refl
rows_fit n.If = refl
rows_fit n.ElsePart = refl
rows_fit n.When = refl
rows_fit n.Subject = refl
rows_fit n.SubjectName = refl
rows_fit n.WhenBranches = refl
rows_fit n.WhenBranch = refl
rows_fit n.ConditionsMore = refl
rows_fit n.Condition = refl
rows_fit n.Try = refl
rows_fit n.TryMore = refl
rows_fit n.Catches = refl
rows_fit n.FinallyPart = refl
rows_fit n.Catch = refl

abbrev fits_if : Nonterminal → Option (List Symbol) → Bool
fits_if n (Some xs) = fits_in n xs
fits_if n None = true

-- what stands in a nonterminal's place where no row fits it, fits it
otherwise_fits : (n : Nonterminal) → fits_if n (otherwise n) ≡ true
unfolding otherwise
otherwise_fits n.File = refl
otherwise_fits n.Semicolons = refl
otherwise_fits n.Imports = refl
otherwise_fits n.Imported = refl
otherwise_fits n.Declarations = refl
otherwise_fits n.MoreDeclarations = refl
otherwise_fits n.Declaration = refl
otherwise_fits n.Declared = refl
otherwise_fits n.Annotations = refl
otherwise_fits n.AnnotationName = refl
otherwise_fits n.Modifiers = refl
otherwise_fits n.ModifierList = refl
otherwise_fits n.Class = refl
otherwise_fits n.ClassParameters = refl
otherwise_fits n.ClassParameterList = refl
otherwise_fits n.ClassParametersMore = refl
otherwise_fits n.ClassParameter = refl
otherwise_fits n.PropertyKeyword = refl
otherwise_fits n.Interface = refl
otherwise_fits n.Supertypes = refl
otherwise_fits n.SupertypesMore = refl
otherwise_fits n.Supertype = refl
otherwise_fits n.SupertypeArguments = refl
otherwise_fits n.ClassBody = refl
otherwise_fits n.Body = refl
otherwise_fits n.Members = refl
otherwise_fits n.Member = refl
otherwise_fits n.MemberDeclared = refl
otherwise_fits n.Property = refl
otherwise_fits n.Getter = refl
otherwise_fits n.GetterBody = refl
otherwise_fits n.Function = refl
otherwise_fits n.Parameters = refl
otherwise_fits n.ParametersMore = refl
otherwise_fits n.Parameter = refl
otherwise_fits n.ParameterType = refl
otherwise_fits n.Types = refl
otherwise_fits n.TypesMore = refl
otherwise_fits n.WrittenType = refl
otherwise_fits n.Nullable = refl
otherwise_fits n.Result = refl
otherwise_fits n.FunctionBody = refl
otherwise_fits n.FunctionBlock = refl
otherwise_fits n.ContractPart = refl
otherwise_fits n.Contract = refl
otherwise_fits n.Effects = refl
otherwise_fits n.Effect = refl
otherwise_fits n.ReturnedLiteral = refl
otherwise_fits n.InvocationKind = refl
otherwise_fits n.InvocationKindName = refl
otherwise_fits n.Implies = refl
otherwise_fits n.Implied = refl
otherwise_fits n.Block = refl
otherwise_fits n.Statements = refl
otherwise_fits n.Statement = refl
otherwise_fits n.Local = refl
otherwise_fits n.LocalKeyword = refl
otherwise_fits n.LocalType = refl
otherwise_fits n.LocalValue = refl
otherwise_fits n.Loop = refl
otherwise_fits n.Progression = refl
otherwise_fits n.Action = refl
otherwise_fits n.Assignment = refl
otherwise_fits n.Inner = refl
otherwise_fits n.InnerPart = refl
otherwise_fits n.Expression = refl
otherwise_fits n.OrMore = refl
otherwise_fits n.Conjunction = refl
otherwise_fits n.AndMore = refl
otherwise_fits n.Equality = refl
otherwise_fits n.EqualMore = refl
otherwise_fits n.Comparison = refl
otherwise_fits n.CompareMore = refl
otherwise_fits n.Test = refl
otherwise_fits n.TestMore = refl
otherwise_fits n.Alternative = refl
otherwise_fits n.ElvisMore = refl
otherwise_fits n.Sum = refl
otherwise_fits n.SumMore = refl
otherwise_fits n.Product = refl
otherwise_fits n.ProductMore = refl
otherwise_fits n.Cast = refl
otherwise_fits n.CastMore = refl
otherwise_fits n.Prefix = refl
otherwise_fits n.Postfix = refl
otherwise_fits n.PostfixMore = refl
otherwise_fits n.MemberArguments = refl
otherwise_fits n.SafeMemberArguments = refl
otherwise_fits n.Arguments = refl
otherwise_fits n.ArgumentsMore = refl
otherwise_fits n.Primary = refl
otherwise_fits n.Operand = refl
otherwise_fits n.NameMore = refl
otherwise_fits n.CallLambda = refl
otherwise_fits n.Pieces = refl
otherwise_fits n.Lambda = refl
otherwise_fits n.LambdaParameters = refl
otherwise_fits n.LambdaParametersMore = refl
otherwise_fits n.LambdaParameter = refl
otherwise_fits n.If = refl
otherwise_fits n.ElsePart = refl
otherwise_fits n.When = refl
otherwise_fits n.Subject = refl
otherwise_fits n.SubjectName = refl
otherwise_fits n.WhenBranches = refl
otherwise_fits n.WhenBranch = refl
otherwise_fits n.ConditionsMore = refl
otherwise_fits n.Condition = refl
otherwise_fits n.Try = refl
otherwise_fits n.TryMore = refl
otherwise_fits n.Catches = refl
otherwise_fits n.FinallyPart = refl
otherwise_fits n.Catch = refl

others_fit : (n : Nonterminal) (xs : List Symbol) → otherwise n ≡ Some xs → fits_in n xs ≡ true
others_fit n xs e = subst (λ o. fits_if n o ≡ true) e (otherwise_fits n)

chosen_row : (n : Nonterminal) (b : Bool) (r : Row) (rest : Option Production) (p : Production) → fits_in n (symbols r.production) ≡ true → (rest ≡ Some p → fits_in n (symbols p) ≡ true) → cond b (Some r.production) rest ≡ Some p → fits_in n (symbols p) ≡ true
chosen_row n true r rest p h f e = let same : r.production ≡ p = cc in subst (λ p. fits_in n (symbols p) ≡ true) same h
chosen_row n false r rest p h f e = f e

row_in-fits : (rs : List Row) (n : Nonterminal) (c : Class) (p : Production) → all_fit n rs ≡ true → row_in rs c ≡ Some p → fits_in n (symbols p) ≡ true
row_in-fits [] n c p h e = absurd cc
row_in-fits (r ∷ rs) n c p h e =
    let f = both (fits_in n (symbols r.production)) (all_fit n rs) h in
    chosen_row n (fits c r) r (row_in rs c) p f.0 (λ q. row_in-fits rs n c p f.1 q) e

chosen_by : (n : Nonterminal) (c : Class) (o : Option Production) (xs : List Symbol) → row n c ≡ o → expanded n o ≡ Some xs → fits_in n xs ≡ true
unfolding row
chosen_by n c (Some p) xs q e = let same : symbols p ≡ xs = cc in subst (λ xs. fits_in n xs ≡ true) same (row_in-fits (rows n) n c p (rows_fit n) q)
chosen_by n c None xs q e = others_fit n xs e

pub expansion-fits : (n : Nonterminal) (c : Class) (xs : List Symbol) → expansion n c ≡ Some xs → fits_in n xs ≡ true
unfolding expansion
expansion-fits n c xs e = chosen_by n c (row n c) xs refl e
