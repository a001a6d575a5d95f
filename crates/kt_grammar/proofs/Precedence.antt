-- The first row that fits, found by what rows begin with. At each nonterminal and terminal the rows that the terminal fits are few, and stand in this order:
-- one that names the terminal, one for modifiers, one for expressions, one for any identifier.
use Rattle.std.proofs.Common.{◌≡◌, ℕ, Bool, true, false, ◌&&◌, not, cond, nat_le, List, [], ◌∷◌, ◌++◌, map, get_or, refl, sym, ap, subst, ◌∙◌, zero, suc, Option, Some, None}
use Rattle.kt_tree.specs.contracts.grammar.terminal.Terminal as terminal
use denote.Enum.Declared.{tag_of}
use Rattle.kt_tree.specs.declared.grammar.terminal.Terminal.{Terminal}
use Rattle.kt_tree.specs.declared.grammar.terminal.Terminal.TheVariants as t
use Rattle.kt_tree.specs.declared.grammar.terminal.Class.{Class}
use Rattle.kt_tree.specs.declared.grammar.production.Nonterminal.{Nonterminal}
use Rattle.kt_tree.specs.declared.grammar.production.Nonterminal.TheVariants as n
use Rattle.kt_tree.specs.declared.grammar.production.Production.{Production}
use Rattle.kt_tree.specs.declared.grammar.production.First.{First}
use Rattle.kt_tree.specs.declared.grammar.production.First.TheVariants as first
use Rattle.kt_tree.specs.declared.grammar.production.Row.{Row}
use Rattle.kt_tree.specs.declared.grammar.production.TheConstants.{OPEN}
use Rattle.kt_tree.specs.Classes.{same_terminal, is_modifier, is_identifier, begins_expression}
use Rattle.kt_tree.specs.Grammar.{rows, row, row_in, begins, allows}
use Rattle.kt_grammar.specs.Lookup.{with_first, opened, row_for, is_word}

-- all terminals, in order
terminals : List Terminal
terminals =
    t.As ∷ t.Break ∷ t.Class ∷ t.Continue ∷ t.Do ∷ t.Else ∷ t.False ∷ t.For ∷ t.Fun ∷ t.If ∷ t.In ∷ t.Interface ∷ t.Is ∷ t.Null ∷ t.Object
    ∷ t.Package ∷ t.Return ∷ t.Super ∷ t.This ∷ t.Throw ∷ t.True ∷ t.Try ∷ t.Typealias ∷ t.Typeof ∷ t.Val ∷ t.Var ∷ t.When ∷ t.While
    ∷ t.AsSafe ∷ t.NotIs ∷ t.NotIn ∷ t.OpenRound ∷ t.CloseRound ∷ t.OpenBrace ∷ t.CloseBrace ∷ t.OpenSquare ∷ t.CloseSquare ∷ t.Dot
    ∷ t.Comma ∷ t.Semicolon ∷ t.Colon ∷ t.ColonColon ∷ t.Assign ∷ t.Equal ∷ t.NotEqual ∷ t.Less ∷ t.Greater ∷ t.LessEqual ∷ t.GreaterEqual
    ∷ t.Plus ∷ t.Minus ∷ t.Star ∷ t.Slash ∷ t.Percent ∷ t.Not ∷ t.NotNull ∷ t.And ∷ t.Or ∷ t.Question ∷ t.SafeDot ∷ t.Elvis ∷ t.Range
    ∷ t.Arrow ∷ t.PlusAssign ∷ t.MinusAssign ∷ t.StarAssign ∷ t.SlashAssign ∷ t.PercentAssign ∷ t.PlusPlus ∷ t.MinusMinus ∷ t.At ∷ t.Id
    ∷ t.ReturnAt ∷ t.Int ∷ t.OpenString ∷ t.TextPart ∷ t.NamePart ∷ t.ThisPart ∷ t.ExprPart ∷ t.CloseString ∷ t.End ∷ t.ElseArrow ∷ t.Import
    ∷ t.Kotlin ∷ t.Contracts ∷ t.ExperimentalContracts ∷ t.OptIn ∷ t.Public ∷ t.Private ∷ t.Open ∷ t.Abstract ∷ t.Final ∷ t.Override
    ∷ t.Inline ∷ t.Init ∷ t.Get ∷ t.Until ∷ t.DownTo ∷ t.Catch ∷ t.Finally ∷ t.Contract ∷ t.Returns ∷ t.ReturnsNotNull ∷ t.CallsInPlace
    ∷ t.InvocationKind ∷ t.Implies ∷ []

at_place : (x : Terminal) → get_or terminals (tag_of terminal.the_type x) t.As ≡ x
unfolding terminals
at_place t.As = refl
at_place x = refl

-- the rows that the terminal fits
abbrev beginning : List Row → Terminal → List Row
beginning [] x = []
beginning (r ∷ rs) x = cond (begins r.first x) (r ∷ beginning rs x) (beginning rs x)

abbrev listed : Bool → Option Row → List Row
listed true (Some r) = r ∷ []
listed true None = []
listed false o = []

-- found by what they begin with
abbrev candidates : List Row → Terminal → List Row
candidates rs x =
    listed true (with_first rs (first.Just x))
    ++ (listed (is_modifier x) (with_first rs first.Modifier)
    ++ (listed (begins_expression x) (with_first rs first.Expression)
    ++ listed (is_identifier x && not (same_terminal x t.Id)) (with_first rs (first.Just t.Id))))

-- all terminals
all_alike : (nt : Nonterminal) → map (beginning (rows nt)) terminals ≡ map (candidates (rows nt)) terminals
unfolding rows same_terminal terminals
all_alike n.File = refl
all_alike nt = refl

-- what two functions give alike on a list they give alike at each place
same_at : {A B : Type 0} (f g : A → B) (d : A) (xs : List A) → f d ≡ g d → map f xs ≡ map g xs → (i : ℕ) → f (get_or xs i d) ≡ g (get_or xs i d)
same_at f g d [] here same i = here
same_at f g d (x ∷ xs) here same zero = cc
same_at f g d (x ∷ xs) here same (suc i) = let rest : map f xs ≡ map g xs = cc in same_at f g d xs here rest i

alike : (nt : Nonterminal) (x : Terminal) → beginning (rows nt) x ≡ candidates (rows nt) x
unfolding terminals
alike nt x =
    let f = beginning (rows nt) in
    let g = candidates (rows nt) in
    let here : f t.As ≡ g t.As = ap (λ (l : List (List Row)). get_or l 0 []) (all_alike nt) in
    subst (λ y. f y ≡ g y) (at_place x) (same_at f g t.As terminals here (all_alike nt) (tag_of terminal.the_type x))

-- the production of the first that is open and whose need is met
abbrev first_open : Class → List Row → Option Production
first_open c [] = None
first_open c (r ∷ rs) = cond (nat_le r.opened_by OPEN && allows r.need c) (Some r.production) (first_open c rs)

-- the first that fits is the first such of those that the terminal fits
first_fit : (rs : List Row) (c : Class) → row_in rs c ≡ first_open c (beginning rs c.terminal)
first_fit [] c = refl
first_fit (r ∷ rs) c =
    ap (λ o. cond (nat_le r.opened_by OPEN && (begins r.first c.terminal && allows r.need c)) (Some r.production) o) (first_fit rs c)
    ∙ step (nat_le r.opened_by OPEN) (begins r.first c.terminal) refl
  where
    step : (o b : Bool) → nat_le r.opened_by OPEN ≡ o → cond (o && (b && allows r.need c)) (Some r.production) (first_open c (beginning rs c.terminal)) ≡ first_open c (cond b (r ∷ beginning rs c.terminal) (beginning rs c.terminal))
    step true true e = rw e refl
    step true false e = refl
    step false true e = rw e refl
    step false false e = refl

-- the first option that holds something
abbrev or_else : Option Production → Option Production → Option Production
or_else (Some p) q = Some p
or_else None q = q

listed_first : (b : Bool) (o : Option Row) (c : Class) (rs : List Row) → first_open c (listed b o ++ rs) ≡ or_else (cond b (opened o c) None) (first_open c rs)
listed_first false o c rs = refl
listed_first true None c rs = refl
listed_first true (Some r) c rs = by_test (nat_le r.opened_by OPEN && allows r.need c)
  where
    by_test : (b : Bool) → cond b (Some r.production) (first_open c rs) ≡ or_else (cond b (Some r.production) None) (first_open c rs)
    by_test true = refl
    by_test false = refl

listed_last : (b : Bool) (o : Option Row) (c : Class) → first_open c (listed b o) ≡ cond b (opened o c) None
listed_last false o c = refl
listed_last true None c = refl
listed_last true (Some r) c = refl

-- the same of the row that begins so
one_first : (b : Bool) (nt : Nonterminal) (f : First) (c : Class) (rs : List Row) → first_open c (listed b (with_first (rows nt) f) ++ rs) ≡ or_else (row_for b nt f c) (first_open c rs)
one_first b nt f c rs = listed_first b (with_first (rows nt) f) c rs

-- a row that names the terminal comes before one for modifiers, for expressions, and for any identifier
abbrev by_firsts : Nonterminal → Class → Option Production
by_firsts nt c =
    or_else (row_for true nt (first.Just c.terminal) c)
    (or_else (row_for (is_modifier c.terminal) nt first.Modifier c)
    (or_else (row_for (begins_expression c.terminal) nt first.Expression c)
    (row_for (is_word c.terminal) nt (first.Just t.Id) c)))

by_list : (nt : Nonterminal) (c : Class) → first_open c (candidates (rows nt) c.terminal) ≡ by_firsts nt c
by_list nt c =
    let begun = listed (begins_expression c.terminal) (with_first (rows nt) first.Expression) in
    let word = listed (is_word c.terminal) (with_first (rows nt) (first.Just t.Id)) in
    let modified = listed (is_modifier c.terminal) (with_first (rows nt) first.Modifier) in
    one_first true nt (first.Just c.terminal) c (modified ++ (begun ++ word))
    ∙ ap (or_else (row_for true nt (first.Just c.terminal) c)) (one_first (is_modifier c.terminal) nt first.Modifier c (begun ++ word)
    ∙ ap (or_else (row_for (is_modifier c.terminal) nt first.Modifier c)) (one_first (begins_expression c.terminal) nt first.Expression c word
    ∙ ap (or_else (row_for (begins_expression c.terminal) nt first.Expression c)) (listed_last (is_word c.terminal) (with_first (rows nt) (first.Just t.Id)) c)))

-- found by what rows begin with, it is the grammar's row
pub row_by_firsts : (nt : Nonterminal) (c : Class) → by_firsts nt c ≡ row nt c
unfolding row
row_by_firsts nt c = sym (first_fit (rows nt) c ∙ ap (first_open c) (alike nt c.terminal) ∙ by_list nt c)

-- an option that holds nothing
none_there : (o : Option Production) → ((x : Production) → o ≡ Some x → ⊥) → o ≡ None
none_there None without = refl
none_there (Some x) without = absurd (without x refl)

-- the four ways to find a row, each where those before it find none
module _ (nt : Nonterminal) (c : Class) where
  abbrev named : Option Production
  named = row_for true nt (first.Just c.terminal) c

  abbrev modified : Option Production
  modified = row_for (is_modifier c.terminal) nt first.Modifier c

  abbrev begun : Option Production
  begun = row_for (begins_expression c.terminal) nt first.Expression c

  abbrev word : Option Production
  word = row_for (is_word c.terminal) nt (first.Just t.Id) c

  pub row_named : (x : Production) → named ≡ Some x → Some x ≡ row nt c
  row_named x p = sym (ap (λ o. or_else o (or_else modified (or_else begun word))) p) ∙ row_by_firsts nt c

  pub row_modified : (x : Production) → ((y : Production) → named ≡ Some y → ⊥) → modified ≡ Some x → Some x ≡ row nt c
  row_modified x a p =
      sym (ap (λ o. or_else o (or_else modified (or_else begun word))) (none_there named a)
      ∙ ap (λ o. or_else o (or_else begun word)) p)
      ∙ row_by_firsts nt c

  pub row_begun : (x : Production) → ((y : Production) → named ≡ Some y → ⊥) → ((y : Production) → modified ≡ Some y → ⊥) → begun ≡ Some x → Some x ≡ row nt c
  row_begun x a b p =
      sym (ap (λ o. or_else o (or_else modified (or_else begun word))) (none_there named a)
      ∙ ap (λ o. or_else o (or_else begun word)) (none_there modified b)
      ∙ ap (λ o. or_else o word) p)
      ∙ row_by_firsts nt c

  pub row_word : ((y : Production) → named ≡ Some y → ⊥) → ((y : Production) → modified ≡ Some y → ⊥) → ((y : Production) → begun ≡ Some y → ⊥) → word ≡ row nt c
  row_word a b d =
      sym (ap (λ o. or_else o (or_else modified (or_else begun word))) (none_there named a)
      ∙ ap (λ o. or_else o (or_else begun word)) (none_there modified b)
      ∙ ap (λ o. or_else o word) (none_there begun d))
      ∙ row_by_firsts nt c
