-- The code's table of keywords.
use Rattle.kt_tree.specs.declared.token.Kind.{Kind}
use Rattle.kt_tree.specs.declared.token.Kind.TheVariants.{As, Break, Class, Continue, Do, Else, False, For, Fun, If, In, Interface, Is, Null, Object, Package, Return, Super, This, Throw, True, Try, Typealias, Typeof, Val, Var, When, While}
use Rattle.kt_lex.specs.declared.keywords.Keyword.{Keyword}
use Rattle.kt_lex.specs.declared.keywords.Keyword.TheVariants as variants

-- the token that a keyword is
abbrev pub kind_of : Keyword → Kind
kind_of variants.As = As
kind_of variants.Break = Break
kind_of variants.Class = Class
kind_of variants.Continue = Continue
kind_of variants.Do = Do
kind_of variants.Else = Else
kind_of variants.False = False
kind_of variants.For = For
kind_of variants.Fun = Fun
kind_of variants.If = If
kind_of variants.In = In
kind_of variants.Interface = Interface
kind_of variants.Is = Is
kind_of variants.Null = Null
kind_of variants.Object = Object
kind_of variants.Package = Package
kind_of variants.Return = Return
kind_of variants.Super = Super
kind_of variants.This = This
kind_of variants.Throw = Throw
kind_of variants.True = True
kind_of variants.Try = Try
kind_of variants.Typealias = Typealias
kind_of variants.Typeof = Typeof
kind_of variants.Val = Val
kind_of variants.Var = Var
kind_of variants.When = When
kind_of variants.While = While
