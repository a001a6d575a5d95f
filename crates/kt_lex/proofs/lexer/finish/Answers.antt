use Rattle.std.proofs.Common.{◌≡◌, ◌+◌, List, ◌∷◌, ◌++◌, [], length, refl, ap, ◌∙◌, arith, length-append}
use Rattle.kt_tree.specs.declared.token.Token.{Token}
use Rattle.kt_tree.specs.TokenLists.{ends_once}
use Rattle.kt_lex.proofs.InnerTokens.{ends_once-push}
use Rattle.kt_lex.proofs.lexer.finish.Goals as goal

-- the length of a list with one more
length-push : (list : List Token) (t : Token) → length (list ++ t ∷ []) ≡ length list + 1
length-push list t = length-append list (t ∷ [])

pub invariant_of-result : goal.invariant_of-result
invariant_of-result c =
    let len : length c.push.new.self ≡ length c.args.list + 1 = ap length c.in_ok-push.ensures.ok ∙ length-push c.args.list _ in
    record {
      few = omega (arith, len, c.requires.few);
      ended = ap ends_once c.in_ok-push.ensures.ok ∙ ends_once-push c.args.list _ c.requires.inner refl;
    }
