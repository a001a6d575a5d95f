-- Lists of tokens.
use Rattle.std.specs.Prelude.{Bool, true, false, not, ◌&&◌, List, [], ◌∷◌}
use Rattle.kt_tree.specs.declared.token.Kind.{Kind}
use Rattle.kt_tree.specs.declared.token.Kind.TheVariants.{End}
use Rattle.kt_tree.specs.declared.token.Token.{Token}

-- the kind is the end of the file
abbrev pub is_end : Kind → Bool
is_end End = true
is_end kind = false

-- `End` is the last and stands nowhere else
abbrev pub ends_once : List Token → Bool
ends_once [] = false
ends_once (t ∷ []) = is_end t.kind
ends_once (t ∷ u ∷ ts) = not (is_end t.kind) && ends_once (u ∷ ts)
