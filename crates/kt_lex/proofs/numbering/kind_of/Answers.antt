use Rattle.std.proofs.Common.{◌≡◌, string_bytes, sym, ap, ◌∙◌, rules}
use Rattle.std.proofs.lemmas.Str.{encodes-chars, IsUtf8-string_bytes}
use Rattle.kt_tree.specs.declared.token.Kind.TheVariants.{Text}
use Rattle.kt_tree.specs.Numbering.{kind_of}
use Rattle.kt_lex.specs.Reading.{lexeme_of}
use Rattle.kt_lex.proofs.numbering.kind_of.Goals as goal

pub returns-in-Piece-clause-kind : goal.returns-in-Piece-clause-kind
returns-in-Piece-clause-kind c =
    let bytes : c.from_vec.result ≡ string_bytes c.in-Piece.value = search rules in
    ap Text (bytes ∙ sym (encodes-chars (string_bytes c.in-Piece.value) (IsUtf8-string_bytes c.in-Piece.value))) ∙ ap (λ w. kind_of c.args.names.now (lexeme_of w)) (sym c.in-Piece.is)
