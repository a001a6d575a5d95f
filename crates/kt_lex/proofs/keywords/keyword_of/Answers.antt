use Rattle.std.proofs.Common.{◌≡◌, ℕ, List, map, option_map, refl, ap, ◌∙◌, bytes_eq, Bor}
use Rattle.std.specs.Map.{lookup}
use Rattle.kt_table.proofs.Texts.{first_value-text}
use Rattle.kt_tree.specs.Lexemes.{find, keywords, keyword_of}
use Rattle.kt_lex.specs.declared.keywords.Keyword.{Keyword}
use Rattle.kt_lex.specs.declared.keywords.TheConstants.{KEYWORDS}
use Rattle.kt_lex.specs.Keywords.{kind_of}
use Rattle.kt_lex.proofs.SameText.{kinds, find-kinds, find-chars}
use Rattle.kt_lex.proofs.keywords.keyword_of.Goals as goal

-- the code's table, without where its texts lie in memory
abbrev rows : List (List ℕ × Keyword)
rows = map (λ row. (row.0.now, row.1)) KEYWORDS

-- it is the written one
rows_are_written : kinds kind_of rows ≡ keywords
unfolding kinds
rows_are_written = refl

pub returns : goal.returns
unfolding keyword_of
returns c =
    let b = c.args.word.now in
    let found : c.copied.result ≡ lookup (λ text. bytes_eq text b) rows =
    c.copied.ensures ∙ c.find.ensures.first ∙ first_value-text c.new.result c.args.word
    ∙ ap (λ (rs : List (Bor (List ℕ) × Keyword)). lookup (λ text. bytes_eq text b) (map (λ row. (row.0.now, row.1)) rs)) c.new.ensures in
    ap (option_map kind_of) found ∙ find-kinds kind_of rows b ∙ ap (λ r. find r b) rows_are_written ∙ find-chars keywords b c.utf8.word refl
