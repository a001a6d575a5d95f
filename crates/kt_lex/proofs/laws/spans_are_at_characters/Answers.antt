use Rattle.kt_lex.proofs.CharacterPlaces.{tokens-at_characters, bad-at_characters}
use Rattle.kt_lex.proofs.laws.spans_are_at_characters.Goals as goal

pub returns-clause-tokens : goal.returns-clause-tokens
returns-clause-tokens c = λ text ts utf8 h. tokens-at_characters text ts utf8 h

pub returns-clause-start : goal.returns-clause-start
returns-clause-start c = λ text a b utf8 h. (bad-at_characters text a b utf8 h).0

pub returns-clause-end : goal.returns-clause-end
returns-clause-end c = λ text a b utf8 h. (bad-at_characters text a b utf8 h).1
