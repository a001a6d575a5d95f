use Rattle.kt_lex.proofs.LayoutLaw.{some_answer}
use Rattle.kt_lex.proofs.TokenSteps.{one_list, one_place, not_both}
use Rattle.kt_lex.proofs.laws.tokens_are_determined.Goals as goal

pub returns-clause-some : goal.returns-clause-some
returns-clause-some c = λ text. some_answer text

pub returns-clause-one_list : goal.returns-clause-one_list
returns-clause-one_list c = λ text ts us h k. one_list text ts us h k

pub returns-clause-one_start : goal.returns-clause-one_start
returns-clause-one_start c = λ text a b d e h k. (one_place text a b d e h k).0

pub returns-clause-one_end : goal.returns-clause-one_end
returns-clause-one_end c = λ text a b d e h k. (one_place text a b d e h k).1

pub returns-clause-not_both : goal.returns-clause-not_both
returns-clause-not_both c = λ text ts start end h k. not_both text ts start end h k
