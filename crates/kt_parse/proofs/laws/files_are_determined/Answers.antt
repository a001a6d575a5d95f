use Rattle.kt_parse.proofs.Parsing.{one_derived, one_place, never_both}
use Rattle.kt_parse.proofs.laws.files_are_determined.Goals as goal

pub returns-clause-one_file : goal.returns-clause-one_file
returns-clause-one_file c = λ ts a b d e. one_derived ts a b d e

pub returns-clause-one_fault : goal.returns-clause-one_fault
returns-clause-one_fault c = λ ts f g d e. one_place ts f g d e

pub returns-clause-not_both : goal.returns-clause-not_both
returns-clause-not_both c = λ ts file f d e. never_both ts file f d e
