use Rattle.kt_source.proofs.OneReading.{one_file_of, one_source_finding, not_file_and_finding}
use Rattle.kt_source.proofs.laws.files_are_determined.Goals as goal

pub returns-clause-one_file : goal.returns-clause-one_file
returns-clause-one_file c = λ source a b h k. one_file_of source a b h k

pub returns-clause-one_finding : goal.returns-clause-one_finding
returns-clause-one_finding c = λ source p q f g h k. one_source_finding source p q f g h k

pub returns-clause-not_both : goal.returns-clause-not_both
returns-clause-not_both c = λ source a p f h k. not_file_and_finding source a p f h k
