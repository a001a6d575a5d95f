use Rattle.kt_check.proofs.OneVerdict.{one_use}
use Rattle.kt_check.proofs.laws.one_accepted.Goals as goal

pub returns-clause-file : goal.returns-clause-file
returns-clause-file c = λ source a b u v h k. c.files_are_determined.ensures.one_file source a b h.has_file k.has_file

pub returns-clause-uses : goal.returns-clause-uses
returns-clause-uses c = λ source a b u v h k. one_use a b u v source (c.files_are_determined.ensures.one_file source a b h.has_file k.has_file) h k
