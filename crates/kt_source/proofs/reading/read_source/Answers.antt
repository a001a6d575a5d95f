use Rattle.kt_source.proofs.StageLaws.{only_reads}
use Rattle.kt_source.proofs.reading.read_source.Goals as goal

pub returns-clause-only : goal.returns-clause-only
returns-clause-only c = only_reads c.args.source.now c.read.result c.read.ensures
