use Rattle.kt_parse.proofs.KeptNames.{kept}
use Rattle.kt_parse.proofs.lexed.names_are_kept.Goals as goal

pub returns : goal.returns
returns c = λ text t h. kept text t h
