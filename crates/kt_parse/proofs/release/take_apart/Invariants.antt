use Rattle.kt_parse.proofs.Weights.{weight}
use Rattle.kt_parse.proofs.release.take_apart.Given as goal

abbrev pub decreases-phrases : goal.decreases-phrases
decreases-phrases l = weight l.values
