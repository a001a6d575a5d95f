use Rattle.std.proofs.Common.{refl}
use Rattle.kt_tree.specs.Derives.{parts_of}
use Rattle.kt_parse.proofs.Weights.{lighter}
use Rattle.kt_parse.proofs.release.take_apart.Goals as goal

pub phrases-smaller : goal.phrases-smaller
phrases-smaller c = lighter c.spread.new.values c.phrases.values (parts_of c.in-Some.phrase) c.pop.new.self c.in-Some.phrase c.in-Some.ensures refl c.in_ok-spread.ensures
