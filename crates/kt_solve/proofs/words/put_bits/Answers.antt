use Rattle.std.proofs.Common.{arith}
use Rattle.kt_solve.proofs.WordBits.{put}
use Rattle.kt_solve.proofs.words.put_bits.Goals as goal

pub returns : goal.returns
returns c = λ q. put c.args.words.now c.args.at c.args.value c.args.mask c.requires (omega arith) q
