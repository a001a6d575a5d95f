use Rattle.std.proofs.Common.{◌-◌, ◌%◌, arith}
use Rattle.kt_solve.specs.Flow.{moved, outcome}
use Rattle.kt_solve.specs.Words.{bit_of, word_bit}
use Rattle.kt_solve.proofs.Applied.{written}
use Rattle.kt_solve.proofs.apply.apply_one.Goals as goal

pub loop-pair-preserved : goal.loop-pair-preserved
loop-pair-preserved c = record {
  from = omega arith;
  to = omega arith;
  bits = λ q. written c.args.effect.now.first c.loop-pair.pair c.min-count.result q (bit_of c.bits_between.result (q % 64)) (bit_of c.bits_given-bits.result (q % 64))
      (outcome (moved c.args.effect.now.transfer (q - c.args.effect.now.first)) (word_bit c.args.before.now) q)
      (word_bit c.loop-pair.out q) (word_bit c.put_bits.new.words q) (word_bit c.args.out.now q)
      c.loop-pair.invariant.from (omega arith) (c.bits_between.ensures (q % 64) (omega arith)) (c.bits_given-bits.ensures q) (c.put_bits.ensures q) (c.loop-pair.invariant.bits q);
}
