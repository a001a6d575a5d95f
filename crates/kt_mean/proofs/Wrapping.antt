-- Numbers wrap.
use Rattle.std.proofs.Common.{ap}
use Rattle.std.specs.Int.{w32}
use Rattle.std.proofs.lemmas.Int.{wrapping_add_is, wrapping_sub_is, wrapping_mul_is, wrapping_neg_is}
use Rattle.kt_mean.specs.declared.states.Value.TheVariants.{Int}
use Rattle.kt_mean.specs.Frames.{pure}
use Rattle.kt_mean.specs.EvaluationLaws.{AllNumbersWrap}

pub wrap : AllNumbersWrap
wrap a b f g = record {
  sum = ap (λ z. pure (Int z)) (wrapping_add_is w32 a b f g);
  difference = ap (λ z. pure (Int z)) (wrapping_sub_is w32 a b f g);
  product = ap (λ z. pure (Int z)) (wrapping_mul_is w32 a b f g);
  negation = ap (λ z. pure (Int z)) (wrapping_neg_is w32 a f);
}
