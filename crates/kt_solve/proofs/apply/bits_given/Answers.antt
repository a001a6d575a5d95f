use Rattle.std.proofs.Common.{◌≡◌, ◌+◌, ◌-◌, ◌%◌, ◌<◌, ◌≤◌, arith, ap, ◌∙◌, eqb}
use Rattle.std.proofs.lemmas.Nat.Bits.{bit_at_ones}
use Rattle.kt_solve.specs.Words.{word_bit}
use Rattle.kt_solve.proofs.Bits.{bit_of-shl_high}
use Rattle.kt_solve.proofs.apply.bits_given.Goals as goal

pub returns-in-Set : goal.returns-in-Set
returns-in-Set c = λ q _ _. let l : q % 64 < 64 = omega arith in rw c.in-Set.is (ap (λ n. eqb n 1) (bit_at_ones 64 (q % 64) l))

pub returns-in-CopyFrom : goal.returns-in-CopyFrom
returns-in-CopyFrom c = λ q h w.
    let l : q % 64 < 64 = omega arith in
    let p : c.args.pair % 64 ≤ q % 64 = omega arith in
    let i : q % 64 - c.args.pair % 64 < 64 = omega arith in
    let k : c.in-CopyFrom.source + (c.args.pair - c.args.effect.now.first) + (q % 64 - c.args.pair % 64) ≡ c.in-CopyFrom.source + (q - c.args.effect.now.first) = omega (arith, c.requires.first) in
    rw c.in-CopyFrom.is (bit_of-shl_high c.bits_from.result (c.args.pair % 64) (q % 64) l p ∙ c.bits_from.ensures (q % 64 - c.args.pair % 64) i ∙ ap (word_bit c.args.before.now) k)
