use Rattle.std.proofs.Common.{◌≡◌, ◌<◌, ◌+◌, ℕ, get_or, max, arith}
use Rattle.std.proofs.lemmas.List.{get_or_default}
use borrow.Author.Count.{below_more}
use Rattle.kt_decl.proofs.aboves.past_all.Goals as goal

pub loop-n-preserved : goal.loop-n-preserved
loop-n-preserved c =
    let past = c.loop-n.past in
    let next = get_or c.args.counts.now c.loop-n.n-index 0 in
    let small : next < 4294967296 = c.requires c.loop-n.n-index 0 c.loop-n-test.true in
    let is : c.greater-past.result ≡ max past (next + 1) = c.greater-past.ensures in
    let P : ℕ → Type 0 = λ k. get_or c.args.counts.now k 0 < c.greater-past.result in
    record {
      all = below_more P c.loop-n.n-index (λ k b. (let i = c.loop-n.invariant.all k b in omega arith)) (omega arith);
      small = omega arith;
    }

pub returns : goal.returns
returns c = λ k d b. (
    let i = c.loop-n.invariant.all k (omega arith) in
    let e = get_or_default c.args.counts.now k d 0 b in
    omega (arith, i, e)
    )
