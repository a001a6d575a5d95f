use Rattle.std.proofs.Common.{◌≡◌, ◌+◌, ◌<◌, length, get_or, arith, refl, ◌∙◌}
use Rattle.std.proofs.lemmas.List.{get_or_default}
use Rattle.kt_solve.specs.Chains.{IsNext, effect_at}
use Rattle.kt_solve.specs.Words.{word_bit}
use Rattle.kt_solve.proofs.Applied.{transfer_first, effect_step}
use Rattle.kt_solve.proofs.apply.apply.Goals as goal

pub loop-at-init : goal.loop-at-init
loop-at-init c =
    let q = c.requires.chains in
    let at : c.index-at.result.now ≡ get_or c.args.chains.now.first.items c.args.node 0 =
    c.index-at.ensures ∙ get_or_default c.args.chains.now.first.items c.args.node c.index-at.result.now 0 (omega (arith, q.firsts, c.requires.node)) in
    let i : IsNext c.args.p.now.effects 0 c.args.node c.index-at.result.now = rw at (q.first_is c.args.node c.requires.node) in
    rw c.effects-effects.ensures (record {
      within = i.within;
      lands = i.lands;
      bits = λ k. rw (transfer_first c.args.p.now.effects c.args.node k c.index-at.result.now i) (rw c.copy_from_slice.ensures.after refl);
    })

pub loop-at-preserved : goal.loop-at-preserved
loop-at-preserved c =
    let q = c.requires.chains in
    let h : c.loop-at.at < length c.args.p.now.effects = rw (← c.effects-effects.ensures) c.loop-at-test.true in
    let same : (effect_at c.args.p.now.effects c.loop-at.at).node ≡ c.args.node = rw (← c.effects-effects.ensures) (c.loop-at.invariant.lands c.loop-at-test.true) in
    let at : c.index-at-in-loop-at.result.now ≡ get_or c.args.chains.now.next.items c.loop-at.at 0 =
    c.index-at-in-loop-at.ensures ∙ get_or_default c.args.chains.now.next.items c.loop-at.at c.index-at-in-loop-at.result.now 0 (omega (arith, q.nexts, h)) in
    let i : IsNext c.args.p.now.effects (c.loop-at.at + 1) c.args.node c.index-at-in-loop-at.result.now = rw (at, ← same) (q.next_is c.loop-at.at h) in
    let ih = rw c.effects-effects.ensures at c.loop-at.invariant.bits in
    let one = rw c.effects-effects.ensures at c.apply_one.ensures in
    rw c.effects-effects.ensures (record {
      within = i.within;
      lands = i.lands;
      bits = λ k. effect_step c.args.p.now.effects c.loop-at.at c.index-at-in-loop-at.result.now c.args.node k (word_bit c.args.before.now) (word_bit c.loop-at.out k) (word_bit c.apply_one.new.out k) h same i (ih k) (one k);
    })
