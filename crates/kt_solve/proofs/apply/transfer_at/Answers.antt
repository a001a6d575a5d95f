use Rattle.std.proofs.Common.{◌≡◌, ◌+◌, ◌-◌, ◌<◌, cond, length, get_or, arith, sym, ◌∙◌}
use Rattle.std.proofs.lemmas.Bool.{cond-true, cond-false}
use Rattle.std.proofs.lemmas.List.{get_or_default}
use Rattle.kt_solve.specs.Chains.{IsNext, effect_at}
use Rattle.kt_solve.specs.Flow.{in_range, moved}
use Rattle.kt_solve.proofs.Applied.{transfer_first, transfer_step}
use Rattle.kt_solve.proofs.apply.transfer_at.Goals as goal
use Rattle.kt_solve.proofs.apply.transfer_at.Goals.{then-covers, else-covers}

pub loop-at-init : goal.loop-at-init
loop-at-init c =
    let q = c.requires.chains in
    let at : c.index-at.result.now ≡ get_or c.args.chains.now.first.items c.args.node 0 =
    c.index-at.ensures ∙ get_or_default c.args.chains.now.first.items c.args.node c.index-at.result.now 0 (omega (arith, q.firsts, c.requires.node)) in
    let i : IsNext c.args.p.now.effects 0 c.args.node c.index-at.result.now = rw at (q.first_is c.args.node c.requires.node) in
    rw c.effects-effects.ensures (record {
      within = i.within;
      lands = i.lands;
      transfer = sym (transfer_first c.args.p.now.effects c.args.node c.args.pair c.index-at.result.now i);
    })

pub loop-at-preserved : goal.loop-at-preserved
loop-at-preserved c =
    let q = c.requires.chains in
    let h : c.loop-at.at < length c.args.p.now.effects = rw (← c.effects-effects.ensures) c.loop-at-test.true in
    let same : (effect_at c.args.p.now.effects c.loop-at.at).node ≡ c.args.node = rw (← c.effects-effects.ensures) (c.loop-at.invariant.lands c.loop-at-test.true) in
    let at : c.index-at-in-loop-at.result.now ≡ get_or c.args.chains.now.next.items c.loop-at.at 0 =
    c.index-at-in-loop-at.ensures ∙ get_or_default c.args.chains.now.next.items c.loop-at.at c.index-at-in-loop-at.result.now 0 (omega (arith, q.nexts, h)) in
    let i : IsNext c.args.p.now.effects (c.loop-at.at + 1) c.args.node c.index-at-in-loop-at.result.now = rw (at, ← same) (q.next_is c.loop-at.at h) in
    let ih = rw c.effects-effects.ensures at c.loop-at.invariant.transfer in
    let test : c.covers.result ≡ in_range (effect_at c.args.p.now.effects c.loop-at.at) c.args.pair = rw c.effects-effects.ensures at c.covers.ensures in
    let step : c.if-covers.transfer ≡ cond (in_range (effect_at c.args.p.now.effects c.loop-at.at) c.args.pair) (moved (effect_at c.args.p.now.effects c.loop-at.at).transfer (c.args.pair - (effect_at c.args.p.now.effects c.loop-at.at).first)) c.loop-at.transfer =
    elim c.if-covers.branch [
      | then-covers w ↦ w.transfer-is ∙ (rw c.effects-effects.ensures at w.moved-transfer.ensures) ∙ sym (cond-true _ _ _ (sym test ∙ w.if-covers.true))
      | else-covers w ↦ w.transfer-is ∙ sym (cond-false _ _ _ (sym test ∙ w.if-covers.false))
    ] in
    rw c.effects-effects.ensures (record {
      within = i.within;
      lands = i.lands;
      transfer = transfer_step c.args.p.now.effects c.loop-at.at c.index-at-in-loop-at.result.now c.args.node c.args.pair c.loop-at.transfer c.if-covers.transfer h same i ih step;
    })
