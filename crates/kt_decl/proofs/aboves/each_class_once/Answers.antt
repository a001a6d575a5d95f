use Rattle.std.proofs.Common.{◌∷◌, ◌++◌, [], ap, arith, ◌∙◌, take, sym, get_or}
use Rattle.std.proofs.lemmas.List.{take_more}
use Rattle.kt_decl.proofs.ListSteps.{take_end}
use Rattle.kt_model.specs.Classes.{any, each_once, listed}
use Rattle.kt_decl.specs.Marks.{add_once}
use Rattle.kt_decl.proofs.AboveLemmas.{once_step}
use Rattle.kt_decl.proofs.aboves.each_class_once.Goals as goal

pub loop-c-preserved : goal.loop-c-preserved
loop-c-preserved c =
    let i = c.loop-c.invariant in
    let x = get_or c.args.climb.now c.loop-c.c-index 0 in
    record {
      marked = c.in_ok-add.ensures.marked;
      len = omega (arith, c.in_ok-add.ensures.len, i.len);
      found = c.in_ok-add.ensures.found ∙ ap (λ z. add_once z x) i.found ∙ sym (once_step (take c.loop-c.c-index c.args.climb.now) x) ∙ ap (each_once (any ∷ [])) (sym (take_more c.args.climb.now c.loop-c.c-index 0 c.loop-c-test.true));
    }

pub returns : goal.returns
unfolding listed
returns c =
    let whole = c.loop-c.invariant.found ∙ ap (each_once (any ∷ [])) (take_end c.args.climb.now c.loop-c.c-index c.loop-c-test.false) in
    c.from_vec.ensures ∙ c.in_ok-push.ensures.items ∙ ap (λ z. z ++ any ∷ []) whole
