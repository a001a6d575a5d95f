use Rattle.std.proofs.Common.{◌≡◌, ◌∙◌, [], length, get_or, ap, sym, subst, arith, Some}
use Rattle.std.proofs.lemmas.Option.{slice_get-get_or}
use Rattle.kt_model.specs.Findings.{Adds}
use Rattle.kt_flow.specs.Sizes.{IsPassedBefore}
use Rattle.kt_flow.proofs.Adding.{adds_none, adds_same}
use Rattle.kt_flow.proofs.Sized.{none_passed, passed_more, violated, is_passed}
use Rattle.kt_flow.proofs.limits.all_passed.Goals as goal

pub loop-place-init : goal.loop-place-init
loop-place-init c =
    subst (λ l. Adds (IsPassedBefore c.args.file.now c.args.uses.now (length c.args.table.now) 0) [] l) (sym c.new-found.ensures.items) (adds_none _ [] (none_passed c.args.file.now c.args.uses.now (length c.args.table.now)))

pub loop-place-preserved : goal.loop-place-preserved
loop-place-preserved c =
    let read = c.index-functions-place.result in
    let d = get_or c.as_slice-functions.result.now c.loop-place.place read in
    passed_more c.args.file.now c.args.uses.now (length c.args.table.now) c.loop-place.place d [] c.loop-place.found.items _
    (slice_get-get_or c.args.file.now.functions c.loop-place.place read (omega arith) ∙ ap (λ l. Some (get_or l c.loop-place.place read)) (sym c.as_slice-functions.ensures))
    c.loop-place.invariant c.in_ok-add_passed.ensures

pub returns : goal.returns
returns c =
    let e : c.loop-place.place ≡ length c.args.file.now.functions = omega arith in
    adds_same _ _ [] c.loop-place.found.items (violated c.args.file.now c.args.uses.now (length c.args.table.now)) (is_passed c.args.file.now c.args.uses.now (length c.args.table.now))
    (subst (λ k. Adds (IsPassedBefore c.args.file.now c.args.uses.now (length c.args.table.now) k) [] c.loop-place.found.items) e c.loop-place.invariant)
