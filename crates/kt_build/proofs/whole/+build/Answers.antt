use Rattle.std.proofs.Common.{◌≡◌, length, sym, ap, ◌∙◌, ◌++◌, ◌∷◌, []}
use Rattle.kt_tree.specs.declared.grammar.built.Built.TheVariants as b
use Rattle.kt_tree.specs.Derives.{parts_of}
use Rattle.kt_build.proofs.Builds.{list-made, list-next, single-made, single-next}
use Rattle.kt_build.proofs.whole.+build.Goals as goal

pub build-returns-then-is_list-clause-made : goal.build-returns-then-is_list-clause-made
build-returns-then-is_list-clause-made t c =
    list-made c.args.tokens.now c.args.phrase.now c.args.next.now c.inside.result c.as_slice.result.now c.args.made.now c.push.new.self c.build_all.new.made c.build_all.result
    (sym c.is_list.ensures ∙ c.if-is_list.true) c.inside.ensures c.as_slice.ensures
    (c.in_ok-push.ensures ∙ ap (λ count. c.args.made.now ++ b.Count count ∷ []) c.len.ensures) c.build_all.ensures.made

pub build-returns-then-is_list-clause-next : goal.build-returns-then-is_list-clause-next
build-returns-then-is_list-clause-next t c =
    list-next c.args.tokens.now c.args.phrase.now c.args.next.now c.inside.result c.build_all.new.next c.as_slice.result.now c.build_all.result
    c.inside.ensures c.as_slice.ensures c.build_all.ensures.next

pub build-returns-clause-made : goal.build-returns-clause-made
build-returns-clause-made t c =
    single-made c.args.tokens.now c.args.phrase.now c.args.next.now c.inside.result c.as_slice-2.result.now c.args.made.now c.push-2.new.self c.new-parts.result c.build_all-2.new.made c.in_ok-whole.whole c.push-2.result
    (sym c.is_list.ensures ∙ c.if-is_list.false) c.inside.ensures c.as_slice-2.ensures c.new-parts.ensures c.in_ok-build_all.ensures.made c.in_ok-whole.ensures c.push-2.ensures

pub build-returns-clause-next : goal.build-returns-clause-next
build-returns-clause-next t c =
    single-next c.args.tokens.now c.args.phrase.now c.args.next.now c.inside.result c.build_all-2.new.next c.as_slice-2.result.now c.push-2.result
    c.inside.ensures c.as_slice-2.ensures c.in_ok-build_all.ensures.next
