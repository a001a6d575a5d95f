use Rattle.std.proofs.Common.{◌++◌, ◌∷◌, ◌==◌, [], cond, take, get_or, ap, sym, ◌∙◌}
use Rattle.std.specs.List.{list_any}
use Rattle.std.proofs.lemmas.List.{take_more}
use Rattle.kt_model.specs.Classes.{each_once}
use Rattle.kt_decl.proofs.AboveLemmas.{once_push}
use Rattle.kt_decl.proofs.settle.each_name_once.Goals as goal

pub loop-name-preserved : goal.loop-name-preserved
loop-name-preserved c =
    let names = c.args.names.now in
    let x = get_or names c.loop-name.name-index 0 in
    let front = take c.loop-name.name-index names in
    c.in_ok-push_new.ensures ∙ ap (λ z. z ++ cond (list_any (λ y. y == x) z) [] (x ∷ [])) c.loop-name.invariant ∙ sym (once_push [] front x) ∙ ap (each_once []) (sym (take_more names c.loop-name.name-index 0 c.loop-name-test.true))
