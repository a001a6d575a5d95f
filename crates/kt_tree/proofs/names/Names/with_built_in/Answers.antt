use Rattle.std.proofs.Common.{◌≡◌, [], map, refl, ap, ◌∙◌}
use Rattle.kt_tree.specs.BuiltIn.{built_in, with_texts}
use Rattle.kt_tree.specs.declared.names.TheConstants.{BUILT_IN}
use Rattle.kt_tree.proofs.names.Names.with_built_in.Goals as goal

-- the built-in names are new one after another
all_new : with_texts [] (map (λ t. t.now) BUILT_IN) ≡ built_in
all_new = refl

pub returns : goal.returns
returns c = c.in_ok-add_all.ensures ∙ ap (λ t. with_texts t (map (λ u. u.now) BUILT_IN)) c.new-names.ensures ∙ all_new
