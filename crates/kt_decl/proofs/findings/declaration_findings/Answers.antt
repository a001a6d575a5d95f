use Rattle.std.proofs.Common.{[], Contains}
use Rattle.std.specs.List.{flat_map}
use Rattle.kt_model.specs.Sites.{file_sites}
use Rattle.kt_model.specs.TopNames.{top_names}
use Rattle.kt_model.specs.DeclarationRules.{declaration_rules, IsOfClass, IsViolated}
use Rattle.kt_decl.proofs.ClassSteps.{adds_append, adds_both, findings_of_walk}
use Rattle.kt_decl.proofs.findings.declaration_findings.Goals as goal

pub returns : goal.returns
returns c =
    let file = c.args.file.now in
    let xs = flat_map (declaration_rules (top_names file)) (file_sites file) in
    let mid = c.at_file.new.out.items in
    let out = c.add_class_findings.new.out.items in
    let walk = rw (c.new-out.ensures.items, c.requires.tops) at c.in_ok-at_file.ensures in
    let both = adds_both (Contains xs) (IsOfClass file) [] mid out (adds_append xs [] mid walk) c.in_ok-add_class_findings.ensures in
    findings_of_walk (IsViolated file) out _ both c.in_order.ensures
