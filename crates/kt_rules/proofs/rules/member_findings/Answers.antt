use Rattle.std.proofs.Common.{Contains, List, ap, arith, length, subst}
use Rattle.std.proofs.lemmas.List.{length-map}
use Rattle.kt_tree.specs.declared.ast.declaration.ClassDecl.{ClassDecl}
use Rattle.kt_model.specs.declared.finding.Finding.{Finding}
use Rattle.kt_model.specs.Findings.{AreFindings}
use Rattle.kt_model.specs.TopNames.{Tops}
use Rattle.kt_rules.proofs.Names.{as_many}
use Rattle.kt_rules.proofs.rules.member_findings.Goals as goal

pub all_findings-requires-clause-few : goal.all_findings-requires-clause-few
all_findings-requires-clause-few c =
    omega (arith, as_many c.args.file.now c.args.t.now c.requires, c.is_few.ensures, ap (λ (t : Tops). length t.class_names) c.in_ok-tops.ensures, length-map c.args.file.now.classes (λ (d : ClassDecl). d.name.name))

pub returns : goal.returns
returns c =
    subst (λ (xs : List Finding). AreFindings (Contains xs) c.in_order.result) c.in_ok-found.ensures c.in_order.ensures
