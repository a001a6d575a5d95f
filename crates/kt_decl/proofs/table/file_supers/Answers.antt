use Rattle.std.proofs.Common.{◌≡◌, ◌∙◌, arith, ap, sym, subst, length}
use Rattle.std.proofs.lemmas.List.{length-map}
use Rattle.kt_tree.specs.declared.ast.declaration.ClassDecl.{ClassDecl}
use Rattle.kt_model.specs.TopNames.{Tops}
use Rattle.kt_model.specs.Classes.{Classes}
use Rattle.kt_model.specs.DeclarationRules.{classes_of}
use Rattle.kt_decl.specs.Marks.{HasKnownSupers}
use Rattle.kt_decl.proofs.ClassSteps.{length_classes_of}
use Rattle.kt_decl.proofs.TableLemmas.{known_of_file}
use Rattle.kt_decl.proofs.table.file_supers.Goals as goal
use Rattle.kt_decl.proofs.table.file_supers.Goals.{In_ok-supers}

is_of_file : (c : In_ok-supers) → c.in_ok-supers.supers.items ≡ classes_of c.args.file.now
unfolding classes_of
is_of_file c = rw c.requires at c.in_ok-supers.ensures

pub returns-clause-classes : goal.returns-clause-classes
returns-clause-classes c = is_of_file c

pub returns-clause-closed : goal.returns-clause-closed
returns-clause-closed c =
    let P : Classes → Type 0 = λ z. HasKnownSupers z in subst P (sym (is_of_file c)) (known_of_file c.args.file.now)

pub returns-clause-few : goal.returns-clause-few
returns-clause-few c =
    let file = c.args.file.now in
    let same : length c.in_ok-supers.supers.items ≡ length (classes_of file) = ap length (is_of_file c) in
    let names : length c.args.tops.now.class_names ≡ length file.classes = ap (λ (t : Tops). length t.class_names) c.requires ∙ length-map file.classes (λ (d : ClassDecl). d.name.name) in
    omega (arith, same, names, length_classes_of file, c.is_few.ensures)

pub returns-clause-len : goal.returns-clause-len
returns-clause-len c = ap length (is_of_file c) ∙ length_classes_of c.args.file.now
