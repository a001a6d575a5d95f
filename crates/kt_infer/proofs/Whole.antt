-- The findings of a whole body.
use Rattle.std.proofs.Common.{◌≡◌, ℕ, Bool, List, [], ◌++◌, ap, sym, ◌∙◌}
use Rattle.kt_tree.specs.declared.ast.declaration.File.{File}
use Rattle.kt_model.specs.Classes.{Classes}
use Rattle.kt_model.specs.NameUses.{Resolved}
use Rattle.kt_model.specs.BodyTrees.{Trees}
use Rattle.kt_model.specs.Bodies.{owner_parameters, owner_trees}
use Rattle.kt_typing.specs.Typing.{Ways, context_of, all_judged, body_judged, owner_ways, parameter_types}
use Rattle.kt_model.specs.declared.uses.Owner.{Owner}
use Rattle.kt_infer.specs.Noting.{Keeps, JudgesAll, by_last}
use Rattle.kt_infer.specs.declared.notes.Notes.{Notes}

pub body_findings : (file : File) (classes : Classes) (resolved : Resolved) (is_left : ℕ → Bool) (o : Owner) {a b d : Notes} (ways : Ways) (trees : Trees) (parameters : List ℕ) {k : Bool}
    → Keeps a b (parameter_types (context_of classes resolved is_left o) a.locals.entries parameters)
    → JudgesAll b d (by_last (all_judged (context_of classes resolved is_left o) ways b.locals.entries trees)) k
    → a.findings.items ≡ [] → a.locals.entries ≡ [] → parameters ≡ owner_parameters resolved o → owner_ways file resolved o ≡ ways → owner_trees file resolved o ≡ trees
    → d.findings.items ≡ (body_judged file classes resolved is_left o).findings
unfolding body_judged
body_findings file classes resolved is_left o {a} {b} {d} ways trees parameters p q none empty same ways_are trees_are =
    let cx = context_of classes resolved is_left o in
    q.all_findings
    ∙ ap (λ l. l ++ (all_judged cx ways b.locals.entries trees).findings) (p.kept_findings ∙ none)
    ∙ ap (λ l. (all_judged cx ways l trees).findings) (p.new_locals ∙ ap (λ l. parameter_types cx l parameters) empty ∙ ap (parameter_types cx []) same)
    ∙ ap (λ w. (all_judged cx w (parameter_types cx [] (owner_parameters resolved o)) trees).findings) (sym ways_are)
    ∙ ap (λ t. (all_judged cx (owner_ways file resolved o) (parameter_types cx [] (owner_parameters resolved o)) t).findings) (sym trees_are)
