-- A file in which no rule on bodies is violated has an accepted program.
use Rattle.std.proofs.Common.{◌≡◌, ◌↔◌, IsTrue, ℕ, Bool, true, false, List, [], ◌∷◌, Contains, Option, Some, None, IsSome, option_map, slice_get, inl, inr, refl, sym, ap, subst, ◌∙◌, arith}
use Rattle.std.proofs.lemmas.Bool.{false≢true}
use Rattle.kt_tree.specs.declared.ast.declaration.File.{File}
use Rattle.kt_tree.specs.declared.ast.declaration.FunctionBody.{FunctionBody}
use Rattle.kt_tree.specs.declared.ast.declaration.FunctionBody.TheVariants as written
use Rattle.kt_tree.specs.declared.ast.declaration.FunctionDecl.{FunctionDecl}
use Rattle.kt_model.specs.Bodies.{owner_parameters, owner_trees}
use Rattle.kt_model.specs.BodyTrees.{Trees}
use Rattle.kt_model.specs.ControlFlow.{body_edges}
use Rattle.kt_paths.specs.FlowRules.{assigned_on, IsFlowViolated, unassigned, val_twice, IsEndReached, IsEndViolated, no_return}
use Rattle.kt_model.specs.NameUses.{Resolved, declaration_type, function_place}
use Rattle.kt_model.specs.Outlines.{outlines_of}
use Rattle.kt_typing.specs.Typing.{IsLeft, SettlesLeft, unit, body_judged}
use Rattle.kt_model.specs.declared.finding.Finding.{Finding}
use Rattle.kt_model.specs.declared.graph.Variable.TheVariants.{Local}
use Rattle.kt_model.specs.declared.uses.Owner.TheVariants as owner
use Rattle.kt_mean.specs.Evaluation.{Function, Program}
use Rattle.kt_mean.specs.Programs.{is_expression, function_of, function_at}
use Rattle.kt_mean.specs.FileRuns.{IsProgram}
use Rattle.kt_sound.specs.BodySoundness.{HasBuiltInClasses, IsAcceptedBody, IsMainCallable, IsAcceptedProgram}
use Rattle.kt_sound.specs.FileSoundness.{file_classes, AreBodiesAccepted, FilesNeverWrong}
use Rattle.kt_sound.specs.FlowOfBody.{IsFine}
use Rattle.kt_sound.proofs.TypingSteps.{some-some}
use Rattle.kt_sound.proofs.BodyJoined.{bodies_never}
use Rattle.kt_sound.proofs.DeadOfFile.{got, is_function}
use Rattle.kt_sound.proofs.MainOfFile.{main_callable}
use Rattle.kt_sound.proofs.ResolvedBodies.{resolved_body}
use Rattle.kt_sound.proofs.WrittenBodies.{has_body}

-- ---- what is built in

built_in : (file : File) → HasBuiltInClasses (file_classes file)
unfolding outlines_of
built_in file = record { any_class = refl; unit_class = refl; boolean_class = refl; int_class = refl; string_class = refl }

-- ---- bodies

no_element : {A : Type 0} (xs : List A) → ((x : A) → Contains xs x → ⊥) → xs ≡ []
no_element [] h = refl
no_element (x ∷ xs) h = absurd (h x (0, omega arith, refl))

decided : (a b : Bool) → ((a ≡ b → ⊥) → ⊥) → a ≡ b
decided true true h = refl
decided false false h = refl
decided true false h = absurd (h (λ e. false≢true (sym e)))
decided false true h = absurd (h false≢true)

-- No rule along paths is violated, so each path keeps them.
fine : (parameters : List ℕ) (body : Trees) → ((f : Finding) → IsFlowViolated parameters body f → ⊥) → IsFine (body_edges parameters body) body
fine parameters body none = record {
  reads = λ t x n path i is same effect walked.
      decided (assigned_on path (Local x)) true (λ differs. none _ (unassigned t x n i is same effect (path, walked) (λ all. differs (all path walked))));
  assigns = λ t x k n path i is same effect walked.
      decided (assigned_on path (Local x)) false (λ differs. none _ (val_twice t x k n i is same effect (path, walked) (λ all. differs (all path walked))));
}

-- So is none on the end of a block, whose function's result isn't `Unit`.
end_unreached : (file : File) (uses : Resolved) (place : ℕ) (d : FunctionDecl) → slice_get file.functions place ≡ Some d → IsSome d.body
    → ((f : Finding) → IsEndViolated file uses (owner.Function place) f → ⊥) → is_expression d.body ≡ false → (declaration_type uses (function_place place) ≡ Some unit → ⊥)
    → IsEndReached (owner_parameters uses (owner.Function place)) (owner_trees file uses (owner.Function place)) → ⊥
end_unreached file uses place d e there none block_form other reached = by d.body refl there block_form
  where
    by : (o : Option FunctionBody) → d.body ≡ o → IsSome o → is_expression o ≡ false → ⊥
    by None i h form = false≢true h
    by (Some (written.Expr x)) i h form = false≢true (sym form)
    by (Some (written.Block contract block)) i h form = none _ (no_return place d contract block e i other reached)

end_same : (parameters xs : List ℕ) (body ts : Trees) → xs ≡ parameters → ts ≡ body → IsEndReached xs ts → IsEndReached parameters body
end_same parameters xs body ts e f h = subst (λ z. IsEndReached z body) e (subst (λ z. IsEndReached xs z) f h)

abbrev left_same : (parameters xs : List ℕ) (body ts : Trees) → xs ≡ parameters → ts ≡ body → SettlesLeft parameters body → SettlesLeft xs ts
left_same parameters xs body ts e f s = record { is_left = s.is_left; by_paths = λ tree. left_at tree (s.by_paths tree) }
  where
    left_at : (tree : ℕ) → IsTrue (s.is_left tree) ↔ IsLeft parameters body tree → IsTrue (s.is_left tree) ↔ IsLeft xs ts tree
    left_at tree h = subst (λ z. IsTrue (s.is_left tree) ↔ IsLeft z ts tree) (sym e) (subst (λ z. IsTrue (s.is_left tree) ↔ IsLeft parameters z tree) (sym f) h)

fine_same : (parameters xs : List ℕ) (body ts : Trees) → xs ≡ parameters → ts ≡ body → IsFine (body_edges parameters body) body → IsFine (body_edges xs ts) ts
fine_same parameters xs body ts e f h = subst (λ z. IsFine (body_edges z ts) ts) (sym e) (subst (λ z. IsFine (body_edges parameters z) z) (sym f) h)

module _ (file : File) (uses : Resolved) (main : ℕ) (p : Program) (a : AreBodiesAccepted file uses main) (is : IsProgram file uses p) where
  functions_are : (g : ℕ) → p.functions g ≡ function_at file uses g
  functions_are g = ap (λ (q : Program). q.functions g) is.program

  accepted_body : (place : ℕ) (f : Function) → function_at file uses place ≡ Some f → IsAcceptedBody file (file_classes file) uses p place f
  accepted_body place f e =
      let here = is_function file uses place f e in
      let body = a.bodies place here.there in
      let d = got file.functions place here.there in
      let left = left_same _ f.parameters _ f.body here.same_parameters here.same_body body.left in
      let same : function_of uses place d.0 ≡ f = some-some (function_of uses place d.0) f (sym (ap (λ o. option_map (function_of uses place) o) d.1) ∙ e) in
      record {
        resolved = resolved_body file uses a.resolved p functions_are (λ x. ap (λ (q : Program). q.written x) is.program) place f here.same_parameters here.same_body;
        left = left;
        typed = no_element (body_judged file (file_classes file) uses left.is_left (owner.Function place)).findings (λ x i. body.typed x (record { left = body.left; violated = i }));
        fine = fine_same _ f.parameters _ f.body here.same_parameters here.same_body (fine _ _ (λ x violated. body.flows x (inl violated)));
        ends = λ block_form other reached.
            end_unreached file uses place d.0 d.1 (has_body file a.members place d.0 d.1) (λ x violated. body.flows x (inr violated))
            (ap (λ (g : Function). g.is_expression) same ∙ block_form) (λ i. other (sym (ap (λ (g : Function). g.result) same) ∙ i))
            (end_same _ f.parameters _ f.body here.same_parameters here.same_body reached);
      }

  mains_are : p.main ≡ main
  mains_are = ap (λ (q : Program). q.main) is.program ∙ some-some is.main main (sym is.is_main ∙ a.is_main)

  accepted : IsAcceptedProgram file (file_classes file) uses p
  accepted = record {
    is_program = is;
    built_in = built_in file;
    bodies = accepted_body;
    main = subst (λ m. IsMainCallable uses m) (sym mains_are) (main_callable file uses main a.resolved a.is_main);
  }

pub files_never : FilesNeverWrong
files_never file uses main p steps input a is = bodies_never file (file_classes file) uses p steps input (accepted file uses main p a is)
