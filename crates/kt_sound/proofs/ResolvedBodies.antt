-- Each call in a body is of a function of the file or of a built-in one, and returns unless the function's result is `Nothing`. Each parameter has a written
-- type.
use Rattle.std.proofs.Common.{◌≡◌, ◌&&◌, ℕ, not, Bool, true, false, Contains, Option, Some, None, IsSome, option_map, slice_get, refl, sym, ap, subst, ◌∙◌}
use Rattle.std.specs.List.{All}
use Rattle.std.proofs.lemmas.Bool.{false≢true}
use Rattle.std.proofs.lemmas.List.Elements.{All-contains}
use Rattle.kt_tree.specs.declared.ast.declaration.File.{File}
use Rattle.kt_tree.specs.declared.ast.declaration.FunctionDecl.{FunctionDecl}
use Rattle.kt_model.specs.BodyTrees.{BuiltIn', Mark, Tree, Trees, Operation', Call'}
use Rattle.kt_model.specs.BuiltIns.{built_in_named}
use Rattle.kt_model.specs.declared.built_ins.BuiltIn.{BuiltIn}
use Rattle.kt_model.specs.Bodies.{function_trees}
use Rattle.kt_model.specs.NameUses.{Resolved, named_at, parameters_at, declaration_type}
use Rattle.kt_model.specs.Outlines.{function_result}
use Rattle.kt_model.specs.Scopes.{IsResolved, is_nothing_head, is_nothing}
use Rattle.kt_model.specs.TopNames.{top_names}
use Rattle.kt_model.specs.TreesWithin.{all_trees_in, called_by, returns_at}
use Rattle.kt_model.specs.declared.kinds.KtType.{KtType}
use Rattle.kt_model.specs.declared.kinds.Head.{Head}
use Rattle.kt_model.specs.declared.kinds.Head.TheVariants as head
use Rattle.kt_typing.specs.Typing.{nothing}
use Rattle.kt_mean.specs.Evaluation.{Function, Program}
use Rattle.kt_mean.specs.Programs.{function_of, function_at}
use Rattle.kt_sound.specs.BodySoundness.{IsResolvedBody}
use Rattle.kt_sound.proofs.TypingSteps.{none-some, some-some}
use Rattle.kt_sound.proofs.NamedCalls.{IsNamedCall}
use Rattle.kt_sound.proofs.NamedTrees.{body_calls}
use Rattle.kt_model.proofs.ListLemmas.{contains_has}
use Rattle.kt_sound.proofs.TypedParameters.{typed_parameter}
use Rattle.kt_sound.proofs.Declared.{was_true, function_type, named_function, named_built_in}

-- the test for `Nothing`
nothing_is : (o : Option KtType) → is_nothing o ≡ true → o ≡ Some nothing
nothing_is None e = absurd (false≢true e)
nothing_is (Some t) e = ap (λ z. Some z) (by t.head t.nullable e)
  where
    by : (h : Head) (nullable : Bool) → (is_nothing_head h && not nullable) ≡ true → record { head = h; nullable = nullable } ≡ nothing
    by head.Nothing false i = refl
    by head.Nothing true i = absurd (false≢true i)
    by _ nullable i = absurd (false≢true i)

module _ (file : File) (uses : Resolved) (r : IsResolved file uses) where
  -- of what is built in
  stopping_built_in : (n : Mark) (name : ℕ) (arguments : Trees) (b : BuiltIn) → IsNamedCall (named_at uses) (Operation' n (BuiltIn' name false) arguments) → built_in_named name ≡ Some b → b.result ≡ nothing
  stopping_built_in n name arguments b h is = some-some b.result nothing (nothing_is (Some b.result) (named_built_in file uses r h.0 name h.1 b is))

  result_at : (g : ℕ) (d : FunctionDecl) (callee : Function) → slice_get file.functions g ≡ Some d → function_at file uses g ≡ Some callee → callee.result ≡ function_result (top_names file) d
  result_at g d callee there e =
      let same = some-some (function_of uses g d) callee (sym (ap (λ o. option_map (function_of uses g) o) there) ∙ e) in
      sym (ap (λ (f : Function). f.result) same) ∙ function_type file uses r g d there

  -- of a function of the file
  stopping : (t : Tree) (g : ℕ) (callee : Function) → IsNamedCall (named_at uses) t → called_by t ≡ Some g → function_at file uses g ≡ Some callee → returns_at t ≡ false → callee.result ≡ Some nothing
  stopping (Call' n f returns arguments) g callee h i e stops =
      let d = named_function file uses r h.0 f returns h.1 in
      let there = subst (λ j. function_at file uses j ≡ Some callee) (sym (some-some f g i)) e in
      result_at f d.0 callee d.1.0 there ∙ nothing_is (function_result (top_names file) d.0) (was_true (is_nothing (function_result (top_names file) d.0)) (d.1.1 ∙ stops))
  stopping (Operation' n (BuiltIn' name returns) parts) g callee h i e stops = absurd (none-some g i)
  stopping (Operation' n _ parts) g callee h i e stops = absurd (none-some g i)
  stopping _ g callee h i e stops = absurd (none-some g i)

  there : (g : ℕ) (f : FunctionDecl) → slice_get file.functions g ≡ Some f → IsSome (function_at file uses g)
  there g f e = subst (λ o. IsSome (option_map (function_of uses g) o)) (sym e) refl

  called : (t : Tree) (g : ℕ) → IsNamedCall (named_at uses) t → called_by t ≡ Some g → IsSome (function_at file uses g)
  called (Call' n f returns arguments) g h e =
      let d = named_function file uses r h.0 f returns h.1 in subst (λ j. IsSome (function_at file uses j)) (some-some f g e) (there f d.0 d.1.0)
  called (Operation' n (BuiltIn' name returns) parts) g h e = absurd (none-some g e)
  called (Operation' n _ parts) g h e = absurd (none-some g e)
  called _ g h e = absurd (none-some g e)

  named_calls : (o : Option FunctionDecl) → All (IsNamedCall (named_at uses)) (all_trees_in (function_trees (named_at uses) o))
  named_calls (Some d) = body_calls (named_at uses) d.body
  named_calls None = body_calls (named_at uses) None

  pub resolved_body : (p : Program) → ((g : ℕ) → p.functions g ≡ function_at file uses g) → ((x : ℕ) → p.written x ≡ declaration_type uses x) → (place : ℕ) (f : Function) → f.parameters ≡ parameters_at uses place
      → f.body ≡ function_trees (named_at uses) (slice_get file.functions place) → IsResolvedBody p f
  resolved_body p same written place f parameters is =
      let all = subst (λ ts. All (IsNamedCall (named_at uses)) (all_trees_in ts)) (sym is) (named_calls (slice_get file.functions place)) in
      let named : (t : Tree) → Contains (all_trees_in f.body) t → IsNamedCall (named_at uses) t = λ t i. All-contains (IsNamedCall (named_at uses)) (all_trees_in f.body) t all i in
      record {
        calls = λ t g i e. subst (λ o. IsSome o) (sym (same g)) (called t g (named t i) e);
        stops = λ t g callee i e there. stopping t g callee (named t i) e (sym (same g) ∙ there);
        stops_built_in = λ n name arguments b i. stopping_built_in n name arguments b (named (Operation' n (BuiltIn' name false) arguments) i);
        typed_parameters = λ x i. subst (λ o. IsSome o) (sym (written x)) (typed_parameter file uses r place x (contains_has (parameters_at uses place) x (subst (λ xs. Contains xs x) parameters i)));
      }
