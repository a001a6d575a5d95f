-- The `main` of a file can be called: it takes nothing and gives `Unit`.
use Rattle.std.proofs.Common.{◌≡◌, ◌+◌, ℕ, suc, zero, Bool, true, false, ◌&&◌, ◌==◌, not, if◌then◌else◌, List, [], ◌∷◌, Option, Some, None, length, position, slice_get, unwrap_or, refl, ap, subst, ◌∙◌}
use Rattle.std.specs.List.{flat_map, range_with_len}
use Rattle.std.proofs.lemmas.Bool.{false≢true}
use Rattle.std.proofs.lemmas.Option.{get_or_from_slice_get}
use Rattle.std.proofs.lemmas.List.Quantifiers.{position-Some}
use Rattle.kt_tree.specs.declared.ast.declaration.File.{File}
use Rattle.kt_tree.specs.declared.ast.declaration.FunctionBody.{FunctionBody}
use Rattle.kt_tree.specs.declared.ast.declaration.FunctionDecl.{FunctionDecl}
use Rattle.kt_tree.specs.declared.ast.part.TypeRef.{TypeRef}
use Rattle.kt_model.specs.DeclarationRules.{is_unit, has_unit_result, has_none, is_main}
use Rattle.kt_model.specs.NameEvents.{parameter_events, function_events}
use Rattle.kt_model.specs.NameUses.{Resolved, parameters_at, declaration_type}
use Rattle.kt_model.specs.Outlines.{result_by}
use Rattle.kt_model.specs.Scopes.{IsResolved, declared_count, first_variable, parameters_from}
use Rattle.kt_model.specs.TopNames.{Tops, top_names, head_named}
use Rattle.kt_typing.specs.Typing.{unit, function_signature, open_signature, signature_of}
use Rattle.kt_model.specs.declared.kinds.Head.{Head}
use Rattle.kt_model.specs.declared.kinds.Head.TheVariants as head
use Rattle.kt_mean.specs.Programs.{main_of}
use Rattle.kt_sound.specs.BodySoundness.{IsMainCallable}
use Rattle.kt_sound.proofs.TypingSteps.{none-some, some-some}
use Rattle.kt_sound.proofs.DeadOfFile.{got}
use Rattle.kt_sound.proofs.Declared.{function_type}

both_true : (a b : Bool) → (a && b) ≡ true → (a ≡ true) × (b ≡ true)
both_true true b e = (refl, e)
both_true false b e = absurd (false≢true e)

not_true : (b : Bool) → not b ≡ true → b ≡ false
not_true true e = absurd (false≢true e)
not_true false e = refl

-- the element at the first place that passes
passing : {A : Type 0} (test : A → Bool) (xs : List A) (i : ℕ) → position test xs ≡ Some i → (x : A) × ((slice_get xs i ≡ Some x) × (test x ≡ true))
passing test [] i e = absurd (none-some i e)
passing test (x ∷ xs) i e =
    let is = position-Some test (x ∷ xs) i x e in
    let at = got (x ∷ xs) i is.0 in
    (at.0, (at.1, subst (λ y. test y ≡ true) (get_or_from_slice_get (x ∷ xs) i at.0 x at.1) is.1))

-- ---- no parameters

no_parameters : {A : Type 0} (xs : List A) → has_none xs ≡ true → xs ≡ []
no_parameters [] e = refl
no_parameters (x ∷ xs) e = absurd (false≢true e)

none_declared : (n : ℕ) (fs : List FunctionDecl) (k : ℕ) (f : FunctionDecl) → slice_get fs k ≡ Some f → f.parameters ≡ [] → slice_get (parameters_from n fs) k ≡ Some []
none_declared n [] k f e h = absurd (none-some f e)
none_declared n (g ∷ fs) zero f e h =
    ap (λ ps. Some (range_with_len n (declared_count (flat_map parameter_events ps)))) (ap (λ (z : FunctionDecl). z.parameters) (some-some g f e) ∙ h)
none_declared n (g ∷ fs) (suc k) f e h = none_declared (n + declared_count (function_events g)) fs k f e h

-- ---- the result `Unit`

unit_head : (o : Option Head) → is_unit o ≡ true → o ≡ Some head.Unit
unit_head (Some head.Unit) e = refl
unit_head (Some _) e = absurd (false≢true e)
unit_head None e = absurd (false≢true e)

unit_result : (tops : Tops) (w : Option TypeRef) (b : Option FunctionBody) → has_unit_result tops w b ≡ true → result_by tops w b ≡ Some unit
unit_result tops None b e = ap (λ t. if t then Some unit else None) e
unit_result tops (Some w) b e =
    let both = both_true (not w.nullable) (is_unit (head_named tops w.name.name)) e in
    ap (λ o. Some (record { head = unwrap_or o head.Any; nullable = w.nullable })) (unit_head (head_named tops w.name.name) both.1)
    ∙ ap (λ n. Some (record { head = head.Unit; nullable = n })) (not_true w.nullable both.0)

-- ---- `main`

pub record TakesNothing (tops : Tops) (f : FunctionDecl) : Type 0 where
  pub none : f.parameters ≡ []
  pub gives : result_by tops f.result f.body ≡ Some unit

takes_nothing : (tops : Tops) (f : FunctionDecl) → is_main tops f ≡ true → TakesNothing tops f
unfolding is_main
takes_nothing tops f e =
    let all = both_true (f.name.name == tops.main && has_none f.parameters) (has_unit_result tops f.result f.body) e in
    let both = both_true (f.name.name == tops.main) (has_none f.parameters) all.0 in
    record { none = no_parameters f.parameters both.1; gives = unit_result tops f.result f.body all.1 }

pub main_callable : (file : File) (uses : Resolved) (main : ℕ) → IsResolved file uses → main_of file ≡ Some main → IsMainCallable uses main
unfolding signature_of
main_callable file uses main r e =
    let f = passing (is_main (top_names file)) file.functions main e in
    let can = takes_nothing (top_names file) f.0 f.1.1 in
    let none : parameters_at uses main ≡ [] =
    ap (λ ps. unwrap_or (slice_get ps main) []) r.same_parameters ∙ ap (λ o. unwrap_or o []) (none_declared (first_variable (top_names file)) file.functions main f.0 f.1.0 can.none) in
    record {
      signature = function_signature (declaration_type uses) (parameters_at uses main) unit;
      is = ap (λ o. open_signature (declaration_type uses) (parameters_at uses main) o) (function_type file uses r main f.0 f.1.0 ∙ can.gives);
      takes_nothing = ap (λ xs. length xs) none;
    }
