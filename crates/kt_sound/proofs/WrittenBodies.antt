-- Where no rule on members is violated, each function of a file has a body.
use Rattle.std.proofs.Common.{◌≡◌, ℕ, ◌||◌, Bool, true, false, List, [], ◌∷◌, ◌++◌, Option, Some, None, IsSome, slice_get, inl, inr, refl}
use Rattle.std.specs.List.{flat_map}
use Rattle.std.proofs.lemmas.Bool.{false≢true}
use Rattle.kt_tree.specs.declared.ast.declaration.File.{File}
use Rattle.kt_tree.specs.declared.ast.declaration.FunctionBody.{FunctionBody}
use Rattle.kt_tree.specs.declared.ast.declaration.FunctionDecl.{FunctionDecl}
use Rattle.kt_tree.specs.declared.ast.declaration.Modifier.{Modifier}
use Rattle.kt_tree.specs.declared.ast.declaration.ModifierKind.{ModifierKind}
use Rattle.kt_tree.specs.declared.ast.declaration.ModifierKind.TheVariants as modifier
use Rattle.kt_model.specs.DeclarationRules.{where_, same_modifier}
use Rattle.kt_model.specs.MemberRules.{is_abstract_word, is_misplaced, modifiers, misfits_function, lacks_result, local_type, rules_from, function_rules, misdeclared, IsMisdeclared}
use Rattle.kt_model.specs.Outlines.{outlines_of}
use Rattle.kt_model.specs.Sites.{body_sites}
use Rattle.kt_model.specs.TopNames.{built_in_classes}
use Rattle.kt_model.specs.declared.modified.Modified.TheVariants as modified
use Rattle.kt_model.specs.declared.finding.Finding.{Finding}
use Rattle.kt_model.specs.declared.finding.Rule.TheVariants as rule
use Rattle.kt_model.proofs.ListLemmas.{Has, has_left, has_right, has_flat, has_contains}
use Rattle.kt_sound.proofs.Declared.{has_got}

-- the word `abstract`, where it stands
is_abstract : (k : ModifierKind) → same_modifier k modifier.Abstract ≡ true → k ≡ modifier.Abstract
is_abstract modifier.Abstract e = refl
is_abstract _ e = absurd (false≢true e)

abstract_word : (ms : List Modifier) → is_abstract_word ms ≡ true → (m : Modifier) × (Has ms m × (m.kind ≡ modifier.Abstract))
unfolding Has
abstract_word [] e = absurd (false≢true e)
abstract_word (m ∷ ms) e = by (same_modifier m.kind modifier.Abstract) refl e (λ f. abstract_word ms f)
  where
    by : (b : Bool) → same_modifier m.kind modifier.Abstract ≡ b → (b || is_abstract_word ms) ≡ true → (is_abstract_word ms ≡ true → (n : Modifier) × (Has ms n × (n.kind ≡ modifier.Abstract)))
        → (n : Modifier) × (Has (m ∷ ms) n × (n.kind ≡ modifier.Abstract))
    by true i f behind = (m, (inl refl, is_abstract m.kind i))
    by false i f behind = let rest = behind f in (rest.0, (inr rest.1.0, rest.1.1))

-- a function of the file's top may not have it
misplaced : (ms : List Modifier) (m : Modifier) → m.kind ≡ modifier.Abstract → is_misplaced modified.Function ms m ≡ true
misplaced ms m e = rw e refl

found_where : (b : Bool) (f : Finding) → b ≡ true → Has (where_ b f.rule f.span) f
unfolding Has
found_where true f e = inl refl
found_where false f e = absurd (false≢true e)

module _ (file : File) (none : (x : Finding) → IsMisdeclared file x → ⊥) where
  function_none : (place : ℕ) (f : FunctionDecl) (x : Finding) → slice_get file.functions place ≡ Some f → Has (function_rules f) x → ⊥
  unfolding misdeclared
  function_none place f x e h =
      let classes = rules_from file (outlines_of file) built_in_classes file.classes in
      let functions = flat_map function_rules file.functions in
      let locals = flat_map local_type (body_sites file) in
      let among = has_flat function_rules file.functions f x (has_got file.functions place f e) h in
      none x (has_contains (classes ++ functions ++ locals) x (has_left (classes ++ functions) locals x (has_right classes functions x among)))

  pub has_body : (place : ℕ) (f : FunctionDecl) → slice_get file.functions place ≡ Some f → IsSome f.body
  unfolding function_rules modifiers
  has_body place f e = by f.body refl
    where
      words : List Finding
      words = modifiers modified.Function f.modifiers

      missing : List Finding
      missing = where_ (misfits_function false f) rule.Body f.name.span

      untyped : List Finding
      untyped = where_ (lacks_result f) rule.NoType f.name.span

      no_word : is_abstract_word f.modifiers ≡ true → ⊥
      no_word a =
          let m = abstract_word f.modifiers a in
          let x : Finding = record { rule = rule.Modifier; span = m.0.span } in
          let among = has_flat _ f.modifiers m.0 x m.1.0 (found_where (is_misplaced modified.Function f.modifiers m.0) x (misplaced f.modifiers m.0 m.1.1)) in
          function_none place f x e (has_left (words ++ missing) untyped x (has_left words missing x among))

      by_word : (b : Bool) → is_abstract_word f.modifiers ≡ b → f.body ≡ None → ⊥
      by_word true a i = no_word a
      by_word false a i =
          let x : Finding = record { rule = rule.Body; span = f.name.span } in
          function_none place f x e (has_left (words ++ missing) untyped x (has_right words missing x (found_where (misfits_function false f) x (rw i (rw a refl)))))

      by : (o : Option FunctionBody) → f.body ≡ o → IsSome o
      by (Some b) i = refl
      by None i = absurd (by_word (is_abstract_word f.modifiers) refl i)
