-- A file whose declarations violate no rule has a `main`.
use Rattle.std.proofs.Common.{◌≡◌, ◌≤◌, ◌+◌, Bool, false, List, [], ◌∷◌, length, position, None, inl, inr, refl, arith}
use Rattle.std.specs.List.{list_any, position_or_len}
use Rattle.std.proofs.lemmas.Bool.{cases_Bool}
use Rattle.std.proofs.lemmas.Grind.{common_steps}
use Rattle.kt_tree.specs.declared.ast.declaration.File.{File}
use Rattle.kt_model.specs.DeclarationRules.{declaration_rules, first_place, is_main, IsViolated}
use Rattle.kt_model.specs.Sites.{OfFunctions, file_sites}
use Rattle.kt_model.specs.TopNames.{top_names}
use Rattle.kt_model.specs.declared.finding.Rule.TheVariants.{NoMain}
use Rattle.kt_model.proofs.ListLemmas.{Has, has_contains, has_flat}

-- where the first place that passes is past the end, none passes
none_passes : {X : Type 0} (p : X → Bool) (xs : List X) → length xs ≤ position_or_len p xs → list_any p xs ≡ false
none_passes p [] h = refl
none_passes p (x ∷ xs) h = elim (cases_Bool (p x)) [
  | inl t ↦ (let past : length (x ∷ xs) ≤ 0 = rw t at h in absurd (omega arith))
  | inr f ↦ (let past : length (x ∷ xs) ≤ 1 + position_or_len p xs = rw f at h in rw f (none_passes p xs (omega arith)))
]

past_end : {X : Type 0} (p : X → Bool) (xs : List X) → position p xs ≡ None → length xs ≤ position_or_len p xs
past_end p xs e = grind (arith, common_steps)

pub none_found : (file : File) → position (is_main (top_names file)) file.functions ≡ None → IsViolated file (record { rule = NoMain; span = first_place })
unfolding Has file_sites declaration_rules
none_found file e =
    let none = none_passes (is_main (top_names file)) file.functions (past_end (is_main (top_names file)) file.functions e) in
    inl (has_contains _ _ (has_flat (declaration_rules (top_names file)) (file_sites file) (OfFunctions file.functions) (record { rule = NoMain; span = first_place }) (inr (inl refl)) (rw none (inl refl))))
