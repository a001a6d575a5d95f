-- What a pass over all events of a file has.
use Rattle.std.proofs.Common.{◌≡◌, ℕ, ◌+◌, ◌-◌, ◌<◌, ◌≤◌, length, get_or, slice_index, inl, inr, arith, List, [], ◌∷◌, ◌++◌, map, reverse, Contains, ◌↔◌, refl, sym, ap, ◌∙◌, subst, IsPermutation}
use Rattle.std.proofs.lemmas.Bool.{cases_order}
use Rattle.std.proofs.lemmas.List.{get_or-map, length-map}
use Rattle.std.proofs.lemmas.List.Sorted.{Contains-permutation, IsPermutation-sym}
use Rattle.std.specs.List.{flat_map}
use Rattle.kt_tree.specs.declared.ast.declaration.File.{File}
use Rattle.kt_tree.specs.declared.ast.declaration.FunctionDecl.{FunctionDecl}
use Rattle.kt_model.specs.declared.uses.UseRow.{UseRow}
use Rattle.kt_model.specs.declared.uses.Declaration.{Declaration}
use Rattle.kt_model.specs.declared.name_events.NameEvent.{NameEvent}
use Rattle.kt_model.specs.BuiltIns.{built_in_functions}
use Rattle.kt_model.specs.TopNames.{Tops, top_names}
use Rattle.kt_model.specs.NameEvents.{Events, function_events, file_events}
use Rattle.kt_model.specs.NameRules.{name_rules}
use Rattle.kt_model.specs.Scopes.{built_in_declaration, function_declarations, declaration_by, declarations_of, first_variable, looking_back, use_by}
use Rattle.kt_scope.specs.declared.resolver.Resolver.{Resolver}
use Rattle.kt_scope.specs.Stack.{Reaches}
use Rattle.kt_scope.proofs.Steps.{given_all}

flat_back : {A : Type 0} (g : NameEvent → List A) (before events : Events) → looking_back (λ earlier event. g event) before events ≡ flat_map g events
unfolding looking_back
flat_back g before [] = refl
flat_back g before (event ∷ events) = ap (λ rest. g event ++ rest) (flat_back g (event ∷ before) events)

-- the declarations of what has a name outside of functions
abbrev pub tops_of : File → List Declaration
tops_of file = map built_in_declaration built_in_functions ++ function_declarations (top_names file) 0 file.functions

pub whole_declared : (file : File) (r : Resolver) → Reaches (top_names file) (tops_of file) (reverse (file_events file)) r → r.declared.items ≡ declarations_of file
unfolding declarations_of
whole_declared file r at =
    at.declared ∙ ap (λ z. tops_of file ++ z) (given_all (λ earlier event. declaration_by (top_names file) event) (file_events file) ∙ flat_back (declaration_by (top_names file)) [] (file_events file))

pub whole_rows : (file : File) (r : Resolver) → Reaches (top_names file) (tops_of file) (reverse (file_events file)) r → r.rows.items ≡ looking_back (use_by (top_names file)) [] (file_events file)
whole_rows file r at = at.uses ∙ given_all (use_by (top_names file)) (file_events file)

pub whole_found : (file : File) (r : Resolver) → Reaches (top_names file) (tops_of file) (reverse (file_events file)) r → r.found.items ≡ looking_back (name_rules (top_names file)) [] (file_events file)
whole_found file r at = at.found ∙ given_all (name_rules (top_names file)) (file_events file)

-- the same, as the code names it
pub whole : (file : File) (tops : Tops) (start : List Declaration) (events : Events) (r : Resolver) → tops ≡ top_names file → start ≡ map built_in_declaration built_in_functions ++ function_declarations tops 0 file.functions → events ≡ flat_map function_events file.functions → Reaches tops start (reverse events) r → Reaches (top_names file) (tops_of file) (reverse (file_events file)) r
unfolding file_events
whole file tops start events r t s e at =
    subst (λ x. Reaches (top_names file) (tops_of file) (reverse x) r) e (subst (λ x. Reaches (top_names file) x (reverse events) r) (s ∙ ap (λ x. map built_in_declaration built_in_functions ++ function_declarations x 0 file.functions) t) (subst (λ x. Reaches x start (reverse events) r) t at))

pub first_is : (file : File) → 5 + length file.functions ≡ first_variable (top_names file)
first_is file = ap (λ n. 5 + n) (sym (length-map file.functions (λ (f : FunctionDecl). f.name.name)))

-- the same rows in another order
pub same_rows : {A : Type 0} (rows sorted : List A) → IsPermutation rows sorted → (row : A) → Contains sorted row ↔ Contains rows row
same_rows rows sorted p row = (Contains-permutation sorted rows row (IsPermutation-sym rows sorted p), Contains-permutation rows sorted row p)

-- one more row that rises above the one before it
pub rise_more : (rows : List UseRow) (i : ℕ) → i < length rows → 1 ≤ i → ((k : ℕ) → k + 1 < i → slice_index (map (λ row. row.tree) rows) k < slice_index (map (λ row. row.tree) rows) (k + 1)) → (get_or rows (i - 1) (record { tree = 0; declaration = 0 })).tree < (get_or rows i (record { tree = 0; declaration = 0 })).tree → (k : ℕ) → k + 1 < i + 1 → slice_index (map (λ row. row.tree) rows) k < slice_index (map (λ row. row.tree) rows) (k + 1)
rise_more rows i within low rising last k h =
    elim (cases_order (k + 1) i) [
      | inl same ↦ (
          let back : i - 1 ≡ k = omega arith in
          let d : UseRow = record { tree = 0; declaration = 0 } in
          let step = subst (λ m. (get_or rows m d).tree < (get_or rows (k + 1) d).tree) back (subst (λ j. (get_or rows (i - 1) d).tree < (get_or rows j d).tree) (sym same) last) in
          let at_k : get_or (map (λ row. row.tree) rows) k 0 ≡ (get_or rows k d).tree = get_or-map (λ (row : UseRow). row.tree) rows k d 0 (omega arith) in
          let at_next : get_or (map (λ row. row.tree) rows) (k + 1) 0 ≡ (get_or rows (k + 1) d).tree = get_or-map (λ (row : UseRow). row.tree) rows (k + 1) d 0 (omega arith) in
          omega arith)
      | inr apart ↦ elim apart [ inl below ↦ rising k below | inr above ↦ absurd (omega arith) ]
    ]

-- nothing is in an empty list
pub none_there : {A : Type 0} (x : A) → Contains [] x → ⊥
none_there x h = let below : h.0 < 0 = h.1 in omega arith
