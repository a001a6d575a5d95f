-- Each parameter of a file's functions has a written type: a parameter is declared where its function's events begin, with the type that is written there.
use Rattle.std.proofs.Common.{◌≡◌, ◌+◌, ◌<◌, ℕ, suc, zero, List, [], ◌∷◌, ◌++◌, map, length, IsSome, slice_get, unwrap_or, option_and_then, inl, inr, refl, sym, ap, subst, ◌∙◌, arith}
use Rattle.std.specs.List.{flat_map, range_with_len}
use Rattle.std.proofs.lemmas.Bool.{false≢true}
use Rattle.std.proofs.lemmas.Grind.{flat_map-append}
use Rattle.kt_tree.specs.declared.token.Span.{Span}
use Rattle.kt_tree.specs.declared.ast.part.Ident.{Ident}
use Rattle.kt_tree.specs.declared.ast.declaration.File.{File}
use Rattle.kt_tree.specs.declared.ast.declaration.FunctionDecl.{FunctionDecl}
use Rattle.kt_tree.specs.declared.ast.declaration.Parameter.{Parameter}
use Rattle.kt_tree.specs.declared.ast.declaration.ParameterType.{ParameterType}
use Rattle.kt_tree.specs.declared.ast.declaration.ParameterType.TheVariants as parameter
use Rattle.kt_model.specs.declared.name_events.NameEvent.TheVariants as event
use Rattle.kt_model.specs.declared.uses.Declaration.{Declaration}
use Rattle.kt_model.specs.BuiltIns.{built_in_functions}
use Rattle.kt_model.specs.NameEvents.{Events, parameter_events, body_events, function_events, file_events}
use Rattle.kt_model.specs.NameUses.{Resolved, parameters_at, declaration_type}
use Rattle.kt_model.specs.Scopes.{IsResolved, built_in_declaration, function_declarations, declaration_by, declarations_of, declared_count, first_variable, parameters_from}
use Rattle.kt_model.specs.TopNames.{Tops, top_names}
use Rattle.kt_model.proofs.ListLemmas.{Has}

-- ---- declarations one behind another

-- what is declared at a place has a written type
abbrev pub IsTyped : List Declaration → ℕ → Type 0
IsTyped ds k = IsSome (option_and_then (λ d. d.written) (slice_get ds k))

typed_front : (ds es : List Declaration) (k : ℕ) → IsTyped ds k → IsTyped (ds ++ es) k
typed_front [] es k h = absurd (false≢true h)
typed_front (d ∷ ds) es zero h = h
typed_front (d ∷ ds) es (suc k) h = typed_front ds es k h

typed_behind : (ds es : List Declaration) (i k : ℕ) → k ≡ length ds + i → IsTyped es i → IsTyped (ds ++ es) k
typed_behind [] es i k e h = subst (λ z. IsTyped es z) (omega (arith, e)) h
typed_behind (d ∷ ds) es i zero e h = absurd (omega (arith, e))
typed_behind (d ∷ ds) es i (suc k) e h = typed_behind ds es i k (omega (arith, e)) h

in_range : (a n x : ℕ) → Has (range_with_len a n) x → (i : ℕ) × ((i < n) × (x ≡ a + i))
unfolding Has
in_range a zero x h = absurd h
in_range a (suc n) x (inl e) = (0, (omega arith, omega (arith, e)))
in_range a (suc n) x (inr h) = let r = in_range (a + 1) n x h in (suc r.0, (omega (arith, r.1.0), omega (arith, r.1.1)))

-- ---- events

module _ (tops : Tops) where
  -- what events declare
  abbrev pub Declared : Events → List Declaration
  Declared es = flat_map (declaration_by tops) es

  count_declared : (es : Events) → length (Declared es) ≡ declared_count es
  count_declared [] = refl
  count_declared (event.Opens ∷ es) = count_declared es
  count_declared (event.Closes ∷ es) = count_declared es
  count_declared (event.Parameter name type ∷ es) = ap (λ k. suc k) (count_declared es)
  count_declared (event.Local tree name is_var type ∷ es) = ap (λ k. suc k) (count_declared es)
  count_declared (event.Reads tree name ∷ es) = count_declared es
  count_declared (event.Calls tree name ∷ es) = count_declared es
  count_declared (event.Assigns tree name ∷ es) = count_declared es

  typed_first : (span : Span) (name : Ident) (kind : ParameterType) (es : Events) (i : ℕ) → i < declared_count (parameter_events (record { span = span; name = name; kind = kind }) ++ es)
      → ((j : ℕ) → j < declared_count es → IsTyped (Declared es) j) → IsTyped (Declared (parameter_events (record { span = span; name = name; kind = kind }) ++ es)) i
  typed_first span name (parameter.Value type) es zero h rest = refl
  typed_first span name (parameter.Value type) es (suc i) h rest = rest i (omega (arith, h))
  typed_first span name (parameter.Function types result) es i h rest = rest i h

  typed_all : (ps : List Parameter) (i : ℕ) → i < declared_count (flat_map parameter_events ps) → IsTyped (Declared (flat_map parameter_events ps)) i
  typed_all [] i h = absurd (omega (arith, h))
  typed_all (p ∷ ps) i h = typed_first p.span p.name p.kind (flat_map parameter_events ps) i h (typed_all ps)

  -- what stands in front of other events is declared as without them
  typed_before : (es fs : Events) (i : ℕ) → IsTyped (Declared es) i → IsTyped (Declared (es ++ fs)) i
  typed_before es fs i h = subst (λ ds. IsTyped ds i) (sym (flat_map-append (declaration_by tops) es fs)) (typed_front (Declared es) (Declared fs) i h)

  typed_after : (es fs : Events) (i k : ℕ) → k ≡ declared_count es + i → IsTyped (Declared fs) i → IsTyped (Declared (es ++ fs)) k
  typed_after es fs i k e h =
      subst (λ ds. IsTyped ds k) (sym (flat_map-append (declaration_by tops) es fs)) (typed_behind (Declared es) (Declared fs) i k (e ∙ ap (λ z. z + i) (sym (count_declared es))) h)

  function_typed : (f : FunctionDecl) (i : ℕ) → i < declared_count (flat_map parameter_events f.parameters) → IsTyped (Declared (function_events f)) i
  unfolding function_events
  function_typed f i h =
      let parameters = flat_map parameter_events f.parameters in
      typed_before (parameters ++ body_events f.body) (event.Closes ∷ []) i (typed_before parameters (body_events f.body) i (typed_all f.parameters i h))

  -- the parameters of a function, behind what the functions before it declare
  typed_from : (n : ℕ) (fs : List FunctionDecl) (place x : ℕ) → Has (unwrap_or (slice_get (parameters_from n fs) place) []) x → (i : ℕ) × ((x ≡ n + i) × IsTyped (Declared (flat_map function_events fs)) i)
  unfolding Has
  typed_from n [] place x h = absurd h
  typed_from n (f ∷ fs) zero x h =
      let r = in_range n (declared_count (flat_map parameter_events f.parameters)) x h in
      (r.0, (r.1.1, typed_before (function_events f) (flat_map function_events fs) r.0 (function_typed f r.0 r.1.0)))
  typed_from n (f ∷ fs) (suc place) x h =
      let r = typed_from (n + declared_count (function_events f)) fs place x h in
      (declared_count (function_events f) + r.0, (omega (arith, r.1.0), typed_after (function_events f) (flat_map function_events fs) r.0 (declared_count (function_events f) + r.0) refl r.1.1))

-- ---- the file

function_count : (tops : Tops) (n : ℕ) (fs : List FunctionDecl) → length (function_declarations tops n fs) ≡ length (map (λ (f : FunctionDecl). f.name.name) fs)
function_count tops n [] = refl
function_count tops n (f ∷ fs) = ap (λ k. suc k) (function_count tops (n + 1) fs)

pub typed_parameter : (file : File) (uses : Resolved) → IsResolved file uses → (place x : ℕ) → Has (parameters_at uses place) x → IsSome (declaration_type uses x)
unfolding declarations_of file_events
typed_parameter file uses r place x h =
    let tops = top_names file in
    let found = typed_from tops (first_variable tops) file.functions place x (subst (λ ps. Has (unwrap_or (slice_get ps place) []) x) r.same_parameters h) in
    let variables = flat_map (declaration_by tops) (flat_map function_events file.functions) in
    let functions = function_declarations tops 0 file.functions in
    let count = function_count tops 0 file.functions in
    subst (λ ds. IsTyped ds x) (sym r.same_declared)
    (typed_behind (map built_in_declaration built_in_functions) (functions ++ variables) (length tops.function_names + found.0) x (omega (arith, found.1.0))
    (typed_behind functions variables found.0 (length tops.function_names + found.0) (ap (λ k. k + found.0) (sym count)) found.1.1))
