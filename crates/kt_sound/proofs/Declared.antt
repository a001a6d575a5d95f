-- What the declarations of a file are by their kind, and what a name that stands for one says of it.
use Rattle.std.proofs.Common.{◌≡◌, ◌⊎◌, ◌+◌, ℕ, suc, zero, not, Bool, true, false, List, [], ◌∷◌, ◌++◌, map, Option, Some, None, slice_get, option_and_then, find, ◌==◌, inl, inr, refl, sym, ap, subst, ◌∙◌, arith, true≢false}
use Rattle.std.specs.Prelude.{⊤}
use Rattle.std.specs.List.{flat_map}
use Rattle.kt_tree.specs.declared.ast.declaration.File.{File}
use Rattle.kt_tree.specs.declared.ast.declaration.FunctionDecl.{FunctionDecl}
use Rattle.kt_tree.specs.declared.token.Span.{Span}
use Rattle.kt_model.specs.declared.kinds.KtType.{KtType}
use Rattle.kt_model.specs.declared.name_events.NameEvent.{NameEvent}
use Rattle.kt_model.specs.declared.name_events.NameEvent.TheVariants as event
use Rattle.kt_model.specs.declared.uses.Declaration.{Declaration}
use Rattle.kt_model.specs.declared.uses.DeclarationKind.{DeclarationKind}
use Rattle.kt_model.specs.declared.uses.DeclarationKind.TheVariants as kind
use Rattle.kt_model.specs.declared.uses.Named.{Named}
use Rattle.kt_model.specs.declared.uses.Named.TheVariants as named
use Rattle.kt_model.specs.declared.uses.UseRow.{UseRow}
use Rattle.kt_model.specs.BuiltIns.{built_in_functions, built_in_named}
use Rattle.kt_model.specs.declared.built_ins.BuiltIn.{BuiltIn}
use Rattle.kt_model.specs.NameEvents.{file_events}
use Rattle.kt_model.specs.NameUses.{Resolved, named_by, named_if, named_in, named_at, declaration_type, function_place}
use Rattle.kt_model.specs.Outlines.{function_result}
use Rattle.kt_model.specs.Scopes.{IsResolved, is_nothing, built_in_declaration, function_declaration, function_declarations, declaration_by, declarations_of}
use Rattle.kt_model.specs.TopNames.{Tops, top_names}
use Rattle.kt_model.proofs.ListLemmas.{Has, has_either, has_unflat}
use Rattle.kt_sound.proofs.TypingSteps.{none-some, some-some}

-- ---- lists

pub has_got : {A : Type 0} (xs : List A) (i : ℕ) (x : A) → slice_get xs i ≡ Some x → Has xs x
unfolding Has
has_got [] i x e = absurd (none-some x e)
has_got (y ∷ ys) zero x e = inl (some-some y x e)
has_got (y ∷ ys) (suc i) x e = inr (has_got ys i x e)

has_unmap : {A B : Type 0} (f : A → B) (xs : List A) (b : B) → Has (map f xs) b → (x : A) × (Has xs x × (f x ≡ b))
unfolding Has
has_unmap f [] b h = absurd h
has_unmap f (x ∷ xs) b (inl e) = (x, (inl refl, e))
has_unmap f (x ∷ xs) b (inr h) = let r = has_unmap f xs b h in (r.0, (inr r.1.0, r.1.1))

-- ---- the declarations of a file by their kind

-- That of the function at a place is of a function that stands there; what is built in is one of the functions that are open.
pub record IsAsDeclared (file : File) (d : Declaration) : Type 0 where
  pub of_function : (g : ℕ) → d.kind ≡ kind.Function g → (f : FunctionDecl) × ((slice_get file.functions g ≡ Some f) × (d ≡ function_declaration (top_names file) g f))
  pub built_in : d.kind ≡ kind.BuiltIn → (b : BuiltIn) × (Has built_in_functions b × (built_in_declaration b ≡ d))

abbrev OfFunctions : Tops → ℕ → List FunctionDecl → Declaration → Type 0
OfFunctions tops n fs d = (k : ℕ) × ((f : FunctionDecl) × ((slice_get fs k ≡ Some f) × (d ≡ function_declaration tops (n + k) f)))

function_among : (tops : Tops) (n : ℕ) (fs : List FunctionDecl) (d : Declaration) → Has (function_declarations tops n fs) d → OfFunctions tops n fs d
unfolding Has
function_among tops n [] d h = absurd h
function_among tops n (f ∷ fs) d (inl e) = (0, (f, (refl, sym e ∙ ap (λ m. function_declaration tops m f) (omega arith))))
function_among tops n (f ∷ fs) d (inr h) =
    let r = function_among tops (n + 1) fs d h in (suc r.0, (r.1.0, (r.1.1.0, r.1.1.1 ∙ ap (λ m. function_declaration tops m r.1.0) (omega arith))))

same_place : (a b : ℕ) → kind.Function a ≡ kind.Function b → a ≡ b
same_place a b e = cc

built_in_declared : (file : File) (b : BuiltIn) (d : Declaration) → Has built_in_functions b → built_in_declaration b ≡ d → IsAsDeclared file d
built_in_declared file b d here e =
    subst (λ z. IsAsDeclared file z) e (record { of_function = λ g i. absurd (apart g i); built_in = λ i. (b, (here, refl)) })
  where
    apart : (g : ℕ) → kind.BuiltIn ≡ kind.Function g → ⊥
    apart g i = cc

function_declared : (file : File) (d : Declaration) → OfFunctions (top_names file) 0 file.functions d → IsAsDeclared file d
function_declared file d r =
    subst (λ z. IsAsDeclared file z) (sym r.1.1.1) (record { of_function = at; built_in = λ i. absurd (apart _ i) })
  where
    apart : (g : ℕ) → kind.Function g ≡ kind.BuiltIn → ⊥
    apart g i = cc

    at : (g : ℕ) → kind.Function (0 + r.0) ≡ kind.Function g → (f : FunctionDecl) × ((slice_get file.functions g ≡ Some f) × (function_declaration (top_names file) (0 + r.0) r.1.0 ≡ function_declaration (top_names file) g f))
    at g i =
        let same : 0 + r.0 ≡ g = same_place (0 + r.0) g i in
        (r.1.0, (subst (λ m. slice_get file.functions m ≡ Some r.1.0) (omega (arith, same)) r.1.1.0, ap (λ m. function_declaration (top_names file) m r.1.0) same))

variable_kind : (tops : Tops) (e : NameEvent) (d : Declaration) → Has (declaration_by tops e) d → (d.kind ≡ kind.Parameter) ⊎ (d.kind ≡ kind.Local)
unfolding Has
variable_kind tops (event.Parameter name type) d (inl e) = inl (ap (λ (z : Declaration). z.kind) (sym e))
variable_kind tops (event.Parameter name type) d (inr h) = absurd h
variable_kind tops (event.Local tree name is_var type) d (inl e) = inr (ap (λ (z : Declaration). z.kind) (sym e))
variable_kind tops (event.Local tree name is_var type) d (inr h) = absurd h
variable_kind tops _ d h = absurd h

variable_declared : (file : File) (d : Declaration) → (d.kind ≡ kind.Parameter) ⊎ (d.kind ≡ kind.Local) → IsAsDeclared file d
variable_declared file d (inl e) = record { of_function = λ g i. cc; built_in = λ i. cc }
variable_declared file d (inr e) = record { of_function = λ g i. cc; built_in = λ i. cc }

is_as_declared : (file : File) (d : Declaration) → Has (declarations_of file) d → IsAsDeclared file d
unfolding declarations_of
is_as_declared file d h =
    elim (has_either (map built_in_declaration built_in_functions) _ d h) [
      | inl b ↦ (let r = has_unmap built_in_declaration built_in_functions d b in built_in_declared file r.0 d r.1.0 r.1.1)
      | inr other ↦ elim (has_either (function_declarations (top_names file) 0 file.functions) _ d other) [
        | inl f ↦ function_declared file d (function_among (top_names file) 0 file.functions d f)
        | inr v ↦ (let r = has_unflat (declaration_by (top_names file)) (file_events file) d v in variable_declared file d (variable_kind (top_names file) r.0 d r.1.1))
      ]
    ]

-- ---- the type of a function

got_among : (tops : Tops) (n : ℕ) (fs : List FunctionDecl) (rest : List Declaration) (k : ℕ) (f : FunctionDecl) → slice_get fs k ≡ Some f
    → slice_get (function_declarations tops n fs ++ rest) k ≡ Some (function_declaration tops (n + k) f)
got_among tops n [] rest k f e = absurd (none-some f e)
got_among tops n (g ∷ fs) rest zero f e =
    ap (λ h. Some (function_declaration tops n h)) (some-some g f e) ∙ ap (λ m. Some (function_declaration tops m f)) (omega arith)
got_among tops n (g ∷ fs) rest (suc k) f e = got_among tops (n + 1) fs rest k f e ∙ ap (λ m. Some (function_declaration tops m f)) (omega arith)

behind_built_in : (g : ℕ) → function_place g ≡ suc (suc (suc (suc (suc g))))
behind_built_in g = omega arith

-- The type that is declared for a function is its result.
pub function_type : (file : File) (uses : Resolved) → IsResolved file uses → (g : ℕ) (f : FunctionDecl) → slice_get file.functions g ≡ Some f
    → declaration_type uses (function_place g) ≡ function_result (top_names file) f
unfolding declarations_of
function_type file uses r g f e =
    ap (λ ds. option_and_then (λ d. d.written) (slice_get ds (function_place g))) r.same_declared
    ∙ ap (λ k. option_and_then (λ d. d.written) (slice_get (declarations_of file) k)) (behind_built_in g)
    ∙ ap (λ o. option_and_then (λ d. d.written) o) (got_among (top_names file) 0 file.functions (flat_map (declaration_by (top_names file)) (file_events file)) g f e)

-- ---- what a name stands for

-- what the declaration of a named function is
abbrev pub Fits : Declaration → Named → Type 0
Fits d (named.Function g returns) = (d.kind ≡ kind.Function g) × (not d.is_nothing ≡ returns)
Fits d (named.BuiltIn name returns) = (d.kind ≡ kind.BuiltIn) × ((d.name ≡ name) × (not d.is_nothing ≡ returns))
Fits d _ = ⊤

fits_parts : (place : ℕ) (k : DeclarationKind) (name : ℕ) (span : Span) (is_var is_nothing : Bool) (type : Option KtType)
    → Fits (record { kind = k; name = name; span = span; is_var = is_var; is_nothing = is_nothing; written = type }) (named_by place (record { kind = k; name = name; span = span; is_var = is_var; is_nothing = is_nothing; written = type }))
fits_parts place (kind.Function f) name span is_var is_nothing type = (refl, refl)
fits_parts place kind.BuiltIn name span is_var is_nothing type = (refl, (refl, refl))
fits_parts place kind.Local name span is_var is_nothing type = tt
fits_parts place kind.Parameter name span is_var is_nothing type = tt
fits_parts place _ name span is_var is_nothing type = tt

-- a name that stands for something stands for a declaration
abbrev Declares : Resolved → Named → Type 0
Declares uses m = (m ≡ named.Other) ⊎ ((d : Declaration) × (Has uses.declared d × Fits d m))

declares_if : (uses : Resolved) (place : ℕ) (o : Option Declaration) → slice_get uses.declared place ≡ o → Declares uses (named_if place o)
declares_if uses place None e = inl refl
declares_if uses place (Some d) e = inr (d, (has_got uses.declared place d e, fits_parts place d.kind d.name d.span d.is_var d.is_nothing d.written))

declares_in : (uses : Resolved) (o : Option UseRow) → Declares uses (named_in uses o)
declares_in uses None = inl refl
declares_in uses (Some row) = declares_if uses row.declaration (slice_get uses.declared row.declaration) refl

declares : (uses : Resolved) (k : ℕ) (m : Named) → named_at uses k ≡ m → Declares uses m
unfolding named_at
declares uses k m e = subst (Declares uses) e (declares_in uses (find (λ row. row.tree == k) uses.rows))

-- A name that stands for a function of the file stands for one that it has; its calls return unless that function's result is `Nothing`.
pub named_function : (file : File) (uses : Resolved) → IsResolved file uses → (k g : ℕ) (returns : Bool) → named_at uses k ≡ named.Function g returns
    → (f : FunctionDecl) × ((slice_get file.functions g ≡ Some f) × (not (is_nothing (function_result (top_names file) f)) ≡ returns))
named_function file uses r k g returns e = elim (declares uses k (named.Function g returns) e) [
  | inl other ↦ absurd (apart other)
  | inr found ↦ (
      let d = (is_as_declared file found.0 (subst (λ ds. Has ds found.0) r.same_declared found.1.0)).of_function g found.1.1.0 in
      (d.0, (d.1.0, ap (λ (z : Declaration). not z.is_nothing) (sym d.1.1) ∙ found.1.1.1)))
]
  where
    apart : named.Function g returns ≡ named.Other → ⊥
    apart i = cc

pub was_true : (b : Bool) → not b ≡ false → b ≡ true
was_true true e = refl
was_true false e = absurd (true≢false e)

-- By its name each built-in function is found again.
found_again : (b : BuiltIn) → Has built_in_functions b → built_in_named b.name ≡ Some b
unfolding Has
found_again b (inl e) = subst (λ (c : BuiltIn). built_in_named c.name ≡ Some c) e refl
found_again b (inr (inl e)) = subst (λ (c : BuiltIn). built_in_named c.name ≡ Some c) e refl
found_again b (inr (inr (inl e))) = subst (λ (c : BuiltIn). built_in_named c.name ≡ Some c) e refl
found_again b (inr (inr (inr (inl e)))) = subst (λ (c : BuiltIn). built_in_named c.name ≡ Some c) e refl
found_again b (inr (inr (inr (inr (inl e))))) = subst (λ (c : BuiltIn). built_in_named c.name ≡ Some c) e refl
found_again b (inr (inr (inr (inr (inr h))))) = absurd h

-- A built-in function whose calls don't return has the result `Nothing`.
pub named_built_in : (file : File) (uses : Resolved) → IsResolved file uses → (k name : ℕ) → named_at uses k ≡ named.BuiltIn name false → (b : BuiltIn) → built_in_named name ≡ Some b → is_nothing (Some b.result) ≡ true
named_built_in file uses r k name e b is = elim (declares uses k (named.BuiltIn name false) e) [
  | inl other ↦ absurd (apart other)
  | inr found ↦ (
      let d = (is_as_declared file found.0 (subst (λ ds. Has ds found.0) r.same_declared found.1.0)).built_in found.1.1.0 in
      let same_name : d.0.name ≡ name = ap (λ (z : Declaration). z.name) d.1.1 ∙ found.1.1.1.0 in
      let same : d.0 ≡ b = some-some d.0 b (sym (found_again d.0 d.1.0) ∙ ap built_in_named same_name ∙ is) in
      subst (λ (c : BuiltIn). is_nothing (Some c.result) ≡ true) same (ap (λ (z : Declaration). z.is_nothing) d.1.1 ∙ was_true found.0.is_nothing found.1.1.1.1))
]
  where
    apart : named.BuiltIn name false ≡ named.Other → ⊥
    apart i = cc
