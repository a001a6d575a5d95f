-- The limits that a body passes.
use Rattle.std.specs.Prelude.{◌≡◌, ℕ, ◌<◌, Bool, true, false, List, [], ◌∷◌, length, Some, slice_get}
use Rattle.kt_tree.specs.declared.token.Span.{Span}
use Rattle.kt_tree.specs.declared.ast.declaration.File.{File}
use Rattle.kt_tree.specs.declared.ast.declaration.FunctionDecl.{FunctionDecl}
use Rattle.kt_model.specs.NameUses.{Resolved}
use Rattle.kt_model.specs.Bodies.{owner_trees, owner_parameters, IsTooLarge}
use Rattle.kt_model.specs.ControlFlow.{body_nodes}
use Rattle.kt_paths.specs.FlowRules.{most_locals, locals_of}
use Rattle.kt_model.specs.declared.uses.Owner.{Owner}
use Rattle.kt_model.specs.declared.uses.Owner.TheVariants as owner
use Rattle.kt_model.specs.declared.finding.Finding.{Finding}
use Rattle.kt_model.specs.declared.finding.Rule.{Rule}
use Rattle.kt_model.specs.declared.finding.Rule.TheVariants.{TooManyLocals, FlowTooLarge}

-- a finding of a rule, where it holds
abbrev pub finding_if : Bool → Rule → Span → List Finding
finding_if true rule at = record { rule = rule; span = at } ∷ []
finding_if false rule at = []

abbrev pub owner_locals : File → Resolved → Owner → ℕ
owner_locals file uses o = locals_of (owner_parameters uses o) (owner_trees file uses o)

abbrev pub owner_nodes : File → Resolved → Owner → ℕ
owner_nodes file uses o = length (body_nodes (owner_parameters uses o) (owner_trees file uses o))

-- A limit is passed by a body with so many locals and nodes; the finding stands there.
pub data IsPassed (locals nodes classes : ℕ) (at : Span) : Finding → Type 0 where
  many : most_locals < locals → IsPassed locals nodes classes at (record { rule = TooManyLocals; span = at })
  large : IsTooLarge nodes 0 classes → IsPassed locals nodes classes at (record { rule = FlowTooLarge; span = at })

-- one is passed by the body of a function before a place
pub record IsPassedBefore (file : File) (uses : Resolved) (classes place : ℕ) (f : Finding) : Type 0 where
  pub at : ℕ
  pub before : at < place
  pub function : FunctionDecl
  pub is_function : slice_get file.functions at ≡ Some function
  pub passed : IsPassed (owner_locals file uses (owner.Function at)) (owner_nodes file uses (owner.Function at)) classes function.name.span f
