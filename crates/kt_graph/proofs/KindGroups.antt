-- What tree an expression is, where several kinds go together.
use Rattle.std.proofs.Common.{◌≡◌, ◌⊎◌, inl, inr, ℕ, ◌+◌, Bool, true, refl, ap}
use Rattle.kt_tree.specs.declared.ast.part.Arithmetic.{Arithmetic}
use Rattle.kt_tree.specs.declared.ast.part.Comparison.{Comparison}
use Rattle.kt_tree.specs.declared.ast.part.Equality.{Equality}
use Rattle.kt_tree.specs.declared.ast.body.Expr.{Expr}
use Rattle.kt_tree.specs.declared.ast.body.ExprKind.TheVariants as e
use Rattle.kt_model.specs.declared.uses.Named.{Named}
use Rattle.kt_model.specs.BodyTrees.{Trees, Operation, Operation', Int', Bool', Null', Sum', Arithmetic', Compare', Equal', First', Empty', whole, expr_tree}
use Rattle.kt_model.specs.ControlFlow.{returns_of}
use Rattle.kt_model.proofs.BodyFolds.{tree_of_kind, kind_int, kind_bool, kind_null, kind_sum, kind_arithmetic, kind_compare, kind_equal, kind_and, kind_or}
use Rattle.kt_graph.specs.Sizes.{size}

-- an expression that is an operation on these parts, which returns
pub record IsOperation (uses : ℕ → Named) (x : Expr) (parts : Trees) : Type 0 where
  pub operation : Operation
  pub returns : returns_of operation ≡ true
  pub is : expr_tree uses x ≡ Operation' (whole x.number x.span) operation parts

-- what has no parts
pub no_part : (uses : ℕ → Named) (x : Expr) → ((k : ℕ) × (x.kind ≡ e.Int k)) ⊎ (((t : Bool) × (x.kind ≡ e.Bool t)) ⊎ (x.kind ≡ e.Null)) → IsOperation uses x Empty'
no_part uses x (inl h) = record { operation = Int' h.0; returns = refl; is = tree_of_kind uses x _ _ h.1 (kind_int uses h.0) }
no_part uses x (inr (inl h)) = record { operation = Bool' h.0; returns = refl; is = tree_of_kind uses x _ _ h.1 (kind_bool uses h.0) }
no_part uses x (inr (inr is)) = record { operation = Null'; returns = refl; is = tree_of_kind uses x _ _ is (kind_null uses) }

-- what has two, whose values it takes
pub two_parts : (uses : ℕ → Named) (x a b : Expr) → (x.kind ≡ e.Sum a b) ⊎ (((o : Arithmetic) × (x.kind ≡ e.Arithmetic o a b)) ⊎ (((o : Comparison) × (x.kind ≡ e.Compare o a b)) ⊎ ((o : Equality) × (x.kind ≡ e.Equal o a b)))) → IsOperation uses x (First' (expr_tree uses a) (First' (expr_tree uses b) Empty'))
two_parts uses x a b (inl is) = record { operation = Sum'; returns = refl; is = tree_of_kind uses x _ _ is (kind_sum uses a b) }
two_parts uses x a b (inr (inl h)) = record { operation = Arithmetic' h.0; returns = refl; is = tree_of_kind uses x _ _ h.1 (kind_arithmetic uses h.0 a b) }
two_parts uses x a b (inr (inr (inl h))) = record { operation = Compare' h.0; returns = refl; is = tree_of_kind uses x _ _ h.1 (kind_compare uses h.0 a b) }
two_parts uses x a b (inr (inr (inr h))) = record { operation = Equal' h.0; returns = refl; is = tree_of_kind uses x _ _ h.1 (kind_equal uses h.0 a b) }

-- how many nodes a condition of two conditions has
pub two_conditions : (uses : ℕ → Named) (branching : Bool) (x a b : Expr) → (x.kind ≡ e.And a b) ⊎ (x.kind ≡ e.Or a b) → size branching (expr_tree uses x) ≡ 2 + (size true (expr_tree uses a) + size true (expr_tree uses b))
two_conditions uses branching x a b (inl is) = ap (size branching) (tree_of_kind uses x _ _ is (kind_and uses a b))
two_conditions uses branching x a b (inr is) = ap (size branching) (tree_of_kind uses x _ _ is (kind_or uses a b))
