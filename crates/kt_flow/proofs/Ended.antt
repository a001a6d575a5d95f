-- Whether the end of a body is reached, by the places of its graph and by its nodes.
use Rattle.std.proofs.Common.{◌≡◌, ◌≢◌, ◌↔◌, ℕ, Bool, true, false, List, ◌++◌, map, length, Option, Some, None, slice_get, IsTrue, refl, sym, ap, subst, ◌∙◌}
use Rattle.std.specs.Prelude.{Result, Ok, Err, OnOk}
use Rattle.std.proofs.lemmas.Bool.{false≢true}
use Rattle.kt_tree.specs.declared.token.Span.{Span}
use Rattle.kt_tree.specs.declared.ast.body.Block.{Block, out-Block}
use Rattle.kt_tree.specs.declared.ast.declaration.Contract.{Contract}
use Rattle.kt_tree.specs.declared.ast.declaration.File.{File}
use Rattle.kt_tree.specs.declared.ast.declaration.FunctionBody.{FunctionBody}
use Rattle.kt_tree.specs.declared.ast.declaration.FunctionBody.TheVariants as written
use Rattle.kt_tree.specs.declared.ast.declaration.FunctionDecl.{FunctionDecl}
use Rattle.kt_model.specs.Bodies.{node_at, owner_parameters, owner_trees, function_trees, body_trees_of}
use Rattle.kt_model.specs.BodyTrees.{Tree, Trees, Empty', number, listed, stmt_tree, block_trees}
use Rattle.kt_model.specs.BuiltIns.{unit_type}
use Rattle.kt_model.specs.ControlFlow.{Node, body_edges}
use Rattle.kt_model.specs.NameUses.{Resolved, named_at, declaration_type, function_place}
use Rattle.kt_model.specs.Findings.{Adds}
use Rattle.kt_model.specs.declared.finding.Finding.{Finding}
use Rattle.kt_model.specs.declared.finding.Rule.TheVariants.{NoReturn}
use Rattle.kt_model.specs.declared.graph.Graph.{Graph}
use Rattle.kt_model.specs.declared.uses.Owner.{Owner}
use Rattle.kt_model.specs.declared.uses.Owner.TheVariants as owner
use Rattle.kt_model.proofs.BodyFolds.{block_list}
use Rattle.kt_paths.specs.FlowRules.{last_tree, can_be_followed, IsReachedNode, IsEndReached, no_tree, behind_last, IsEndViolated, no_return}
use Rattle.kt_flow.specs.Sizes.{finding_if}
use Rattle.kt_flow.specs.Ends.{number_if, followed, IsLeftBefore, IsEndAt, no_tree_there, last_left, FallsThrough, block_ends, IsAgainstEnd, falls}
use Rattle.kt_flow.proofs.Adding.{adds_same}
use Rattle.kt_flow.proofs.Sized.{adds_if}
use Rattle.kt_flow.proofs.Followed.{none_some}
use Rattle.kt_flow.proofs.Paths.{IsPlaced, reached_here, reached_place, reached_there}

some_one : {A : Type 0} (x y : A) → Some x ≡ Some y → x ≡ y
some_one x y h = cc

-- a tree with such a number can be followed
followed_is : (t : Tree) (n : ℕ) → followed t ≡ Some n → (can_be_followed t ≡ true) × (number t ≡ n)
followed_is t n h = at (can_be_followed t) refl h
  where
    at : (b : Bool) → can_be_followed t ≡ b → number_if b (number t) ≡ Some n → (can_be_followed t ≡ true) × (number t ≡ n)
    at true e is = (e, cc)
    at false e is = absurd (none is)
      where
        none : number_if false (number t) ≡ Some n → ⊥
        none k = cc

module _ (ps : List ℕ) (ts : Trees) (classes : ℕ) (g : Graph) (w : IsPlaced ps ts classes g) where
  pub end_there : IsEndAt g ts → IsEndReached ps ts
  end_there (no_tree_there e) = no_tree e
  end_there (last_left t n last can left) =
      let is = followed_is t n can in
      behind_last t (node_at g.nodes left.node) last is.0 (left.there.same_tree ∙ sym is.1) left.there.leaves (reached_there ps ts classes g w left.node left.before left.there.reached)

  pub end_here : IsEndReached ps ts → IsEndAt g ts
  end_here (no_tree e) = no_tree_there e
  end_here (behind_last t n last can same leaves reached) =
      let place = reached_place ps ts classes g w n reached in
      last_left t (number t) last (ap (λ b. number_if b (number t)) can) (record {
        node = place.0;
        before = place.1;
        there = record {
          same_tree = ap (λ (m : Node). m.tree) place.2 ∙ same;
          leaves = ap (λ (m : Node). m.tag) place.2 ∙ leaves;
          reached = reached_here ps ts classes g w place.0 place.1 (subst (λ m. IsReachedNode (body_edges ps ts) m) (sym place.2) reached);
        };
      })

module _ (file : File) (uses : Resolved) (classes : ℕ) (g : Graph) where
  -- the trees of a function whose body is a block
  block_of : (place : ℕ) (f : FunctionDecl) (contract : Option Contract) (block : Block) → slice_get file.functions place ≡ Some f → f.body ≡ Some (written.Block contract block)
      → owner_trees file uses (owner.Function place) ≡ block_trees (named_at uses) block
  block_of place f contract block is body = ap (function_trees (named_at uses)) is ∙ ap (body_trees_of (named_at uses)) body

  -- An end that is found is violated.
  pub end_violated : (o : Owner) (f : Finding) → IsPlaced (owner_parameters uses o) (owner_trees file uses o) classes g → IsAgainstEnd file uses g o f → IsEndViolated file uses o f
  end_violated o f w (falls place d body is body_is (block_ends contract block gives ends)) =
      no_return place d contract block is body_is gives
      (end_there (owner_parameters uses (owner.Function place)) (owner_trees file uses (owner.Function place)) classes g w (subst (IsEndAt g) (sym (block_of place d contract block is body_is)) ends))

  -- And the other way round.
  pub end_against : (o : Owner) (f : Finding) → IsPlaced (owner_parameters uses o) (owner_trees file uses o) classes g → IsEndViolated file uses o f → IsAgainstEnd file uses g o f
  end_against o f w (no_return place d contract block is body_is gives ends) =
      falls place d (written.Block contract block) is body_is
      (block_ends contract block gives
      (subst (IsEndAt g) (block_of place d contract block is body_is) (end_here (owner_parameters uses (owner.Function place)) (owner_trees file uses (owner.Function place)) classes g w ends)))

-- ---- how the code finds it

module _ (g : Graph) (body : Trees) (t : Tree) (last : last_tree body ≡ Some t) where
  not_empty : body ≡ Empty' → ⊥
  not_empty e = none_some t (sym (ap last_tree e) ∙ last)

  same_last : (u : Tree) → last_tree body ≡ Some u → u ≡ t
  same_last u h = some_one u t (sym h ∙ last)

  -- by its last tree, where that can be followed
  pub end_by_last : (n : ℕ) (b : Bool) → followed t ≡ Some n → IsTrue b ↔ IsLeftBefore g n (length g.nodes) → IsTrue b ↔ IsEndAt g body
  end_by_last n b can is =
      (λ e. last_left t n last can (is.0 e), λ h. is.1 (left h))
    where
      left : IsEndAt g body → IsLeftBefore g n (length g.nodes)
      left (no_tree_there e) = absurd (not_empty e)
      left (last_left u m is_last can' h) = subst (λ k. IsLeftBefore g k (length g.nodes)) (some_one m n (sym can' ∙ ap followed (same_last u is_last) ∙ can)) h

  -- and where it cannot
  pub end_never : followed t ≡ None → IsTrue false ↔ IsEndAt g body
  end_never never =
      (λ e. absurd (false≢true e), λ h. absurd (none h))
    where
      none : IsEndAt g body → ⊥
      none (no_tree_there e) = not_empty e
      none (last_left u m is_last can h) = none_some m (sym never ∙ ap followed (sym (same_last u is_last)) ∙ can)

module _ (g : Graph) (uses : Resolved) (place : ℕ) where
  end_of_block : (contract : Option Contract) (block : Block) → FallsThrough g uses place (written.Block contract block) → IsEndAt g (block_trees (named_at uses) block)
  end_of_block contract block (block_ends c b gives ends) = ends

  -- the body of a function that gives a value, by the statements of its block
  pub falls_by : (body : FunctionBody) (contract : Option Contract) (block : Block) (b : Bool) → body ≡ written.Block contract block → declaration_type uses (function_place place) ≢ Some unit_type
      → IsTrue b ↔ IsEndAt g (listed (map (stmt_tree (named_at uses)) (out-Block block).statements)) → IsTrue b ↔ FallsThrough g uses place body
  falls_by body contract block b is gives ends = (
    λ e. subst (FallsThrough g uses place) (sym is) (block_ends contract block gives (subst (IsEndAt g) (sym (block_list (named_at uses) block)) (ends.0 e))),
    λ h. ends.1 (subst (IsEndAt g) (block_list (named_at uses) block) (end_of_block contract block (subst (FallsThrough g uses place) is h))),
  )

abbrev no_return_at : Span → Finding
no_return_at at = record { rule = NoReturn; span = at }

module _ (file : File) (uses : Resolved) (g : Graph) (o : Owner) (place : ℕ) (is_owner : o ≡ owner.Function place) where
  -- what is found in the body of a function is its end
  end_at : (d : FunctionDecl) (body : FunctionBody) → slice_get file.functions place ≡ Some d → d.body ≡ Some body → (f : Finding) → IsAgainstEnd file uses g (owner.Function place) f
      → FallsThrough g uses place body × (no_return_at d.name.span ≡ f)
  end_at d body is has f (falls p other other_body other_is other_has h) =
      let same : other ≡ d = some_one other d (sym other_is ∙ is) in
      let same_body : other_body ≡ body = some_one other_body body (sym other_has ∙ ap (λ (k : FunctionDecl). k.body) same ∙ has) in
      (subst (FallsThrough g uses place) same_body h, ap (λ (k : FunctionDecl). no_return_at k.name.span) (sym same))

  here : (f : Finding) → IsAgainstEnd file uses g o f → IsAgainstEnd file uses g (owner.Function place) f
  here f h = subst (λ p. IsAgainstEnd file uses g p f) is_owner h

  pub end_on : {A E : Type 0} (r : Result A E) (d : FunctionDecl) (body : FunctionBody) (b : Bool) (old new : List Finding) → slice_get file.functions place ≡ Some d → d.body ≡ Some body
      → IsTrue b ↔ FallsThrough g uses place body → OnOk r (new ≡ old ++ finding_if b NoReturn d.name.span) → OnOk r (Adds (IsAgainstEnd file uses g o) old new)
  end_on (Ok a) d body b old new is has means e =
      adds_same (λ f. FallsThrough g uses place body × (no_return_at d.name.span ≡ f)) (IsAgainstEnd file uses g o) old new to (λ f h. end_at d body is has f (here f h)) (adds_if b NoReturn d.name.span (FallsThrough g uses place body) old new means e)
    where
      to : (f : Finding) → FallsThrough g uses place body × (no_return_at d.name.span ≡ f) → IsAgainstEnd file uses g o f
      to f h = subst (λ x. IsAgainstEnd file uses g o x) h.1 (subst (λ p. IsAgainstEnd file uses g p (no_return_at d.name.span)) (sym is_owner) (falls place d body is has h.0))
  end_on (Err x) d body b old new is has means e = tt

  -- a function without a body
  pub no_body : (d : FunctionDecl) → slice_get file.functions place ≡ Some d → d.body ≡ None → (f : Finding) → IsAgainstEnd file uses g o f → ⊥
  no_body d is none f h = at f (here f h)
    where
      at : (k : Finding) → IsAgainstEnd file uses g (owner.Function place) k → ⊥
      at k (falls p other body other_is has q) =
          let same : other ≡ d = some_one other d (sym other_is ∙ is) in none_some body (sym none ∙ ap (λ (x : FunctionDecl). x.body) (sym same) ∙ has)

  -- no function
  pub no_function : slice_get file.functions place ≡ None → (f : Finding) → IsAgainstEnd file uses g o f → ⊥
  no_function none f h = at f (here f h)
    where
      at : (k : Finding) → IsAgainstEnd file uses g (owner.Function place) k → ⊥
      at k (falls p d body is has q) = none_some d (sym none ∙ is)
