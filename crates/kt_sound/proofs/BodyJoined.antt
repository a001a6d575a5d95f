-- All laws together, and from the entry of each body.
use Rattle.std.proofs.Common.{IsSome, position, ◌<◌, length, nat_lt, cond, arith, ◌≡◌, ◌⊎◌, ℕ, zero, suc, ◌-◌, ◌==◌, Bool, true, false, if◌then◌else◌, Option, Some, None, option_map, slice_get, List, [], ◌∷◌, ◌++◌, inl, inr, refl, sym, ap, subst, ◌∙◌, true≢false}
use Rattle.std.specs.List.{position_or_len}
use Rattle.std.proofs.lemmas.Bool.{false≢true, ltb-true}
use Rattle.kt_tree.specs.declared.ast.declaration.File.{File}
use Rattle.kt_tree.specs.declared.ast.declaration.FunctionBody.{FunctionBody}
use Rattle.kt_tree.specs.declared.ast.declaration.FunctionBody.TheVariants as written
use Rattle.kt_tree.specs.declared.ast.declaration.FunctionDecl.{FunctionDecl}
use Rattle.kt_model.specs.Classes.{Classes}
use Rattle.kt_model.specs.NameUses.{Resolved, named_at, parameters_at, declaration_type, function_place}
use Rattle.kt_model.specs.Bodies.{function_trees, body_trees_of}
use Rattle.kt_model.specs.BodyTrees.{Tree, Trees, Empty', First', expr_tree, Operation', Name', Paren', Not', And', Or', If', Declare', Local', Assign', Compound', Call', Return', Throw', Shut', number}
use Rattle.kt_model.specs.ControlFlow.{Node, Edge, Exits, in_of, all_edges, entry_of, entry_node, params_node, end_node, on, outside, body_edges}
use Rattle.kt_model.specs.declared.kinds.KtType.{KtType}
use Rattle.kt_typing.specs.declared.claims.Way.{Way}
use Rattle.kt_typing.specs.declared.claims.Way.TheVariants.{Checked}
use Rattle.kt_model.specs.declared.uses.Owner.TheVariants as owner
use Rattle.kt_typing.specs.Typing.{Ways, Each, TypeContext, LocalTypes, Signature, Judgements, unit, is_unit, function_signature, open_signature, signature_of, context_of, parameter_types, value_way, body_ways, function_ways, body_judged, judged, all_judged}
use Rattle.kt_model.proofs.ListLemmas.{has_contains}
use Rattle.kt_mean.specs.declared.states.Value.{Value}
use Rattle.kt_mean.specs.declared.states.Limit.TheVariants as limit
use Rattle.kt_mean.specs.Frames.{Frame, State, Ending, Gave, Left, Over, Wrong, Run, ◌>>=◌, pure, over, wrong, ending_after, NotWrong}
use Rattle.kt_mean.specs.Evaluation.{Function, Program, choose, spend, arguments_fit, begun, tree_at, entered, eval, invoke}
use Rattle.kt_mean.specs.WholeRun.{start}
use Rattle.kt_model.specs.TreesWithin.{all_trees_in}
use Rattle.kt_model.specs.declared.graph.Tag.TheVariants.{In}
use Rattle.kt_model.specs.BodyPaths.{IsNodePath}
use Rattle.kt_mean.specs.Programs.{is_expression, function_of, function_at}
use Rattle.kt_mean.specs.FileRuns.{IsDeadTree}
use Rattle.kt_sound.specs.BodySoundness.{IsAcceptedBody, IsAcceptedProgram, BodiesNeverWrong}
use Rattle.kt_sound.proofs.TypingSteps.{none-some, some-some, known_parameters, written_parameters, written_trees}
use Rattle.kt_sound.proofs.NoFinding.{not_open_none}
use Rattle.kt_sound.proofs.ValueTypes.{unit_is}
use Rattle.kt_sound.proofs.BodyStanding.{Place, Stands, Post, Eval, Keeps, in_body, KeepsEach}
use Rattle.kt_sound.proofs.BodySteps.{within_left, within_right, leads_of, ready}
use Rattle.kt_sound.proofs.BodyEnds.{plain_edges, plain_walked, all_within, end_reached}
use Rattle.kt_sound.proofs.BodyLaws.{Setting, law_operation, law_name, law_paren}
use Rattle.kt_sound.proofs.ConditionLaws.{law_not, law_and, law_or}
use Rattle.kt_sound.proofs.BranchLaws.{law_if, law_return}
use Rattle.kt_sound.proofs.LocalLaws.{law_declare, law_local, law_assign}
use Rattle.kt_sound.proofs.CompoundLaw.{law_compound}
use Rattle.kt_sound.proofs.ParameterLaws.{begun_agrees}
use Rattle.kt_sound.proofs.CallLaw.{CallPost, CallsKeep, called_ends, some_of, law_call, Callee, callee_post}

-- ---- all forms

-- A form that is not open is refused.
keeps_tree : (p : Program) (cx : TypeContext) → Setting p cx → (go : Eval) → CallsKeep p cx go → Keeps p cx go → Keeps p cx (tree_at p go)
unfolding judged
keeps_tree p cx set go calls keeps (Operation' n o parts) = law_operation p cx set go keeps n o parts
keeps_tree p cx set go calls keeps (Name' n at x) = law_name p cx set go n at x
keeps_tree p cx set go calls keeps (Paren' n e) = law_paren p cx go keeps n e
keeps_tree p cx set go calls keeps (Not' n e) = law_not p cx set go keeps n e
keeps_tree p cx set go calls keeps (And' n b c) = law_and p cx set go keeps n b c
keeps_tree p cx set go calls keeps (Or' n b c) = law_or p cx set go keeps n b c
keeps_tree p cx set go calls keeps (If' n braces c b d) = law_if p cx set go keeps n braces c b d
keeps_tree p cx set go calls keeps (Declare' n x) = law_declare p cx set go n x
keeps_tree p cx set go calls keeps (Local' n at x e) = law_local p cx set go keeps n at x e
keeps_tree p cx set go calls keeps (Assign' n at x fixed e) = law_assign p cx set go keeps n at x fixed e
keeps_tree p cx set go calls keeps (Compound' n at x fixed o operand) = law_compound p cx set go keeps n at x fixed o operand
keeps_tree p cx set go calls keeps (Call' n f returns arguments) = law_call p cx set go keeps calls n f returns arguments
keeps_tree p cx set go calls keeps (Return' n value) = law_return p cx go keeps n value
keeps_tree p cx set go calls keeps (Throw' n e) = λ g context exits way locals s w a st. absurd (not_open_none cx way n locals a.none)
keeps_tree p cx set go calls keeps (Shut' n) = λ g context exits way locals s w a st. absurd (not_open_none cx way n locals a.none)

-- ---- entering

-- a tree that is entered is not dead
alive_post : {p : Program} {cx : TypeContext} (g : Place p cx) (exits : Exits) (way : Way) (found : Option KtType) (dead : Bool) (r : Run Value) (s : State) → dead ≡ false → Post g exits way found (r s).ending
    → Post g exits way found (choose dead wrong r s).ending
alive_post g exits way found true r s e h = absurd (true≢false e)
alive_post g exits way found false r s e h = h

-- a step is taken, or none is left
spent_post : {p : Program} {cx : TypeContext} (g : Place p cx) (exits : Exits) (way : Way) (found : Option KtType) (r : Run Value) (s : State) (none : Bool) → Post g exits way found (r (record s { steps = s.steps - 1 })).ending
    → Post g exits way found (ending_after (if none then over limit.Steps s else pure tt (record s { steps = s.steps - 1 })).ending (λ (u : Unit {0}). r))
unfolding over pure
spent_post g exits way found r s true h = tt
spent_post g exits way found r s false h = h

-- what a call of each function of the program needs
abbrev Callees : (p : Program) (cx : TypeContext) → Type 0
Callees p cx = (place : ℕ) (f : Function) (s : Signature) → p.functions place ≡ Some f → cx.signature place ≡ Some s
    → Callee p cx f s.result × (s ≡ function_signature cx.written f.parameters s.result)

calls_keep : (p : Program) (cx : TypeContext) → Callees p cx → (go : Eval) → KeepsEach p cx go → CallsKeep p cx go
calls_keep p cx callees go keeps place f s e i = let c = callees place f s e i in record { result = c.0.result; signature = c.1; post = callee_post go keeps f s.result c.0 }

setting_of : (p : Program) (cx : TypeContext) → Setting p cx → (result : Option KtType) (is_left : ℕ → Bool) → Setting p (in_body cx result is_left)
setting_of p cx set result is_left = record { built_in = set.built_in; written = set.written }

-- The induction is on the number alone, for all bodies.
keeps_eval : (p : Program) (cx : TypeContext) → Setting p cx → Callees p cx → (depth : ℕ) → KeepsEach p cx (eval p depth)
unfolding eval entered ◌>>=◌ spend over
keeps_eval p cx set callees zero result is_left t g context exits way locals s w a st = tt
keeps_eval p cx set callees (suc depth) result is_left t g context exits way locals s w a st =
    let go = eval p depth in
    let keeps = keeps_eval p cx set callees depth in
    let here = in_body cx result is_left in
    let s' = record s { steps = s.steps - 1 } in
    let found = (judged here way locals t).found in
    spent_post g exits way found (choose (p.dead (number t)) wrong (tree_at p go t)) s (s.steps == 0)
    (alive_post g exits way found (p.dead (number t)) (tree_at p go t) s' (g.alive (in_of context.copy t) st.path st.is_path refl)
    (keeps_tree p here (setting_of p cx set result is_left) go (calls_keep p cx callees go keeps) (keeps result is_left) t g context exits way locals s' w a (record { path = st.path; is_path = st.is_path; agrees = st.agrees })))

-- ---- from the entry of a body

-- what can be called: a function that has a result
pub record Open (written : ℕ → Option KtType) (parameters : List ℕ) (result : Option KtType) (s : Signature) : Type 0 where
  pub result_is : result ≡ Some s.result
  pub signature : s ≡ function_signature written parameters s.result

open_is : (written : ℕ → Option KtType) (parameters : List ℕ) (result : Option KtType) (s : Signature) → open_signature written parameters result ≡ Some s → Open written parameters result s
open_is written parameters None s e = absurd (none-some s e)
open_is written parameters (Some t) s e =
    let same = some-some (function_signature written parameters t) s e in
    let result = ap (λ (z : Signature). z.result) same in
    record { result_is = ap (λ u. Some u) result; signature = sym same ∙ ap (λ u. function_signature written parameters u) result }

-- whether a result is `Unit` is settled
is_unit_result : (result : Option KtType) → ((result ≡ Some unit → ⊥) → ⊥) → result ≡ Some unit
is_unit_result None h = absurd (h (λ e. none-some unit e))
is_unit_result (Some t) h = by (is_unit t) refl
  where
    by : (b : Bool) → is_unit t ≡ b → Some t ≡ Some unit
    by true i = ap (λ z. Some z) (unit_is t.head t.nullable i)
    by false i = absurd (h (λ e. false≢true (sym i ∙ ap is_unit (some-some t unit e))))

-- ---- the functions of a program

module _ (file : File) (classes : Classes) (uses : Resolved) (p : Program) (a : IsAcceptedProgram file classes uses p) where
  abbrev context : TypeContext
  context = context_of classes uses (λ n. true) (owner.Function p.main)

  -- that of a body
  abbrev context_at : (ℕ → Bool) → ℕ → TypeContext
  context_at left place = context_of classes uses left (owner.Function place)

  abbrev parameters_of : ℕ → List ℕ
  parameters_of place = parameters_at uses place

  -- the types of its parameters, and its trees and ways
  abbrev types_of : (ℕ → Bool) → ℕ → LocalTypes
  types_of left place = parameter_types (context_at left place) [] (parameters_of place)

  abbrev trees_of : FunctionDecl → Trees
  trees_of d = body_trees_of (named_at uses) d.body

  abbrev ways_of : ℕ → FunctionDecl → Ways
  ways_of place d = body_ways (declaration_type uses (function_place place)) d.body

  judged_of : (left : ℕ → Bool) (place : ℕ) (d : FunctionDecl) → slice_get file.functions place ≡ Some d
      → body_judged file classes uses left (owner.Function place) ≡ all_judged (context_at left place) (ways_of place d) (types_of left place) (trees_of d)
  unfolding body_judged
  judged_of left place d e =
      ap (λ o. all_judged (context_at left place) (function_ways (declaration_type uses (function_place place)) o) (types_of left place) (function_trees (named_at uses) o)) e

  abbrev edges_of : ℕ → FunctionDecl → List Edge
  edges_of place d = plain_edges (parameters_of place) (trees_of d)

  -- a path among them is one of the body
  walked_of : (place : ℕ) (d : FunctionDecl) (ns : List Node) → IsNodePath (edges_of place d) ns → IsNodePath (body_edges (parameters_of place) (trees_of d)) ns
  walked_of place d ns h = plain_walked (parameters_of place) (trees_of d) ns h

  functions_are : (place : ℕ) → p.functions place ≡ function_at file uses place
  functions_are place = ap (λ (q : Program). q.functions place) a.is_program.program

  written_are : (x : ℕ) → p.written x ≡ declaration_type uses x
  written_are x = ap (λ (q : Program). q.written x) a.is_program.program

  -- a tree that is entered along a path is not marked as dead
  alive_at : (place : ℕ) (d : FunctionDecl) → slice_get file.functions place ≡ Some d → (n : Node) (path : List Node) → IsNodePath (body_edges (parameters_of place) (trees_of d)) (n ∷ path) → n.tag ≡ In
      → (b : Bool) → p.dead n.tree ≡ b → b ≡ false
  alive_at place d e n path walked tag false i = refl
  alive_at place d e n path walked tag true i =
      let dead : IsDeadTree file uses n.tree = (a.is_program.is_dead n.tree).0 (sym (ap (λ (q : Program). q.dead n.tree) a.is_program.program) ∙ i) in
      absurd (dead.unreached place (function_of uses place d) n path (ap (λ o. option_map (function_of uses place) o) e) walked refl tag)

  -- the place of a function
  place_of : (place : ℕ) (d : FunctionDecl) → slice_get file.functions place ≡ Some d → (accepted : IsAcceptedBody file classes uses p place (function_of uses place d))
      → Place p (context_at accepted.left.is_left place)
  place_of place d e accepted = record {
    edges = edges_of place d;
    body = trees_of d;
    locals = (all_judged (context_at accepted.left.is_left place) (ways_of place d) (types_of accepted.left.is_left place) (trees_of d)).locals;
    fine = record {
      reads = λ t x n path i is same effect walked. accepted.fine.reads t x n path i is same effect (walked_of place d (n ∷ path) walked);
      assigns = λ t x k n path i is same effect walked. accepted.fine.assigns t x k n path i is same effect (walked_of place d (n ∷ path) walked);
    };
    alive = λ n path walked tag. alive_at place d e n path (walked_of place d (n ∷ path) walked) tag (p.dead n.tree) refl;
    calls = accepted.resolved.calls;
    stops = accepted.resolved.stops;
    left = λ n path walked tag.
        (accepted.left.by_paths n.tree).1 (record { node = n; same_tree = refl; leaves = tag; path = path; is_path = walked_of place d (n ∷ path) walked });
    stops_built_in = accepted.resolved.stops_built_in;
    as_written = written_trees (context_at accepted.left.is_left place) (ways_of place d) (types_of accepted.left.is_left place) (trees_of d) (written_parameters (context_at accepted.left.is_left place) [] (parameters_of place) (λ x t w e. absurd (none-some (Some t) e)));
  }

  form_of : (body : Option FunctionBody) (result : Option KtType) (t : KtType) → result ≡ Some t
      → (is_expression body ≡ false) ⊎ ((e : Tree) × ((body_trees_of (named_at uses) body ≡ First' e Empty') × (body_ways result body ≡ Each (Checked t))))
  form_of None result t e = inl refl
  form_of (Some (written.Expr x)) result t e = inr (expr_tree (named_at uses) x, (refl, ap (λ o. Each (value_way o)) e))
  form_of (Some (written.Block contract block)) result t e = inl refl

  callee_of : (place : ℕ) (d : FunctionDecl) (s : Signature) → slice_get file.functions place ≡ Some d
      → Open (declaration_type uses) (parameters_of place) (declaration_type uses (function_place place)) s
      → IsAcceptedBody file classes uses p place (function_of uses place d) → Callee p context (function_of uses place d) s.result
  unfolding place_of
  callee_of place d s e can accepted =
      let here = place_of place d e accepted in
      let params = params_node (parameters_of place) in
      let all = all_within (edges_of place d) in
      let first = on outside entry_node (params ∷ []) in
      let second = on outside params (entry_of 0 (end_node ∷ []) (trees_of d)) in
      let third = all_edges outside (end_node ∷ []) (trees_of d) in
      let rest = within_right first (second ++ third) all in
      record {
        is_left = accepted.left.is_left;
        place = here;
        ways = ways_of place d;
        types = types_of accepted.left.is_left place;
        result = can.result_is;
        within = within_right second third rest;
        begins = λ vs st fit.
            let at_params : Stands here params (begun (function_of uses place d) vs st) = record {
              path = entry_node ∷ [];
              is_path = ((leads_of outside entry_node (params ∷ []) (within_left first (second ++ third) all)).0, refl);
              agrees = begun_agrees (declaration_type uses) p.written written_are here.locals (parameters_of place) vs fit
                  (λ y i. accepted.resolved.typed_parameters y (has_contains (parameters_of place) y i)) here.as_written;
            } in
            ready outside (entry_of 0 (end_node ∷ []) (trees_of d)) (within_left second third rest) at_params;
        accepted = record {
          known = known_parameters (context_at accepted.left.is_left place) [] (parameters_of place) (λ x i. absurd (none-some None i));
          none = subst (λ (j : Judgements). j.findings ≡ []) (judged_of accepted.left.is_left place d e) accepted.typed;
          covered = λ x u i. i;
          inside = λ u i. has_contains (all_trees_in (trees_of d)) u i;
        };
        ends = λ st there block_form. is_unit_result (declaration_type uses (function_place place))
            (λ other. accepted.ends block_form other (end_reached (parameters_of place) (trees_of d) there.at there.stands.path there.stands.is_path there.leads.0));
        form = form_of d.body (declaration_type uses (function_place place)) s.result can.result_is;
      }

  callees_of : Callees p context
  unfolding signature_of
  callees_of place f s e i = by (slice_get file.functions place) refl
    where
      by : (o : Option FunctionDecl) → slice_get file.functions place ≡ o → Callee p context f s.result × (s ≡ function_signature (declaration_type uses) f.parameters s.result)
      by None g = absurd (none-some f (sym (functions_are place ∙ ap (λ z. option_map (function_of uses place) z) g) ∙ e))
      by (Some d) g =
          let same : function_of uses place d ≡ f = some-some (function_of uses place d) f (sym (functions_are place ∙ ap (λ z. option_map (function_of uses place) z) g) ∙ e) in
          let can = open_is (declaration_type uses) (parameters_of place) (declaration_type uses (function_place place)) s i in
          subst (λ z. Callee p context z s.result × (s ≡ function_signature (declaration_type uses) z.parameters s.result)) same
          (callee_of place d s g can (subst (λ z. IsAcceptedBody file classes uses p place z) (sym same) (a.bodies place f (sym (functions_are place) ∙ e))), can.signature)

-- ---- a whole run

found_within : {A : Type 0} (test : A → Bool) (xs : List A) (i : ℕ) → position test xs ≡ Some i → i < length xs
found_within test xs i e = by (nat_lt (position_or_len test xs) (length xs)) refl e
  where
    by : (b : Bool) → nat_lt (position_or_len test xs) (length xs) ≡ b → cond b (Some (position_or_len test xs)) None ≡ Some i → i < length xs
    by true h f = subst (λ k. k < length xs) (some-some _ i f) (ltb-true _ _ h)
    by false h f = absurd (none-some i f)

there_is : {A : Type 0} (xs : List A) (i : ℕ) → i < length xs → IsSome (slice_get xs i)
there_is [] i h = absurd (omega arith)
there_is (x ∷ xs) zero h = refl
there_is (x ∷ xs) (suc i) h = there_is xs i (omega arith)

some_mapped : {A B : Type 0} (f : A → B) (o : Option A) → IsSome o → IsSome (option_map f o)
some_mapped f None h = absurd (false≢true h)
some_mapped f (Some x) h = refl

-- the program has its `main`
has_main : (file : File) (classes : Classes) (uses : Resolved) (p : Program) → IsAcceptedProgram file classes uses p → IsSome (p.functions p.main)
has_main file classes uses p a =
    let main = a.is_program.main in
    let there = some_mapped (function_of uses main) (slice_get file.functions main) (there_is file.functions main (found_within _ file.functions main a.is_program.is_main)) in
    subst (λ (q : Program). IsSome (q.functions q.main)) (sym a.is_program.program) there

not_wrong : (d : KtType) (here : Frame) (e : Ending Value) → CallPost d here e → NotWrong e
not_wrong d here (Gave v s) h = tt
not_wrong d here (Left k s) h = tt
not_wrong d here (Over l) h = tt
not_wrong d here Wrong h = h

-- of no parameters there is no value
none_fit : (written : ℕ → Option KtType) (xs : List ℕ) → length xs ≡ 0 → arguments_fit written xs [] ≡ true
none_fit written [] e = refl
none_fit written (x ∷ xs) e = absurd (omega (arith, e))

pub bodies_never : BodiesNeverWrong
bodies_never file classes uses p steps input a =
    let cx = context_of classes uses (λ n. true) (owner.Function p.main) in
    let set : Setting p cx = record { built_in = a.built_in; written = written_are file classes uses p a } in
    let callees = callees_of file classes uses p a in
    let f = some_of (p.functions p.main) (has_main file classes uses p a) in
    let kept = calls_keep p cx callees (eval p steps) (keeps_eval p cx set callees steps) p.main f.0 a.main.signature f.1 a.main.is in
    let fit = none_fit p.written f.0.parameters (sym (ap (λ (s : Signature). s.most) kept.signature) ∙ a.main.takes_nothing) in
    called_ends (λ (e : Ending Value). NotWrong e) p (eval p steps) (p.functions p.main) f.0 [] (start steps input) f.1 fit tt
    (not_wrong a.main.signature.result (start steps input).here (invoke p (eval p steps) f.0 [] (start steps input)).ending (kept.post [] (start steps input) fit))
