-- Where a frame stands in the graph of its body, and what an evaluation keeps.
use Rattle.std.proofs.Common.{◌≡◌, ℕ, is_some, Bool, true, false, Option, Some, None, List, [], ◌∷◌, Contains}
use Rattle.std.specs.Prelude.{⊤, IsSome, IsTrue}
use Rattle.kt_model.specs.BodyTrees.{BuiltIn', Mark, Operation', Tree, Trees}
use Rattle.kt_model.specs.BuiltIns.{built_in_named}
use Rattle.kt_model.specs.declared.built_ins.BuiltIn.{BuiltIn}
use Rattle.kt_model.specs.ControlFlow.{Node, Edge, FlowContext, Exits, Then, Branch, in_of, edges}
use Rattle.kt_model.specs.declared.graph.Tag.TheVariants.{In, Out}
use Rattle.kt_model.specs.declared.graph.Variable.TheVariants.{Local}
use Rattle.kt_model.specs.declared.kinds.KtType.{KtType}
use Rattle.kt_typing.specs.declared.claims.Way.{Way}
use Rattle.kt_typing.specs.declared.claims.Way.TheVariants.{Unvalued, Plain, Inferred, Checked}
use Rattle.kt_typing.specs.Typing.{TypeContext, LocalTypes, Ways, first_way, rest_ways, nothing, look_up, judged, all_judged}
use Rattle.kt_model.proofs.ListLemmas.{Has}
use Rattle.kt_mean.specs.declared.states.Value.{Value}
use Rattle.kt_mean.specs.declared.states.Value.TheVariants as value
use Rattle.kt_mean.specs.declared.states.Way.TheVariants.{Return, Throw}
use Rattle.kt_mean.specs.Frames.{Frame, State, Ending, Gave, Left, Over, Wrong, Run}
use Rattle.kt_mean.specs.Evaluation.{Function, Program, fits}
use Rattle.kt_model.specs.TreesWithin.{trees_in, all_trees_in, called_by, returns_at}
use Rattle.kt_model.specs.BodyPaths.{IsNodePath}
use Rattle.kt_sound.specs.FlowOfBody.{IsFine}
use Rattle.kt_paths.specs.FlowRules.{assigned_on}
use Rattle.kt_sound.proofs.TypingSteps.{Known, Kept, AsWritten}
use Rattle.kt_sound.proofs.ValueTypes.{Lies}

-- ---- places

-- Where a tree is evaluated: the graph and the trees of the body under way, which the rules accept, and the types of its locals. Its function's result stands
-- in `cx`.
pub record Place (p : Program) (cx : TypeContext) : Type 0 where
  pub edges : List Edge
  pub body : Trees
  pub locals : LocalTypes
  pub fine : IsFine edges body
  pub alive : (n : Node) (path : List Node) → IsNodePath edges (n ∷ path) → n.tag ≡ In → p.dead n.tree ≡ false
  pub left : (n : Node) (path : List Node) → IsNodePath edges (n ∷ path) → n.tag ≡ Out → IsTrue (cx.is_left n.tree)
  pub calls : (t : Tree) (f : ℕ) → Contains (all_trees_in body) t → called_by t ≡ Some f → IsSome (p.functions f)
  pub stops : (t : Tree) (f : ℕ) (callee : Function) → Contains (all_trees_in body) t → called_by t ≡ Some f → p.functions f ≡ Some callee → returns_at t ≡ false → callee.result ≡ Some nothing
  pub stops_built_in : (n : Mark) (name : ℕ) (arguments : Trees) (b : BuiltIn) → Contains (all_trees_in body) (Operation' n (BuiltIn' name false) arguments)
      → built_in_named name ≡ Some b → b.result ≡ nothing
  pub as_written : AsWritten cx.written locals

-- The frame agrees with the path along which it came, and each value lies in the type of its local.
pub record Agrees (locals : LocalTypes) (path : List Node) (f : Frame) : Type 0 where
  pub held : (x : ℕ) → is_some (f.locals x) ≡ assigned_on path (Local x)
  pub typed : (x : ℕ) (v : Value) (t : KtType) → f.locals x ≡ Some v → look_up locals x ≡ Some (Some t) → Lies v t

-- edges lead from the node to each of these
abbrev pub LeadsTo : List Edge → Node → List Node → Type 0
LeadsTo es n [] = ⊤
LeadsTo es n (m ∷ ms) = Contains es (n, m) × LeadsTo es n ms

-- a path ends at the node, and the frame agrees with it
pub record Stands {p : Program} {cx : TypeContext} (g : Place p cx) (n : Node) (s : State) : Type 0 where
  pub path : List Node
  pub is_path : IsNodePath g.edges (n ∷ path)
  pub agrees : Agrees g.locals (n ∷ path) s.here

-- The frame stands at a node from which edges lead to these.
pub record Ready {p : Program} {cx : TypeContext} (g : Place p cx) (next : List Node) (s : State) : Type 0 where
  pub at : Node
  pub stands : Stands g at s
  pub leads : LeadsTo g.edges at next

-- these edges are among those of the graph
abbrev pub EachEdge : List Edge → List Edge → Type 0
EachEdge all [] = ⊤
EachEdge all (e ∷ es) = Contains all e × EachEdge all es

pub record Within (all es : List Edge) : Type 0 where
  pub each : EachEdge all es

-- ---- trees

-- A tree of the place's body, in which nothing is found, among the types of locals that the body has.
pub record Accepted {p : Program} {cx : TypeContext} (g : Place p cx) (way : Way) (locals : LocalTypes) (t : Tree) : Type 0 where
  pub known : Known locals
  pub none : (judged cx way locals t).findings ≡ []
  pub covered : Kept (judged cx way locals t).locals g.locals
  pub inside : (u : Tree) → Has (trees_in t) u → Contains (all_trees_in g.body) u

pub record AllAccepted {p : Program} {cx : TypeContext} (g : Place p cx) (ways : Ways) (locals : LocalTypes) (ts : Trees) : Type 0 where
  pub known : Known locals
  pub none : (all_judged cx ways locals ts).findings ≡ []
  pub covered : Kept (all_judged cx ways locals ts).locals g.locals
  pub inside : (u : Tree) → Has (all_trees_in ts) u → Contains (all_trees_in g.body) u

-- ---- values

-- it lies in the type that is found
abbrev pub LiesIn : Option KtType → Value → Type 0
LiesIn None v = ⊥
LiesIn (Some t) v = Lies v t

-- What is claimed of a value by the way of its tree: nothing where nobody takes it.
abbrev pub Gives : Way → Option KtType → Value → Type 0
Gives Unvalued found v = ⊤
Gives Plain found v = LiesIn found v
Gives Inferred found v = LiesIn found v
Gives (Checked t) found v = LiesIn found v × Lies v t

abbrev pub AllGive : Ways → List (Option KtType) → List Value → Type 0
AllGive ways [] [] = ⊤
AllGive ways (found ∷ rest) (v ∷ vs) = Gives (first_way ways) found v × AllGive (rest_ways ways) rest vs
AllGive ways _ _ = ⊥

-- ---- what an evaluation leaves

abbrev pub is_true : Value → Bool
is_true (value.Bool b) = b
is_true _ = false

abbrev pub pick : Bool → List Node → List Node → List Node
pick true a b = a
pick false a b = b

-- where a tree goes on with a value
abbrev pub goes : Exits → Value → List Node
goes (Then next) v = next
goes (Branch on_true on_false) v = pick (is_true v) on_true on_false

-- Where the frame stands after an evaluation, and what its value is, by how it ended. What is returned fits the function's result; what is thrown is free.
abbrev pub Post : {p : Program} {cx : TypeContext} → Place p cx → Exits → Way → Option KtType → Ending Value → Type 0
Post {p} {cx} g exits way found (Gave v s) = Ready g (goes exits v) s × Gives way found v
Post {p} {cx} g exits way found (Left (Return v) s) = fits cx.result v ≡ true
Post {p} {cx} g exits way found (Left (Throw x) s) = ⊤
Post {p} {cx} g exits way found (Over k) = ⊤
Post {p} {cx} g exits way found Wrong = ⊥

abbrev pub Eval : Type 0
Eval = Tree → Run Value

-- Evaluation of an accepted tree leads the frame along the tree's edges, gives what its type says, and ends by no wrong use.
abbrev pub KeepsAt : (p : Program) (cx : TypeContext) → Eval → Tree → Type 0
KeepsAt p cx f t =
    (g : Place p cx) (context : FlowContext) (exits : Exits) (way : Way) (locals : LocalTypes) (s : State) → Within g.edges (edges context exits t)
    → Accepted g way locals t → Stands g (in_of context.copy t) s → Post g exits way (judged cx way locals t).found (f t s).ending

abbrev pub Keeps : (p : Program) (cx : TypeContext) → Eval → Type 0
Keeps p cx f = (t : Tree) → KeepsAt p cx f t

-- the same context, but for the body: its function's result, and out of which of its trees a path leads
abbrev pub in_body : TypeContext → Option KtType → (ℕ → Bool) → TypeContext
in_body cx result is_left = record cx { result = result; is_left = is_left }

-- in whatever body
abbrev pub KeepsEach : (p : Program) (cx : TypeContext) → Eval → Type 0
KeepsEach p cx f = (result : Option KtType) (is_left : ℕ → Bool) → Keeps p (in_body cx result is_left) f
