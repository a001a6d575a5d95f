-- The control-flow graph of a body, by recursion on its trees.
--
-- From the Kotlin specification, "Control- and data-flow analysis": `assume` is its node. Which nodes there are and where they stand is this project's
-- own. A node is a tree's number, a tag and a copy, and carries its effects; an edge is a pair of nodes. Nodes and edges are lists in the order of a
-- sweep along the flow: a tree's `in`, its parts in the order of their evaluation, its `out`. Nothing is looked up and nothing is numbered, as the code
-- does.
use Rattle.std.specs.Prelude.{ℕ, ◌+◌, ◌*◌, Bool, true, false, List, [], ◌∷◌, ◌++◌}
use Rattle.std.specs.List.{flat_map}
use Rattle.kt_model.specs.BodyTrees.{Tree, Trees, Operation', Name', Paren', Not', And', Or', If', Declare', Local', Assign', Compound', Call', Return', Throw', Shut', Empty', First', number, Operation, BuiltIn'}
use Rattle.kt_model.specs.declared.graph.Fact.{Fact}
use Rattle.kt_model.specs.declared.graph.Known.{Known}
use Rattle.kt_model.specs.declared.graph.Known.TheVariants as known
use Rattle.kt_model.specs.declared.graph.Variable.TheVariants as variable
use Rattle.kt_model.specs.declared.graph.FlowEffect.{FlowEffect}
use Rattle.kt_model.specs.declared.graph.FlowEffect.TheVariants as effect
use Rattle.kt_model.specs.declared.graph.Tag.{Tag}
use Rattle.kt_model.specs.declared.graph.Tag.TheVariants as tag
use Rattle.kt_model.specs.declared.graph.NodeRow.{NodeRow}

abbrev pub Node : Type 0
Node = NodeRow

abbrev pub Edge : Type 0
Edge = Node × Node

abbrev pub Effects : Type 0
Effects = List FlowEffect

-- where each jump leads; the jumps of loops and lambdas come here
pub record Jumps : Type 0 where
  pub returns : List Node

-- where a tree stands: where jumps lead, the nodes to which every node inside leads as well, and the copy
pub record FlowContext : Type 0 where
  pub jumps : Jumps
  pub always : List Node
  pub copy : ℕ

-- what follows a tree: the same nodes whatever its value, or some for true and some for false
pub data Exits : Type 0 where
  Then : (next : List Node) → Exits
  Branch : (on_true on_false : List Node) → Exits

abbrev pub branches : Exits → Bool
branches (Then next) = false
branches (Branch on_true on_false) = true

-- ---- effects

-- What a value is known to be, and what a condition says where it is true or false. Facts come here: until then nothing is known.
abbrev pub known_of : Tree → Known
known_of e = known.Literals []

abbrev pub facts_if : Tree → Bool → List Fact
facts_if c truth = []

abbrev pub assigns : ℕ → Known → FlowEffect
assigns x k = effect.Assign (variable.Local x) k

abbrev pub declares : ℕ → FlowEffect
declares x = effect.Declare (variable.Local x)

abbrev pub reads : ℕ → FlowEffect
reads x = effect.Read (variable.Local x)

-- A compound assignment reads its local before its operand.
abbrev pub in_effects : Tree → Effects
in_effects (Compound' n at x fixed o operand) = reads x ∷ []
in_effects _ = []

abbrev pub out_effects : Tree → Effects
out_effects (Name' n at x) = reads x ∷ []
out_effects (Declare' n x) = declares x ∷ []
out_effects (Local' n at x e) = declares x ∷ assigns x (known_of e) ∷ []
out_effects (Assign' n at x fixed e) = assigns x (known_of e) ∷ []
out_effects (Compound' n at x fixed o operand) = assigns x (known.Literals []) ∷ []
out_effects _ = []

-- ---- nodes

abbrev pub node : ℕ → Tag → ℕ → Effects → Node
node n t copy es = record { tree = n; tag = t; copy = copy; effects = es }

abbrev pub in_of : ℕ → Tree → Node
in_of copy t = node (number t) tag.In copy (in_effects t)

abbrev pub out_of : ℕ → Tree → Node
out_of copy t = node (number t) tag.Out copy (out_effects t)

-- what a condition says of its outcome: for true under twice the copy, for false under the number behind it
abbrev pub assume : ℕ → Tree → Bool → Node
assume copy t true = node (number t) tag.Assume (2 * copy) (effect.Assume (facts_if t true) ∷ [])
assume copy t false = node (number t) tag.Assume (2 * copy + 1) (effect.Assume (facts_if t false) ∷ [])

-- `out`, and where its tree is a condition the nodes that assume its outcome
abbrev pub last_nodes : Bool → (out if_true if_false : Node) → List Node
last_nodes true out if_true if_false = out ∷ if_true ∷ if_false ∷ []
last_nodes false out if_true if_false = out ∷ []

abbrev pub leave_nodes : Bool → ℕ → Tree → List Node
leave_nodes branching copy t = last_nodes branching (out_of copy t) (assume copy t true) (assume copy t false)

-- The nodes of a tree, which may be a condition, in a copy; those of parts, and those of trees one behind another.
unfoldable mutual
  pub nodes : Bool → ℕ → Tree → List Node
  nodes branching copy (Operation' n o parts) =
      let t = Operation' n o parts in in_of copy t ∷ (all_nodes copy parts ++ leave_nodes branching copy t)
  nodes branching copy (Name' n at x) =
      let t = Name' n at x in in_of copy t ∷ leave_nodes branching copy t
  nodes branching copy (Paren' n e) =
      let t = Paren' n e in in_of copy t ∷ (nodes branching copy e ++ out_of copy t ∷ [])
  nodes branching copy (Not' n e) =
      let t = Not' n e in in_of copy t ∷ (nodes true copy e ++ out_of copy t ∷ [])
  nodes branching copy (And' n a b) =
      let t = And' n a b in in_of copy t ∷ (nodes true copy a ++ (nodes true copy b ++ out_of copy t ∷ []))
  nodes branching copy (Or' n a b) =
      let t = Or' n a b in in_of copy t ∷ (nodes true copy a ++ (nodes true copy b ++ out_of copy t ∷ []))
  nodes branching copy (If' n braces c a b) =
      let t = If' n braces c a b in
      in_of copy t ∷ (nodes true copy c ++ (all_nodes copy a ++ (all_nodes copy b ++ leave_nodes branching copy t)))
  nodes branching copy (Declare' n x) =
      let t = Declare' n x in in_of copy t ∷ leave_nodes branching copy t
  nodes branching copy (Local' n at x e) =
      let t = Local' n at x e in in_of copy t ∷ (nodes false copy e ++ leave_nodes branching copy t)
  nodes branching copy (Assign' n at x fixed e) =
      let t = Assign' n at x fixed e in in_of copy t ∷ (nodes false copy e ++ leave_nodes branching copy t)
  nodes branching copy (Compound' n at x fixed o operand) =
      let t = Compound' n at x fixed o operand in in_of copy t ∷ (all_nodes copy operand ++ leave_nodes branching copy t)
  nodes branching copy (Call' n f returns arguments) =
      let t = Call' n f returns arguments in in_of copy t ∷ (all_nodes copy arguments ++ leave_nodes branching copy t)
  nodes branching copy (Return' n value) =
      let t = Return' n value in in_of copy t ∷ (all_nodes copy value ++ out_of copy t ∷ [])
  nodes branching copy (Throw' n e) =
      let t = Throw' n e in in_of copy t ∷ (nodes false copy e ++ out_of copy t ∷ [])
  nodes branching copy (Shut' n) = in_of copy (Shut' n) ∷ []

  pub all_nodes : ℕ → Trees → List Node
  all_nodes copy Empty' = []
  all_nodes copy (First' t rest) = nodes false copy t ++ all_nodes copy rest

-- ---- edges

-- edges from a node to several
abbrev pub lead : Node → List Node → List Edge
lead n [] = []
lead n (m ∷ ms) = (n, m) ∷ lead n ms

-- edges from a node to several, and to those to which every node leads
unfoldable pub on : FlowContext → Node → List Node → List Edge
on context n ms = lead n ms ++ lead n context.always

-- where trees one behind another begin, before these nodes
abbrev pub entry_of : ℕ → List Node → Trees → List Node
entry_of copy next Empty' = next
entry_of copy next (First' t rest) = in_of copy t ∷ []

-- Whether the end of its parts leads to a tree's `out`: not at a call of a function that is declared `Nothing`.
abbrev pub returns_of : Operation → Bool
returns_of (BuiltIn' name returns) = returns
returns_of _ = true

abbrev pub if_returns : Bool → Node → List Node
if_returns true n = n ∷ []
if_returns false n = []

-- from a tree's `out` on
abbrev pub last_edges : FlowContext → (out if_true if_false : Node) → Exits → List Edge
last_edges context out if_true if_false (Then next) = on context out next
last_edges context out if_true if_false (Branch on_true on_false) =
    on context out (if_true ∷ if_false ∷ []) ++ (on context if_true on_true ++ on context if_false on_false)

abbrev pub leave_edges : FlowContext → Tree → Exits → List Edge
leave_edges context t exits =
    last_edges context (out_of context.copy t) (assume context.copy t true) (assume context.copy t false) exits

-- Parentheses, `!`, `&&` and `||`: where their outcomes lead, which is `out` where they are no condition; and from `out` on, which has no edge where they are
-- one.
abbrev pub on_true_of : Node → Exits → List Node
on_true_of out (Then next) = out ∷ []
on_true_of out (Branch on_true on_false) = on_true

abbrev pub on_false_of : Node → Exits → List Node
on_false_of out (Then next) = out ∷ []
on_false_of out (Branch on_true on_false) = on_false

abbrev pub inside_of : Node → Exits → Exits
inside_of out (Then next) = Then (out ∷ [])
inside_of out (Branch on_true on_false) = Branch on_true on_false

abbrev pub test_edges : FlowContext → Node → Exits → List Edge
test_edges context out (Then next) = on context out next
test_edges context out (Branch on_true on_false) = []

-- where a tree's `in` leads
abbrev pub enter : FlowContext → Tree → List Node → List Edge
enter context t next = on context (in_of context.copy t) next

-- the edges of a tree and of what is in it; those of trees one behind another
unfoldable mutual
  pub edges : FlowContext → Exits → Tree → List Edge
  edges context exits (Operation' n o parts) =
      let t = Operation' n o parts in
      let next = if_returns (returns_of o) (out_of context.copy t) in
      enter context t (entry_of context.copy next parts) ++ (all_edges context next parts ++ leave_edges context t exits)
  edges context exits (Name' n at x) =
      let t = Name' n at x in enter context t (out_of context.copy t ∷ []) ++ leave_edges context t exits
  edges context exits (Paren' n e) =
      let t = Paren' n e in
      enter context t (in_of context.copy e ∷ []) ++ (edges context (inside_of (out_of context.copy t) exits) e ++ test_edges context (out_of context.copy t) exits)
  edges context exits (Not' n e) =
      let t = Not' n e in
      enter context t (in_of context.copy e ∷ [])
      ++ (edges context (Branch (on_false_of (out_of context.copy t) exits) (on_true_of (out_of context.copy t) exits)) e ++ test_edges context (out_of context.copy t) exits)
  edges context exits (And' n a b) =
      let t = And' n a b in
      enter context t (in_of context.copy a ∷ [])
      ++ (edges context (Branch (in_of context.copy b ∷ []) (on_false_of (out_of context.copy t) exits)) a
      ++ (edges context (Branch (on_true_of (out_of context.copy t) exits) (on_false_of (out_of context.copy t) exits)) b ++ test_edges context (out_of context.copy t) exits))
  edges context exits (Or' n a b) =
      let t = Or' n a b in
      enter context t (in_of context.copy a ∷ [])
      ++ (edges context (Branch (on_true_of (out_of context.copy t) exits) (in_of context.copy b ∷ [])) a
      ++ (edges context (Branch (on_true_of (out_of context.copy t) exits) (on_false_of (out_of context.copy t) exits)) b ++ test_edges context (out_of context.copy t) exits))
  edges context exits (If' n braces c a b) =
      let t = If' n braces c a b in
      let out = out_of context.copy t ∷ [] in
      enter context t (in_of context.copy c ∷ [])
      ++ (edges context (Branch (entry_of context.copy out a) (entry_of context.copy out b)) c
      ++ (all_edges context out a ++ (all_edges context out b ++ leave_edges context t exits)))
  edges context exits (Declare' n x) =
      let t = Declare' n x in enter context t (out_of context.copy t ∷ []) ++ leave_edges context t exits
  edges context exits (Local' n at x e) =
      let t = Local' n at x e in
      enter context t (in_of context.copy e ∷ []) ++ (edges context (Then (out_of context.copy t ∷ [])) e ++ leave_edges context t exits)
  edges context exits (Assign' n at x fixed e) =
      let t = Assign' n at x fixed e in
      enter context t (in_of context.copy e ∷ []) ++ (edges context (Then (out_of context.copy t ∷ [])) e ++ leave_edges context t exits)
  edges context exits (Compound' n at x fixed o operand) =
      let t = Compound' n at x fixed o operand in
      let out = out_of context.copy t ∷ [] in
      enter context t (entry_of context.copy out operand) ++ (all_edges context out operand ++ leave_edges context t exits)
  edges context exits (Call' n f returns arguments) =
      let t = Call' n f returns arguments in
      let next = if_returns returns (out_of context.copy t) in
      enter context t (entry_of context.copy next arguments) ++ (all_edges context next arguments ++ leave_edges context t exits)
  edges context exits (Return' n value) =
      let t = Return' n value in
      let out = out_of context.copy t ∷ [] in
      enter context t (entry_of context.copy out value)
      ++ (all_edges context out value ++ on context (out_of context.copy t) context.jumps.returns)
  edges context exits (Throw' n e) =
      let t = Throw' n e in
      enter context t (in_of context.copy e ∷ [])
      ++ (edges context (Then (out_of context.copy t ∷ [])) e ++ on context (out_of context.copy t) [])
  edges context exits (Shut' n) = enter context (Shut' n) []

  pub all_edges : FlowContext → List Node → Trees → List Edge
  all_edges context next Empty' = []
  all_edges context next (First' t rest) =
      edges context (Then (entry_of context.copy next rest)) t ++ all_edges context next rest

-- ---- the graph of a body

abbrev pub entry_node : Node
entry_node = node 0 tag.Entry 0 []

-- the node that assigns the parameters
abbrev pub bring : ℕ → Effects
bring x = declares x ∷ assigns x (known.Literals []) ∷ []

abbrev pub params_node : List ℕ → Node
params_node parameters = node 0 tag.Params 0 (flat_map bring parameters)

abbrev pub end_node : Node
end_node = node 0 tag.End 0 []

abbrev pub outside : FlowContext
outside = record { jumps = record { returns = [] }; always = []; copy = 0 }

abbrev pub in_body : FlowContext
in_body = record { jumps = record { returns = end_node ∷ [] }; always = []; copy = 0 }

abbrev pub body_nodes : List ℕ → Trees → List Node
body_nodes parameters body = entry_node ∷ params_node parameters ∷ (all_nodes 0 body ++ end_node ∷ [])

abbrev pub body_edges : List ℕ → Trees → List Edge
body_edges parameters body =
    on outside entry_node (params_node parameters ∷ [])
    ++ (on outside (params_node parameters) (entry_of 0 (end_node ∷ []) body) ++ all_edges in_body (end_node ∷ []) body)
