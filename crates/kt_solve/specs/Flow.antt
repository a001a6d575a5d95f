use Rattle.std.specs.Prelude.{◌≡◌, ℕ, ◌+◌, ◌-◌, ◌<◌, ◌≤◌, Bool, true, false, if◌then◌else◌, ◌&&◌, nat_eq, nat_le, nat_lt, List, [], ◌∷◌, ◌++◌}
use Rattle.std.specs.List.{All, Contains}
use Rattle.kt_solve.specs.declared.effect.Transfer.{Transfer}
use Rattle.kt_solve.specs.declared.effect.Transfer.TheVariants.{Keep, Set, Clear, CopyFrom}
use Rattle.kt_solve.specs.declared.effect.Edge.{Edge}
use Rattle.kt_solve.specs.declared.effect.Effect.{Effect}

-- A flow problem: nodes and pairs by number, the edges and the effects in the order in which they were given.
-- The path and the state along it are those of the data flow analyses of the Kotlin specification ("Control- and
-- data-flow analysis"); the four transfers are this project's own. The code has no path: it joins rows over edges.
pub record Flow : Type 0 where
  pub nodes : ℕ
  pub pairs : ℕ
  pub entry : ℕ
  pub edges : List Edge
  pub effects : List Effect

-- Before the effects of the entry no pair is set.
abbrev pub nothing_set : ℕ → Bool
nothing_set _ = false

-- An effect speaks of a range of pairs at one node.
abbrev pub in_range : Effect → ℕ → Bool
in_range e pair = nat_le e.first pair && nat_lt pair (e.first + e.count)

abbrev pub covers : Effect → ℕ → ℕ → Bool
covers e node pair = nat_eq e.node node && in_range e pair

-- What a transfer says of the pair i places into its range: the pair copied from moves along.
abbrev pub moved : Transfer → ℕ → Transfer
moved Keep i = Keep
moved Set i = Set
moved Clear i = Clear
moved (CopyFrom source) i = CopyFrom (source + i)

-- The transfer of a pair after a list of effects, t being the one before: the last effect on the pair counts.
abbrev pub transfer_after : List Effect → ℕ → ℕ → Transfer → Transfer
transfer_after [] node pair t = t
transfer_after (e ∷ rest) node pair t =
    transfer_after rest node pair (if covers e node pair then moved e.transfer (pair - e.first) else t)

-- The transfer of a pair at a node; a pair of which no effect speaks is kept.
abbrev pub transfer_of : Flow → ℕ → ℕ → Transfer
transfer_of p node pair = transfer_after p.effects node pair Keep

-- Whether a pair is set after its transfer, by the state before.
abbrev pub outcome : Transfer → (ℕ → Bool) → ℕ → Bool
outcome Keep before pair = before pair
outcome Set before pair = true
outcome Clear before pair = false
outcome (CopyFrom source) before pair = before source

-- The state after a node's effects, all of which read the state before them.
abbrev pub after : Flow → ℕ → (ℕ → Bool) → ℕ → Bool
after p node before pair = outcome (transfer_of p node pair) before pair

-- The state after a list of nodes, from a state before them.
abbrev pub along : Flow → List ℕ → (ℕ → Bool) → ℕ → Bool
along p [] before = before
along p (node ∷ rest) before = along p rest (after p node before)

abbrev pub HasEdge : Flow → ℕ → ℕ → Type 0
HasEdge p a b = Contains p.edges (record { from = a; to = b })

-- Each node of the list is joined by an edge to the one before it, the first of them to a.
abbrev pub Follow : Flow → ℕ → List ℕ → Type 0
Follow p a [] = Unit {0}
Follow p a (b ∷ rest) = HasEdge p a b × Follow p b rest

-- A path begins with the entry, and each of its nodes is joined to the next by an edge.
abbrev pub IsPath : Flow → List ℕ → Type 0
IsPath p [] = ⊥
IsPath p (a ∷ rest) = (a ≡ p.entry) × Follow p a rest

-- Some path ends at the node.
abbrev pub IsReached : Flow → ℕ → Type 0
IsReached p node = (front : List ℕ) × IsPath p (front ++ node ∷ [])

-- The pair is set along every path that ends at the node, after the node's effects.
abbrev pub IsSetAlongAll : Flow → ℕ → ℕ → Type 0
IsSetAlongAll p node pair =
    (front : List ℕ) → IsPath p (front ++ node ∷ []) → along p (front ++ node ∷ []) nothing_set pair ≡ true

-- The node is reached, and the pair is set along every path to it.
abbrev pub Holds : Flow → ℕ → ℕ → Type 0
Holds p node pair = IsReached p node × IsSetAlongAll p node pair

-- The pairs that a transfer of `count` pairs copies from are below the count of pairs.
abbrev pub TransferFits : ℕ → ℕ → Transfer → Type 0
TransferFits pairs count Keep = Unit {0}
TransferFits pairs count Set = Unit {0}
TransferFits pairs count Clear = Unit {0}
TransferFits pairs count (CopyFrom source) = source + count ≤ pairs

-- The pairs that an effect gives and copies from are below the count of pairs.
pub record RangeFits (pairs : ℕ) (e : Effect) : Type 0 where
  pub range : e.first + e.count ≤ pairs
  pub source : TransferFits pairs e.count e.transfer

pub record EdgeFits (nodes : ℕ) (e : Edge) : Type 0 where
  pub from : e.from < nodes
  pub to : e.to < nodes

pub record EffectFits (nodes pairs : ℕ) (e : Effect) : Type 0 where
  pub node : e.node < nodes
  pub fits : RangeFits pairs e

-- All numbers are below the counts of the problem.
pub record IsWithin (p : Flow) : Type 0 where
  pub nodes : p.nodes < 4294967296
  pub pairs : p.pairs < 4294967296
  pub entry : p.entry < p.nodes
  pub edges : All (EdgeFits p.nodes) p.edges
  pub effects : All (EffectFits p.nodes p.pairs) p.effects
