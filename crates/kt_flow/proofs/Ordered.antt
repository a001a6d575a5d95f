-- Notes whose trees' numbers rise from above 0, and what the analysis of the graph of such a body finds.
use Rattle.std.proofs.Common.{◌≡◌, ℕ, suc, ◌+◌, ◌<◌, ◌≤◌, ◌↔◌, false, List, [], ◌∷◌, map, length, get_or, Contains, IsTrue, inl, inr, refl, ap, subst, ◌∙◌, arith}
use Rattle.std.specs.List.{All}
use Rattle.std.specs.List.Sorted.{IsStrictlyIncreasing}
use Rattle.std.proofs.lemmas.Bool.{false≢true}
use Rattle.std.proofs.lemmas.List.{get_or-map, length-map}
use Rattle.kt_tree.specs.declared.ast.declaration.File.{File}
use Rattle.kt_model.specs.BodyTrees.{Tree, Trees, number}
use Rattle.kt_model.specs.Bodies.{IsGraphOf, owner_parameters, owner_trees}
use Rattle.kt_model.specs.Findings.{AreFindings}
use Rattle.kt_paths.specs.FlowRules.{IsPathViolated, SettlesEntered}
use Rattle.kt_model.specs.NameUses.{Resolved}
use Rattle.kt_model.specs.NodePaths.{IsEdgeWithin}
use Rattle.kt_model.specs.TreesWithin.{all_trees_in}
use Rattle.kt_model.specs.declared.finding.Finding.{Finding}
use Rattle.kt_model.specs.declared.graph.Graph.{Graph}
use Rattle.kt_model.specs.declared.uses.Owner.{Owner}
use Rattle.kt_init.specs.Statuses.{Statuses, Analyses}
use Rattle.kt_flow.specs.declared.notes.TreeNote.{TreeNote}
use Rattle.kt_flow.specs.Notes.{note, trees_notes, AreRising, RiseFromZero}
use Rattle.kt_typing.specs.Typing.{IsLeft}
use Rattle.kt_flow.specs.Ends.{IsAgainstBody, IsLeftBefore}
use Rattle.kt_flow.proofs.Adding.{same_findings}
use Rattle.kt_flow.proofs.Violated.{along_there, along_here}
use Rattle.kt_flow.proofs.Paths.{IsPlaced, placed_graph}
use Rattle.kt_flow.proofs.Ended.{end_violated, end_against}
use Rattle.kt_flow.proofs.Entered.{settles}
use Rattle.kt_flow.proofs.Leaving.{left_there, left_here}
use Rattle.kt_flow.proofs.Rising.{rising_numbered}

-- the numbers of notes behind 0
abbrev pub numbers : List TreeNote → List ℕ
numbers notes = 0 ∷ map (λ n. n.tree) notes

-- the number behind those of the first notes
pub next_is : (notes : List TreeNote) (i : ℕ) (d : TreeNote) → i < length notes → get_or (numbers notes) (i + 1) 0 ≡ (get_or notes i d).tree
next_is notes i d lt =
    let e : i + 1 ≡ suc i = omega arith in
    ap (λ j. get_or (numbers notes) j 0) e ∙ get_or-map (λ (m : TreeNote). m.tree) notes i d 0 lt

-- all of them rise
pub all_rise : (notes : List TreeNote) (i : ℕ) → length notes ≤ i → ((k : ℕ) → k < i → get_or (numbers notes) k 0 < get_or (numbers notes) (k + 1) 0) → RiseFromZero notes
all_rise notes i all below k h = below k (let e = length-map notes (λ (m : TreeNote). m.tree) in omega arith)

-- one that does not rise
pub not_rising : (notes : List TreeNote) (i : ℕ) → i < length notes → get_or (numbers notes) (i + 1) 0 ≤ get_or (numbers notes) i 0 → IsTrue false ↔ RiseFromZero notes
not_rising notes i lt down = (λ e. absurd (false≢true e), λ up. (let r = up i (let e = length-map notes (λ (m : TreeNote). m.tree) in omega arith) in absurd (omega arith)))

-- those behind 0 rise too
pub rest_rises : (notes : List TreeNote) → RiseFromZero notes → AreRising notes
rest_rises notes up k h =
    let e : suc k + 1 ≡ suc (k + 1) = omega arith in
    subst (λ j. get_or (numbers notes) (suc k) 0 < get_or (numbers notes) j 0) e (up (suc k) (omega arith))

same_numbers : (ts : List Tree) → map (λ n. n.tree) (map note ts) ≡ map number ts
unfolding note
same_numbers [] = refl
same_numbers (t ∷ ts) = ap (λ l. number t ∷ l) (same_numbers ts)

module _ (file : File) (uses : Resolved) (o : Owner) (classes : ℕ) (g : Graph) (notes : List TreeNote) (noted : notes ≡ trees_notes (owner_trees file uses o)) (up : RiseFromZero notes)
    (is : IsGraphOf (owner_parameters uses o) (owner_trees file uses o) classes g) (within : All (IsEdgeWithin (length g.nodes)) g.edges) where
  abbrev ps : List ℕ
  ps = owner_parameters uses o

  abbrev ts : Trees
  ts = owner_trees file uses o

  placed : IsPlaced ps ts classes g
  placed = placed_graph ps ts classes g (rising_numbered ts (subst IsStrictlyIncreasing (ap (λ l. 0 ∷ map (λ n. n.tree) l) noted ∙ ap (λ l. 0 ∷ l) (same_numbers (all_trees_in ts))) up)) is within

  -- what is found by places is what is violated along the paths of the body
  pub found_in_body : (found : List Finding) → AreFindings (IsAgainstBody file uses o notes g) found → AreFindings (IsPathViolated file uses o) found
  found_in_body found are =
      same_findings (IsAgainstBody file uses o (trees_notes ts) g) (IsPathViolated file uses o) found to from (subst (λ l. AreFindings (IsAgainstBody file uses o l g) found) noted are)
    where
      to : (f : Finding) → IsAgainstBody file uses o (trees_notes ts) g f → IsPathViolated file uses o f
      to f (inl h) = inl (along_there ps ts classes g placed f h)
      to f (inr h) = inr (end_violated file uses classes g o f placed h)

      from : (f : Finding) → IsPathViolated file uses o f → IsAgainstBody file uses o (trees_notes ts) g f
      from f (inl h) = inl (along_here ps ts classes g placed f h)
      from f (inr h) = inr (end_against file uses classes g o f placed h)

  -- and it is settled which trees are entered
  pub settled_in_body : (s : Statuses) → Analyses g s → SettlesEntered ps ts
  settled_in_body s a = settles ps ts classes g s placed a

  -- what is left by places is what is left along the paths of the body
  pub left_in_body : (left : List ℕ) → ((tree : ℕ) → Contains left tree ↔ IsLeftBefore g tree (length g.nodes)) → (tree : ℕ) → Contains left tree ↔ IsLeft ps ts tree
  left_in_body left are tree = (λ h. left_there ps ts classes g placed tree ((are tree).0 h), λ h. (are tree).1 (left_here ps ts classes g placed tree h))
