-- What a node violates, by the note of its tree.
use Rattle.std.proofs.Common.{◌≡◌, ◌≢◌, ◌<◌, ℕ, List, length, get_or, Contains, sym, ap, subst, ◌∙◌}
use Rattle.std.specs.Prelude.{Result, OnOk}
use Rattle.std.proofs.lemmas.List.{get_or_default}
use Rattle.kt_model.specs.Bodies.{node_at}
use Rattle.kt_model.specs.ControlFlow.{Node}
use Rattle.kt_model.specs.NodePaths.{effects_of}
use Rattle.kt_model.specs.Findings.{Adds}
use Rattle.kt_model.specs.declared.finding.Finding.{Finding}
use Rattle.kt_model.specs.declared.graph.FlowEffect.{FlowEffect}
use Rattle.kt_model.specs.declared.graph.Graph.{Graph}
use Rattle.kt_flow.specs.declared.notes.TreeNote.{TreeNote}
use Rattle.kt_flow.specs.Notes.{AreRising}
use Rattle.kt_flow.specs.Against.{IsAgainst, IsAgainstOne, IsAgainstAt}
use Rattle.kt_flow.proofs.Adding.{adds_none, adds_on}
use Rattle.kt_flow.proofs.Lookup.{one_note}

module _ (g : Graph) (i : ℕ) (n : TreeNote) where
  -- what an effect violates, told of the same effect
  pub of_effect : {A E : Type 0} (r : Result A E) (e d : FlowEffect) (old new : List Finding) → e ≡ d → OnOk r (Adds (IsAgainst g i n d) old new) → OnOk r (Adds (IsAgainst g i n e) old new)
  of_effect r e d old new same h = subst (λ w. OnOk r (Adds (IsAgainst g i n w) old new)) (sym same) h

module _ (notes : List TreeNote) (up : AreRising notes) (g : Graph) (i : ℕ) (lt : i < length g.nodes) (row : Node) (is : row ≡ get_or g.nodes i row) where
  node_is : node_at g.nodes i ≡ row
  node_is = get_or_default g.nodes i _ _ lt ∙ sym is

  effects_are : effects_of g i ≡ row.effects
  effects_are = ap (λ (m : Node). m.effects) (get_or_default g.nodes i _ _ lt ∙ sym is)

  -- a tree with a note
  pub with_note : {A E : Type 0} (r : Result A E) (n : TreeNote) (old new : List Finding) → Contains notes n → n.tree ≡ row.tree → OnOk r (Adds (IsAgainstOne g i n row.effects) old new) → OnOk r (Adds (IsAgainstAt notes g i) old new)
  with_note r n old new has same h = adds_on r _ _ old new to from h
    where
      to : (f : Finding) → IsAgainstOne g i n row.effects f → IsAgainstAt notes g i f
      to f one = record {
        noted = n;
        is_noted = has;
        same_tree = same ∙ sym (ap (λ (m : Node). m.tree) node_is);
        at_node = subst (λ es. IsAgainstOne g i n es f) (sym effects_are) one;
      }

      from : (f : Finding) → IsAgainstAt notes g i f → IsAgainstOne g i n row.effects f
      from f at =
          let one : at.noted ≡ n = one_note notes at.noted n up at.is_noted has (at.same_tree ∙ ap (λ (m : Node). m.tree) node_is ∙ sym same) in
          subst (λ es. IsAgainstOne g i n es f) effects_are (subst (λ m. IsAgainstOne g i m (effects_of g i) f) one at.at_node)

  -- a tree without one
  pub without_note : (old : List Finding) → ((n : TreeNote) → Contains notes n → n.tree ≢ row.tree) → Adds (IsAgainstAt notes g i) old old
  without_note old none = adds_none _ old (λ f at. none at.noted at.is_noted (at.same_tree ∙ ap (λ (m : Node). m.tree) node_is))
