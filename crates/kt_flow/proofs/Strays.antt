-- What an effect of a node violates, by the status of its variable.
use Rattle.std.proofs.Common.{◌≡◌, ◌++◌, ◌∷◌, [], ℕ, true, false, List, Some, refl}
use Rattle.kt_model.specs.NodePaths.{IsReached, IsAlongAll}
use Rattle.kt_model.specs.ControlFlow.{reads, assigns}
use Rattle.kt_model.specs.Findings.{Adds}
use Rattle.kt_model.specs.declared.finding.Finding.{Finding}
use Rattle.kt_model.specs.declared.finding.Rule.TheVariants as rule
use Rattle.kt_model.specs.declared.graph.Graph.{Graph}
use Rattle.kt_model.specs.declared.graph.Known.{Known}
use Rattle.kt_model.specs.declared.graph.Variable.TheVariants.{Local}
use Rattle.kt_flow.specs.declared.notes.TreeNote.{TreeNote}
use Rattle.kt_flow.specs.Against.{IsAgainst, early, late}
use Rattle.kt_flow.proofs.Adding.{adds_push}

module _ (g : Graph) (i : ℕ) (n : TreeNote) where
  -- a read of a local whose status allows it
  pub read_allowed : (x : ℕ) → (IsReached g i × (¬ IsAlongAll g i (Local x) true) → ⊥) → (f : Finding) → IsAgainst g i n (reads x) f → ⊥
  read_allowed x never f (early y e r h) = never (r, h)

  read_only : (x : ℕ) (f : Finding) → IsAgainst g i n (reads x) f → record { rule = rule.Unassigned; span = n.word } ≡ f
  read_only x f (early y e r h) = refl

  -- one that is too early
  pub read_early : (x : ℕ) (old new : List Finding) → n.read ≡ Some x → IsReached g i × (¬ IsAlongAll g i (Local x) true) → new ≡ old ++ record { rule = rule.Unassigned; span = n.word } ∷ [] → Adds (IsAgainst g i n (reads x)) old new
  read_early x old new e h is = adds_push _ old new _ is (early x e h.0 h.1) (read_only x)

  -- the same of an assignment
  pub assignment_allowed : (x : ℕ) (k : Known) → (IsReached g i × (¬ IsAlongAll g i (Local x) false) → ⊥) → (f : Finding) → IsAgainst g i n (assigns x k) f → ⊥
  assignment_allowed x k never f (late y l e r h) = never (r, h)

  assignment_only : (x : ℕ) (k : Known) (f : Finding) → IsAgainst g i n (assigns x k) f → record { rule = rule.ValTwice; span = n.word } ≡ f
  assignment_only x k f (late y l e r h) = refl

  pub assigned_late : (x : ℕ) (k : Known) (old new : List Finding) → n.fixed ≡ Some x → IsReached g i × (¬ IsAlongAll g i (Local x) false) → new ≡ old ++ record { rule = rule.ValTwice; span = n.word } ∷ [] → Adds (IsAgainst g i n (assigns x k)) old new
  assigned_late x k old new e h is = adds_push _ old new _ is (late x k e h.0 h.1) (assignment_only x k)
