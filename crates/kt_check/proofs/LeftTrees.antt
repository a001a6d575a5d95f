-- The trees of a body out of which a path leads, as a list: the test of typing by it, and what is found by it.
use Rattle.std.proofs.Common.{◌≡◌, ◌↔◌, ℕ, Bool, true, false, List, Contains, IsTrue, refl, sym, subst}
use Rattle.std.proofs.Math.Path.{fun_ext}
use Rattle.kt_tree.specs.declared.ast.declaration.File.{File}
use Rattle.kt_model.specs.Bodies.{owner_parameters, owner_trees}
use Rattle.kt_model.specs.BodyTrees.{Trees}
use Rattle.kt_model.specs.Classes.{Classes}
use Rattle.kt_model.specs.Findings.{AreFindings}
use Rattle.kt_model.specs.NameUses.{Resolved}
use Rattle.kt_model.specs.declared.finding.Finding.{Finding}
use Rattle.kt_model.specs.declared.uses.Owner.{Owner}
use Rattle.kt_model.proofs.ListLemmas.{contains_tested}
use Rattle.kt_typing.specs.Typing.{IsLeft, IsTypingFinding, SettlesLeft, body_judged}
use Rattle.kt_infer.specs.Left.{is_in}

-- Such a list is a test.
abbrev pub settled : (parameters : List ℕ) (body : Trees) (left : List ℕ) → ((tree : ℕ) → Contains left tree ↔ IsLeft parameters body tree) → SettlesLeft parameters body
settled parameters body left is = record {
  is_left = is_in left;
  by_paths = λ tree. (λ tested. (is tree).0 ((contains_tested left tree).0 tested), λ leads. (contains_tested left tree).1 ((is tree).1 leads));
}

agree : (a b : Bool) → IsTrue a ↔ IsTrue b → a ≡ b
agree true true h = refl
agree false false h = refl
agree true false h = sym (h.0 refl)
agree false true h = h.1 refl

-- All tests for one body are the same.
same_test : (parameters : List ℕ) (body : Trees) (a b : SettlesLeft parameters body) → a.is_left ≡ b.is_left
same_test parameters body a b =
    fun_ext (λ n. agree (a.is_left n) (b.is_left n) (λ h. (b.by_paths n).1 ((a.by_paths n).0 h), λ h. (a.by_paths n).1 ((b.by_paths n).0 h)))

-- So what is found by one of them is what violates a rule of typing.
pub typing_findings : (file : File) (classes : Classes) (uses : Resolved) (o : Owner) (found : List Finding) (left : SettlesLeft (owner_parameters uses o) (owner_trees file uses o))
    → AreFindings (Contains (body_judged file classes uses left.is_left o).findings) found → AreFindings (IsTypingFinding file classes uses o) found
typing_findings file classes uses o found left are = record {
  in_order = are.in_order;
  only = λ f c. record { left = left; violated = are.only f c };
  all = λ f v.
      are.all f
      (subst (λ test. Contains (body_judged file classes uses test o).findings f) (same_test (owner_parameters uses o) (owner_trees file uses o) v.left left) v.violated);
}
