-- A file whose names are resolved has one program, and so one run.
use Rattle.std.proofs.Common.{◌≡◌, ℕ, Bool, true, false, Some, refl, sym, ap, ◌∙◌}
use Rattle.std.proofs.Math.Path.{fun_ext}
use Rattle.kt_tree.specs.declared.ast.declaration.File.{File}
use Rattle.kt_model.specs.NameUses.{Resolved}
use Rattle.kt_mean.specs.Evaluation.{Program}
use Rattle.kt_mean.specs.Programs.{program_of}
use Rattle.kt_mean.specs.FileRuns.{IsDeadTree, IsProgram}
use Rattle.kt_mean.specs.WholeRun.{whole}
use Rattle.kt_mean.specs.EvaluationLaws.{OneRun}

-- two tests of the same facts are equal
pub same_test : (P : Type 0) (a b : Bool) → (a ≡ true → P) → (P → a ≡ true) → (b ≡ true → P) → (P → b ≡ true) → a ≡ b
same_test P true true f g h k = refl
same_test P true false f g h k = sym (k (f refl))
same_test P false true f g h k = g (h refl)
same_test P false false f g h k = refl

same_place : (a b : ℕ) → Some a ≡ Some b → a ≡ b
same_place a b e = cc

one_program : (file : File) (uses : Resolved) (p q : Program) → IsProgram file uses p → IsProgram file uses q → p ≡ q
one_program file uses p q h k =
    let dead = fun_ext (λ n. same_test (IsDeadTree file uses n) (h.dead n) (k.dead n) (h.is_dead n).0 (h.is_dead n).1 (k.is_dead n).0 (k.is_dead n).1) in
    h.program
    ∙ ap (λ (d : ℕ → Bool). program_of file uses d h.main) dead
    ∙ ap (λ (m : ℕ). program_of file uses k.dead m) (same_place h.main k.main (sym h.is_main ∙ k.is_main))
    ∙ sym k.program

pub one : OneRun
one file uses p q steps input h k = ap (λ (z : Program). whole z steps input) (one_program file uses p q h k)
