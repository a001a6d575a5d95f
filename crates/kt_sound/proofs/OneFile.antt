-- A file has one program: what its names stand for is one value, and so are its dead trees.
use Rattle.std.proofs.Common.{◌≡◌, ◌⊎◌, ◌<◌, ℕ, suc, zero, Bool, List, [], ◌∷◌, Contains, inl, inr, sym, ap, subst, ◌∙◌, refl, arith}
use Rattle.std.proofs.Math.Path.{fun_ext}
use Rattle.kt_tree.specs.declared.ast.declaration.File.{File}
use Rattle.kt_model.specs.NameUses.{Resolved}
use Rattle.kt_model.specs.Scopes.{IsResolved}
use Rattle.kt_model.specs.declared.uses.Declaration.{Declaration}
use Rattle.kt_model.specs.declared.uses.UseRow.{UseRow}
use Rattle.kt_model.proofs.ListLemmas.{Has, contains_has, has_contains}
use Rattle.kt_model.proofs.UseLemmas.{Rising, rising, rising_rest}
use Rattle.kt_mean.specs.Evaluation.{Program}
use Rattle.kt_mean.specs.Programs.{program_of}
use Rattle.kt_mean.specs.FileRuns.{IsDeadTree, IsProgram}
use Rattle.kt_mean.proofs.OneProgram.{same_test}
use Rattle.kt_sound.specs.FileSoundness.{OneProgram}
use Rattle.kt_sound.proofs.TypingSteps.{some-some}

-- ---- rows that rise and have the same elements

-- a row behind the first one is above it
above : (x r : UseRow) (xs : List UseRow) → Rising (x ∷ xs) → Has xs r → x.tree < r.tree
above x r xs up h = at (has_contains xs r h)
  where
    at : Contains xs r → x.tree < r.tree
    at c = subst (λ (z : UseRow). x.tree < z.tree) c.2 (up.rise zero (suc c.0) r (omega arith) (omega (arith, c.1)))

-- what is among both, or first in both
same_first : (x y : UseRow) (xs ys : List UseRow) → Rising (x ∷ xs) → Rising (y ∷ ys) → (y ≡ x) ⊎ Has ys x → (x ≡ y) ⊎ Has xs y → x ≡ y
same_first x y xs ys up vp (inl e) g = sym e
same_first x y xs ys up vp (inr h) (inl e) = e
same_first x y xs ys up vp (inr h) (inr k) = absurd (omega (arith, above x y xs up k, above y x ys vp h))

-- what stands behind the one first row stands behind the other
behind : (x y r : UseRow) (xs ys : List UseRow) → Rising (x ∷ xs) → x ≡ y → Has xs r → (y ≡ r) ⊎ Has ys r → Has ys r
behind x y r xs ys up e h (inr k) = k
behind x y r xs ys up e h (inl f) = absurd (omega (arith, subst (λ (z : UseRow). x.tree < z.tree) (sym (e ∙ f)) (above x r xs up h)))

same_rows : (xs ys : List UseRow) → Rising xs → Rising ys → ((r : UseRow) → Has xs r → Has ys r) → ((r : UseRow) → Has ys r → Has xs r) → xs ≡ ys
unfolding Has
same_rows [] [] up vp f g = refl
same_rows [] (y ∷ ys) up vp f g = absurd (g y (inl refl))
same_rows (x ∷ xs) [] up vp f g = absurd (f x (inl refl))
same_rows (x ∷ xs) (y ∷ ys) up vp f g =
    let e = same_first x y xs ys up vp (f x (inl refl)) (g y (inl refl)) in
    let rest = same_rows xs ys (rising_rest x xs up) (rising_rest y ys vp) (λ r h. behind x y r xs ys up e h (f r (inr h))) (λ r h. behind y x r ys xs vp (sym e) h (g r (inr h))) in
    ap (λ z. z ∷ xs) e ∙ ap (λ zs. y ∷ zs) rest

-- ---- names and programs

same_resolved : (u w : Resolved) → u.declared ≡ w.declared → u.rows ≡ w.rows → u.parameters ≡ w.parameters → u ≡ w
same_resolved u w d r q =
    ap (λ (x : List Declaration). record { declared = x; rows = u.rows; parameters = u.parameters }) d
    ∙ ap (λ (x : List UseRow). record { declared = w.declared; rows = x; parameters = u.parameters }) r
    ∙ ap (λ (x : List (List ℕ)). record { declared = w.declared; rows = w.rows; parameters = x }) q

-- what the names of a file stand for is one value
pub one_resolved : (file : File) (u w : Resolved) → IsResolved file u → IsResolved file w → u ≡ w
one_resolved file u w h k =
    same_resolved u w (h.same_declared ∙ sym k.same_declared)
    (same_rows u.rows w.rows (rising u.rows h.rising) (rising w.rows k.rising)
    (λ r i. contains_has w.rows r ((k.same_uses r).1 ((h.same_uses r).0 (has_contains u.rows r i))))
    (λ r i. contains_has u.rows r ((h.same_uses r).1 ((k.same_uses r).0 (has_contains w.rows r i)))))
    (h.same_parameters ∙ sym k.same_parameters)

one_for : (file : File) (uses : Resolved) (p q : Program) → IsProgram file uses p → IsProgram file uses q → p ≡ q
one_for file uses p q h k =
    let dead = fun_ext (λ n. same_test (IsDeadTree file uses n) (h.dead n) (k.dead n) (h.is_dead n).0 (h.is_dead n).1 (k.is_dead n).0 (k.is_dead n).1) in
    h.program
    ∙ ap (λ (d : ℕ → Bool). program_of file uses d h.main) dead
    ∙ ap (λ (m : ℕ). program_of file uses k.dead m) (some-some h.main k.main (sym h.is_main ∙ k.is_main))
    ∙ sym k.program

pub one : OneProgram
one file uses other p q r s h k = one_for file other p q (subst (λ u. IsProgram file u p) (one_resolved file uses other r s) h) k
