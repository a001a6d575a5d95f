-- What effects declare, and numbers in order.
use Rattle.std.proofs.Common.{◌≡◌, ℕ, zero, suc, ◌+◌, List, [], ◌∷◌, ◌++◌, refl, sym, ap, ◌∙◌, arith}
use Rattle.std.specs.List.{range_with_len}
use Rattle.kt_model.specs.declared.graph.FlowEffect.{FlowEffect}
use Rattle.kt_model.specs.declared.graph.FlowEffect.TheVariants as effect
use Rattle.kt_model.specs.Bodies.{declared_by}

-- what effects and further ones declare
pub declared_by-append : (xs ys : List FlowEffect) → declared_by (xs ++ ys) ≡ declared_by xs ++ declared_by ys
declared_by-append [] ys = refl
declared_by-append (effect.Declare v ∷ xs) ys = ap (λ l. v ∷ l) (declared_by-append xs ys)
declared_by-append (effect.Read v ∷ xs) ys = declared_by-append xs ys
declared_by-append (effect.Assign v k ∷ xs) ys = declared_by-append xs ys
declared_by-append (effect.Assume fs ∷ xs) ys = declared_by-append xs ys
declared_by-append (effect.Kill x ∷ xs) ys = declared_by-append xs ys

-- one number more
pub range_more : (n a j : ℕ) → a + n ≡ j → range_with_len a (suc n) ≡ range_with_len a n ++ j ∷ []
range_more zero a j e = let same : a ≡ j = omega arith in ap (λ k. k ∷ []) same
range_more (suc n) a j e = ap (λ l. a ∷ l) (range_more n (a + 1) j (omega arith))
