-- Numbers one behind another.
use Rattle.std.proofs.Common.{◌≡◌, ℕ, zero, suc, ◌+◌, [], ◌∷◌, ◌++◌, ap, ◌∙◌, arith}
use Rattle.std.specs.List.{range_with_len}

range_end : (a n m : ℕ) → m ≡ a + n → range_with_len a (suc n) ≡ range_with_len a n ++ m ∷ []
range_end a zero m e = ap (λ k. k ∷ []) (omega arith)
range_end a (suc n) m e = ap (λ rest. a ∷ rest) (range_end (a + 1) n m (omega arith))

-- one more
pub range_more : (a n m : ℕ) → m ≡ a + n → range_with_len a (n + 1) ≡ range_with_len a n ++ m ∷ []
range_more a n m e = let one : n + 1 ≡ suc n = omega arith in ap (range_with_len a) one ∙ range_end a n m e
