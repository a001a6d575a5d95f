-- Reading so many parts.
use Rattle.std.proofs.Common.{◌≡◌, ℕ, zero, suc, ◌+◌, ◌-◌, ◌<◌, List, [], ◌∷◌, ◌++◌, refl, sym, ap, ◌∙◌, arith, append_assoc, append-nil, subst}
use Rattle.kt_tree.specs.declared.grammar.built.Built.{Built}
use Rattle.kt_tree.specs.Parts.{Reader, times}

-- these items, and then so many
abbrev pub Then : {A : Type 0} → Reader A → ℕ → List Built → List A → ℕ → List Built → Type 0
Then r count ps items left qs = times count r ps ≡ (items ++ (times left r qs).0, (times left r qs).1)

abbrev Same : {A : Type 0} → List A × List Built → List A × List Built → Type 0
Same x y = x ≡ y

one_more : {A : Type 0} (r : Reader A) (xs items : List A) (n : ℕ) (ps qs : List Built) (a : A) → r qs ≡ (a, ps) → Same (items ++ (times (suc n) r qs).0, (times (suc n) r qs).1) ((items ++ a ∷ []) ++ (times n r ps).0, (times n r ps).1)
unfolding times
one_more r xs items n ps qs a e = rw e (ap (λ ys. (ys, (times n r ps).1)) (sym (append_assoc items (a ∷ []) (times n r ps).0)))

-- one of them is read
pub more : {A : Type 0} (r : Reader A) (count left : ℕ) (start ps qs : List Built) (items : List A) (a : A) → 0 < left → r qs ≡ (a, ps) → Then r count start items left qs → Then r count start (items ++ a ∷ []) (left - 1) ps
more r count zero start ps qs items a pos e h = absurd (omega arith)
more r count (suc n) start ps qs items a pos e h =
    let same : suc n - 1 ≡ n = omega arith in
    rw same (h ∙ one_more r items items n ps qs a e)

-- all are read
pub all : {A : Type 0} (r : Reader A) (count left : ℕ) (start qs : List Built) (items : List A) → left ≡ 0 → Then r count start items left qs → times count r start ≡ (items, qs)
unfolding times
all r count zero start qs items z h = h ∙ ap (λ ys. (ys, qs)) (append-nil items)
all r count (suc n) start qs items z h = absurd (omega arith)
