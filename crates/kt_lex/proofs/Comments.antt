-- The end of a comment, a step at a time.
use Rattle.std.proofs.Common.{◌≡◌, ℕ, zero, suc, ◌+◌, ◌-◌, ◌<◌, true, false, ◌&&◌, ◌==◌, List, [], ◌∷◌, Some, None, refl, ap, ◌∙◌, arith}
use Rattle.kt_tree.specs.Moves.{comment_end}

-- no comment ends in an empty text
pub comment_end-nil : (n : ℕ) (text : List ℕ) → text ≡ [] → comment_end n text ≡ None
unfolding comment_end
comment_end-nil n [] e = refl
comment_end-nil n (c ∷ cs) e = absurd (cc)

-- nor in one character
pub comment_end-one : (n c : ℕ) (text : List ℕ) → text ≡ c ∷ [] → comment_end n text ≡ None
unfolding comment_end
comment_end-one n c [] e = refl
comment_end-one n c (d ∷ []) e = refl
comment_end-one n c (d ∷ f ∷ cs) e = absurd (cc)

-- `*/` ends the outermost comment
last : (c d : ℕ) (cs : List ℕ) → (c == 42 && d == 47) ≡ true → comment_end 0 (c ∷ d ∷ cs) ≡ Some cs
unfolding comment_end
last c d cs closes = rw closes refl

-- the same of a text that is known by an equation
pub comment_end-last : (n c d : ℕ) (text cs : List ℕ) → text ≡ c ∷ d ∷ cs → (c == 42 && d == 47) ≡ true → n ≡ 0 → comment_end n text ≡ Some cs
comment_end-last n c d text cs e closes none = ap (λ k. comment_end k text) none ∙ ap (comment_end 0) e ∙ last c d cs closes

-- `*/` ends an inner comment
inner : (n c d : ℕ) (cs : List ℕ) → (c == 42 && d == 47) ≡ true → 0 < n → comment_end n (c ∷ d ∷ cs) ≡ comment_end (n - 1) cs
unfolding comment_end
inner zero c d cs closes some = absurd (omega arith)
inner (suc n) c d cs closes some = let less : suc n - 1 ≡ n = omega arith in rw (closes, less) refl

-- the same of a text that is known by an equation
pub comment_end-inner : (n c d : ℕ) (text cs : List ℕ) → text ≡ c ∷ d ∷ cs → (c == 42 && d == 47) ≡ true → 0 < n → comment_end n text ≡ comment_end (n - 1) cs
comment_end-inner n c d text cs e closes some = ap (comment_end n) e ∙ inner n c d cs closes some

-- `/*` begins an inner comment
opened : (n c d : ℕ) (cs : List ℕ) → (c == 42 && d == 47) ≡ false → (c == 47 && d == 42) ≡ true → comment_end n (c ∷ d ∷ cs) ≡ comment_end (n + 1) cs
unfolding comment_end
opened zero c d cs other opens = rw (other, opens) (ap (λ k. comment_end k cs) (omega arith))
opened (suc n) c d cs other opens = rw (other, opens) (ap (λ k. comment_end k cs) (omega arith))

-- the same of a text that is known by an equation
pub comment_end-open : (n c d : ℕ) (text cs : List ℕ) → text ≡ c ∷ d ∷ cs → (c == 42 && d == 47) ≡ false → (c == 47 && d == 42) ≡ true → comment_end n text ≡ comment_end (n + 1) cs
comment_end-open n c d text cs e other opens = ap (comment_end n) e ∙ opened n c d cs other opens

-- any other character is passed over
neither : (n c d : ℕ) (cs : List ℕ) → (c == 42 && d == 47) ≡ false → (c == 47 && d == 42) ≡ false → comment_end n (c ∷ d ∷ cs) ≡ comment_end n (d ∷ cs)
unfolding comment_end
neither zero c d cs other plain = rw (other, plain) refl
neither (suc n) c d cs other plain = rw (other, plain) refl

-- the same of a text that is known by an equation
pub comment_end-other : (n c d : ℕ) (text cs : List ℕ) → text ≡ c ∷ d ∷ cs → (c == 42 && d == 47) ≡ false → (c == 47 && d == 42) ≡ false → comment_end n text ≡ comment_end n (d ∷ cs)
comment_end-other n c d text cs e other plain = ap (comment_end n) e ∙ neither n c d cs other plain
