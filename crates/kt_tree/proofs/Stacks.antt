-- The end of a list, as the front of the list turned round.
use Rattle.std.proofs.Common.{◌≡◌, ℕ, ◌-◌, List, [], ◌∷◌, ◌++◌, length, take, drop, reverse, refl, sym, ap, ◌∙◌}
use Rattle.std.proofs.lemmas.List.{reverse-append, length-reverse, length-drop, take-append-drop}
use Rattle.std.proofs.Math.Seq.{take-append_seam, drop-append_seam}

-- turned round twice it is as before
pub reverse-reverse : {A : Type 0} (xs : List A) → reverse (reverse xs) ≡ xs
reverse-reverse [] = refl
reverse-reverse (x ∷ xs) =
    ap reverse (reverse-append (x ∷ []) xs) ∙ reverse-append (reverse xs) (x ∷ []) ∙ ap (λ ys. x ∷ ys) (reverse-reverse xs)

-- what stays and what is taken are the list
parts : {A : Type 0} (xs : List A) (n : ℕ) → reverse (drop n (reverse xs)) ++ reverse (take n (reverse xs)) ≡ xs
parts xs n = sym (reverse-append (take n (reverse xs)) (drop n (reverse xs))) ∙ ap reverse (take-append-drop n (reverse xs)) ∙ reverse-reverse xs

staying : {A : Type 0} (xs : List A) (n : ℕ) → length (reverse (drop n (reverse xs))) ≡ length xs - n
staying xs n = length-reverse (drop n (reverse xs)) ∙ length-drop n (reverse xs) ∙ ap (λ k. k - n) (length-reverse xs)

-- the last n items
pub last_many : {A : Type 0} (xs : List A) (n at : ℕ) → at ≡ length xs - n → drop at xs ≡ reverse (take n (reverse xs))
last_many xs n at e =
    ap (λ k. drop k xs) (e ∙ sym (staying xs n)) ∙ ap (drop (length (reverse (drop n (reverse xs))))) (sym (parts xs n))
    ∙ drop-append_seam (reverse (drop n (reverse xs))) (reverse (take n (reverse xs)))

-- what stands before them
pub before_many : {A : Type 0} (xs : List A) (n at : ℕ) → at ≡ length xs - n → reverse (take at xs) ≡ drop n (reverse xs)
before_many xs n at e =
    ap reverse (ap (λ k. take k xs) (e ∙ sym (staying xs n)) ∙ ap (take (length (reverse (drop n (reverse xs))))) (sym (parts xs n))
    ∙ take-append_seam (reverse (drop n (reverse xs))) (reverse (take n (reverse xs)))) ∙ reverse-reverse (drop n (reverse xs))
