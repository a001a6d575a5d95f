-- Two lists of rows, each a key and a value, that give the same for every key: to see it, one looks up the keys of both alone.
use Rattle.std.proofs.Common.{◌≡◌, Bool, true, cond, List, [], ◌∷◌, map, refl, sym, ap, subst, ◌∙◌, inl, inr, Option, Some, None, is_some}
use Rattle.std.proofs.lemmas.Bool.{cases_Bool, true≢false}

module _ {K V : Type 0} (eq : K → K → Bool) where
  -- the value of the first row with the key
  abbrev pub find : List (K × V) → K → Option V
  find [] k = None
  find (e ∷ es) k = cond (eq e.0 k) (Some e.1) (find es k)

  -- two lists of rows with the same keys and, at each key, the same value
  pub record Same (a b : List (K × V)) : Type 0 where
    pub there : map (λ e. find a e.0) a ≡ map (λ e. find b e.0) a
    pub back : map (λ e. is_some (find a e.0)) b ≡ map (λ e. true) b

  module _ (equal : (j k : K) → eq j k ≡ true → j ≡ k) where
    -- what two functions give alike at every key they give alike at one that is found
    hit : {X : Type 0} (f g : K → X) (k : K) (xs : List (K × V)) → map (λ e. f e.0) xs ≡ map (λ e. g e.0) xs → is_some (find xs k) ≡ true → f k ≡ g k
    hit f g k [] same found = absurd (true≢false (sym found))
    hit {X} f g k (e ∷ xs) same found =
        elim (cases_Bool (eq e.0 k)) [
          | inl is ↦
              let here : f e.0 ≡ g e.0 = cc in
              subst (λ n. f n ≡ g n) (equal e.0 k is) here
          | inr other ↦
              let rest : map (λ x. f x.0) xs ≡ map (λ x. g x.0) xs = cc in
              let later : is_some (find xs k) ≡ true = sym (ap (λ b. is_some (cond b (Some e.1) (find xs k))) other) ∙ found in
              hit f g k xs rest later
        ]

    -- they give the same for every key
    pub found_alike : {a b : List (K × V)} → Same a b → (k : K) → find a k ≡ find b k
    found_alike {a} {b} s k = by_case (find a k) refl (find b k) refl
      where
        by_case : (x : Option V) → find a k ≡ x → (y : Option V) → find b k ≡ y → find a k ≡ find b k
        by_case (Some r) e y h = hit (λ n. find a n) (λ n. find b n) k a s.there (ap is_some e)
        by_case None e None h = e ∙ sym h
        by_case None e (Some r) h =
            absurd (true≢false (sym (hit (λ n. is_some (find a n)) (λ n. true) k b s.back (ap is_some h)) ∙ ap is_some e))
