-- How what is told of one tree goes together with what is told of the next.
use Rattle.std.proofs.Common.{◌≡◌, ℕ, ◌+◌, ◌<◌, ◌≤◌, Bool, true, false, List, [], ◌∷◌, ◌++◌, map, take, get_or, length, refl, sym, ap, ◌∙◌, subst, append_assoc, append-nil, Result, Ok, Err, OnOk, cond}
use Rattle.std.proofs.lemmas.List.{take_all, take_more, map-append}
use Rattle.kt_tree.specs.declared.token.Span.{Span}
use Rattle.kt_model.specs.declared.dead.Dead.{Dead}
use Rattle.kt_model.specs.DeadTrees.{Told, joined, outermost}
use Rattle.kt_init.specs.Marks.{told_if}

-- nothing is told
pub nothing_found : (f : Told) {ys : Told} → ys ≡ [] → f ≡ f ++ ys
nothing_found f {ys} e = sym (ap (λ x. f ++ x) e ∙ append-nil f)

module _ {A E : Type 0} where
  -- the same, told otherwise
  pub same_found : (r : Result A E) (f g : Told) {xs ys : Told} → xs ≡ ys → OnOk r (g ≡ f ++ xs) → OnOk r (g ≡ f ++ ys)
  same_found r f g {xs} {ys} e h = subst (λ x. OnOk r (g ≡ f ++ x)) e h

  -- what was told before, and what is told then
  pub found_after : (r : Result A E) (f g h xs ys : Told) → g ≡ f ++ xs → OnOk r (h ≡ g ++ ys) → OnOk r (h ≡ f ++ (xs ++ ys))
  found_after r f g h xs ys e k = subst (λ x. OnOk r (h ≡ x)) (ap (λ x. x ++ ys) e ∙ append_assoc f xs ys) k

  pub found_two : (r : Result A E) (f g h xs ys : Told) {zs : Told} → xs ++ ys ≡ zs → g ≡ f ++ xs → OnOk r (h ≡ g ++ ys) → OnOk r (h ≡ f ++ zs)
  found_two r f g h xs ys e k l = same_found r f h e (found_after r f g h xs ys k l)

  pub found_three : (r : Result A E) (f g h j xs ys zs : Told) {ws : Told} → xs ++ (ys ++ zs) ≡ ws → g ≡ f ++ xs → h ≡ g ++ ys → OnOk r (j ≡ h ++ zs) → OnOk r (j ≡ f ++ ws)
  found_three r f g h j xs ys zs e k l m = found_two r f g j xs (ys ++ zs) e k (found_after r g h j ys zs l m)

  -- the parts of a tree that is not dead
  pub found_inside : (r : Result A E) (f g h : Told) (dead : ℕ → Bool) (n : ℕ) (at : Span) (d : Bool) (parts : Told) → d ≡ dead n → d ≡ false → g ≡ f ++ told_if d n at → OnOk r (h ≡ g ++ parts) → OnOk r (h ≡ f ++ outermost dead n at parts)
  found_inside r f g h dead n at d parts e is k l =
      let same : g ≡ f = k ∙ ap (λ b. f ++ told_if b n at) is ∙ append-nil f in
      let no : dead n ≡ false = sym e ∙ is in
      subst (λ x. OnOk r (h ≡ x ++ outermost dead n at parts)) same (subst (λ b. OnOk r (h ≡ g ++ cond b (record { tree = n; span = at } ∷ []) parts)) (sym no) l)

-- a dead tree
pub found_dead : (f g : Told) (dead : ℕ → Bool) (n : ℕ) (at : Span) (d : Bool) (parts : Told) → d ≡ dead n → d ≡ true → g ≡ f ++ told_if d n at → g ≡ f ++ outermost dead n at parts
found_dead f g dead n at d parts e is k =
    k ∙ ap (λ b. f ++ told_if b n at) is ∙ sym (ap (λ b. f ++ cond b (record { tree = n; span = at } ∷ []) parts) (sym e ∙ is))

joined-append : (xs ys : List Told) → joined (xs ++ ys) ≡ joined xs ++ joined ys
joined-append [] ys = refl
joined-append (x ∷ xs) ys = ap (λ l. x ++ l) (joined-append xs ys) ∙ sym (append_assoc x (joined xs) (joined ys))

-- one tree more
pub found_more : {X : Type 0} (tell : X → Told) (xs : List X) (i : ℕ) (x : X) (f g h : Told) → i < length xs → x ≡ get_or xs i x → g ≡ f ++ joined (map tell (take i xs)) → h ≡ g ++ tell x → h ≡ f ++ joined (map tell (take (i + 1) xs))
found_more tell xs i x f g h lt is k l =
    let one : take (i + 1) xs ≡ take i xs ++ x ∷ [] = take_more xs i x lt ∙ ap (λ y. take i xs ++ y ∷ []) (sym is) in
    let all : joined (map tell (take (i + 1) xs)) ≡ joined (map tell (take i xs)) ++ tell x =
    ap (λ ys. joined (map tell ys)) one
    ∙ ap joined (map-append tell (take i xs) (x ∷ []))
    ∙ joined-append (map tell (take i xs)) (tell x ∷ [])
    ∙ ap (λ y. joined (map tell (take i xs)) ++ y) (append-nil (tell x)) in
    l ∙ ap (λ y. y ++ tell x) k ∙ append_assoc f (joined (map tell (take i xs))) (tell x) ∙ sym (ap (λ y. f ++ y) all)

-- all of them
pub found_all : {X : Type 0} (tell : X → Told) (xs : List X) (i : ℕ) (f g : Told) → length xs ≤ i → g ≡ f ++ joined (map tell (take i xs)) → g ≡ f ++ joined (map tell xs)
found_all tell xs i f g h e = e ∙ ap (λ y. f ++ joined (map tell y)) (take_all i xs h)
