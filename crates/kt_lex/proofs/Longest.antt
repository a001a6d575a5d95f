-- The longest token at the front of a text.
use Rattle.std.proofs.Common.{◌≡◌, ℕ, zero, suc, ◌+◌, ◌-◌, ◌<◌, ◌≤◌, List, length, take, drop, Option, Some, None, option_map, refl, sym, ap, ◌∙◌, arith, le_refl, inl, inr, subst, ◌++◌}
use Rattle.std.proofs.lemmas.Bool.{cases_eq}
use Rattle.std.proofs.lemmas.List.{take-append-drop, length-take-le}
use Rattle.kt_tree.specs.Lexemes.{Lexeme}
use Rattle.kt_tree.specs.Longest.{or_shorter, longest_from, longest, token_at}

-- fronts that are no token count for nothing
pub longest_from-none : (f : List ℕ → List ℕ → Option Lexeme) (n k : ℕ) (text : List ℕ)
    → ((m : ℕ) → n < m → m ≤ n + k → f (take m text) (drop m text) ≡ None)
    → longest_from f (n + k) text ≡ longest_from f n text
longest_from-none f n zero text none = ap (λ m. longest_from f m text) (omega arith)
longest_from-none f n (suc k) text none =
    let more : n + suc k ≡ suc (n + k) = omega arith in
    let here : f (take (suc (n + k)) text) (drop (suc (n + k)) text) ≡ None = none (suc (n + k)) (omega arith) (omega arith) in
    let rest : longest_from f (n + k) text ≡ longest_from f n text = longest_from-none f n k text (λ m lo hi. none m lo (omega arith)) in
    ap (λ m. longest_from f m text) more ∙ ap (λ o. or_shorter o (suc (n + k)) (longest_from f (n + k) text)) here ∙ rest

-- a token, where no longer front is one
pub longest-some : (f : List ℕ → List ℕ → Option Lexeme) (text : List ℕ) (n : ℕ) (l : Lexeme) → 0 < n → n ≤ length text
    → f (take n text) (drop n text) ≡ Some l
    → ((m : ℕ) → n < m → m ≤ length text → f (take m text) (drop m text) ≡ None)
    → longest f text ≡ Some (l, n)
unfolding longest
longest-some f text zero l some within is none = absurd (omega arith)
longest-some f text (suc n) l some within is none =
    let whole : length text ≡ suc n + (length text - suc n) = omega arith in
    ap (λ m. longest_from f m text) whole
    ∙ longest_from-none f (suc n) (length text - suc n) text (λ m lo hi. none m lo (omega arith))
    ∙ ap (λ o. or_shorter o (suc n) (longest_from f n text)) is

-- no token, where no front is one
pub longest-none : (f : List ℕ → List ℕ → Option Lexeme) (text : List ℕ)
    → ((m : ℕ) → 0 < m → m ≤ length text → f (take m text) (drop m text) ≡ None)
    → longest f text ≡ None
unfolding longest
longest-none f text none =
    let whole : length text ≡ 0 + length text = omega arith in
    ap (λ m. longest_from f m text) whole
    ∙ longest_from-none f 0 (length text) text (λ m lo hi. none m lo (omega arith))

-- the token and what follows it, from the token and its length
abbrev pub TokenAt : List ℕ → Option (Lexeme × ℕ) → Option (Lexeme × List ℕ)
TokenAt text found = option_map (λ p. (p.0, drop p.1 text)) found

-- what the longest token is: a front that is one, where no longer front is
pub record IsLongest (f : List ℕ → List ℕ → Option Lexeme) (text : List ℕ) (n : ℕ) (l : Lexeme) (m : ℕ) : Type 0 where
  pub some : 0 < m
  pub within : m ≤ n
  pub token : f (take m text) (drop m text) ≡ Some l
  pub longer : (k : ℕ) → m < k → k ≤ n → f (take k text) (drop k text) ≡ None

-- one more character tried
longest_from-step : (f : List ℕ → List ℕ → Option Lexeme) (n : ℕ) (text : List ℕ) (l : Lexeme) (m : ℕ) (o : Option Lexeme) → f (take (suc n) text) (drop (suc n) text) ≡ o
    → (longest_from f n text ≡ Some (l, m) → IsLongest f text n l m) → or_shorter o (suc n) (longest_from f n text) ≡ Some (l, m) → IsLongest f text (suc n) l m
longest_from-step f n text l m None e below h =
    let b = below h in
    record {
      some = b.some;
      within = omega (arith, b.within);
      token = b.token;
      longer = λ k lo hi. elim (cases_eq k (suc n)) [
        | inl here ↦ ap (λ j. f (take j text) (drop j text)) here ∙ e
        | inr ne ↦ b.longer k lo (omega arith)
      ];
    }
longest_from-step f n text l m (Some a) e below h =
    let same : ◌≡◌ {A = Lexeme × ℕ} (a, suc n) (l, m) = cc in
    let token : a ≡ l = ap (λ (p : Lexeme × ℕ). p.0) same in
    let len : suc n ≡ m = ap (λ (p : Lexeme × ℕ). p.1) same in
    subst (λ j. IsLongest f text (suc n) l j) len
    (record {
      some = omega arith;
      within = le_refl (suc n);
      token = e ∙ ap Some token;
      longer = λ k lo hi. absurd (omega arith);
    })

-- the longest of the fronts tried
longest_from-is : (f : List ℕ → List ℕ → Option Lexeme) (n : ℕ) (text : List ℕ) (l : Lexeme) (m : ℕ) → longest_from f n text ≡ Some (l, m) → IsLongest f text n l m
longest_from-is f zero text l m e = absurd (cc)
longest_from-is f (suc n) text l m e =
    longest_from-step f n text l m (f (take (suc n) text) (drop (suc n) text)) refl (λ h. longest_from-is f n text l m h) e

-- the longest of all fronts
pub longest-is : (f : List ℕ → List ℕ → Option Lexeme) (text : List ℕ) (l : Lexeme) (m : ℕ) → longest f text ≡ Some (l, m) → IsLongest f text (length text) l m
unfolding longest
longest-is f text l m e = longest_from-is f (length text) text l m e

-- the longest token at the front with its characters
pub record TakesLongest (f : List ℕ → List ℕ → Option Lexeme) (text : List ℕ) (l : Lexeme) (after : List ℕ) : Type 0 where
  pub word : List ℕ
  pub parts : text ≡ word ++ after
  pub some : 0 < length word
  pub token : f word after ≡ Some l
  pub longer : (n : ℕ) → length word < n → n ≤ length text → f (take n text) (drop n text) ≡ None

-- the longest front with its characters and what follows them
takes_longest : (f : List ℕ → List ℕ → Option Lexeme) (text : List ℕ) (l : Lexeme) (after : List ℕ) (o : Option (Lexeme × ℕ)) → longest f text ≡ o → TokenAt text o ≡ Some (l, after)
    → TakesLongest f text l after
takes_longest f text l after None e h = absurd (cc)
takes_longest f text l after (Some (a, m)) e h =
    let same : ◌≡◌ {A = Lexeme × List ℕ} (a, drop m text) (l, after) = cc in
    let token : a ≡ l = ap (λ (p : Lexeme × List ℕ). p.0) same in
    let rest : drop m text ≡ after = ap (λ (p : Lexeme × List ℕ). p.1) same in
    let is = longest-is f text a m e in
    let len : length (take m text) ≡ m = length-take-le m text is.within in
    record {
      word = take m text;
      parts = sym (take-append-drop m text) ∙ ap (λ t. take m text ++ t) rest;
      some = omega (arith, len, is.some);
      token = ap (λ t. f (take m text) t) (sym rest) ∙ is.token ∙ ap Some token;
      longer = λ n lo hi. is.longer n (omega (arith, len)) hi;
    }

-- what the longest token at the front is
pub token_at-is : (f : List ℕ → List ℕ → Option Lexeme) (text : List ℕ) (l : Lexeme) (after : List ℕ) → token_at f text ≡ Some (l, after) → TakesLongest f text l after
token_at-is f text l after e = takes_longest f text l after (longest f text) refl e
