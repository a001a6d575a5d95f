-- Fronts of a text whose characters pass a test.
use Rattle.std.proofs.Common.{◌≡◌, ℕ, zero, suc, ◌+◌, ◌<◌, ◌≤◌, Bool, true, false, List, [], ◌∷◌, length, take, drop, refl, sym, ◌∙◌, inl, inr, arith, le_refl, lit<}
use Rattle.std.proofs.lemmas.Bool.{cases_Bool, true≢false}
use Rattle.std.specs.List.{list_all, prefix_len}
use Rattle.kt_tree.specs.Characters.{begins_name, continues_name}
use Rattle.kt_tree.specs.Text.{first, after_run}
use Rattle.kt_tree.specs.Words.{is_word}
use Rattle.kt_lex.proofs.NameCharacters.{continues_name-begins_name, begins_name-ascii}

-- a run passes
pub list_all-run : (p : ℕ → Bool) (cs : List ℕ) → list_all p (take (prefix_len p cs) cs) ≡ true
list_all-run p [] = refl
list_all-run p (c ∷ cs) =
    elim (cases_Bool (p c)) [
      | inl hit ↦
          let next : 1 + prefix_len p cs ≡ suc (prefix_len p cs) = omega arith in
          rw (hit, next, hit) (list_all-run p cs)
      | inr miss ↦ rw miss refl
    ]

-- a longer front doesn't
pub list_all-past : (p : ℕ → Bool) (cs : List ℕ) (k : ℕ) → prefix_len p cs < k → k ≤ length cs → list_all p (take k cs) ≡ false
list_all-past p cs zero past within = absurd (omega arith)
list_all-past p [] (suc k) past within = absurd (omega arith)
list_all-past p (c ∷ cs) (suc k) past within =
    elim (cases_Bool (p c)) [
      | inl hit ↦
          let next : prefix_len p (c ∷ cs) ≡ 1 + prefix_len p cs = rw hit refl in
          rw hit (list_all-past p cs k (omega (arith, next)) (omega arith))
      | inr miss ↦ rw miss refl
    ]

-- a run is no longer than its text
pub prefix_len-le : (p : ℕ → Bool) (cs : List ℕ) → prefix_len p cs ≤ length cs
prefix_len-le p [] = le_refl 0
prefix_len-le p (c ∷ cs) =
    elim (cases_Bool (p c)) [
      | inl hit ↦ rw hit (omega (arith, prefix_len-le p cs))
      | inr miss ↦ rw miss (omega arith)
    ]

-- what follows a run stops it
pub after_run-stops : (p : ℕ → Bool) → p 0 ≡ false → (cs : List ℕ) → p (first (after_run p cs)) ≡ false
after_run-stops p end [] = end
after_run-stops p end (c ∷ cs) =
    elim (cases_Bool (p c)) [
      | inl hit ↦
          let next : 1 + prefix_len p cs ≡ suc (prefix_len p cs) = omega arith in
          rw (hit, next) (after_run-stops p end cs)
      | inr miss ↦ rw miss miss
    ]

-- within a run the next character goes on with it
pub inside_run : (p : ℕ → Bool) (cs : List ℕ) (m : ℕ) → m < prefix_len p cs → (d : ℕ) × (ds : List ℕ) × (drop m cs ≡ d ∷ ds) × (p d ≡ true)
inside_run p [] m h = absurd (omega arith)
inside_run p (c ∷ cs) zero h =
    elim (cases_Bool (p c)) [
      | inl hit ↦ (c, cs, refl, hit)
      | inr miss ↦ let none : prefix_len p (c ∷ cs) ≡ 0 = rw miss refl in absurd (omega (arith, none))
    ]
inside_run p (c ∷ cs) (suc m) h =
    elim (cases_Bool (p c)) [
      | inl hit ↦
          let next : prefix_len p (c ∷ cs) ≡ 1 + prefix_len p cs = rw hit refl in
          inside_run p cs m (omega (arith, next))
      | inr miss ↦ let none : prefix_len p (c ∷ cs) ≡ 0 = rw miss refl in absurd (omega (arith, none))
    ]

-- a front that isn't all of a run is no word
pub is_word-all : (cs : List ℕ) → list_all continues_name cs ≡ false → is_word cs ≡ false
is_word-all [] h = refl
is_word-all (c ∷ cs) h =
    elim (cases_Bool (begins_name c)) [
      | inl begins ↦
          let passes = continues_name-begins_name c begins in
          rw begins (rw passes at h)
      | inr other ↦ rw other refl
    ]

-- nor is one that is longer than the run
pub is_word-past : (cs : List ℕ) (k : ℕ) → prefix_len continues_name cs < k → k ≤ length cs → is_word (take k cs) ≡ false
is_word-past cs k past within = is_word-all (take k cs) (list_all-past continues_name cs k past within)

-- a run that begins as an identifier is a word
pub is_word-begins : (cs : List ℕ) → begins_name (first cs) ≡ true → is_word (take (prefix_len continues_name cs) cs) ≡ true
is_word-begins [] begins = let none : begins_name 0 ≡ false = begins_name-ascii 0 (lit< tt) in absurd (true≢false (sym begins ∙ none))
is_word-begins (c ∷ cs) begins =
    let passes = continues_name-begins_name c begins in
    let next : 1 + prefix_len continues_name cs ≡ suc (prefix_len continues_name cs) = omega arith in
    rw (passes, next, begins) (list_all-run continues_name cs)

-- a front of what doesn't begin as an identifier is no word
pub is_word-other : (cs : List ℕ) (k : ℕ) → begins_name (first cs) ≡ false → is_word (take k cs) ≡ false
is_word-other cs zero other = refl
is_word-other [] (suc k) other = refl
is_word-other (c ∷ cs) (suc k) other = rw other refl
