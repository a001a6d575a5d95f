-- Runs of characters.
use Rattle.std.proofs.Common.{◌≡◌, ℕ, suc, ◌+◌, Bool, true, List, [], ◌∷◌, ◌++◌, length, take, Some, None, refl, sym, ap, ◌∙◌, inl, inr, arith, subst}
use Rattle.std.proofs.lemmas.Bool.{cases_Bool, and_parts, and_from}
use Rattle.std.proofs.lemmas.List.{append_cancel_right, take_at}
use Rattle.std.proofs.lemmas.Str.{chars-append, IsUtf8-take, IsCharBoundary-at_seam}
use Rattle.std.specs.Str.{chars, IsUtf8}
use Rattle.std.specs.List.{list_all, prefix_len}
use Rattle.kt_tree.specs.Text.{run, after_run}
use Rattle.kt_lex.specs.Steps.{strip_if}

-- a run, and what stops it
pub run-append : (p : ℕ → Bool) (xs ys : List ℕ) → list_all p xs ≡ true → strip_if p ys ≡ None → (run p (xs ++ ys) ≡ xs) × (after_run p (xs ++ ys) ≡ ys)
run-append p [] [] all stop = (refl, refl)
run-append p [] (y ∷ ys) all stop =
    elim (cases_Bool (p y)) [
      | inl hit ↦ let e : strip_if p (y ∷ ys) ≡ Some ys = rw hit in cc
      | inr miss ↦ rw miss (refl, refl)
    ]
run-append p (x ∷ xs) ys all stop =
    let parts = and_parts (p x) (list_all p xs) all in
    let more = run-append p xs ys parts.1 stop in
    let next : 1 + prefix_len p (xs ++ ys) ≡ suc (prefix_len p (xs ++ ys)) = omega arith in
    rw (parts.0, next) (ap (λ t. x ∷ t) more.0, more.1)

-- one more character that passes
pub list_all-push : (p : ℕ → Bool) (xs : List ℕ) (y : ℕ) → list_all p xs ≡ true → p y ≡ true → list_all p (xs ++ y ∷ []) ≡ true
list_all-push p [] y all hit = rw hit
list_all-push p (x ∷ xs) y all hit =
    let parts = and_parts (p x) (list_all p xs) all in
    and_from (p x) (list_all p (xs ++ y ∷ [])) parts.0 (list_all-push p xs y parts.1 hit)

-- the front of a text, as bytes and as characters
pub chars-front : (s front rest cs : List ℕ) → IsUtf8 s → IsUtf8 rest → s ≡ front ++ rest → chars s ≡ cs ++ chars rest → chars front ≡ cs
chars-front s front rest cs utf8 after bytes characters =
    let boundary = IsCharBoundary-at_seam s front rest bytes after in
    let text : IsUtf8 (take (length front) s) = IsUtf8-take s (length front) utf8 boundary in
    let same : take (length front) s ≡ front = ap (take (length front)) bytes ∙ take_at front rest (length front) refl in
    let whole : chars s ≡ chars front ++ chars rest = ap chars bytes ∙ chars-append front rest (subst IsUtf8 same text) in
    append_cancel_right (chars front) cs (chars rest) (sym whole ∙ characters)

-- what a character that passes adds to a run
pub strip_if-some : (p : ℕ → Bool) (cs ds : List ℕ) → strip_if p cs ≡ Some ds → (c : ℕ) × (cs ≡ c ∷ ds) × (p c ≡ true)
strip_if-some p [] ds e = absurd (cc)
strip_if-some p (c ∷ cs) ds e =
    elim (cases_Bool (p c)) [
      | inl hit ↦ let here : strip_if p (c ∷ cs) ≡ Some cs = rw hit in let same : Some cs ≡ Some ds = sym here ∙ e in (c, cc, hit)
      | inr miss ↦ let here : strip_if p (c ∷ cs) ≡ None = rw miss in absurd (cc)
    ]
