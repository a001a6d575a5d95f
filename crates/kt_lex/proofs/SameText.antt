-- Texts of ASCII as bytes and as characters.
use Rattle.std.proofs.Common.{◌≡◌, ℕ, Bool, true, ◌&&◌, ◌==◌, List, [], ◌∷◌, refl, sym, ap, ◌∙◌, inl, inr, nat_lt}
use Rattle.std.proofs.Common.{bytes_eq, map, option_map}
use Rattle.std.specs.Map.{lookup}
use Rattle.std.specs.List.{list_all}
use Rattle.kt_tree.specs.declared.token.Kind.{Kind}
use Rattle.std.proofs.lemmas.Bool.{cases_Bool, and_parts, and_from, eqb-true, eq-eqb, ltb-true, true≢false}
use Rattle.std.proofs.lemmas.Str.{encodes-chars, chars-IsAscii, encodes-IsAscii}
use Rattle.std.proofs.lemmas.Str.Ascii.{IsAscii-nil, IsAscii-cons}
use Rattle.std.specs.Str.{chars, IsUtf8, IsAscii}
use lib.Utf8.{encodes}
use Rattle.kt_tree.specs.Lexemes.{same, find}

-- what the test of two texts says
pub same-true : (a b : List ℕ) → same a b ≡ true → a ≡ b
same-true [] [] e = refl
same-true [] (d ∷ b) e = absurd (cc)
same-true (c ∷ a) [] e = absurd (cc)
same-true (c ∷ a) (d ∷ b) e =
    let parts = and_parts (c == d) (same a b) e in
    let head = eqb-true c d parts.0 in
    let tail = same-true a b parts.1 in
    cc

-- a text is the same as itself
pub same-refl : (a : List ℕ) → same a a ≡ true
same-refl [] = refl
same-refl (c ∷ a) = and_from (c == c) (same a a) (eq-eqb c c refl) (same-refl a)

-- all characters are ASCII
abbrev pub are_ascii : List ℕ → Bool
are_ascii k = list_all (λ c. nat_lt c 128) k

-- what that test says
pub IsAscii-from_test : (k : List ℕ) → are_ascii k ≡ true → IsAscii k
IsAscii-from_test [] h = IsAscii-nil
IsAscii-from_test (c ∷ k) h =
    let parts = and_parts (nat_lt c 128) (are_ascii k) h in
    IsAscii-cons c k (ltb-true c 128 parts.0) (IsAscii-from_test k parts.1)

-- a text of ASCII is the same as bytes and as characters
pub same-chars : (k b : List ℕ) → IsUtf8 b → IsAscii k → same k b ≡ same k (chars b)
same-chars k b utf8 ascii =
    elim (cases_Bool (same k b)) [
      | inl hit ↦
          let e = same-true k b hit in
          let there : same k (chars b) ≡ true = ap (same k) (ap chars (sym e) ∙ chars-IsAscii k ascii) ∙ same-refl k in
          hit ∙ sym there
      | inr miss ↦
          elim (cases_Bool (same k (chars b))) [
            | inl there ↦
                let e : k ≡ b = sym (encodes-IsAscii k ascii) ∙ ap encodes (same-true k (chars b) there) ∙ encodes-chars b utf8 in
                absurd (true≢false (sym (ap (same k) (sym e) ∙ same-refl k) ∙ miss))
            | inr nowhere ↦ miss ∙ sym nowhere
          ]
    ]

-- a table of ASCII texts finds bytes as it finds characters
pub find-chars : (rows : List (List ℕ × Kind)) (b : List ℕ) → IsUtf8 b → list_all (λ row. are_ascii row.0) rows ≡ true → find rows b ≡ find rows (chars b)
find-chars [] b utf8 ascii = refl
find-chars (row ∷ rows) b utf8 ascii =
    let parts = and_parts (are_ascii row.0) (list_all (λ r. are_ascii r.0) rows) ascii in
    rw (same-chars row.0 b utf8 (IsAscii-from_test row.0 parts.0), find-chars rows b utf8 parts.1)

-- the test of two texts is that of the bytes
bytes_eq-same : (a b : List ℕ) → bytes_eq a b ≡ same a b
bytes_eq-same [] [] = refl
bytes_eq-same [] (d ∷ b) = refl
bytes_eq-same (c ∷ a) [] = refl
bytes_eq-same (c ∷ a) (d ∷ b) = ap (λ t. (c == d) && t) (bytes_eq-same a b)

-- rows with their tokens
unfoldable pub kinds : {V : Type 0} → (V → Kind) → List (List ℕ × V) → List (List ℕ × Kind)
kinds kind_of rows = map (λ row. (row.0, kind_of row.1)) rows

-- a table finds the token of the value that it finds
pub find-kinds : {V : Type 0} (kind_of : V → Kind) (rows : List (List ℕ × V)) (b : List ℕ) → option_map kind_of (lookup (λ key. bytes_eq key b) rows) ≡ find (kinds kind_of rows) b
unfolding kinds
find-kinds kind_of [] b = refl
find-kinds kind_of (row ∷ rows) b =
    elim (cases_Bool (same row.0 b)) [
      | inl hit ↦ rw (bytes_eq-same row.0 b, hit) refl
      | inr miss ↦ rw (bytes_eq-same row.0 b, miss) (find-kinds kind_of rows b)
    ]
