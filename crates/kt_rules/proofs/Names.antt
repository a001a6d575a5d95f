-- The names of a class's members, and how many classes a file has.
use Rattle.std.proofs.Common.{◌≡◌, ◌<◌, ◌+◌, ◌||◌, ◌∙◌, ℕ, zero, suc, Bool, true, false, List, [], ◌∷◌, map, length, take, get_or, refl, sym, ap, arith, length-append}
use Rattle.std.specs.List.{list_any}
use Rattle.std.proofs.lemmas.List.{length-map}
use Rattle.kt_tree.specs.declared.ast.declaration.File.{File}
use Rattle.kt_tree.specs.declared.ast.declaration.ClassDecl.{ClassDecl}
use Rattle.kt_model.specs.declared.class_table.ClassRow.{ClassRow}
use Rattle.kt_model.specs.Classes.{Outlines, each_once, outline, outlines}
use Rattle.kt_model.specs.Members.{names_above, settled_at, settled_of}
use Rattle.kt_model.specs.MemberRules.{member_names}
use Rattle.kt_model.specs.Outlines.{built_in_numbers, built_in_outline, outlines_from, outlines_of}
use Rattle.kt_model.specs.TopNames.{built_in_classes}

names_settled : (os : Outlines) (c : ℕ) (names : List ℕ) → map (λ s. s.name) (map (settled_at os c) names) ≡ names
names_settled os c [] = refl
names_settled os c (x ∷ xs) = ap (λ rest. x ∷ rest) (names_settled os c xs)

-- what is settled has the names of the class's members
pub settled_names : (os : Outlines) (c : ℕ) → map (λ s. s.name) (settled_of os c) ≡ member_names os c
unfolding settled_of member_names
settled_names os c = names_settled os c (each_once [] (names_above os c))

length-outlines_from : (file : File) (n : ℕ) (cs : List ClassDecl) → length (outlines_from file n cs) ≡ length cs
length-outlines_from file n [] = refl
length-outlines_from file n (c ∷ cs) = omega (arith, length-outlines_from file (n + 1) cs)

-- the table of a file has a row for each class
pub as_many : (file : File) (rows : List ClassRow) → outlines rows ≡ outlines_of file → length rows ≡ built_in_classes + length file.classes
unfolding outlines_of
as_many file rows e =
    sym (length-map rows outline) ∙ ap length e ∙ length-append (map built_in_outline built_in_numbers) (outlines_from file built_in_classes file.classes) ∙ ap (λ k. 13 + k) (length-outlines_from file built_in_classes file.classes)

-- ---- a search

or_true : (b : Bool) → (b || true) ≡ true
or_true true = refl
or_true false = refl

left_of : (a b : Bool) → (a || b) ≡ false → a ≡ false
left_of true b e = e
left_of false b e = refl

right_of : (a b : Bool) → (a || b) ≡ false → b ≡ false
right_of true b e = absurd (true_is_not e)
  where
    true_is_not : true ≡ false → ⊥
    true_is_not h = cc
right_of false b e = e

-- one that passes the test is found
pub any_found : (p : ℕ → Bool) (xs : List ℕ) (i : ℕ) → i < length xs → p (get_or xs i 0) ≡ true → list_any p xs ≡ true
any_found p [] i within e = absurd (omega arith)
any_found p (x ∷ xs) zero within e = ap (λ b. b || list_any p xs) e
any_found p (x ∷ xs) (suc i) within e =
    ap (λ b. p x || b) (any_found p xs i (omega arith) e) ∙ or_true (p x)

-- none so far, and not the next
pub any_more : (p : ℕ → Bool) (xs : List ℕ) (i : ℕ) → i < length xs → list_any p (take i xs) ≡ false → p (get_or xs i 0) ≡ false → list_any p (take (i + 1) xs) ≡ false
any_more p [] i within e f = absurd (omega arith)
any_more p (x ∷ xs) zero within e f = ap (λ b. b || false) f
any_more p (x ∷ xs) (suc i) within e f =
    ap (λ k. list_any p (take k (x ∷ xs))) suc_plus ∙ ap (λ b. b || list_any p (take (i + 1) xs)) (left_of (p x) (list_any p (take i xs)) e) ∙ any_more p xs i (omega arith) (right_of (p x) (list_any p (take i xs)) e) f
  where
    suc_plus : suc i + 1 ≡ suc (i + 1)
    suc_plus = omega arith
