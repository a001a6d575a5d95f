-- The built-in names, with which each name table begins: the classes, the members, the lambda's parameter, the functions. This project's own.
use Rattle.std.specs.Prelude.{ℕ, List, [], ◌∷◌, codes}
use Rattle.kt_tree.specs.Names.{with_text}

-- the built-in names in their order
abbrev pub built_in : List (List ℕ)
built_in =
    codes "Any" ∷ codes "Unit" ∷ codes "Boolean" ∷ codes "Int" ∷ codes "String" ∷ codes "Throwable" ∷ codes "Exception"
    ∷ codes "RuntimeException" ∷ codes "IllegalArgumentException" ∷ codes "IllegalStateException" ∷ codes "ArithmeticException"
    ∷ codes "NullPointerException" ∷ codes "ClassCastException"
    ∷ codes "toString" ∷ codes "length" ∷ codes "toIntOrNull" ∷ codes "message" ∷ codes "equals" ∷ codes "hashCode" ∷ codes "it"
    ∷ codes "println" ∷ codes "print" ∷ codes "readLine" ∷ codes "require" ∷ codes "check" ∷ codes "error" ∷ codes "repeat" ∷ []

-- the table with these texts, each that is new after those before it
abbrev pub with_texts : List (List ℕ) → List (List ℕ) → List (List ℕ)
with_texts table [] = table
with_texts table (text ∷ texts) = with_texts (with_text table text) texts
