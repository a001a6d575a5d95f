-- How many phrases there are in phrases, which lets letting them go end.
use Rattle.std.proofs.Common.{◌≡◌, ℕ, suc, ◌+◌, ◌<◌, List, [], ◌∷◌, ◌++◌, map, refl, arith, ap, ◌∙◌}
use Rattle.kt_tree.specs.declared.grammar.phrase.Phrase.{Phrase}
use Rattle.kt_tree.specs.declared.grammar.phrase.Phrase.TheOpen.{Phrase-F}
use Rattle.kt_tree.specs.declared.grammar.phrase.Phrase.TheFolds.{fold-Phrase, fold_out-Phrase}
use Rattle.kt_tree.specs.Derives.{parts_of}

abbrev total : List ℕ → ℕ
total [] = 0
total (n ∷ ns) = n + total ns

abbrev counted : Phrase-F ℕ → ℕ
counted p = suc (total p.parts)

-- a phrase and all its parts
count : Phrase → ℕ
count = fold-Phrase ℕ counted

-- all phrases on a stack, with their parts
pub weight : List Phrase → ℕ
weight [] = 0
weight (p ∷ ps) = count p + weight ps

count-is : (p : Phrase) → count p ≡ suc (total (map count (parts_of p)))
unfolding count
count-is p = fold_out-Phrase ℕ counted p

weight-append : (ps qs : List Phrase) → weight (ps ++ qs) ≡ total (map count ps) + weight qs
unfolding weight
weight-append [] qs = let none : total (map count []) ≡ 0 = refl in omega arith
weight-append (p ∷ ps) qs = let e : weight (ps ++ qs) ≡ total (map count ps) + weight qs = weight-append ps qs in omega arith

-- a phrase weighs more than its parts
pub lighter : (after before parts rest : List Phrase) (p : Phrase) → before ≡ p ∷ rest → parts ≡ parts_of p → after ≡ parts ++ rest → weight after < weight before
unfolding weight
lighter after before parts rest p b q e =
    let a : weight after ≡ total (map count (parts_of p)) + weight rest = ap weight (e ∙ ap (λ xs. xs ++ rest) q) ∙ weight-append (parts_of p) rest in
    let w : weight before ≡ count p + weight rest = ap weight b in
    omega (arith, a, w, count-is p)
