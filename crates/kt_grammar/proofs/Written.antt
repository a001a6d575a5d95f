-- The tables of what stands in the place of a production and of a nonterminal are the grammar's.
use Rattle.std.proofs.Common.{◌≡◌, ℕ, zero, suc, List, [], ◌∷◌, get_or, map, refl, sym, ap, ◌∙◌, option_map, Option, Bor}
use denote.Enum.Declared.{tag_of}
use Rattle.kt_tree.specs.contracts.grammar.production.Production as production
use Rattle.kt_tree.specs.contracts.grammar.production.Nonterminal as nonterminal
use Rattle.kt_tree.specs.declared.grammar.production.Production.{Production}
use Rattle.kt_tree.specs.declared.grammar.production.Production.TheVariants as p
use Rattle.kt_tree.specs.declared.grammar.production.Nonterminal.{Nonterminal}
use Rattle.kt_tree.specs.declared.grammar.production.Nonterminal.TheVariants as n
use Rattle.kt_tree.specs.declared.grammar.production.Symbol.{Symbol}
use Rattle.kt_tree.specs.Grammar.{symbols, otherwise}
use Rattle.kt_grammar.specs.declared.productions.TheConstants.{SYMBOLS}
use Rattle.kt_grammar.specs.declared.alternatives.TheConstants.{OTHERWISE}

get_or-map : {A B : Type 0} (f : A → B) (xs : List A) (i : ℕ) (d : A) → get_or (map f xs) i (f d) ≡ f (get_or xs i d)
get_or-map f [] i d = refl
get_or-map f (x ∷ xs) zero d = refl
get_or-map f (x ∷ xs) (suc i) d = get_or-map f xs i d

-- the tables, without where their rows lie in memory
abbrev all_symbols : List (List Symbol)
all_symbols = map (λ row. row.1.now) SYMBOLS

abbrev all_otherwise : List (Option (List Symbol))
all_otherwise = map (λ row. option_map (λ s. s.now) row.1) OTHERWISE

-- what a production is made of stands at its place
symbols_written : (x : Production) (d : List Symbol) → get_or all_symbols (tag_of production.the_type x) d ≡ symbols x
unfolding symbols
symbols_written p.Semicolon d = refl
symbols_written x d = refl

pub symbols_at : (rows : List (Production × Bor (List Symbol))) (x : Production) (d : Production × Bor (List Symbol)) → map (λ row. row.1.now) rows ≡ all_symbols → (get_or rows (tag_of production.the_type x) d).1.now ≡ symbols x
symbols_at rows x d e =
    let shown = λ (row : Production × Bor (List Symbol)). row.1.now in
    let i = tag_of production.the_type x in
    sym (get_or-map shown rows i d) ∙ ap (λ l. get_or l i d.1.now) e ∙ symbols_written x d.1.now

-- what stands where no row fits stands at the nonterminal's place
otherwise_written : (x : Nonterminal) (d : Option (List Symbol)) → get_or all_otherwise (tag_of nonterminal.the_type x) d ≡ otherwise x
unfolding otherwise
otherwise_written n.File d = refl
otherwise_written x d = refl

pub otherwise_at : (rows : List (Nonterminal × Option (Bor (List Symbol)))) (x : Nonterminal) (d : Nonterminal × Option (Bor (List Symbol))) → map (λ row. option_map (λ s. s.now) row.1) rows ≡ all_otherwise → option_map (λ s. s.now) (get_or rows (tag_of nonterminal.the_type x) d).1 ≡ otherwise x
otherwise_at rows x d e =
    let shown = λ (row : Nonterminal × Option (Bor (List Symbol))). option_map (λ (s : Bor (List Symbol)). s.now) row.1 in
    let i = tag_of nonterminal.the_type x in
    sym (get_or-map shown rows i d) ∙ ap (λ l. get_or l i (shown d)) e ∙ otherwise_written x (shown d)
