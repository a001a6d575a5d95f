-- Rows of one nonterminal, in a table of all and in the grammar.
use Rattle.std.proofs.Common.{◌≡◌, ℕ, Bool, true, false, ◌&&◌, ◌==◌, cond, List, [], ◌∷◌, map, refl, sym, ap, ◌∙◌, Some, is_eq, nat_cmp}
use Rattle.std.specs.Cmp.{tied_then, unsigned_tied}
use Rattle.kt_tree.specs.declared.grammar.production.Nonterminal.{Nonterminal}
use Rattle.kt_tree.specs.declared.grammar.production.First.{First}
use Rattle.kt_tree.specs.declared.grammar.production.Row.{Row}
use Rattle.kt_table.specs.Table.{first_value}
use Rattle.kt_grammar.specs.declared.place.Place.{Place}
use Rattle.kt_grammar.specs.Places.{number, rank, by_place}
use Rattle.kt_grammar.specs.Lookup.{with_first}
use Rattle.kt_grammar.proofs.Alike.{find}

-- the rows of a table at one nonterminal, by the numbers of what they begin with
abbrev pub section : ℕ → List (Place × Row) → List (ℕ × Row)
section n [] = []
section n (e ∷ es) = cond (number e.0.nonterminal == n) ((rank e.0.first, e.1) ∷ section n es) (section n es)

-- the rows of the grammar so
abbrev pub entries : List Row → List (ℕ × Row)
entries rs = map (λ r. (rank r.first, r)) rs

abbrev pub place : Nonterminal → First → Place
place nt f = record { nonterminal = nt; first = f }

-- two places are one exactly where both numbers are
same_place : (e : Place) (nt : Nonterminal) (f : First) → is_eq (by_place e (place nt f)) ≡ ((number e.nonterminal == number nt) && (rank e.first == rank f))
same_place e nt f =
    sym (tied_then (nat_cmp (number e.nonterminal) (number nt)) (nat_cmp (rank e.first) (rank f)))
    ∙ ap (λ b. b && is_eq (nat_cmp (rank e.first) (rank f))) (unsigned_tied (number e.nonterminal) (number nt))
    ∙ ap (λ b. (number e.nonterminal == number nt) && b) (unsigned_tied (rank e.first) (rank f))

-- what a table gives at a place stands in its section
pub in_section : (es : List (Place × Row)) (nt : Nonterminal) (f : First) → first_value by_place es (place nt f) ≡ find ◌==◌ (section (number nt) es) (rank f)
in_section [] nt f = refl
in_section (e ∷ es) nt f =
    ap (λ b. cond b (Some e.1) (first_value by_place es (place nt f))) (same_place e.0 nt f)
    ∙ ap (λ o. cond ((number e.0.nonterminal == number nt) && (rank e.0.first == rank f)) (Some e.1) o) (in_section es nt f)
    ∙ step (number e.0.nonterminal == number nt)
  where
    step : (b : Bool) → cond (b && (rank e.0.first == rank f)) (Some e.1) (find ◌==◌ (section (number nt) es) (rank f)) ≡ find ◌==◌ (cond b ((rank e.0.first, e.1) ∷ section (number nt) es) (section (number nt) es)) (rank f)
    step true = refl
    step false = refl

-- the first row of the grammar that begins so stands there too
pub in_entries : (rs : List Row) (f : First) → find ◌==◌ (entries rs) (rank f) ≡ with_first rs f
in_entries [] f = refl
in_entries (r ∷ rs) f = ap (λ o. cond (rank r.first == rank f) (Some r) o) (in_entries rs f)
