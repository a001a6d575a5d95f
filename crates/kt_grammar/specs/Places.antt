-- The order of the rows in their table. It is this project's own.
use Rattle.std.specs.Prelude.{ℕ, ◌+◌}
use Rattle.std.specs.Cmp.{IsTotalOrder, then_total, on_total, nat_cmp_total}
use Rattle.std.specs.Ordering.{nat_cmp, on, then_cmp}
use Rattle.std.specs.declared.cmp.Ordering.{Ordering}
use denote.Enum.Declared.{tag_of}
use Rattle.kt_tree.specs.contracts.grammar.terminal.Terminal as terminal
use Rattle.kt_tree.specs.contracts.grammar.production.Nonterminal as nonterminal
use Rattle.kt_tree.specs.declared.grammar.production.Nonterminal.{Nonterminal}
use Rattle.kt_tree.specs.declared.grammar.production.First.{First}
use Rattle.kt_tree.specs.declared.grammar.production.First.TheVariants as first
use Rattle.kt_grammar.specs.declared.place.Place.{Place}

-- a nonterminal's place among them, from 0
abbrev pub number : Nonterminal → ℕ
number = tag_of nonterminal.the_type

-- what a row begins with, as a number: first modifiers, then expressions, then the terminals in order
abbrev pub rank : First → ℕ
rank first.Modifier = 0
rank first.Expression = 1
rank (first.Just t) = tag_of terminal.the_type t + 2

-- by the nonterminal, and then by what the row begins with
abbrev pub by_place : Place → Place → Ordering
by_place = then_cmp (on (λ p. number p.nonterminal) nat_cmp) (on (λ p. rank p.first) nat_cmp)

-- it is a total order
pub place_total : IsTotalOrder by_place
place_total = then_total (on_total (λ p. number p.nonterminal) nat_cmp_total) (on_total (λ p. rank p.first) nat_cmp_total)
