-- The table of rows is the grammar's.
use Rattle.std.proofs.Common.{◌≡◌, ◌==◌, refl, sym, ◌∙◌}
use Rattle.std.proofs.lemmas.Bool.{eqb-true}
use Rattle.kt_tree.specs.declared.grammar.production.Nonterminal.{Nonterminal}
use Rattle.kt_tree.specs.declared.grammar.production.Nonterminal.TheVariants as n
use Rattle.kt_tree.specs.declared.grammar.production.First.{First}
use Rattle.kt_tree.specs.Grammar.{rows}
use Rattle.kt_table.specs.Table.{first_value}
use Rattle.kt_grammar.specs.declared.rows.TheConstants.{ROWS}
use Rattle.kt_grammar.specs.Places.{number, rank, by_place}
use Rattle.kt_grammar.specs.Lookup.{with_first}
use Rattle.kt_grammar.proofs.Sections.{section, entries, place, in_section, in_entries}
use Rattle.kt_grammar.proofs.Alike.{Same, found_alike}

-- at each nonterminal
same_rows : (nt : Nonterminal) → Same ◌==◌ (entries (rows nt)) (section (number nt) ROWS)
unfolding rows
same_rows n.File = record { there = refl; back = refl }
same_rows nt = record { there = refl; back = refl }

-- what the table gives at a place is the grammar's row
pub table_rows : (nt : Nonterminal) (f : First) → first_value by_place ROWS (place nt f) ≡ with_first (rows nt) f
table_rows nt f = in_section ROWS nt f ∙ sym (found_alike ◌==◌ eqb-true (same_rows nt) (rank f)) ∙ in_entries (rows nt) f
