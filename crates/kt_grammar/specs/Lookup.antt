-- Looking rows up by what they begin with. It is this project's own: the grammar goes through the rows of a nonterminal and takes the first that fits.
use Rattle.std.specs.Prelude.{Bool, ◌&&◌, ◌==◌, not, nat_le, if◌then◌else◌, List, [], ◌∷◌, Option, Some, None}
use Rattle.kt_tree.specs.declared.grammar.terminal.Terminal.{Terminal}
use Rattle.kt_tree.specs.declared.grammar.terminal.Terminal.TheVariants as t
use Rattle.kt_tree.specs.declared.grammar.terminal.Class.{Class}
use Rattle.kt_tree.specs.declared.grammar.production.Nonterminal.{Nonterminal}
use Rattle.kt_tree.specs.declared.grammar.production.Production.{Production}
use Rattle.kt_tree.specs.declared.grammar.production.First.{First}
use Rattle.kt_tree.specs.declared.grammar.production.Row.{Row}
use Rattle.kt_tree.specs.declared.grammar.production.TheConstants.{OPEN}
use Rattle.kt_tree.specs.Classes.{same_terminal, is_identifier}
use Rattle.kt_tree.specs.Grammar.{rows, allows}
use Rattle.kt_grammar.specs.Places.{rank}

-- the first of the rows that begins so
abbrev pub with_first : List Row → First → Option Row
with_first [] f = None
with_first (r ∷ rs) f = if rank r.first == rank f then Some r else with_first rs f

-- its production, where it is open and its need is met
abbrev pub opened : Option Row → Class → Option Production
opened None c = None
opened (Some r) c = if nat_le r.opened_by OPEN && allows r.need c then Some r.production else None

-- the production of the row of a nonterminal that begins so, where the class may begin so
abbrev pub row_for : Bool → Nonterminal → First → Class → Option Production
row_for is nt f c = if is then opened (with_first (rows nt) f) c else None

-- an identifier that the grammar names
abbrev pub is_word : Terminal → Bool
is_word x = is_identifier x && not (same_terminal x t.Id)
