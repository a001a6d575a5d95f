use Rattle.std.proofs.Common.{◌≡◌, None, option_map, map, drop}
use Rattle.kt_tree.specs.Brackets.{last_quote}
use Rattle.kt_lex.specs.Opened.{bracket_of, bounds}
use Rattle.kt_lex.proofs.brackets.open_quote.Given as goal

abbrev pub invariant-loop-bracket : goal.invariant-loop-bracket
invariant-loop-bracket l = last_quote (option_map bounds l.found) (map bracket_of (drop l.bracket-index l.stack)) ≡ last_quote None (map bracket_of l.stack)
