use Rattle.std.proofs.Common.{◌≤◌, length, map}
use denote.Text.{Utf8}
use denote.Shadow.{shadow}
use Rattle.std.specs.Str.{chars}
use Rattle.kt_lex.specs.Opened.{bracket_of}
use Rattle.kt_lex.proofs.Lexing.{IsLexed}
use Rattle.kt_lex.proofs.lexer.scan.Given as goal

abbrev pub invariant-moves : goal.invariant-moves
invariant-moves l = record {
  text : shadow (Utf8 l.rest);
  within : length l.rest ≤ length l.text;
  lexed : IsLexed (chars l.text) l.list l.names (map bracket_of l.stack.items) l.fresh (chars l.rest);
}

abbrev pub decreases-moves : goal.decreases-moves
decreases-moves l = length (chars l.rest)
