-- The code's moves.
use Rattle.std.specs.Str.{chars}
use Rattle.kt_tree.specs.Moves as spec
use Rattle.kt_lex.specs.declared.moves.Move.{Move}
use Rattle.kt_lex.specs.declared.moves.Move.TheVariants.{Skip, Take, Stop, Unclosed, Bad}
use Rattle.kt_lex.specs.Reading.{lexeme_of}

-- the move that the code's is
abbrev pub move_of : Move → spec.Move
move_of (Skip line rest) = spec.skip line (chars rest.now)
move_of (Take word rest) = spec.take (lexeme_of word) (chars rest.now)
move_of Stop = spec.stop
move_of Unclosed = spec.unclosed
move_of Bad = spec.bad
