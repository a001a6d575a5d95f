-- The file that a phrase is. This project's own: how trees are numbered, and that the file has the names of its source.
use Rattle.std.specs.Prelude.{[]}
use Rattle.kt_tree.specs.declared.tokens.Tokens.{Tokens}
use Rattle.kt_tree.specs.declared.grammar.phrase.Phrase.{Phrase}
use Rattle.kt_tree.specs.declared.ast.declaration.File.{File}
use Rattle.kt_tree.specs.BuiltIn.{with_texts}
use Rattle.kt_tree.specs.Trees.{built, classes_in, functions_in}

-- the classes and the functions among its declarations, whose trees are numbered from 1 on, and the names of the tokens, each once
abbrev pub file_of : Tokens → Phrase → File
file_of ts p = record {
  classes = classes_in (built ts p 1).0;
  functions = functions_in (built ts p 1).0;
  names = with_texts [] ts.names;
}
