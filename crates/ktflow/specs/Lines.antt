-- The text on `err` in its pieces: a private word of this crate.
use Rattle.std.specs.Prelude.{ℕ, List, ◌++◌}
use Rattle.ktflow.specs.declared.line.Line.{Line}

abbrev pub text_of_line : Line → List ℕ
text_of_line line = line.head.now ++ (line.message.now ++ line.end.now)
