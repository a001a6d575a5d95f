-- The file that tokens are, and the faults where they are none.
use Rattle.std.specs.Prelude.{◌≡◌, ◌≢◌, Result, Ok, Err}
use Rattle.kt_tree.specs.declared.tokens.Tokens.{Tokens}
use Rattle.kt_tree.specs.declared.ast.declaration.File.{File}
use Rattle.kt_tree.specs.declared.grammar.phrase.Phrase.{Phrase}
use Rattle.kt_tree.specs.declared.grammar.fault.ParseFault.{ParseFault}
use Rattle.kt_tree.specs.declared.grammar.fault.ParseFault.TheVariants.{Syntax, TooDeep, NoMemory}
use Rattle.kt_tree.specs.Derives.{Derives, FaultAt}
use Rattle.kt_build.specs.File.{file_of}

-- the file of the phrase that all tokens are
abbrev pub DerivesFile : Tokens → File → Type 0
DerivesFile ts file = (p : Phrase) × Derives ts p × (file ≡ file_of ts p)

-- what was answered is so
abbrev pub Parsed : Tokens → Result File ParseFault → Type 0
Parsed ts (Ok file) = DerivesFile ts file
Parsed ts (Err (Syntax token)) = FaultAt ts (Syntax token)
Parsed ts (Err (TooDeep token)) = FaultAt ts (TooDeep token)
Parsed ts (Err NoMemory) = Unit {0}

-- and what is so is answered
pub record OnlyParsed (ts : Tokens) (r : Result File ParseFault) : Type 0 where
  pub file : (file : File) → DerivesFile ts file → r ≢ Err NoMemory → r ≡ Ok file
  pub fault : (f : ParseFault) → FaultAt ts f → r ≢ Err NoMemory → r ≡ Err f
