-- What a part of the engine leaves to be read.
use Rattle.std.specs.Prelude.{◌≡◌, ◌≢◌, Bool, true, false, ◌||◌, List, ◌∷◌, Option, Some, None, Result, Ok, Err}
use Rattle.kt_tree.specs.declared.tokens.Tokens.{Tokens}
use Rattle.kt_tree.specs.declared.grammar.terminal.Class.{Class}
use Rattle.kt_tree.specs.declared.grammar.terminal.Terminal.TheVariants as t
use Rattle.kt_tree.specs.declared.grammar.production.Step.{Step}
use Rattle.kt_tree.specs.declared.grammar.production.Step.TheVariants.{Take, Keep, KeepChosen}
use Rattle.kt_tree.specs.declared.grammar.production.Symbol.{Symbol}
use Rattle.kt_tree.specs.declared.grammar.production.Symbol.TheVariants.{Do}
use Rattle.kt_tree.specs.declared.grammar.fault.ParseFault.{ParseFault}
use Rattle.kt_tree.specs.declared.grammar.fault.ParseFault.TheVariants.{NoMemory}
use Rattle.kt_tree.specs.declared.grammar.phrase.State.{State}
use Rattle.kt_tree.specs.Classes.{same_terminal}
use Rattle.kt_tree.specs.Derives.{Reads, whole, start}

-- a step that takes no token
abbrev pub is_silent : Step → Bool
is_silent (Take w) = false
is_silent (Keep w) = false
is_silent KeepChosen = false
is_silent _ = true

-- a statement may end before a token of this class
abbrev pub ends_statement : Class → Bool
ends_statement c = c.fresh || (same_terminal c.terminal t.Semicolon || same_terminal c.terminal t.CloseBrace)

-- the outcome of a step, unless memory fails
abbrev pub Does : Result State ParseFault → Result (Unit {0}) ParseFault → State → Type 0
Does outcome (Ok u) new = outcome ≡ Ok new
Does outcome (Err e) new = e ≢ NoMemory → outcome ≡ Err e

-- what is read from the new place on is what is read from the old one on
abbrev pub Leads : Tokens → List Symbol → State → List Symbol → State → Type 0
Leads ts k s k' s' = (o : Result State ParseFault) → Reads ts k' s' o → Reads ts k s o

abbrev pub Stops : Tokens → List Symbol → State → ParseFault → Type 0
Stops ts k s e = e ≢ NoMemory → Reads ts k s (Err e)

abbrev pub Goes : Tokens → List Symbol → State → Result (Unit {0}) ParseFault → List Symbol → State → Type 0
Goes ts k s (Ok u) k' s' = Leads ts k s k' s'
Goes ts k s (Err e) k' s' = Stops ts k s e

abbrev pub Settles : Tokens → List Symbol → State → Result (Option Step) ParseFault → List Symbol → State → Type 0
Settles ts k s (Ok (Some x)) k' s' = Leads ts k s (Do x ∷ k') s' × (is_silent x ≡ false)
Settles ts k s (Ok None) k' s' = Reads ts k s (Ok s')
Settles ts k s (Err e) k' s' = Stops ts k s e

-- a whole file is read, and this is the state after it
abbrev pub Finishes : Tokens → Result (Unit {0}) ParseFault → State → Type 0
Finishes ts (Ok u) s = Reads ts whole start (Ok s)
Finishes ts (Err e) s = Stops ts whole start e
