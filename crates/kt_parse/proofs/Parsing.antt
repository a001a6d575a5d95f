-- What tokens derive is one file or one fault.
use Rattle.std.proofs.Common.{◌≡◌, Result, Ok, Err, refl, sym, ap, ◌∙◌}
use Rattle.kt_tree.specs.declared.tokens.Tokens.{Tokens}
use Rattle.kt_tree.specs.declared.ast.declaration.File.{File}
use Rattle.kt_tree.specs.declared.grammar.phrase.Phrase.{Phrase}
use Rattle.kt_tree.specs.declared.grammar.fault.ParseFault.{ParseFault}
use Rattle.kt_tree.specs.declared.grammar.fault.ParseFault.TheVariants.{Syntax, TooDeep, NoMemory}
use Rattle.kt_tree.specs.Derives.{Derives, FaultAt, Answers, Only}
use Rattle.kt_build.specs.File.{file_of}
use Rattle.kt_parse.specs.Parsed.{Parsed, OnlyParsed, DerivesFile}
use Rattle.kt_tree.specs.declared.grammar.phrase.State.{State}
use Rattle.kt_parse.proofs.EngineLaws.{only, same}

abbrev read_as : Phrase → Result Phrase ParseFault
read_as p = Ok p

abbrev refused : ParseFault → Result Phrase ParseFault
refused f = Err f

phrases_same : (p q : Phrase) → read_as p ≡ read_as q → p ≡ q
phrases_same p q e = cc

faults_same : (f g : ParseFault) → refused f ≡ refused g → f ≡ g
faults_same f g e = cc

clash : (p : Phrase) (f : ParseFault) → read_as p ≡ refused f → ⊥
clash p f e = cc

no_memory : (p : Phrase) → read_as p ≡ refused NoMemory → ⊥
no_memory p e = cc

one_phrase : (ts : Tokens) (p q : Phrase) → Derives ts p → Derives ts q → p ≡ q
one_phrase ts p q d e = phrases_same p q ((only ts (Ok p) d).phrase q e (no_memory p))

not_both : (ts : Tokens) (p : Phrase) (f : ParseFault) → Derives ts p → FaultAt ts f → ⊥
not_both ts p f d e = clash p f ((only ts (Ok p) d).fault f e (no_memory p))

one_fault : (ts : Tokens) (f g : ParseFault) → Answers ts (Err f) → (refused f ≡ refused NoMemory → ⊥) → FaultAt ts g → f ≡ g
one_fault ts f g a ne e = faults_same f g ((only ts (Err f) a).fault g e ne)

-- a fault of reading is one of parsing
pub fault_parsed : (ts : Tokens) (f : ParseFault) → Answers ts (Err f) → Parsed ts (Err f)
fault_parsed ts (Syntax at) a = a
fault_parsed ts (TooDeep at) a = a
fault_parsed ts NoMemory a = tt

-- an answer is the only one
pub only_parsed : (ts : Tokens) (r : Result File ParseFault) → Parsed ts r → OnlyParsed ts r
only_parsed ts (Ok file) a = record {
  file = λ g d ne. ap (λ h. Ok h) (a.2 ∙ ap (file_of ts) (one_phrase ts a.0 d.0 a.1 d.1) ∙ sym d.2);
  fault = λ f d ne. absurd (not_both ts a.0 f a.1 d);
}
only_parsed ts (Err (Syntax at)) a = record {
  file = λ g d ne. absurd (not_both ts d.0 (Syntax at) d.1 a);
  fault = λ f d ne. ap (λ h. Err h) (one_fault ts (Syntax at) f a (λ e. absurd cc) d);
}
only_parsed ts (Err (TooDeep at)) a = record {
  file = λ g d ne. absurd (not_both ts d.0 (TooDeep at) d.1 a);
  fault = λ f d ne. ap (λ h. Err h) (one_fault ts (TooDeep at) f a (λ e. absurd cc) d);
}
only_parsed ts (Err NoMemory) a = record {
  file = λ g d ne. absurd (ne refl);
  fault = λ f d ne. absurd (ne refl);
}

-- ---- of two derivations from one list of tokens

abbrev ended : ParseFault → Result State ParseFault
ended f = Err f

ends_same : (f g : ParseFault) → ended f ≡ ended g → f ≡ g
ends_same f g e = cc

pub one_derived : (ts : Tokens) (a b : File) → DerivesFile ts a → DerivesFile ts b → a ≡ b
one_derived ts a b d e = d.2 ∙ ap (file_of ts) (one_phrase ts d.0 e.0 d.1 e.1) ∙ sym e.2

pub one_place : (ts : Tokens) (f g : ParseFault) → FaultAt ts f → FaultAt ts g → f ≡ g
one_place ts f g d e = ends_same f g (same d e)

pub never_both : (ts : Tokens) (file : File) (f : ParseFault) → DerivesFile ts file → FaultAt ts f → ⊥
never_both ts file f d e = not_both ts d.0 f d.1 e
