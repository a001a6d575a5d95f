-- Two rules have two codes.
use Rattle.std.proofs.Common.{◌≡◌, ◌==◌, ℕ, List, [], ◌∷◌, cond, ap, sym, refl, ◌∙◌}
use Rattle.std.specs.Cmp.Lexicographic.{pointwise}
use Rattle.kt_model.specs.Codes.{code_of}
use Rattle.kt_model.specs.declared.finding.Rule.{Rule}
use Rattle.kt_model.specs.declared.finding.Rule.TheVariants.{SourceTooLong, Syntax, UnknownName, DuplicateLocal, Unassigned, ValTwice, Duplicate, UnknownType, Supertype, SupertypeCycle, NoMain, Modifier, Body, NoType, ReservedMember, Override, Conflict, AbstractMember, NotUtf8, BadToken, TooDeep, NotAValue, NotAFunction, AssignTarget, Mismatch, ArgumentCount, Equality, TooManyLocals, FlowTooLarge, NoElse, ValueExpected, NoReturn}

every_rule : List Rule
every_rule = SourceTooLong ∷ Syntax ∷ UnknownName ∷ DuplicateLocal ∷ Unassigned ∷ ValTwice ∷ Duplicate ∷ UnknownType ∷ Supertype ∷ SupertypeCycle ∷ NoMain ∷ Modifier ∷ Body ∷ NoType ∷ ReservedMember ∷ Override ∷ Conflict ∷ AbstractMember ∷ NotUtf8 ∷ BadToken ∷ TooDeep ∷ NotAValue ∷ NotAFunction ∷ AssignTarget ∷ Mismatch ∷ ArgumentCount ∷ Equality ∷ TooManyLocals ∷ FlowTooLarge ∷ NoElse ∷ ValueExpected ∷ NoReturn ∷ []

-- the rule of a code
rule_of : List ℕ → List Rule → Rule
rule_of bytes [] = Syntax
rule_of bytes (r ∷ rs) = cond (pointwise ◌==◌ (code_of r) bytes) r (rule_of bytes rs)

rule_of-code : (r : Rule) → rule_of (code_of r) every_rule ≡ r
unfolding rule_of every_rule
rule_of-code SourceTooLong = refl
rule_of-code Syntax = refl
rule_of-code UnknownName = refl
rule_of-code DuplicateLocal = refl
rule_of-code Unassigned = refl
rule_of-code ValTwice = refl
rule_of-code Duplicate = refl
rule_of-code UnknownType = refl
rule_of-code Supertype = refl
rule_of-code SupertypeCycle = refl
rule_of-code NoMain = refl
rule_of-code Modifier = refl
rule_of-code Body = refl
rule_of-code NoType = refl
rule_of-code ReservedMember = refl
rule_of-code Override = refl
rule_of-code Conflict = refl
rule_of-code AbstractMember = refl
rule_of-code NotUtf8 = refl
rule_of-code BadToken = refl
rule_of-code TooDeep = refl
rule_of-code NotAValue = refl
rule_of-code NotAFunction = refl
rule_of-code AssignTarget = refl
rule_of-code Mismatch = refl
rule_of-code ArgumentCount = refl
rule_of-code Equality = refl
rule_of-code TooManyLocals = refl
rule_of-code FlowTooLarge = refl
rule_of-code NoElse = refl
rule_of-code ValueExpected = refl
rule_of-code NoReturn = refl

-- Two rules with one code are one.
pub code_of-injective : (r s : Rule) → code_of r ≡ code_of s → r ≡ s
code_of-injective r s e = sym (rule_of-code r) ∙ ap (λ bytes. rule_of bytes every_rule) e ∙ rule_of-code s
