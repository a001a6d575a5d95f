-- The exceptions that the language throws: the name of the class and the message of each.
--
-- From Kotlin's standard library: the classes, of `/`, `%`, `require`, `check` and `error`. The messages are this project's own.
use Rattle.std.specs.Prelude.{ℕ, List, codes}
use Rattle.kt_mean.specs.declared.states.Exception.{Exception}
use Rattle.kt_mean.specs.declared.states.Exception.TheVariants.{DivisionByZero, FailedRequirement, FailedCheck, Error}

abbrev pub class_name : Exception → List ℕ
class_name DivisionByZero = codes "ArithmeticException"
class_name FailedRequirement = codes "IllegalArgumentException"
class_name FailedCheck = codes "IllegalStateException"
class_name (Error text) = codes "IllegalStateException"

abbrev pub message : Exception → List ℕ
message DivisionByZero = codes "/ by zero"
message FailedRequirement = codes "Failed requirement."
message FailedCheck = codes "Check failed."
message (Error text) = text
