-- What a status says of whether its variable is assigned.
use Rattle.std.specs.Prelude.{Bool, false, not}
use Rattle.kt_model.specs.declared.status.Status.{Status}
use Rattle.kt_model.specs.declared.status.Status.TheVariants.{Unassigned, Assigned, Either, Unreached}

-- whether it says that the variable is assigned along every path (b is true), or along none
abbrev pub keeps : Status → Bool → Bool
keeps Assigned b = b
keeps Unassigned b = not b
keeps Either b = false
keeps Unreached b = false
