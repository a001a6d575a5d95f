use Rattle.std.proofs.Common.{◌≡◌, take, false}
use Rattle.std.specs.List.{list_any}
use Rattle.kt_model.specs.Outlines as spec
use Rattle.kt_decl.proofs.outlines.has_member_function.Given as goal

abbrev pub invariant-loop-class : goal.invariant-loop-class
invariant-loop-class l = list_any (spec.declares_function l.file l.name) (take l.class-index l.above) ≡ false
