-- What calls ask for, as the code keeps it: one way for all arguments, or the function whose parameters they are for.
use Rattle.std.specs.Prelude.{ℕ, zero, suc}
use Rattle.kt_model.specs.NameUses.{Resolved, parameters_at, declaration_type}
use Rattle.kt_typing.specs.Typing as spec
use Rattle.kt_infer.specs.declared.calls.Ways.{Ways}
use Rattle.kt_infer.specs.declared.calls.Ways.TheVariants.{Each, Parameters}
use Rattle.kt_infer.specs.declared.calls.Signature.{Signature}
use Rattle.kt_infer.specs.declared.calls.Demand.{Demand}

abbrev pub as_ways : Resolved → Ways → spec.Ways
as_ways resolved (Each way) = spec.Each way
as_ways resolved (Parameters f) = spec.parameter_ways (declaration_type resolved) (parameters_at resolved f)

-- the ways of the parts from a place on
abbrev pub ways_from : ℕ → spec.Ways → spec.Ways
ways_from zero ways = ways
ways_from (suc place) ways = spec.rest_ways (ways_from place ways)

abbrev pub as_signature : Resolved → Signature → spec.Signature
as_signature resolved s = record { least = s.least; most = s.most; ways = as_ways resolved s.ways; result = s.result }

abbrev pub as_demand : Resolved → Demand → spec.Demand
as_demand resolved d = record { ways = as_ways resolved d.ways; claim = d.claim }
