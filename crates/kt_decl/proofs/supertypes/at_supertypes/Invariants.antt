use Rattle.std.proofs.Common.{◌≡◌, ◌++◌, drop, []}
use Rattle.kt_model.specs.DeclarationRules.{misfits_behind}
use Rattle.kt_decl.proofs.supertypes.at_supertypes.Given as goal

-- what is in, and what those that are left give
abbrev pub invariant-loop-s : goal.invariant-loop-s
invariant-loop-s l =
    l.out.items ++ misfits_behind l.tops l.kinds l.c.keyword l.before.items (drop l.s-index l.s-items) ≡ l.fn.out.items ++ misfits_behind l.tops l.kinds l.c.keyword [] l.s-items
