use Rattle.std.proofs.Common.{◌≡◌, ◌++◌, take}
use Rattle.std.specs.List.{flat_map}
use Rattle.kt_model.specs.Classes.{outlines}
use Rattle.kt_model.specs.MemberRules.{member_rules}
use Rattle.kt_rules.proofs.rules.at_members.Given as goal

abbrev pub invariant-loop-m : goal.invariant-loop-m
invariant-loop-m l = l.out.items ≡ l.fn.out.items ++ flat_map (member_rules l.tables.file.now (outlines l.tables.table.now) l.n l.c) (take l.m-index l.members)
