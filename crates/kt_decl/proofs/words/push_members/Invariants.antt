use Rattle.std.proofs.Common.{◌≡◌, ◌++◌, take}
use Rattle.std.specs.List.{filter_map}
use Rattle.kt_model.specs.Sites.{member_word}
use Rattle.kt_decl.proofs.words.push_members.Given as goal

abbrev pub invariant-loop-m : goal.invariant-loop-m
invariant-loop-m l = l.words.items ≡ l.fn.words.items ++ filter_map member_word (take l.m-index l.members)
