use Rattle.std.proofs.Common.{◌≡◌, ◌++◌, take}
use Rattle.std.specs.List.{filter_map}
use Rattle.kt_model.specs.Sites.{property_word}
use Rattle.kt_decl.proofs.words.push_properties.Given as goal

abbrev pub invariant-loop-p : goal.invariant-loop-p
invariant-loop-p l = l.words.items ≡ l.fn.words.items ++ filter_map property_word (take l.p-index l.parameters)
