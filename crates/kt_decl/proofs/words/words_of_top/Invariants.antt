use Rattle.std.proofs.Common.{◌≡◌, ◌++◌, map, take}
use Rattle.kt_decl.proofs.words.words_of_top.Given as goal

abbrev pub invariant-loop-c : goal.invariant-loop-c
invariant-loop-c l = l.words.items ≡ map (λ c. c.name) (take l.c-index l.c-items)

abbrev pub invariant-loop-f : goal.invariant-loop-f
invariant-loop-f l = l.words.items ≡ map (λ c. c.name) l.file.classes ++ map (λ f. f.name) (take l.f-index l.f-items)
