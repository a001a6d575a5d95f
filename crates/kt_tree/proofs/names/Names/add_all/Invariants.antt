use Rattle.std.proofs.Common.{◌≡◌, ◌+◌, ◌-◌, ◌<◌, length, map, drop}
use Rattle.kt_tree.specs.BuiltIn.{with_texts}
use Rattle.kt_tree.proofs.names.Names.add_all.Given as goal

abbrev pub invariant-loop-text : goal.invariant-loop-text
invariant-loop-text l = record {
  names : with_texts l.self (map (λ t. t.now) (drop l.text-index l.texts)) ≡ with_texts l.fn.self (map (λ t. t.now) l.texts);
  room : length l.self + (length l.texts - l.text-index) < 4294967295;
}
