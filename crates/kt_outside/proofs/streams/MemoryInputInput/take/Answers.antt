use Rattle.std.proofs.Common.{◌≡◌, ◌+◌, ◌≤◌, length, take, drop, ◌-◌, arith, rules, ap, sym, ◌∙◌, length-drop}
use Rattle.std.proofs.Math.ListN.{drop_of_length-le}
use Rattle.kt_outside.proofs.Copies.{given_and_left}
use Rattle.kt_outside.specs.Memory.{InputInMemory}
use Rattle.kt_outside.proofs.streams.MemoryInputInput.take.Goals as goal

pub returns-clause-takes : goal.returns-clause-takes
returns-clause-takes c =
    let bytes = c.self.inside.bytes.items in
    let left_is : drop c.self.inside.at c.self.inside.bytes.items ≡ c.args.self.now.left = ap (λ (i : InputInMemory). i.left) c.self.view_is in
    let rest_is : c.rest_of.result.now ≡ drop c.self.inside.at c.self.inside.bytes.items = search rules in
    let given : take c.give-count.result c.give-count.new.buf ≡ take c.give-count.result (drop c.self.inside.at c.self.inside.bytes.items) = search rules in
    record {
      within = search rules;
      bytes = sym left_is ∙ given_and_left bytes _ c.self.inside.at c.give-count.result given;
      at_end = λ none some.
          let len : length c.rest_of.result.now ≡ length c.self.inside.bytes.items - c.self.inside.at = ap length rest_is ∙ length-drop c.self.inside.at bytes in
          let past : length c.self.inside.bytes.items ≤ c.self.inside.at + c.give-count.result = omega (arith, c.give-count.ensures.count, c.piece.ensures.some) in
          drop_of_length-le bytes past;
      faults = search rules;
    }
