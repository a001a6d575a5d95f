use Rattle.std.proofs.Common.{◌≡◌, ℕ, ◌<◌, true, length, get_or}
use Rattle.std.specs.List.{All, Contains}
use Rattle.kt_solve.specs.declared.postorder.Progress.TheVariants.{Unseen}
use Rattle.kt_solve.specs.Walks.{is_left}
use Rattle.kt_solve.proofs.postorder.list_others.Given as goal

abbrev pub invariant-loop-node : goal.invariant-loop-node
invariant-loop-node l = record {
  within : All (λ (n : ℕ). n < length l.progress) l.order.items;
  left : (n : ℕ) → n < length l.progress → is_left (get_or l.progress n Unseen) ≡ true → Contains l.order.items n;
  listed : (n : ℕ) → n < l.node → Contains l.order.items n;
}
