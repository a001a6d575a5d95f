use Rattle.std.proofs.Common.{◌≡◌, ℕ, ◌+◌, ◌<◌, ◌≤◌, length, drop, get_or}
use Rattle.kt_solve.specs.Orders.{place_of}
use Rattle.kt_solve.proofs.order.places_of.Given as goal

abbrev pub invariant-loop-at : goal.invariant-loop-at
invariant-loop-at l = record {
  within : l.at ≤ length l.order;
  len : length l.places.items ≡ l.nodes;
  at : (n : ℕ) → n < l.nodes → get_or l.places.items n 0 ≡ l.at + place_of (drop l.at l.order) n;
}

abbrev pub decreases-loop-at : goal.decreases-loop-at
decreases-loop-at l = l.at
