-- A text that is put in pieces.
use Rattle.std.proofs.Common.{ℕ, List, ◌++◌, Result, Ok, Err, append_assoc, ap, ◌∙◌, arith, length-append}
use Rattle.kt_outside.specs.Outside.{OutputState}
use Rattle.kt_outside.specs.Texts.{PutsWhole, PutsFront, PutsAll}
use Rattle.kt_outside.proofs.PutSteps.{puts_then}
use Rattle.kt_run.proofs.Chain.{front_behind}

-- a piece behind one that was put whole
whole_behind : (a b c : OutputState) (text more : List ℕ) → PutsWhole a b text → PutsWhole b c more → PutsWhole a c (text ++ more)
whole_behind a b c text more h k = record { puts = puts_then a b c text more h.puts k.puts; faults = k.faults ∙ h.faults }

pub all_behind : {E : Type 0} (a b c : OutputState) (text more : List ℕ) (r : Result (Unit {0}) E) → PutsWhole a b text → PutsAll b c more r → PutsAll a c (text ++ more) r
all_behind a b c text more (Ok u) h k = whole_behind a b c text more h k
all_behind a b c text more (Err e) h k = front_behind a b c text more h k

-- more pieces that were not put
pub front_more : (a b : OutputState) (text more : List ℕ) → PutsFront a b text → PutsFront a b (text ++ more)
front_more a b text more h = record {
  put = h.put;
  appended = h.appended;
  front = record { rest = h.front.rest ++ more; whole_is = ap (λ t. t ++ more) h.front.whole_is ∙ append_assoc h.put h.front.rest more };
  rose = h.rose;
  not_vouched = let l = length-append text more in omega (arith, l, h.not_vouched);
}
