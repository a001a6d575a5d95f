-- Puts, one after another.
use Rattle.std.proofs.Common.{◌≡◌, ℕ, ◌+◌, ◌-◌, ◌≤◌, List, [], ◌++◌, length, take, drop, Option, Some, None, sym, ap, subst, ◌∙◌, arith, append_assoc, length-append, append-nil}
use Rattle.std.specs.Io.KnownBytes.{Keeps, Appends}
use Rattle.std.proofs.Math.Seq.{take-add}
use Rattle.std.proofs.lemmas.List.{take-append-drop, length-drop, length-take-le}
use Rattle.kt_outside.specs.Outside.{OutputState, PutTakes, PutFails, Rose}
use Rattle.kt_outside.specs.Texts.{PutsBytes, PutsFront}

pub appends_none : (known : Option (List ℕ)) → Appends known known []
appends_none None = tt
appends_none (Some xs) = sym (append-nil xs)

pub appends_then : (a b c : Option (List ℕ)) (xs ys : List ℕ) → Appends a b xs → Appends b c ys → Appends a c (xs ++ ys)
appends_then None b c xs ys p q = tt
appends_then (Some x) None c xs ys p q = absurd p
appends_then (Some x) (Some y) None xs ys p q = absurd q
appends_then (Some x) (Some y) (Some z) xs ys p q = q ∙ ap (λ (s : List ℕ). s ++ ys) p ∙ append_assoc x xs ys

pub appends_kept : (a b c : Option (List ℕ)) (xs : List ℕ) → Appends a b xs → Keeps b c → Appends a c xs
appends_kept None b c xs p q = tt
appends_kept (Some x) None c xs p q = absurd p
appends_kept (Some x) (Some y) None xs p q = absurd q
appends_kept (Some x) (Some y) (Some z) xs p q = q ∙ p

pub puts_none : (s : OutputState) → PutsBytes s s []
puts_none s = record { appended = appends_none s.written; vouched = omega arith }

pub puts_then : (a b c : OutputState) (xs ys : List ℕ) → PutsBytes a b xs → PutsBytes b c ys → PutsBytes a c (xs ++ ys)
puts_then a b c xs ys p q = record {
  appended = appends_then a.written b.written c.written xs ys p.appended q.appended;
  vouched = let l = length-append xs ys in omega (arith, l, p.vouched, q.vouched);
}

pub puts_more : (a b c : OutputState) (text : List ℕ) (at n : ℕ) → at ≤ length text → PutsBytes a b (take at text) → PutTakes b c (drop at text) n → PutsBytes a c (take (at + n) text)
puts_more a b c text at n within p q =
    let whole : take (at + n) text ≡ take at text ++ take n (drop at text) = take-add at n text in
    let len : length (take n (drop at text)) ≡ n = length-take-le n (drop at text) q.within in
    let piece : PutsBytes b c (take n (drop at text)) = record { appended = q.bytes; vouched = omega (arith, len, q.vouched) } in
    subst (λ (s : List ℕ). PutsBytes a c s) (sym whole) (puts_then a b c (take at text) (take n (drop at text)) p piece)

pub puts_front : (a b c : OutputState) (text : List ℕ) (at : ℕ) → at ≤ length text → b.faults ≡ a.faults → PutsBytes a b (take at text) → PutFails b c (drop at text) → PutsFront a c text
puts_front a b c text at within same p q =
    let front : length (take at text) ≡ at = length-take-le at text within in
    let behind : length (drop at text) ≡ length text - at = length-drop at text in
    record {
      put = take at text;
      appended = appends_kept a.written b.written c.written (take at text) p.appended q.kept;
      front = record { rest = drop at text; whole_is = sym (take-append-drop at text) };
      rose = subst (λ (n : ℕ). Rose n c.faults) same q.rose;
      not_vouched = omega (arith, front, behind, p.vouched, q.not_vouched);
    }

pub put_within : (b c : OutputState) (text : List ℕ) (at n : ℕ) → at ≤ length text → PutTakes b c (drop at text) n → at + n ≤ length text
put_within b c text at n within q = let behind : length (drop at text) ≡ length text - at = length-drop at text in omega (arith, behind, q.within)
