use Rattle.std.proofs.Common.{◌≡◌, ℕ, ◌+◌, ◌<◌, List, length, map, drop, get_or, drop-cons, add-one, sym, ap, ◌∙◌, arith}
use Rattle.std.specs.Borrow.{Bor}
use Rattle.kt_tree.specs.BuiltIn.{with_texts}
use Rattle.kt_tree.specs.Names.{with_text}
use Rattle.kt_tree.proofs.names.Names.add_all.Goals as goal

-- one more text
next_text : (table : List (List ℕ)) (texts : List (Bor (List ℕ))) (i : ℕ) (d : Bor (List ℕ)) → i < length texts
    → with_texts table (map (λ t. t.now) (drop i texts)) ≡ with_texts (with_text table (get_or texts i d).now) (map (λ t. t.now) (drop (i + 1) texts))
next_text table texts i d h =
    rw (add-one) (ap (λ (ts : List (Bor (List ℕ))). with_texts table (map (λ t. t.now) ts)) (drop-cons texts i d h))

pub loop-text-preserved : goal.loop-text-preserved
loop-text-preserved c =
    let texts : List (Bor (List ℕ)) = c.args.texts.now in
    let i = c.loop-text.text-index in
    record {
      names = ap (λ t. with_texts t (map (λ u. u.now) (drop (i + 1) texts))) c.in_ok-number.ensures.names
          ∙ sym (next_text c.loop-text.self texts i _ c.loop-text-test.true) ∙ c.loop-text.invariant.names;
      room = omega (arith, c.in_ok-number.ensures.len, c.loop-text.invariant.room, c.loop-text-test.true);
    }
