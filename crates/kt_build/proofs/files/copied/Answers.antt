use Rattle.std.proofs.Common.{◌≡◌, ℕ, ◌+◌, ◌<◌, List, [], ◌∷◌, length, drop, get_or, Some, slice_get, arith, sym, ap, ◌∙◌}
use Rattle.std.proofs.lemmas.List.{drop_more}
use Rattle.std.proofs.lemmas.Option.{slice_get_within, get_or_from_slice_get}
use Rattle.kt_tree.specs.BuiltIn.{with_texts}
use Rattle.kt_tree.specs.Names.{with_text}
use Rattle.kt_build.proofs.files.copied.Goals as goal

-- one more text is copied
more : (texts copy one : List (List ℕ)) (i : ℕ) (t : List ℕ) → slice_get texts i ≡ Some t → one ≡ with_text copy t → with_texts copy (drop i texts) ≡ with_texts [] texts
    → with_texts one (drop (i + 1) texts) ≡ with_texts [] texts
more texts copy one i t at is h =
    let front : drop i texts ≡ t ∷ drop (i + 1) texts = drop_more texts i t (slice_get_within texts i t at) ∙ ap (λ x. x ∷ drop (i + 1) texts) (get_or_from_slice_get texts i t t at) in
    ap (λ table. with_texts table (drop (i + 1) texts)) is ∙ sym (ap (with_texts copy) front) ∙ h

pub loop-number-preserved : goal.loop-number-preserved
loop-number-preserved c = record {
  names = more c.args.names.now c.loop-number.copy c.number.new.self c.loop-number.number c.text.result.now c.text.ensures c.in_ok-number.ensures.names c.loop-number.invariant.names;
  room = omega (arith, c.in_ok-number.ensures.len, c.loop-number.invariant.room);
}
