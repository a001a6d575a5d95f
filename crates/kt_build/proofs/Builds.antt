-- Building a phrase is building its parts, and then itself.
use Rattle.std.proofs.Common.{◌≡◌, ℕ, true, false, List, [], ◌∷◌, ◌++◌, map, length, Result, Ok, Err, OnOk, refl, sym, ap, ap₂, ◌∙◌, append_assoc}
use Rattle.std.proofs.lemmas.List.{length-map}
use Rattle.kt_tree.specs.declared.tokens.Tokens.{Tokens}
use Rattle.kt_tree.specs.declared.grammar.built.Built.{Built}
use Rattle.kt_tree.specs.declared.grammar.built.Built.TheVariants as b
use Rattle.kt_tree.specs.declared.grammar.phrase.Form.{Form}
use Rattle.kt_tree.specs.declared.grammar.phrase.Phrase.{Phrase}
use Rattle.kt_tree.specs.declared.grammar.phrase.Phrase.TheFolds.{fold_out-Phrase}
use Rattle.kt_tree.specs.Derives.{form_of, first_of, end_of, parts_of}
use Rattle.kt_tree.specs.Trees.{built, built_of, built_as, built_step, all_built, assembled, inside, is_list, Building}

-- a phrase is built of its parts
built-is : (ts : Tokens) (p : Phrase) → built ts p ≡ built_of ts (form_of p) (first_of p) (end_of p) (map (built ts) (parts_of p))
unfolding built
built-is ts p = fold_out-Phrase Building (built_step ts) p

-- what the parts are made into
abbrev of_parts : Tokens → Phrase → ℕ → List Built × ℕ
of_parts ts p n = all_built (map (built ts) (parts_of p)) (inside (form_of p) n)

abbrev Same : List Built → List Built → Type 0
Same xs ys = xs ≡ ys

listed : (ts : Tokens) (shape : Form) (first last n count : ℕ) (parts : List Built) → is_list shape ≡ true → Same (built_as ts shape first last n count parts) (b.Count count ∷ parts)
listed ts shape first last n count parts e = rw e refl

single : (ts : Tokens) (shape : Form) (first last n count : ℕ) (parts : List Built) → is_list shape ≡ false → Same (built_as ts shape first last n count parts) (assembled ts shape first last n parts ∷ [])
single ts shape first last n count parts e = rw e refl

-- the trees of a list are those of its parts, behind their number
built-list : (ts : Tokens) (p : Phrase) (n : ℕ) → is_list (form_of p) ≡ true → Same (built ts p n).0 (b.Count (length (parts_of p)) ∷ (of_parts ts p n).0)
built-list ts p n e =
    ap (λ f. (f n).0) (built-is ts p)
    ∙ listed ts (form_of p) (first_of p) (end_of p) n (length (map (built ts) (parts_of p))) (of_parts ts p n).0 e
    ∙ ap (λ count. b.Count count ∷ (of_parts ts p n).0) (length-map (parts_of p) (built ts))

-- another phrase is one tree, or part of one
built-single : (ts : Tokens) (p : Phrase) (n : ℕ) → is_list (form_of p) ≡ false → Same (built ts p n).0 (assembled ts (form_of p) (first_of p) (end_of p) n (of_parts ts p n).0 ∷ [])
built-single ts p n e =
    ap (λ f. (f n).0) (built-is ts p)
    ∙ single ts (form_of p) (first_of p) (end_of p) n (length (map (built ts) (parts_of p))) (of_parts ts p n).0 e

-- the number after a phrase is that after its parts
built-next : (ts : Tokens) (p : Phrase) (n : ℕ) → (built ts p n).1 ≡ (of_parts ts p n).1
built-next ts p n = ap (λ f. (f n).1) (built-is ts p)

-- ---- the two ends of `build`

-- what was built of the parts, as the code has them
abbrev of_these : Tokens → List Phrase → ℕ → List Built × ℕ
of_these ts parts next = all_built (map (built ts) parts) next

these_are : (ts : Tokens) (p : Phrase) (n next : ℕ) (parts : List Phrase) → next ≡ inside (form_of p) n → parts ≡ parts_of p → of_these ts parts next ≡ of_parts ts p n
these_are ts p n next parts i ps = ap₂ (of_these ts) ps i

pub list-made : {E : Type 0} (ts : Tokens) (p : Phrase) (n next : ℕ) (parts : List Phrase) (old pushed new : List Built) (r : Result (Unit {0}) E)
    → is_list (form_of p) ≡ true → next ≡ inside (form_of p) n → parts ≡ parts_of p → pushed ≡ old ++ b.Count (length (parts_of p)) ∷ []
    → OnOk r (new ≡ pushed ++ (of_these ts parts next).0) → OnOk r (new ≡ old ++ (built ts p n).0)
list-made ts p n next parts old pushed new (Ok u) e i ps q h =
    h ∙ ap₂ (λ xs (ys : List Built). xs ++ ys) q (ap (λ v. v.0) (these_are ts p n next parts i ps))
    ∙ append_assoc old (b.Count (length (parts_of p)) ∷ []) (of_parts ts p n).0
    ∙ ap (λ ys. old ++ ys) (sym (built-list ts p n e))
list-made ts p n next parts old pushed new (Err f) e i ps q h = tt

pub list-next : {E : Type 0} (ts : Tokens) (p : Phrase) (n next new : ℕ) (parts : List Phrase) (r : Result (Unit {0}) E)
    → next ≡ inside (form_of p) n → parts ≡ parts_of p → OnOk r (new ≡ (of_these ts parts next).1) → OnOk r (new ≡ (built ts p n).1)
list-next ts p n next new parts (Ok u) i ps h = h ∙ ap (λ v. v.1) (these_are ts p n next parts i ps) ∙ sym (built-next ts p n)
list-next ts p n next new parts (Err f) i ps h = tt

pub single-made : {E : Type 0} (ts : Tokens) (p : Phrase) (n next : ℕ) (parts : List Phrase) (old new none made : List Built) (whole : Built) (r : Result (Unit {0}) E)
    → is_list (form_of p) ≡ false → next ≡ inside (form_of p) n → parts ≡ parts_of p → none ≡ [] → made ≡ none ++ (of_these ts parts next).0
    → whole ≡ assembled ts (form_of p) (first_of p) (end_of p) n made
    → OnOk r (new ≡ old ++ whole ∷ []) → OnOk r (new ≡ old ++ (built ts p n).0)
single-made ts p n next parts old new none made whole (Ok u) e i ps z q w h =
    let all : made ≡ (of_parts ts p n).0 = q ∙ ap₂ (λ xs (ys : List Built). xs ++ ys) z (ap (λ v. v.0) (these_are ts p n next parts i ps)) in
    h ∙ ap (λ x. old ++ x ∷ []) (w ∙ ap (assembled ts (form_of p) (first_of p) (end_of p) n) all)
    ∙ ap (λ ys. old ++ ys) (sym (built-single ts p n e))
single-made ts p n next parts old new none made whole (Err f) e i ps z q w h = tt

pub single-next : {E : Type 0} (ts : Tokens) (p : Phrase) (n next new : ℕ) (parts : List Phrase) (r : Result (Unit {0}) E)
    → next ≡ inside (form_of p) n → parts ≡ parts_of p → new ≡ (of_these ts parts next).1 → OnOk r (new ≡ (built ts p n).1)
single-next ts p n next new parts (Ok u) i ps h = h ∙ ap (λ v. v.1) (these_are ts p n next parts i ps) ∙ sym (built-next ts p n)
single-next ts p n next new parts (Err f) i ps h = tt
