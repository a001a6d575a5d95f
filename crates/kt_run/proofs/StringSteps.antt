-- Strings, from the bytes of those of their texts and parts that are there.
use Rattle.std.proofs.Common.{◌≡◌, ℕ, ◌+◌, ◌<◌, Bool, true, false, ◌||◌, List, [], ◌∷◌, ◌++◌, length, map, drop, get_or, Option, Some, None, option_map, refl, sym, ap, ◌∙◌, arith, append_assoc, append-nil, length-append, inl, inr}
use Rattle.std.proofs.Math.Path.{fun_ext}
use Rattle.std.proofs.lemmas.Bool.{lt-ltb}
use Rattle.kt_tree.specs.declared.ast.body.Expr.{Expr}
use Rattle.kt_tree.specs.declared.ast.body.StringPart.{StringPart}
use Rattle.kt_tree.specs.declared.ast.body.StringPart.TheVariants as part
use Rattle.kt_model.specs.declared.uses.Named.{Named}
use Rattle.kt_model.specs.BodyTrees.{Template', Tree, Piece, Text', Inserted', texts_of, inserted_of, piece, expr_tree}
use Rattle.kt_model.proofs.BodyFolds.{piece_inserted, piece_text}
use Rattle.kt_mean.specs.declared.states.Value.{Value}
use Rattle.kt_mean.specs.declared.states.Value.TheVariants as value
use Rattle.kt_mean.specs.declared.states.Limit.TheVariants as limit
use Rattle.kt_mean.specs.Frames.{State, Run, ◌>>=◌, pure, over}
use Rattle.kt_mean.specs.Evaluation.{Program, choose, with_values, operated, joined, has_parts, string_of, most_text, make_text, text_made, text_of_value}
use Rattle.kt_run.specs.Operators.{Inserts}
use Rattle.kt_run.proofs.FormSteps.{drop_item}

-- ---- texts behind others

behind_none : (o : Option (List ℕ)) → o ≡ option_map (λ t. [] ++ t) o
behind_none None = refl
behind_none (Some t) = refl

behind_both : (front text : List ℕ) (o : Option (List ℕ)) → option_map (λ t. front ++ t) (option_map (λ t. text ++ t) o) ≡ option_map (λ t. (front ++ text) ++ t) o
behind_both front text None = refl
behind_both front text (Some t) = ap (λ x. Some x) (sym (append_assoc front text t))

-- ---- more bytes than a run may make

over_at : (text : List ℕ) (s : State) → most_text < length text → make_text text s ≡ over limit.Text s
unfolding make_text
over_at text s h = ap (λ b. choose b (over limit.Text s) (pure text (record s { text = s.text + length text }))) (lt-ltb most_text (s.text + length text) (omega arith))

-- which bytes these are makes no difference
both_over : (a b : List ℕ) → most_text < length a → most_text < length b → text_made a ≡ text_made b
both_over a b h k = ap (λ (r : Run (List ℕ)). r >>= (λ t. pure (value.Text t))) (fun_ext (λ s. over_at a s h ∙ sym (over_at b s k)))

longer : (a b : List ℕ) → most_text < length a → most_text < length (a ++ b)
longer a b h = let l = length-append a b in omega (arith, l)

-- ---- the rest of a string, behind the bytes that are there

module _ (p : Program) (go : Tree → Run Value) where
  abbrev pub string_rest : Bool → List ℕ → List Piece → Run Value
  string_rest made front pieces = with_values p go (inserted_of pieces) (λ vs. string_of (made || has_parts vs) (option_map (λ t. front ++ t) (joined (texts_of pieces) vs)))

  pub string_begins : (pieces : List Piece) → with_values p go (inserted_of pieces) (operated (Template' (texts_of pieces))) ≡ string_rest false [] pieces
  string_begins pieces = ap (with_values p go (inserted_of pieces)) (fun_ext (λ vs. ap (string_of (has_parts vs)) (behind_none (joined (texts_of pieces) vs))))

  pub string_ends : (made : Bool) (front : List ℕ) → string_rest made front [] ≡ string_of made (Some front)
  string_ends true front = ap (λ t. string_of true (Some t)) (append-nil front)
  string_ends false front = ap (λ t. string_of false (Some t)) (append-nil front)

  behind_text : (made : Bool) (front text : List ℕ) (rest : List Piece) → string_rest made front (Text' text ∷ rest) ≡ string_rest made (front ++ text) rest
  behind_text made front text rest = ap (with_values p go (inserted_of rest)) (fun_ext (λ vs. ap (string_of (made || has_parts vs)) (behind_both front text (joined (texts_of rest) vs))))

  behind_part : (made : Bool) (front : List ℕ) (t : Tree) (rest : List Piece) → string_rest made front (Inserted' t ∷ rest) ≡ (go t >>= (λ v. string_rest true (front ++ text_of_value v) rest))
  behind_part made front t rest = ap (λ k. go t >>= k) (fun_ext (λ v. ap (with_values p go (inserted_of rest)) (fun_ext (λ vs. at made (joined (texts_of rest) vs) (text_of_value v))))) where
    at : (b : Bool) (o : Option (List ℕ)) (text : List ℕ) → string_of (b || true) (option_map (λ t. front ++ t) (option_map (λ t. text ++ t) o)) ≡ string_of true (option_map (λ t. (front ++ text) ++ t) o)
    at true o text = ap (string_of true) (behind_both front text o)
    at false o text = ap (string_of true) (behind_both front text o)

  past_over : (a b : List ℕ) (rest : List Piece) → most_text < length a → most_text < length b → string_rest true a rest ≡ string_rest true b rest
  past_over a b rest h k = ap (with_values p go (inserted_of rest)) (fun_ext (λ vs. at (joined (texts_of rest) vs))) where
    at : (o : Option (List ℕ)) → string_of true (option_map (λ t. a ++ t) o) ≡ string_of true (option_map (λ t. b ++ t) o)
    at None = refl
    at (Some t) = both_over (a ++ t) (b ++ t) (longer a t h) (longer b t k)

  -- what is inserted
  pub inserted_same : (front text new : List ℕ) (rest : List Piece) → Inserts front text new → string_rest true (front ++ text) rest ≡ string_rest true new rest
  inserted_same front text new rest (inl e) = ap (λ t. string_rest true t rest) (sym e)
  inserted_same front text new rest (inr h) = past_over (front ++ text) front rest (longer front text h.0) h.0 ∙ ap (λ t. string_rest true t rest) (sym h.1)

  module _ (uses : ℕ → Named) where
    -- one text of a string, then what stands behind it
    pub text_next : (made : Bool) (front : List ℕ) (xs : List StringPart) (i : ℕ) (x : StringPart) (text : List ℕ) → i < length xs → x ≡ get_or xs i x → x ≡ part.Text text → string_rest made front (map (piece uses) (drop i xs)) ≡ string_rest made (front ++ text) (map (piece uses) (drop (i + 1) xs))
    text_next made front xs i x text h is kind =
        ap (λ l. string_rest made front (map (piece uses) l)) (drop_item xs i x h is)
        ∙ ap (λ y. string_rest made front (y ∷ map (piece uses) (drop (i + 1) xs))) (ap (piece uses) kind ∙ piece_text uses text)
        ∙ behind_text made front text (map (piece uses) (drop (i + 1) xs))

    -- one part
    pub part_next : (made : Bool) (front : List ℕ) (xs : List StringPart) (i : ℕ) (x : StringPart) (e : Expr) → i < length xs → x ≡ get_or xs i x → x ≡ part.Inserted e → string_rest made front (map (piece uses) (drop i xs)) ≡ (go (expr_tree uses e) >>= (λ v. string_rest true (front ++ text_of_value v) (map (piece uses) (drop (i + 1) xs))))
    part_next made front xs i x e h is kind =
        ap (λ l. string_rest made front (map (piece uses) l)) (drop_item xs i x h is)
        ∙ ap (λ y. string_rest made front (y ∷ map (piece uses) (drop (i + 1) xs))) (ap (piece uses) kind ∙ piece_inserted uses e)
        ∙ behind_part made front (expr_tree uses e) (map (piece uses) (drop (i + 1) xs))
