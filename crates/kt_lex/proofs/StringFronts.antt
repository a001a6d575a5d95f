-- Which fronts of a text within a string are tokens.
use Rattle.std.proofs.Common.{◌≡◌, ℕ, zero, suc, ◌<◌, ◌≤◌, true, false, not, ◌&&◌, ◌==◌, codes, List, [], ◌∷◌, ◌++◌, length, take, drop, Option, Some, None, option_map, refl, sym, ap, ap₂, ◌∙◌, inl, inr, arith, lit<, length-append, subst}
use Rattle.std.proofs.lemmas.Bool.{cases_Bool, cases_order, and_parts, and_right, or_right, cases_eq, eqb-true, true≢false}
use Rattle.std.proofs.lemmas.List.{take-append-drop, take_at, drop_at}
use Rattle.std.specs.List.{prefix_len}
use Rattle.kt_tree.specs.declared.token.Kind.{Kind}
use Rattle.kt_tree.specs.declared.token.Kind.TheVariants.{This, ExprPart, Close}
use Rattle.kt_tree.specs.Characters.{begins_name, continues_name, is_line_end}
use Rattle.kt_tree.specs.Lexemes.{Lexeme, fixed, piece, same, keyword_of}
use Rattle.kt_tree.specs.Longest.{token_at}
use Rattle.kt_tree.specs.Moves.{Move, take as takes, bad, take_or, string_move}
use Rattle.kt_tree.specs.Strings.{begins_part, text_value, part_lexeme, word_part, string_lexeme}
use Rattle.kt_tree.specs.Text.{first, run, after_run}
use Rattle.kt_tree.specs.Words.{is_word}
use Rattle.kt_lex.specs.Units.{unit, IsPieceMove, word_move, part_move, AreUnits}
use Rattle.kt_lex.proofs.Fronts.{prefix_len-le, after_run-stops, inside_run, is_word-past, is_word-begins}
use Rattle.kt_lex.proofs.Longest.{TokenAt, longest-some, longest-none}
use Rattle.kt_lex.proofs.NameCharacters.{begins_name-ascii, continues_name-ascii}
use Rattle.kt_lex.proofs.StringUnits.{no_text, IsPiece, units-piece, some_front}

-- the closing quote

-- no longer front is a quote
longer_close : (cs : List ℕ) (m : ℕ) → 1 < m → m ≤ length (34 ∷ cs) → string_lexeme (take m (34 ∷ cs)) (drop m (34 ∷ cs)) ≡ None
longer_close cs zero lo hi = absurd (omega arith)
longer_close cs (suc zero) lo hi = absurd (omega arith)
longer_close [] (suc (suc m)) lo hi = absurd (omega arith)
longer_close (d ∷ cs) (suc (suc m)) lo hi = refl

-- the quote is the longest token at a quote
token_at-quote : (cs : List ℕ) → token_at string_lexeme (34 ∷ cs) ≡ Some (fixed Close, cs)
token_at-quote cs = ap (TokenAt (34 ∷ cs)) (longest-some string_lexeme (34 ∷ cs) 1 (fixed Close) (omega arith) (omega arith) refl (λ m lo hi. longer_close cs m lo hi))

-- the same of a character that is a quote
pub token_at-close : (c : ℕ) (cs : List ℕ) → (c == 34) ≡ true → token_at string_lexeme (c ∷ cs) ≡ Some (fixed Close, cs)
token_at-close c cs e = ap (λ d. token_at string_lexeme (d ∷ cs)) (eqb-true c 34 e) ∙ token_at-quote cs

-- pieces

-- where no quote and no part stands, a front is a text or nothing
piece_front : (c : ℕ) (cs : List ℕ) (m : ℕ) → (c == 34) ≡ false → (c == 36 && begins_part cs) ≡ false → 0 < m
    → string_lexeme (take m (c ∷ cs)) (drop m (c ∷ cs)) ≡ option_map piece (text_value (take m (c ∷ cs)) (drop m (c ∷ cs)))
piece_front c cs zero q p lo = absurd (omega arith)
piece_front c cs (suc m) q p lo =
    let whole : take m cs ++ drop m cs ≡ cs = take-append-drop m cs in
    let other : (c == 36 && begins_part (take m cs ++ drop m cs)) ≡ false = ap (λ t. c == 36 && begins_part t) whole ∙ p in
    rw (q, other) refl

-- the longest token is the longest text
pub token_at-piece : (c : ℕ) (cs v rest : List ℕ) → (c == 34) ≡ false → (c == 36 && begins_part cs) ≡ false → (p : IsPiece (c ∷ cs) v rest) → 0 < length p.front
    → token_at string_lexeme (c ∷ cs) ≡ Some (piece v, rest)
token_at-piece c cs v rest q other p some =
    let text = c ∷ cs in
    let n = length p.front in
    let within : length p.front ≤ length (c ∷ cs) = omega (arith, ap length p.parts, length-append p.front rest) in
    let front : take (length p.front) (c ∷ cs) ≡ p.front = ap (take (length p.front)) p.parts ∙ take_at p.front rest (length p.front) refl in
    let back : drop (length p.front) (c ∷ cs) ≡ rest = ap (drop (length p.front)) p.parts ∙ drop_at p.front rest (length p.front) refl in
    let here : string_lexeme (take (length p.front) (c ∷ cs)) (drop (length p.front) (c ∷ cs)) ≡ Some (piece v) =
    piece_front c cs (length p.front) q other some ∙ ap (option_map piece) (ap₂ text_value front back ∙ p.value) in
    ap (TokenAt (c ∷ cs)) (longest-some string_lexeme (c ∷ cs) (length p.front) (piece v) some within here
    (λ m lo hi. piece_front c cs m q other (omega arith) ∙ ap (option_map piece) (p.longer m lo hi)))
    ∙ ap (λ t. Some (piece v, t)) back

-- where no unit stands there is no token
pub token_at-bad : (c : ℕ) (cs : List ℕ) → (c == 34) ≡ false → (c == 36 && begins_part cs) ≡ false → unit (c ∷ cs) ≡ None → token_at string_lexeme (c ∷ cs) ≡ None
token_at-bad c cs q other stop =
    ap (TokenAt (c ∷ cs)) (longest-none string_lexeme (c ∷ cs)
    (λ m lo hi. piece_front c cs m q other lo ∙ ap (option_map piece) (no_text (c ∷ cs) m stop lo hi)))

-- parts

-- where a part begins, a front is a part or nothing
part_front : (cs : List ℕ) (m : ℕ) → begins_part cs ≡ true → string_lexeme (36 ∷ take m cs) (drop m cs) ≡ part_lexeme (take m cs) (drop m cs)
part_front cs m h =
    let begins : begins_part (take m cs ++ drop m cs) ≡ true = ap begins_part (take-append-drop m cs) ∙ h in
    rw begins refl

-- no longer front is `${`
longer_expr : (cs : List ℕ) (m : ℕ) → begins_part (123 ∷ cs) ≡ true → 2 < m → m ≤ length (36 ∷ 123 ∷ cs) → string_lexeme (take m (36 ∷ 123 ∷ cs)) (drop m (36 ∷ 123 ∷ cs)) ≡ None
longer_expr cs zero h lo hi = absurd (omega arith)
longer_expr cs (suc zero) h lo hi = absurd (omega arith)
longer_expr cs (suc (suc zero)) h lo hi = absurd (omega arith)
longer_expr [] (suc (suc (suc m))) h lo hi = absurd (omega arith)
longer_expr (d ∷ cs) (suc (suc (suc m))) h lo hi =
    let brace : begins_name 123 ≡ false = begins_name-ascii 123 (lit< tt) in
    part_front (123 ∷ d ∷ cs) (suc (suc m)) h ∙ rw brace refl

-- `${` is the longest token there
token_at-expr : (cs : List ℕ) → token_at string_lexeme (36 ∷ 123 ∷ cs) ≡ Some (fixed ExprPart, cs)
token_at-expr cs =
    ap (TokenAt (36 ∷ 123 ∷ cs)) (longest-some string_lexeme (36 ∷ 123 ∷ cs) 2 (fixed ExprPart) (omega arith) (omega arith) refl
    (λ m lo hi. longer_expr cs m refl lo hi))

-- no front of what begins as an identifier is `{`
no_brace : (cs : List ℕ) (m : ℕ) → begins_name (first cs) ≡ true → same (take m cs) (codes "{") ≡ false
no_brace cs zero h = refl
no_brace [] (suc m) h = refl
no_brace (c ∷ cs) (suc m) h =
    elim (cases_Bool (c == 123)) [
      | inl hit ↦
          let brace : begins_name 123 ≡ false = begins_name-ascii 123 (lit< tt) in
          absurd (true≢false (sym h ∙ ap begins_name (eqb-true c 123 hit) ∙ brace))
      | inr miss ↦ rw miss refl
    ]

-- a shorter front of a word is no part
shorter_part : (cs : List ℕ) (m : ℕ) → begins_name (first cs) ≡ true → m < prefix_len continues_name cs → part_lexeme (take m cs) (drop m cs) ≡ None
shorter_part cs m h less =
    let (d, ds, e, pass) = inside_run continues_name cs m less in
    let bars : not (continues_name (first (drop m cs))) ≡ false = ap (λ t. not (continues_name (first t))) e ∙ ap not pass in
    let no : (is_word (take m cs) && not (continues_name (first (drop m cs)))) ≡ false = and_right (is_word (take m cs)) (not (continues_name (first (drop m cs)))) bars in
    rw (no_brace cs m h, no) refl

-- nor is a longer one
longer_part : (cs : List ℕ) (m : ℕ) → begins_name (first cs) ≡ true → prefix_len continues_name cs < m → m ≤ length cs → part_lexeme (take m cs) (drop m cs) ≡ None
longer_part cs m h lo hi = rw (no_brace cs m h, is_word-past cs m lo hi) refl

-- the whole word is a part, if it is a name or `this`
whole_part : (cs : List ℕ) → begins_name (first cs) ≡ true → part_lexeme (run continues_name cs) (after_run continues_name cs) ≡ word_part (keyword_of (run continues_name cs)) (run continues_name cs)
whole_part cs h =
    let stops : continues_name (first (after_run continues_name cs)) ≡ false = after_run-stops continues_name (continues_name-ascii 0 (lit< tt)) cs in
    rw (no_brace cs (prefix_len continues_name cs) h, is_word-begins cs h, stops) refl

-- what begins an identifier begins a part
begins-part : (cs : List ℕ) → begins_name (first cs) ≡ true → begins_part cs ≡ true
begins-part cs h = or_right (first cs == 123) (begins_name (first cs)) h

-- no other front is one
part_fronts : (cs : List ℕ) (m : ℕ) → begins_name (first cs) ≡ true → 0 < m → m ≤ length (36 ∷ cs) → (m ≡ suc (prefix_len continues_name cs) → ⊥)
    → string_lexeme (take m (36 ∷ cs)) (drop m (36 ∷ cs)) ≡ None
part_fronts cs zero h lo hi ne = absurd (omega arith)
part_fronts cs (suc m) h lo hi ne =
    part_front cs m (begins-part cs h) ∙
    elim (cases_order m (prefix_len continues_name cs)) [
      | inl here ↦ absurd (ne (ap suc here))
      | inr (inl less) ↦ shorter_part cs m h less
      | inr (inr more) ↦ longer_part cs m h more (omega arith)
    ]

-- the longest token is the whole word
part_cases : (cs : List ℕ) (o : Option Lexeme) → begins_name (first cs) ≡ true → word_part (keyword_of (run continues_name cs)) (run continues_name cs) ≡ o
    → token_at string_lexeme (36 ∷ cs) ≡ option_map (λ l. (l, after_run continues_name cs)) o
part_cases cs None h e =
    let k = prefix_len continues_name cs in
    ap (TokenAt (36 ∷ cs)) (longest-none string_lexeme (36 ∷ cs)
    (λ m lo hi. elim (cases_eq m (suc k)) [
      | inl here ↦ ap (λ n. string_lexeme (take n (36 ∷ cs)) (drop n (36 ∷ cs))) here ∙ part_front cs k (begins-part cs h) ∙ whole_part cs h ∙ e
      | inr ne ↦ part_fronts cs m h lo hi ne
    ]))
part_cases cs (Some l) h e =
    let k = prefix_len continues_name cs in
    let bound = prefix_len-le continues_name cs in
    ap (TokenAt (36 ∷ cs)) (longest-some string_lexeme (36 ∷ cs) (suc (prefix_len continues_name cs)) l (omega arith) (omega arith)
    (part_front cs k (begins-part cs h) ∙ whole_part cs h ∙ e)
    (λ m lo hi. part_fronts cs m h (omega arith) hi (λ same_m. omega arith)))

-- the code's choice by the word
word_move-part : (o : Option Kind) (word rest : List ℕ) → take_or bad (option_map (λ l. (l, rest)) (word_part o word)) ≡ word_move o word rest
word_move-part None word rest = refl
word_move-part (Some This) word rest = refl
word_move-part (Some k) word rest = refl

-- the code's move at `${`
expr_move : (cs : List ℕ) → (first cs == 123) ≡ true → take_or bad (token_at string_lexeme (36 ∷ cs)) ≡ part_move cs
expr_move [] h = absurd (true≢false (sym h))
expr_move (c ∷ cs) h =
    rw h (ap (λ d. take_or bad (token_at string_lexeme (36 ∷ d ∷ cs))) (eqb-true c 123 h) ∙ ap (take_or bad) (token_at-expr cs))

-- the code's move at a part
pub token_at-part : (c : ℕ) (cs : List ℕ) → (c == 36) ≡ true → begins_part cs ≡ true → take_or bad (token_at string_lexeme (c ∷ cs)) ≡ part_move cs
token_at-part c cs dollar h =
    ap (λ d. take_or bad (token_at string_lexeme (d ∷ cs))) (eqb-true c 36 dollar)
    ∙ elim (cases_Bool (first cs == 123)) [
      | inl hit ↦ expr_move cs hit
      | inr miss ↦
          let begins : begins_name (first cs) ≡ true = rw miss at h in
          rw miss (ap (take_or bad) (part_cases cs (word_part (keyword_of (run continues_name cs)) (run continues_name cs)) begins refl)
          ∙ word_move-part (keyword_of (run continues_name cs)) (run continues_name cs) (after_run continues_name cs))
    ]

-- moves

-- the move at a text
pub piece_move-is : (text : List ℕ) (c : ℕ) (cs : List ℕ) (u : ℕ × List ℕ) (m : Move) → text ≡ c ∷ cs → is_line_end c ≡ false → (c == 34) ≡ false → (c == 36 && begins_part cs) ≡ false
    → unit text ≡ Some u → IsPieceMove text m → m ≡ string_move text
unfolding string_move
piece_move-is text c cs u m e line q other some is =
    let whole : AreUnits (c ∷ cs) is.value is.rest = subst (λ t. AreUnits t is.value is.rest) e is.units in
    let p = units-piece whole is.stops in
    let front = some_front (c ∷ cs) is.rest u p.front (ap unit (sym e) ∙ some) is.stops p.parts in
    let here : take_or bad (token_at string_lexeme (c ∷ cs)) ≡ takes (piece is.value) is.rest = ap (take_or bad) (token_at-piece c cs is.value is.rest q other p front) in
    let there : string_move (c ∷ cs) ≡ takes (piece is.value) is.rest = rw line here in
    is.is ∙ sym there ∙ ap string_move (sym e)

-- the move at a quote
pub close_move-is : (text : List ℕ) (c : ℕ) (cs : List ℕ) → text ≡ c ∷ cs → is_line_end c ≡ false → (c == 34) ≡ true → takes (fixed Close) cs ≡ string_move text
unfolding string_move
close_move-is text c cs e line q =
    let there : string_move (c ∷ cs) ≡ takes (fixed Close) cs = rw line (ap (take_or bad) (token_at-close c cs q)) in
    sym there ∙ ap string_move (sym e)

-- the move at a part
pub part_move-is : (text : List ℕ) (c : ℕ) (cs : List ℕ) → text ≡ c ∷ cs → is_line_end c ≡ false → (c == 36 && begins_part cs) ≡ true → part_move cs ≡ string_move text
unfolding string_move
part_move-is text c cs e line h =
    let parts = and_parts (c == 36) (begins_part cs) h in
    let there : string_move (c ∷ cs) ≡ part_move cs = rw line (token_at-part c cs parts.0 parts.1) in
    sym there ∙ ap string_move (sym e)

-- the move where nothing stands
pub bad_move-is : (text : List ℕ) (c : ℕ) (cs : List ℕ) → text ≡ c ∷ cs → is_line_end c ≡ false → (c == 34) ≡ false → (c == 36 && begins_part cs) ≡ false → unit text ≡ None → bad ≡ string_move text
unfolding string_move
bad_move-is text c cs e line q other stop =
    let there : string_move (c ∷ cs) ≡ bad = rw line (ap (take_or bad) (token_at-bad c cs q other (ap unit (sym e) ∙ stop))) in
    sym there ∙ ap string_move (sym e)
