-- What a move says of the text: blanks and comments, or the longest token.
use Rattle.std.proofs.Common.{◌≡◌, ℕ, suc, Bool, true, false, ◌&&◌, ◌||◌, ◌==◌, List, [], ◌∷◌, drop, Option, Some, None, refl, sym, ap, inl, inr, arith, subst}
use Rattle.std.proofs.lemmas.Bool.{cases_Bool, and_parts, eqb-true, false≢true}
use Rattle.std.specs.List.{prefix_len}
use Rattle.kt_tree.specs.Brackets.{Bracket, in_string}
use Rattle.kt_tree.specs.Characters.{is_space, is_line_end}
use Rattle.kt_tree.specs.Layout.{Blank, here, space, line_end, line_comment, comment, lexeme_in}
use Rattle.kt_tree.specs.Lexemes.{Lexeme}
use Rattle.kt_tree.specs.Longest.{token_at}
use Rattle.kt_tree.specs.Moves.{Move, skip, take, stop, unclosed, bad, front_move, string_move, next_move, comment_end, is_in_line, skip_comment, take_or}
use Rattle.kt_tree.specs.Strings.{string_lexeme}
use Rattle.kt_tree.specs.Text.{first, after_first, after_run}
use Rattle.kt_tree.specs.Words.{lexeme}
use Rattle.kt_lex.proofs.Longest.{TakesLongest, token_at-is}

-- blanks after blanks
pub Blank-trans : {a b c : List ℕ} {l m : Bool} → Blank a l b → Blank b m c → Blank a (l || m) c
Blank-trans here r = r
Blank-trans (space s b) r = space s (Blank-trans b r)
Blank-trans (line_end s b) r = line_end s (Blank-trans b r)
Blank-trans (line_comment b) r = line_comment (Blank-trans b r)
Blank-trans (comment e b) r = comment e (Blank-trans b r)

-- what the move is of the text, within a string or outside
abbrev pub MoveIs : Bool → List ℕ → Move → Type 0
MoveIs within cs (skip line ds) = (within ≡ false) × Blank cs line ds
MoveIs within cs (take l ds) = TakesLongest (lexeme_in within) cs l ds
MoveIs within cs stop = cs ≡ []
MoveIs within cs unclosed = Unit {0}
MoveIs within cs bad = Unit {0}

-- a token is the longest
word_is : (within : Bool) (cs : List ℕ) (o : Option (Lexeme × List ℕ)) → token_at (lexeme_in within) cs ≡ o → MoveIs within cs (take_or bad o)
word_is within cs None e = tt
word_is within cs (Some p) e = token_at-is (lexeme_in within) cs p.0 p.1 e

-- the second `/` stands in its line
after_slash : (cs : List ℕ) → after_run is_in_line (47 ∷ cs) ≡ after_run is_in_line cs
after_slash cs =
    let next : prefix_len is_in_line (47 ∷ cs) ≡ suc (prefix_len is_in_line cs) = omega arith in
    ap (λ n. drop n (47 ∷ cs)) next

-- a comment to the line's end is blank
line_is : (c : ℕ) (cs : List ℕ) → (c == 47) ≡ true → (first cs == 47) ≡ true → Blank (c ∷ cs) false (after_run is_in_line cs)
line_is c [] h k = absurd (false≢true k)
line_is c (d ∷ cs) h k =
    let here_is : Blank (47 ∷ 47 ∷ cs) false (after_run is_in_line (47 ∷ cs)) = subst (λ t. Blank (47 ∷ 47 ∷ cs) false t) (sym (after_slash cs)) (line_comment here) in
    subst (λ a. Blank (a ∷ d ∷ cs) false (after_run is_in_line (d ∷ cs))) (sym (eqb-true c 47 h))
    (subst (λ b. Blank (47 ∷ b ∷ cs) false (after_run is_in_line (b ∷ cs))) (sym (eqb-true d 47 k)) here_is)

-- a comment that has an end is blank
comment_is : (c : ℕ) (cs : List ℕ) (o : Option (List ℕ)) → (c == 47) ≡ true → (first cs == 42) ≡ true → comment_end 0 (after_first cs) ≡ o → MoveIs false (c ∷ cs) (skip_comment o)
comment_is c cs None h k e = tt
comment_is c [] (Some ds) h k e = absurd (false≢true k)
comment_is c (d ∷ cs) (Some ds) h k e =
    let here_is : Blank (47 ∷ 42 ∷ cs) false ds = comment e here in
    (refl, subst (λ a. Blank (a ∷ d ∷ cs) false ds) (sym (eqb-true c 47 h)) (subst (λ b. Blank (47 ∷ b ∷ cs) false ds) (sym (eqb-true d 42 k)) here_is))

-- the moves outside strings
front_is : (cs : List ℕ) → MoveIs false cs (front_move cs)
unfolding front_move
front_is [] = refl
front_is (c ∷ cs) =
    elim (cases_Bool (is_space c)) [
      | inl blank ↦ rw blank (refl, space blank here)
      | inr solid ↦
          elim (cases_Bool (is_line_end c)) [
            | inl line ↦ rw (solid, line) (refl, line_end line here)
            | inr inside ↦
                elim (cases_Bool (c == 47 && first cs == 47)) [
                  | inl short ↦ let parts = and_parts (c == 47) (first cs == 47) short in rw (solid, inside, short) (refl, line_is c cs parts.0 parts.1)
                  | inr other ↦
                      elim (cases_Bool (c == 47 && first cs == 42)) [
                        | inl long ↦ let parts = and_parts (c == 47) (first cs == 42) long in rw (solid, inside, other, long) (comment_is c cs (comment_end 0 (after_first cs)) parts.0 parts.1 refl)
                        | inr token ↦ rw (solid, inside, other, token) (word_is false (c ∷ cs) (token_at lexeme (c ∷ cs)) refl)
                      ]
                ]
          ]
    ]

-- the moves within a string
string_is : (cs : List ℕ) → MoveIs true cs (string_move cs)
unfolding string_move
string_is [] = tt
string_is (c ∷ cs) =
    elim (cases_Bool (is_line_end c)) [
      | inl line ↦ rw line tt
      | inr inside ↦ rw inside (word_is true (c ∷ cs) (token_at string_lexeme (c ∷ cs)) refl)
    ]

-- the moves, by whether a string is open
move_is : (stack : List Bracket) (cs : List ℕ) (b : Bool) → in_string stack ≡ b → MoveIs b cs (next_move stack cs)
move_is stack cs true e = rw e (string_is cs)
move_is stack cs false e = rw e (front_is cs)

-- what each move is of the text
pub next_move-is : (stack : List Bracket) (cs : List ℕ) → MoveIs (in_string stack) cs (next_move stack cs)
next_move-is stack cs = move_is stack cs (in_string stack) refl
