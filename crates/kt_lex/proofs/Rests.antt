-- What follows a move is shorter.
use Rattle.std.proofs.Common.{◌≡◌, ℕ, zero, suc, ◌<◌, ◌≤◌, ◌&&◌, ◌==◌, List, [], ◌∷◌, ◌++◌, length, take, drop, Option, Some, None, option_map, refl, sym, ap, ◌∙◌, inl, inr, arith, le_refl, length-append, subst}
use Rattle.std.proofs.lemmas.Bool.{cases_Bool}
use Rattle.std.proofs.lemmas.List.{take-append-drop, length-take-le}
use Rattle.std.proofs.lemmas.Str.{encodes-chars, encodes-append, length-le-encodes}
use lib.Utf8.{encodes}
use Rattle.std.specs.List.{prefix_len}
use Rattle.std.specs.Str.{chars, IsUtf8}
use Rattle.kt_tree.specs.Brackets.{Bracket, in_string}
use Rattle.kt_tree.specs.Characters.{is_space, is_line_end}
use Rattle.kt_tree.specs.Lexemes.{Lexeme}
use Rattle.kt_tree.specs.Longest.{or_shorter, longest_from, longest, token_at}
use Rattle.kt_tree.specs.Moves.{Move, skip, take as takes, stop, unclosed, bad, front_move, string_move, next_move, comment_end, is_in_line, skip_comment, take_or}
use Rattle.kt_tree.specs.Strings.{string_lexeme}
use Rattle.kt_tree.specs.Text.{first, after_first, width, without_mark}
use Rattle.kt_tree.specs.Words.{lexeme}

-- the second text is the first without some characters at the front
pub record IsRest (cs ds : List ℕ) : Type 0 where
  pub front : List ℕ
  pub parts : cs ≡ front ++ ds
  pub some : 0 < length front

-- without the first character
pub rest_of_one : (c : ℕ) (cs : List ℕ) → IsRest (c ∷ cs) cs
rest_of_one c cs = record { front = c ∷ []; parts = refl; some = omega arith }

-- a rest of a rest
pub rest_of_more : (c : ℕ) (cs ds : List ℕ) → IsRest cs ds → IsRest (c ∷ cs) ds
rest_of_more c cs ds r = record { front = c ∷ r.front; parts = ap (λ t. c ∷ t) r.parts; some = omega arith }

-- without the first character and some more
rest_of_drop : (c : ℕ) (cs : List ℕ) (n : ℕ) → IsRest (c ∷ cs) (drop n cs)
rest_of_drop c cs n = record { front = c ∷ take n cs; parts = ap (λ t. c ∷ t) (sym (take-append-drop n cs)); some = omega arith }

-- a rest is shorter, in characters and in bytes
pub rest-shorter : (cs ds : List ℕ) → IsRest cs ds → length ds < length cs
rest-shorter cs ds r = omega (arith, ap length r.parts, length-append r.front ds, r.some)

-- the width of a text is its length in bytes
pub width-chars : (s : List ℕ) → IsUtf8 s → width (chars s) ≡ length s
width-chars s utf8 = ap length (encodes-chars s utf8)

-- a rest has fewer bytes
pub rest-narrower : (s t : List ℕ) → IsUtf8 s → IsUtf8 t → IsRest (chars s) (chars t) → length t < length s
rest-narrower s t us ut r =
    let whole : length (encodes (chars s)) ≡ length (encodes r.front ++ encodes (chars t)) = ap length (ap encodes r.parts ∙ encodes-append r.front (chars t)) in
    omega (arith, whole, length-append (encodes r.front) (encodes (chars t)), length-le-encodes r.front, r.some, width-chars s us, width-chars t ut)

-- a front that is found has characters, and no more than there are
abbrev Bounded : List ℕ → Option (Lexeme × ℕ) → Type 0
Bounded text None = Unit {0}
Bounded text (Some p) = (0 < p.1) × (p.1 ≤ length text)

-- so has the one that is chosen
shorter_bounded : (o : Option Lexeme) (n : ℕ) (text : List ℕ) (found : Option (Lexeme × ℕ)) → suc n ≤ length text → Bounded text found → Bounded text (or_shorter o (suc n) found)
shorter_bounded None n text found h b = b
shorter_bounded (Some l) n text found h b = (omega arith, h)

-- so has the longest
longest_from-bounded : (f : List ℕ → List ℕ → Option Lexeme) (n : ℕ) (text : List ℕ) → n ≤ length text → Bounded text (longest_from f n text)
longest_from-bounded f zero text h = tt
longest_from-bounded f (suc n) text h = shorter_bounded (f (take (suc n) text) (drop (suc n) text)) n text (longest_from f n text) h (longest_from-bounded f n text (omega arith))

-- what a token leaves is a rest
abbrev TokenLeaves : List ℕ → Option (Lexeme × List ℕ) → Type 0
TokenLeaves cs None = Unit {0}
TokenLeaves cs (Some p) = IsRest cs p.1

-- a front that is found leaves a rest
token_leaves : (text : List ℕ) (o : Option (Lexeme × ℕ)) → Bounded text o → TokenLeaves text (option_map (λ p. (p.0, drop p.1 text)) o)
token_leaves text None h = tt
token_leaves text (Some p) h =
    record { front = take p.1 text; parts = sym (take-append-drop p.1 text); some = omega (arith, length-take-le p.1 text h.1, h.0) }

-- so does the longest token
token_at-leaves : (f : List ℕ → List ℕ → Option Lexeme) (text : List ℕ) → TokenLeaves text (token_at f text)
unfolding longest
token_at-leaves f text = token_leaves text (longest_from f (length text) text) (longest_from-bounded f (length text) text (le_refl (length text)))

-- so does a comment
pub comment_end-leaves : (n : ℕ) (cs ds : List ℕ) → comment_end n cs ≡ Some ds → IsRest cs ds
unfolding comment_end
comment_end-leaves n [] ds e = absurd (cc)
comment_end-leaves n (c ∷ []) ds e = absurd (cc)
comment_end-leaves zero (c ∷ d ∷ cs) ds e =
    elim (cases_Bool (c == 42 && d == 47)) [
      | inl closes ↦
          let here : Some cs ≡ Some ds = rw closes at e in
          let same : cs ≡ ds = cc in
          subst (IsRest (c ∷ d ∷ cs)) same (rest_of_more c (d ∷ cs) cs (rest_of_one d cs))
      | inr other ↦
          elim (cases_Bool (c == 47 && d == 42)) [
            | inl opens ↦ rest_of_more c (d ∷ cs) ds (rest_of_more d cs ds (comment_end-leaves 1 cs ds (rw (other, opens) at e)))
            | inr plain ↦ rest_of_more c (d ∷ cs) ds (comment_end-leaves zero (d ∷ cs) ds (rw (other, plain) at e))
          ]
    ]
comment_end-leaves (suc n) (c ∷ d ∷ cs) ds e =
    elim (cases_Bool (c == 42 && d == 47)) [
      | inl closes ↦ rest_of_more c (d ∷ cs) ds (rest_of_more d cs ds (comment_end-leaves n cs ds (rw closes at e)))
      | inr other ↦
          elim (cases_Bool (c == 47 && d == 42)) [
            | inl opens ↦ rest_of_more c (d ∷ cs) ds (rest_of_more d cs ds (comment_end-leaves (suc (suc n)) cs ds (rw (other, opens) at e)))
            | inr plain ↦ rest_of_more c (d ∷ cs) ds (comment_end-leaves (suc n) (d ∷ cs) ds (rw (other, plain) at e))
          ]
    ]

-- what a move leaves
abbrev pub MoveLeaves : List ℕ → Move → Type 0
MoveLeaves cs (skip line ds) = IsRest cs ds
MoveLeaves cs (takes l ds) = IsRest cs ds
MoveLeaves cs stop = Unit {0}
MoveLeaves cs unclosed = Unit {0}
MoveLeaves cs bad = Unit {0}

-- a move that takes a token leaves a rest
leaves_token : (cs : List ℕ) (o : Option (Lexeme × List ℕ)) → TokenLeaves cs o → MoveLeaves cs (take_or bad o)
leaves_token cs None h = tt
leaves_token cs (Some p) h = h

-- so does one that skips a comment
leaves_comment : (c : ℕ) (cs : List ℕ) (o : Option (List ℕ)) → comment_end 0 (after_first cs) ≡ o → MoveLeaves (c ∷ cs) (skip_comment o)
leaves_comment c cs None e = tt
leaves_comment c [] (Some ds) e = rest_of_more c [] ds (comment_end-leaves 0 [] ds e)
leaves_comment c (d ∷ cs) (Some ds) e = rest_of_more c (d ∷ cs) ds (rest_of_more d cs ds (comment_end-leaves 0 cs ds e))

-- so does each move outside strings
front_move-leaves : (cs : List ℕ) → MoveLeaves cs (front_move cs)
unfolding front_move
front_move-leaves [] = tt
front_move-leaves (c ∷ cs) =
    elim (cases_Bool (is_space c)) [
      | inl space ↦ rw space (rest_of_one c cs)
      | inr solid ↦
          elim (cases_Bool (is_line_end c)) [
            | inl line ↦ rw (solid, line) (rest_of_one c cs)
            | inr inside ↦
                elim (cases_Bool (c == 47 && first cs == 47)) [
                  | inl short ↦ rw (solid, inside, short) (rest_of_drop c cs (prefix_len is_in_line cs))
                  | inr other ↦
                      elim (cases_Bool (c == 47 && first cs == 42)) [
                        | inl long ↦ rw (solid, inside, other, long) (leaves_comment c cs (comment_end 0 (after_first cs)) refl)
                        | inr token ↦ rw (solid, inside, other, token) (leaves_token (c ∷ cs) (token_at lexeme (c ∷ cs)) (token_at-leaves lexeme (c ∷ cs)))
                      ]
                ]
          ]
    ]

-- so does each within a string
string_move-leaves : (cs : List ℕ) → MoveLeaves cs (string_move cs)
unfolding string_move
string_move-leaves [] = tt
string_move-leaves (c ∷ cs) =
    elim (cases_Bool (is_line_end c)) [
      | inl line ↦ rw line tt
      | inr inside ↦ rw inside (leaves_token (c ∷ cs) (token_at string_lexeme (c ∷ cs)) (token_at-leaves string_lexeme (c ∷ cs)))
    ]

-- so does each move
pub next_move-leaves : (stack : List Bracket) (cs : List ℕ) → MoveLeaves cs (next_move stack cs)
next_move-leaves stack cs =
    elim (cases_Bool (in_string stack)) [
      | inl within ↦ rw within (string_move-leaves cs)
      | inr outside ↦ rw outside (front_move-leaves cs)
    ]

-- without its first character a text is no wider
pub after_first-narrow : (cs : List ℕ) → width (after_first cs) ≤ width cs
after_first-narrow [] = le_refl 0
after_first-narrow (c ∷ cs) =
    let parts : width (c ∷ cs) ≡ length (encodes (c ∷ []) ++ encodes cs) = ap length (encodes-append (c ∷ []) cs) in
    omega (arith, parts, length-append (encodes (c ∷ [])) (encodes cs))

-- the mark is part of the text
pub without_mark-shorter : (cs : List ℕ) → length (without_mark cs) ≤ length cs
without_mark-shorter [] = le_refl 0
without_mark-shorter (c ∷ cs) =
    elim (cases_Bool (c == 0xFEFF)) [
      | inl mark ↦ rw mark (omega arith)
      | inr other ↦ rw other (le_refl (length (c ∷ cs)))
    ]
