-- No token but the last is the end of the file.
use Rattle.std.proofs.Common.{◌≡◌, ℕ, Bool, true, false, not, ◌&&◌, ◌==◌, if◌then◌else◌, List, [], ◌∷◌, ◌++◌, take, drop, codes, Option, Some, None, option_map, refl, sym, inl, inr, subst}
use Rattle.std.proofs.lemmas.Bool.{cases_Bool, and_parts, and_from}
use Rattle.std.specs.List.{list_all}
use Rattle.kt_tree.specs.declared.token.Kind.{Kind}
use Rattle.kt_tree.specs.declared.token.Kind.TheVariants.{This, ExprPart, Close, AsSafe}
use Rattle.kt_tree.specs.declared.token.Token.{Token}
use Rattle.kt_tree.specs.Brackets.{Bracket, in_string}
use Rattle.kt_tree.specs.Characters.{begins_name, continues_name, is_digit, is_space, is_line_end}
use Rattle.kt_tree.specs.Integers.{integer, bars_integer}
use Rattle.kt_tree.specs.Lexemes.{Lexeme, fixed, name, return_at, number, piece, name_part, same, find, keywords, operators, keyword_of, operator_of}
use Rattle.kt_tree.specs.Longest.{token_at}
use Rattle.kt_tree.specs.Moves.{Move, skip, take as takes, stop, unclosed, bad, front_move, string_move, next_move, skip_comment, take_or, comment_end}
use Rattle.kt_tree.specs.Numbering.{kind_of}
use Rattle.kt_tree.specs.Strings.{begins_part, string_lexeme, part_lexeme, word_part, text_value}
use Rattle.kt_tree.specs.Text.{first, after_first}
use Rattle.kt_tree.specs.TokenLists.{is_end, ends_once}
use Rattle.kt_tree.specs.Words.{is_word, is_label, is_word_operator, lexeme, word_lexeme, operator_lexeme, operator_before, integer_lexeme, keyword_or_name}
use Rattle.kt_lex.specs.Faults.{is_inner}
use Rattle.kt_lex.proofs.Longest.{token_at-is}

-- the token is the end of the file
abbrev pub is_last : Lexeme → Bool
is_last (fixed kind) = is_end kind
is_last l = false

-- the kind, if there is one, is not the end of the file
abbrev InnerKind : Option Kind → Type 0
InnerKind None = Unit {0}
InnerKind (Some k) = is_end k ≡ false

-- the token, if there is one, is not the end of the file
abbrev Inner : Option Lexeme → Type 0
Inner None = Unit {0}
Inner (Some l) = is_last l ≡ false

-- a test whose negation is true is false
not-true : (b : Bool) → not b ≡ true → b ≡ false
not-true true h = sym h
not-true false h = refl

-- no row of a table is, if that is tested of all
find-inner : (rows : List (List ℕ × Kind)) (word : List ℕ) → list_all (λ row. not (is_end row.1)) rows ≡ true → InnerKind (find rows word)
find-inner [] word h = tt
find-inner (row ∷ rows) word h =
    let parts = and_parts (not (is_end row.1)) (list_all (λ r. not (is_end r.1)) rows) h in
    elim (cases_Bool (same row.0 word)) [
      | inl hit ↦ rw hit (not-true (is_end row.1) parts.0)
      | inr miss ↦ rw miss (find-inner rows word parts.1)
    ]

-- no keyword is
keyword-inner : (word : List ℕ) → InnerKind (keyword_of word)
unfolding keyword_of
keyword-inner word = find-inner keywords word refl

-- no operator is
operator-inner : (word : List ℕ) → InnerKind (operator_of word)
unfolding operator_of
operator-inner word = find-inner operators word refl

-- neither branch of a choice is
either : (b : Bool) (x y : Option Lexeme) → Inner x → Inner y → Inner (if b then x else y)
either true x y p q = p
either false x y p q = q

-- no keyword or name is
word-inner : (o : Option Kind) (word : List ℕ) → InnerKind o → Inner (Some (keyword_or_name o word))
word-inner None word h = refl
word-inner (Some k) word h = h

-- no operator before a text is
before-inner : (o : Option Kind) (after : List ℕ) → InnerKind o → Inner (operator_before o after)
before-inner None after h = tt
before-inner (Some k) after h = either (is_word_operator k && continues_name (first after)) None (Some (fixed k)) tt h

-- no integer is
number-inner : (o : Option ℕ) → Inner (option_map number o)
number-inner None = tt
number-inner (Some n) = refl

-- no piece of a string is
piece-inner : (o : Option (List ℕ)) → Inner (option_map piece o)
piece-inner None = tt
piece-inner (Some v) = refl

-- no name in a string is
part-inner : (o : Option Kind) (word : List ℕ) → Inner (word_part o word)
part-inner None word = refl
part-inner (Some This) word = refl
part-inner (Some k) word = tt

-- no label is
return-inner : (word after : List ℕ) → Inner (if same (take 7 word) (codes "return@") && is_label (drop 7 word) after then Some (return_at (drop 7 word)) else None)
return-inner word after = either (same (take 7 word) (codes "return@") && is_label (drop 7 word) after) (Some (return_at (drop 7 word))) None refl tt

-- `as?` isn't
safe-inner : (word : List ℕ) (o : Option Lexeme) → Inner o → Inner (if same word (codes "as?") then Some (fixed AsSafe) else o)
safe-inner word o h = either (same word (codes "as?")) (Some (fixed AsSafe)) o refl h

-- no word is
word_lexeme-inner : (word after : List ℕ) → Inner (word_lexeme word after)
word_lexeme-inner word after =
    either (is_word word) (Some (keyword_or_name (keyword_of word) word))
    (if same word (codes "as?") then Some (fixed AsSafe) else if same (take 7 word) (codes "return@") && is_label (drop 7 word) after then Some (return_at (drop 7 word)) else None)
    (word-inner (keyword_of word) word (keyword-inner word)) (safe-inner word _ (return-inner word after))

-- no integer before a text is
integer_lexeme-inner : (word after : List ℕ) → Inner (integer_lexeme word after)
integer_lexeme-inner word after = either (bars_integer after) None (option_map number (integer word)) tt (number-inner (integer word))

-- no token outside strings is
lexeme-inner : (word after : List ℕ) → Inner (lexeme word after)
lexeme-inner word after =
    either (begins_name (first word)) (word_lexeme word after) (if is_digit (first word) then integer_lexeme word after else operator_lexeme word after)
    (word_lexeme-inner word after)
    (either (is_digit (first word)) (integer_lexeme word after) (operator_lexeme word after) (integer_lexeme-inner word after) (before-inner (operator_of word) after (operator-inner word)))

-- no part of a string is
part_lexeme-inner : (word after : List ℕ) → Inner (part_lexeme word after)
part_lexeme-inner word after =
    either (same word (codes "{")) (Some (fixed ExprPart)) (if is_word word && not (continues_name (first after)) then word_part (keyword_of word) word else None) refl
    (either (is_word word && not (continues_name (first after))) (word_part (keyword_of word) word) None (part-inner (keyword_of word) word) tt)

-- the closing quote isn't
close-inner : (cs : List ℕ) → Inner (if same cs [] then Some (fixed Close) else None)
close-inner cs = either (same cs []) (Some (fixed Close)) None refl tt

-- no token within a string is
string_lexeme-inner : (word after : List ℕ) → Inner (string_lexeme word after)
string_lexeme-inner [] after = tt
string_lexeme-inner (c ∷ cs) after =
    either (c == 34) (if same cs [] then Some (fixed Close) else None)
    (if c == 36 && begins_part (cs ++ after) then part_lexeme cs after else option_map piece (text_value (c ∷ cs) after))
    (close-inner cs)
    (either (c == 36 && begins_part (cs ++ after)) (part_lexeme cs after) (option_map piece (text_value (c ∷ cs) after)) (part_lexeme-inner cs after) (piece-inner (text_value (c ∷ cs) after)))

-- what a move takes
abbrev pub MoveInner : Move → Type 0
MoveInner (skip line rest) = Unit {0}
MoveInner (takes l rest) = is_last l ≡ false
MoveInner stop = Unit {0}
MoveInner unclosed = Unit {0}
MoveInner bad = Unit {0}

-- neither branch of a choice takes the end of the file
either_move : (b : Bool) (x y : Move) → MoveInner x → MoveInner y → MoveInner (if b then x else y)
either_move true x y p q = p
either_move false x y p q = q

-- a move that takes the longest token doesn't
taken : (f : List ℕ → List ℕ → Option Lexeme) → ((word after : List ℕ) → Inner (f word after)) → (text : List ℕ) (o : Option (Lexeme × List ℕ)) → token_at f text ≡ o → MoveInner (take_or bad o)
taken f inner text None e = tt
taken f inner text (Some p) e =
    let is = token_at-is f text p.0 p.1 e in
    subst Inner is.token (inner is.word p.1)

-- a comment doesn't
comment-inner : (o : Option (List ℕ)) → MoveInner (skip_comment o)
comment-inner None = tt
comment-inner (Some rest) = tt

-- nor does a move that takes the longest word
word_move-inner : (cs : List ℕ) → MoveInner (take_or bad (token_at lexeme cs))
word_move-inner cs = taken lexeme lexeme-inner cs (token_at lexeme cs) refl

-- no move outside strings does
front_move-inner : (cs : List ℕ) → MoveInner (front_move cs)
unfolding front_move
front_move-inner [] = tt
front_move-inner (c ∷ cs) =
    elim (cases_Bool (is_space c)) [
      | inl space ↦ rw space tt
      | inr solid ↦
          elim (cases_Bool (is_line_end c)) [
            | inl line ↦ rw (solid, line) tt
            | inr inside ↦
                elim (cases_Bool (c == 47 && first cs == 47)) [
                  | inl short ↦ rw (solid, inside, short) tt
                  | inr other ↦
                      elim (cases_Bool (c == 47 && first cs == 42)) [
                        | inl long ↦ rw (solid, inside, other, long) (comment-inner (comment_end 0 (after_first cs)))
                        | inr token ↦ rw (solid, inside, other, token) (word_move-inner (c ∷ cs))
                      ]
                ]
          ]
    ]

-- no move within a string does
string_move-inner : (cs : List ℕ) → MoveInner (string_move cs)
unfolding string_move
string_move-inner [] = tt
string_move-inner (c ∷ cs) =
    either_move (is_line_end c) unclosed (take_or bad (token_at string_lexeme (c ∷ cs))) tt (taken string_lexeme string_lexeme-inner (c ∷ cs) (token_at string_lexeme (c ∷ cs)) refl)

-- no move does
pub next_move-inner : (stack : List Bracket) (cs : List ℕ) → MoveInner (next_move stack cs)
next_move-inner stack cs = either_move (in_string stack) (string_move cs) (front_move cs) (string_move-inner cs) (front_move-inner cs)

-- a number for the name doesn't make a token the end
kind_of-inner : (names : List (List ℕ)) (l : Lexeme) → is_last l ≡ false → is_end (kind_of names l) ≡ false
kind_of-inner names (fixed kind) h = h
kind_of-inner names (name word) h = refl
kind_of-inner names (return_at word) h = refl
kind_of-inner names (number n) h = refl
kind_of-inner names (piece v) h = refl
kind_of-inner names (name_part word) h = refl

-- one more inner token
pub inner-push : (list : List Token) (t : Token) (names : List (List ℕ)) (l : Lexeme) → list_all is_inner list ≡ true → t.kind ≡ kind_of names l → is_last l ≡ false → list_all is_inner (list ++ t ∷ []) ≡ true
inner-push [] t names l all kind inner = rw (kind, kind_of-inner names l inner) refl
inner-push (u ∷ list) t names l all kind inner =
    let parts = and_parts (is_inner u) (list_all is_inner list) all in
    and_from (is_inner u) (list_all is_inner (list ++ t ∷ [])) parts.0 (inner-push list t names l parts.1 kind inner)

-- inner tokens with an end end once
pub ends_once-push : (list : List Token) (t : Token) → list_all is_inner list ≡ true → is_end t.kind ≡ true → ends_once (list ++ t ∷ []) ≡ true
ends_once-push [] t all end = end
ends_once-push (u ∷ []) t all end =
    let parts = and_parts (is_inner u) true all in
    and_from (is_inner u) (is_end t.kind) parts.0 end
ends_once-push (u ∷ v ∷ list) t all end =
    let parts = and_parts (is_inner u) (list_all is_inner (v ∷ list)) all in
    and_from (is_inner u) (ends_once (v ∷ list ++ t ∷ [])) parts.0 (ends_once-push (v ∷ list) t parts.1 end)
