-- What the scanner has found so far.
use Rattle.std.proofs.Common.{◌≡◌, ℕ, ◌+◌, ◌≤◌, Bool, true, false, ◌&&◌, ◌||◌, List, [], ◌∷◌, ◌++◌, length, None, refl, sym, ap, ◌∙◌, arith, length-append, subst}
use Rattle.std.specs.List.{list_all}
use Rattle.kt_tree.specs.declared.token.Kind.TheVariants.{End}
use Rattle.kt_tree.specs.declared.token.Token.{Token}
use Rattle.kt_tree.specs.declared.token.Span.{Span}
use Rattle.kt_tree.specs.declared.tokens.Tokens.{Tokens}
use Rattle.kt_tree.specs.Brackets.{Bracket, brackets_after, counts_lines, open_quote}
use Rattle.kt_tree.specs.BuiltIn.{built_in}
use Rattle.kt_tree.specs.Lexemes.{Lexeme, fixed}
use Rattle.kt_tree.specs.Moves.{skip, take, stop, next_move}
use Rattle.kt_tree.specs.Numbering.{with_name, names_after, kind_of, token_of, numbered, HasTokens}
use Rattle.kt_tree.specs.Text.{place, without_mark}
use Rattle.kt_tree.specs.Tokens.{Lexed, lexed, outcome}
use Rattle.kt_lex.specs.Faults.{is_inner}
use Rattle.kt_lex.proofs.InnerTokens.{MoveInner, next_move-inner, inner-push}
use Rattle.kt_lex.proofs.Rests.{MoveLeaves, next_move-leaves, rest-shorter, without_mark-shorter}
use Rattle.kt_lex.proofs.TokenSteps.{in_front-nil, SoFar, after_skip, after_take, at_stop}

-- the names after one more token
pub names_after-push : (texts : List (List ℕ)) (ts : List Lexed) (t : Lexed) → names_after texts (ts ++ t ∷ []) ≡ with_name (names_after texts ts) t.lexeme
names_after-push texts [] t = refl
names_after-push texts (u ∷ ts) t = names_after-push (with_name texts u.lexeme) ts t

-- the tokens with one more
pub numbered-push : (texts : List (List ℕ)) (ts : List Lexed) (t : Lexed) → numbered texts (ts ++ t ∷ []) ≡ numbered texts ts ++ token_of (names_after texts ts) t ∷ []
numbered-push texts [] t = refl
numbered-push texts (u ∷ ts) t = ap (λ us. token_of texts u ∷ us) (numbered-push (with_name texts u.lexeme) ts t)

-- The tokens and names so far, the open brackets, whether a line end was passed since the last token, and the rest of the text.
pub record IsLexed (whole : List ℕ) (list : List Token) (names : List (List ℕ)) (stack : List Bracket) (fresh : Bool) (rest : List ℕ) : Type 0 where
  pub out : List Lexed
  pub so_far : SoFar whole out stack fresh rest
  pub tokens : list ≡ numbered built_in out
  pub table : names ≡ names_after built_in out
  pub few : length list + length rest ≤ length whole
  pub few_names : length names ≤ 27 + length list
  pub inner : list_all is_inner list ≡ true

-- before the first move
pub lexed-start : (whole : List ℕ) → IsLexed whole [] built_in [] false (without_mark whole)
lexed-start whole = record {
  out = [];
  so_far = (0, λ n. let count : 0 + n ≡ n = omega arith in ap (λ k. outcome k whole) count ∙ sym (in_front-nil (outcome n whole)));
  tokens = refl;
  table = refl;
  few = omega (arith, without_mark-shorter whole);
  few_names = omega arith;
  inner = refl;
}

-- after a blank or a comment
pub lexed-skip : (whole : List ℕ) (list : List Token) (names : List (List ℕ)) (stack : List Bracket) (fresh line : Bool) (rest next : List ℕ) → skip line next ≡ next_move stack rest
    → IsLexed whole list names stack fresh rest → IsLexed whole list names stack (fresh || line) next
lexed-skip whole list names stack fresh line rest next e h =
    let shorter = rest-shorter rest next (subst (MoveLeaves rest) (sym e) (next_move-leaves stack rest)) in
    record {
      out = h.out;
      so_far = after_skip whole h.out stack fresh line rest next e h.so_far;
      tokens = h.tokens;
      table = h.table;
      few = omega (arith, h.few, shorter);
      few_names = h.few_names;
      inner = h.inner;
    }

-- the code's token is the defined one
token_same : (names : List (List ℕ)) (l : Lexeme) (span : Span) (flag : Bool) (t : Lexed) → l ≡ t.lexeme → span.start ≡ t.start → span.end ≡ t.end → flag ≡ t.fresh
    → (let u : Token = record { kind = kind_of names l; span = span; fresh = flag } in u) ≡ token_of names t
token_same names l span flag t lexeme start end fresh = rw (lexeme, ← start, ← end, fresh) refl

-- after a token
pub lexed-take : (whole : List ℕ) (list more : List Token) (names table : List (List ℕ)) (stack : List Bracket) (fresh flag : Bool) (rest next : List ℕ) (l : Lexeme) (span : Span)
    → take l next ≡ next_move stack rest → IsLexed whole list names stack fresh rest
    → span.start ≡ place whole rest → span.end ≡ place whole next → flag ≡ (fresh && counts_lines stack)
    → more ≡ list ++ record { kind = kind_of names l; span = span; fresh = flag } ∷ [] → table ≡ with_name names l → length table ≤ length names + 1
    → IsLexed whole more table (brackets_after l span.start span.end stack) false next
lexed-take whole list more names table stack fresh flag rest next l span e h start end counts pushed named len =
    let t : Lexed = lexed whole l (fresh && counts_lines stack) rest next in
    let u : Token = record { kind = kind_of names l; span = span; fresh = flag } in
    let leaves = subst (MoveLeaves rest) (sym e) (next_move-leaves stack rest) in
    let shorter = rest-shorter rest next leaves in
    let is_inner_token = subst MoveInner (sym e) (next_move-inner stack rest) in
    let token = token_same names l span flag t refl start end counts in
    let brackets : brackets_after l (place whole rest) (place whole next) stack ≡ brackets_after l span.start span.end stack = rw (start, end) refl in
    let longer : length more ≡ length list + 1 = ap length pushed ∙ length-append list (u ∷ []) in
    record {
      out = h.out ++ t ∷ [];
      so_far = subst (λ s. SoFar whole (h.out ++ t ∷ []) s false next) brackets (after_take whole h.out stack fresh rest next l e h.so_far);
      tokens = pushed ∙ ap (λ v. list ++ v ∷ []) token ∙ ap (λ n. list ++ token_of n t ∷ []) h.table ∙ ap (λ us. us ++ token_of (names_after built_in h.out) t ∷ []) h.tokens
          ∙ sym (numbered-push built_in h.out t);
      table = named ∙ ap (λ n. with_name n l) h.table ∙ sym (names_after-push built_in h.out t);
      few = omega (arith, h.few, shorter, longer);
      few_names = omega (arith, h.few_names, len, longer);
      inner = subst (λ us. list_all is_inner us ≡ true) (sym pushed) (inner-push list u names l h.inner refl is_inner_token);
    }

-- at the end of the file
pub lexed-stop : (whole : List ℕ) (list : List Token) (names : List (List ℕ)) (stack : List Bracket) (fresh flag : Bool) (rest : List ℕ) (span : Span) (t : Tokens)
    → stop ≡ next_move stack rest → open_quote stack ≡ None → IsLexed whole list names stack fresh rest
    → span.start ≡ place whole rest → span.end ≡ place whole rest → flag ≡ (fresh && counts_lines stack)
    → t.list ≡ list ++ record { kind = End; span = span; fresh = flag } ∷ [] → t.names ≡ names → HasTokens whole t
lexed-stop whole list names stack fresh flag rest span t e none h start end counts pushed named =
    let last : Lexed = lexed whole (fixed End) (fresh && counts_lines stack) rest rest in
    let token = token_same names (fixed End) span flag last refl start end counts in
    record {
      lexed = h.out ++ last ∷ [];
      are = at_stop whole h.out stack fresh rest e none h.so_far;
      numbered = record {
        list = pushed ∙ ap (λ v. list ++ v ∷ []) token ∙ ap (λ n. list ++ token_of n last ∷ []) h.table ∙ ap (λ us. us ++ token_of (names_after built_in h.out) last ∷ []) h.tokens
            ∙ sym (numbered-push built_in h.out last);
        names = named ∙ h.table ∙ sym (names_after-push built_in h.out last);
      };
    }
