-- A table of names that were numbered has each name once.
use Rattle.std.proofs.Common.{◌≡◌, ℕ, Bool, true, false, List, [], ◌∷◌, ◌++◌, refl, sym, ap, ◌∙◌, inl, inr}
use Rattle.std.specs.Str.{bytes_eq, encode_utf8_all}
use Rattle.std.specs.List.{list_any}
use Rattle.std.proofs.lemmas.Bool.{cases_Bool}
use Rattle.kt_tree.specs.declared.tokens.Tokens.{Tokens}
use Rattle.kt_tree.specs.BuiltIn.{built_in, with_texts}
use Rattle.kt_tree.specs.Names.{with_text}
use Rattle.kt_tree.specs.Lexemes.{Lexeme, fixed, name, return_at, number, piece, name_part}
use Rattle.kt_tree.specs.Tokens.{Lexed}
use Rattle.kt_tree.specs.Numbering.{with_name, names_after, HasTokens}

abbrev Kept : List (List ℕ) → Type 0
Kept texts = with_texts [] texts ≡ texts

with_more : (table xs ys : List (List ℕ)) → with_texts table (xs ++ ys) ≡ with_texts (with_texts table xs) ys
with_more table [] ys = refl
with_more table (x ∷ xs) ys = with_more (with_text table x) xs ys

kept_text : (texts : List (List ℕ)) (t : List ℕ) → Kept texts → Kept (with_text texts t)
kept_text texts t h =
    elim (cases_Bool (list_any (bytes_eq t) texts)) [
      | inl hit ↦ rw hit h
      | inr miss ↦ let e : with_texts [] (texts ++ t ∷ []) ≡ with_text texts t = with_more [] texts (t ∷ []) ∙ ap (λ table. with_text table t) h in rw miss (e ∙ rw miss refl)
    ]

kept_name : (texts : List (List ℕ)) (l : Lexeme) → Kept texts → Kept (with_name texts l)
kept_name texts (fixed kind) h = h
kept_name texts (name word) h = kept_text texts (encode_utf8_all word) h
kept_name texts (return_at word) h = kept_text texts (encode_utf8_all word) h
kept_name texts (number n) h = h
kept_name texts (piece value) h = h
kept_name texts (name_part word) h = kept_text texts (encode_utf8_all word) h

kept_after : (texts : List (List ℕ)) (ts : List Lexed) → Kept texts → Kept (names_after texts ts)
kept_after texts [] h = h
kept_after texts (t ∷ ts) h = kept_after (with_name texts t.lexeme) ts (kept_name texts t.lexeme h)

built_in_kept : Kept built_in
built_in_kept = refl

pub kept : (text : List ℕ) (t : Tokens) → HasTokens text t → with_texts [] t.names ≡ t.names
kept text t h = ap (with_texts []) h.numbered.names ∙ kept_after built_in h.lexed built_in_kept ∙ sym h.numbered.names
