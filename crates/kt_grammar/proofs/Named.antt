-- The table of the identifiers that the grammar names is the grammar's.
use Rattle.std.proofs.Common.{◌≡◌, ℕ, Bool, true, false, cond, List, [], ◌∷◌, ◌++◌, map, codes, refl, sym, ap, ◌∙◌, inl, inr, Option, Some, None, bytes_eq, Bor}
use Rattle.std.specs.Map.{lookup}
use Rattle.std.proofs.lemmas.Bool.{cases_Bool, true≢false}
use Rattle.std.proofs.lemmas.Slice.Eq.{bytes_eq-Decides}
use Rattle.kt_tree.specs.declared.grammar.terminal.Terminal.{Terminal}
use Rattle.kt_tree.specs.declared.grammar.terminal.Terminal.TheVariants as t
use Rattle.kt_tree.specs.Classes.{declaration_word, member_word, contract_word, first_word, word_of}
use Rattle.kt_grammar.specs.declared.words.TheConstants.{WORDS}
use Rattle.kt_grammar.proofs.Alike.{find, Same, found_alike}

-- the code's table, without where its texts lie in memory
abbrev table : List (List ℕ × Terminal)
table = map (λ row. (row.0.now, row.1)) WORDS

-- the grammar's words
abbrev declarations : List (List ℕ × Terminal)
declarations =
    (codes "import", t.Import) ∷ (codes "kotlin", t.Kotlin) ∷ (codes "contracts", t.Contracts)
    ∷ (codes "ExperimentalContracts", t.ExperimentalContracts) ∷ (codes "OptIn", t.OptIn) ∷ (codes "public", t.Public) ∷ (codes "private", t.Private)
    ∷ (codes "open", t.Open) ∷ (codes "abstract", t.Abstract) ∷ (codes "final", t.Final) ∷ (codes "override", t.Override)
    ∷ (codes "inline", t.Inline) ∷ []

abbrev members : List (List ℕ × Terminal)
members =
    (codes "init", t.Init) ∷ (codes "get", t.Get) ∷ (codes "until", t.Until) ∷ (codes "downTo", t.DownTo) ∷ (codes "catch", t.Catch)
    ∷ (codes "finally", t.Finally) ∷ []

abbrev contracts : List (List ℕ × Terminal)
contracts =
    (codes "contract", t.Contract) ∷ (codes "returns", t.Returns) ∷ (codes "returnsNotNull", t.ReturnsNotNull)
    ∷ (codes "callsInPlace", t.CallsInPlace) ∷ (codes "InvocationKind", t.InvocationKind) ∷ (codes "implies", t.Implies) ∷ []

same_words : Same bytes_eq (declarations ++ (members ++ contracts)) table
same_words = record { there = refl; back = refl }

same_text : (a b : List ℕ) → bytes_eq a b ≡ bytes_eq b a
same_text a b =
    elim (cases_Bool (bytes_eq a b)) [
      | inl is ↦ is ∙ sym ((bytes_eq-Decides b a).1 (sym ((bytes_eq-Decides a b).0 is)))
      | inr other ↦
          elim (cases_Bool (bytes_eq b a)) [
            | inl is ↦ absurd (true≢false (sym ((bytes_eq-Decides a b).1 (sym ((bytes_eq-Decides b a).0 is))) ∙ other))
            | inr too ↦ other ∙ sym too
          ]
    ]

-- the first row with the text, as the grammar asks for it
abbrev chain : List (List ℕ × Terminal) → List ℕ → Option Terminal
chain [] text = None
chain (row ∷ rows) text = cond (bytes_eq text row.0) (Some row.1) (chain rows text)

chain_finds : (rows : List (List ℕ × Terminal)) (text : List ℕ) → chain rows text ≡ find bytes_eq rows text
chain_finds [] text = refl
chain_finds (row ∷ rows) text =
    ap (λ b. cond b (Some row.1) (chain rows text)) (same_text text row.0)
    ∙ ap (λ o. cond (bytes_eq row.0 text) (Some row.1) o) (chain_finds rows text)

abbrev or_word : Option Terminal → Option Terminal → Option Terminal
or_word (Some w) o = Some w
or_word None o = o

chain_append : (xs ys : List (List ℕ × Terminal)) (text : List ℕ) → chain (xs ++ ys) text ≡ or_word (chain xs text) (chain ys text)
chain_append [] ys text = refl
chain_append (row ∷ xs) ys text =
    ap (λ o. cond (bytes_eq text row.0) (Some row.1) o) (chain_append xs ys text) ∙ past (bytes_eq text row.0)
  where
    past : (b : Bool) → cond b (Some row.1) (or_word (chain xs text) (chain ys text)) ≡ or_word (cond b (Some row.1) (chain xs text)) (chain ys text)
    past true = refl
    past false = refl

-- what was found, or an identifier without a meaning of its own
abbrev pub or_id : Option Terminal → Terminal
or_id (Some w) = w
or_id None = t.Id

first_found : (a b c : Option Terminal) → or_id (or_word a (or_word b c)) ≡ first_word a b c
first_found (Some w) b c = refl
first_found None (Some w) c = refl
first_found None None (Some w) = refl
first_found None None None = refl

-- what the table gives
pub words_written : (text : List ℕ) → or_id (lookup (λ held. bytes_eq held text) table) ≡ word_of (Some text)
words_written text =
    ap or_id (looked table ∙ sym (found_alike bytes_eq (λ a b e. (bytes_eq-Decides a b).0 e) same_words text) ∙ sym (chain_finds (declarations ++ (members ++ contracts)) text)
    ∙ chain_append declarations (members ++ contracts) text
    ∙ ap (or_word (chain declarations text)) (chain_append members contracts text))
    ∙ first_found (declaration_word text) (member_word text) (contract_word text)
  where
    looked : (rows : List (List ℕ × Terminal)) → lookup (λ held. bytes_eq held text) rows ≡ find bytes_eq rows text
    looked [] = refl
    looked (row ∷ rows) = ap (λ o. cond (bytes_eq row.0 text) (Some row.1) o) (looked rows)

-- at the code's own rows
abbrev pub shown : List (Bor (List ℕ) × Terminal) → List (List ℕ × Terminal)
shown rows = map (λ row. (row.0.now, row.1)) rows

pub words_at : (rows : List (Bor (List ℕ) × Terminal)) (text : List ℕ) → shown rows ≡ table → or_id (lookup (λ held. bytes_eq held text) (shown rows)) ≡ word_of (Some text)
words_at rows text e = ap (λ rs. or_id (lookup (λ held. bytes_eq held text) rs)) e ∙ words_written text
