-- Which fronts of a text that begins as an identifier are tokens.
use Rattle.std.proofs.Common.{◌≡◌, ℕ, zero, suc, ◌+◌, ◌<◌, ◌≤◌, true, false, not, ◌&&◌, ◌==◌, codes, List, [], ◌∷◌, ◌++◌, length, take, drop, Option, Some, None, is_some, option_and_then, refl, sym, ap, ap₂, ◌∙◌, inl, inr, arith, lit<, append_assoc, length-append}
use Rattle.std.proofs.lemmas.Bool.{cases_Bool, cases_order, and_left, and_right, eqb-true, eq-eqb, true≢false}
use Rattle.std.proofs.lemmas.List.{take-append-drop, take_at, drop_at}
use Rattle.std.specs.List.{list_all, prefix_len}
use Rattle.kt_tree.specs.declared.token.Kind.TheVariants.{AsSafe}
use Rattle.kt_tree.specs.Characters.{begins_name, continues_name}
use Rattle.kt_tree.specs.Lexemes.{fixed, return_at, same, keyword_of}
use Rattle.kt_tree.specs.Longest.{longest, token_at}
use Rattle.kt_tree.specs.Text.{first, run, after_run}
use Rattle.kt_tree.specs.Words.{lexeme, is_word, is_label, keyword_or_name}
use Rattle.kt_lex.specs.Steps.{strip_text, label_in, label_at}
use Rattle.kt_lex.proofs.Fronts.{list_all-run, list_all-past, prefix_len-le, after_run-stops, inside_run, is_word-past, is_word-begins, is_word-other}
use Rattle.kt_lex.proofs.Longest.{TokenAt, longest-some}
use Rattle.kt_lex.proofs.NameCharacters.{continues_name-begins_name, begins_name-ascii, continues_name-ascii}
use Rattle.kt_lex.proofs.SameText.{same-true}

-- what a stripped text was
pub strip_text-some : (front text rest : List ℕ) → strip_text front text ≡ Some rest → text ≡ front ++ rest
strip_text-some [] text rest e = cc
strip_text-some (d ∷ ds) [] rest e = absurd (cc)
strip_text-some (d ∷ ds) (c ∷ cs) rest e =
    elim (cases_Bool (d == c)) [
      | inl hit ↦
          let head : d ≡ c = eqb-true d c hit in
          let tail = strip_text-some ds cs rest (rw hit at e) in
          cc
      | inr miss ↦ let none : None ≡ Some rest = rw miss at e in absurd (cc)
    ]

-- a text strips from the front of itself and more
pub strip_text-append : (front rest : List ℕ) → strip_text front (front ++ rest) ≡ Some rest
strip_text-append [] rest = refl
strip_text-append (d ∷ ds) rest = rw (eq-eqb d d refl) (strip_text-append ds rest)

-- where nothing is stripped, no front of that length is the text
strip_text-none : (n : ℕ) (front text : List ℕ) → strip_text front text ≡ None → same (take n text) front ≡ false
strip_text-none n front text e =
    elim (cases_Bool (same (take n text) front)) [
      | inl hit ↦
          let whole : text ≡ front ++ drop n text = sym (take-append-drop n text) ∙ ap (λ t. t ++ drop n text) (same-true (take n text) front hit) in
          let got : strip_text front text ≡ Some (drop n text) = ap (strip_text front) whole ∙ strip_text-append front (drop n text) in
          absurd (cc)
      | inr miss ↦ miss
    ]

-- `as?`

-- no longer front than `as?` is a token
longer_safe : (cs : List ℕ) (m : ℕ) → begins_name 97 ≡ true → continues_name 115 ≡ true → continues_name 63 ≡ false → 3 < m → m ≤ length (97 ∷ 115 ∷ 63 ∷ cs)
    → lexeme (take m (97 ∷ 115 ∷ 63 ∷ cs)) (drop m (97 ∷ 115 ∷ 63 ∷ cs)) ≡ None
longer_safe cs zero a s mark lo hi = absurd (omega arith)
longer_safe cs (suc zero) a s mark lo hi = absurd (omega arith)
longer_safe cs (suc (suc zero)) a s mark lo hi = absurd (omega arith)
longer_safe cs (suc (suc (suc zero))) a s mark lo hi = absurd (omega arith)
longer_safe [] (suc (suc (suc (suc m)))) a s mark lo hi = absurd (omega arith)
longer_safe (c ∷ cs) (suc (suc (suc (suc m)))) a s mark lo hi = rw (a, s, mark) refl

-- `as?` is the longest front
longest-as_safe : (cs : List ℕ) → longest lexeme (97 ∷ 115 ∷ 63 ∷ cs) ≡ Some (fixed AsSafe, 3)
longest-as_safe cs =
    let a : begins_name 97 ≡ true = begins_name-ascii 97 (lit< tt) in
    let s : continues_name 115 ≡ true = continues_name-ascii 115 (lit< tt) in
    let mark : continues_name 63 ≡ false = continues_name-ascii 63 (lit< tt) in
    longest-some lexeme (97 ∷ 115 ∷ 63 ∷ cs) 3 (fixed AsSafe) (omega arith) (omega arith)
    (rw (a, s, mark) refl)
    (λ m lo hi. longer_safe cs m a s mark lo hi)

-- where the code strips `as?` that is the longest token
pub token_at-as_safe : (text rest : List ℕ) → strip_text (codes "as?") text ≡ Some rest → token_at lexeme text ≡ Some (fixed AsSafe, rest)
token_at-as_safe text rest e =
    ap (token_at lexeme) (strip_text-some (codes "as?") text rest e) ∙ ap (TokenAt (97 ∷ 115 ∷ 63 ∷ rest)) (longest-as_safe rest)

-- labels

-- a name ends where no character continues it
ends_name : (cs : List ℕ) → not (continues_name (first (after_run continues_name cs))) ≡ true
ends_name cs = rw (after_run-stops continues_name (continues_name-ascii 0 (lit< tt)) cs) refl

-- a shorter front of a run isn't a label
shorter_label : (cs : List ℕ) (k : ℕ) → k < prefix_len continues_name cs → is_label (take k cs) (drop k cs) ≡ false
shorter_label cs k h =
    let (d, ds, e, pass) = inside_run continues_name cs k h in
    let bars : not (continues_name (first (drop k cs))) ≡ false = ap (λ t. not (continues_name (first t))) e ∙ ap not pass in
    and_right (is_word (take k cs) && not (is_some (keyword_of (take k cs)))) (not (continues_name (first (drop k cs)))) bars

-- nor is a longer one
longer_label : (cs : List ℕ) (k : ℕ) → prefix_len continues_name cs < k → k ≤ length cs → is_label (take k cs) (drop k cs) ≡ false
longer_label cs k lo hi = rw (is_word-past cs k lo hi) refl

-- a keyword is no label
keyword_label : (cs : List ℕ) → is_some (keyword_of (run continues_name cs)) ≡ true → is_label (run continues_name cs) (after_run continues_name cs) ≡ false
keyword_label cs hit =
    and_left (is_word (run continues_name cs) && not (is_some (keyword_of (run continues_name cs)))) (not (continues_name (first (after_run continues_name cs))))
    (and_right (is_word (run continues_name cs)) (not (is_some (keyword_of (run continues_name cs)))) (ap not hit))

-- no front of a keyword and more is a label
other_label : (cs : List ℕ) (k : ℕ) → is_some (keyword_of (run continues_name cs)) ≡ true → k ≤ length cs → is_label (take k cs) (drop k cs) ≡ false
other_label cs k hit within =
    elim (cases_order k (prefix_len continues_name cs)) [
      | inl here ↦ ap (λ j. is_label (take j cs) (drop j cs)) here ∙ keyword_label cs hit
      | inr (inl less) ↦ shorter_label cs k less
      | inr (inr more) ↦ longer_label cs k more within
    ]

-- where the code finds no label, no front is one
no_label : (cs : List ℕ) (k : ℕ) → label_in cs ≡ None → k ≤ length cs → is_label (take k cs) (drop k cs) ≡ false
no_label cs k none within =
    elim (cases_Bool (begins_name (first cs))) [
      | inr other ↦ rw (is_word-other cs k other) refl
      | inl begins ↦
          elim (cases_Bool (is_some (keyword_of (run continues_name cs)))) [
            | inl hit ↦ other_label cs k hit within
            | inr miss ↦
                let some : label_in cs ≡ Some (run continues_name cs, after_run continues_name cs) = rw (begins, miss) refl in
                absurd (cc)
          ]
    ]

-- the same of a front and what follows it
no_label_before : (w after : List ℕ) → label_in (w ++ after) ≡ None → is_label w after ≡ false
no_label_before w after none =
    let within : length w ≤ length (w ++ after) = omega (arith, length-append w after) in
    let here = no_label (w ++ after) (length w) none within in
    ap₂ is_label (sym (take_at w after (length w) refl)) (sym (drop_at w after (length w) refl)) ∙ here

-- `return@` with a name

-- no longer front than `return@` with its name is a token
longer_return_at : (cs : List ℕ) (m : ℕ) → continues_name 64 ≡ false
    → suc (suc (suc (suc (suc (suc (suc (prefix_len continues_name cs))))))) < m → m ≤ length (114 ∷ 101 ∷ 116 ∷ 117 ∷ 114 ∷ 110 ∷ 64 ∷ cs)
    → begins_name 114 ≡ true
    → lexeme (take m (114 ∷ 101 ∷ 116 ∷ 117 ∷ 114 ∷ 110 ∷ 64 ∷ cs)) (drop m (114 ∷ 101 ∷ 116 ∷ 117 ∷ 114 ∷ 110 ∷ 64 ∷ cs)) ≡ None
longer_return_at cs zero mark lo hi b = absurd (omega arith)
longer_return_at cs (suc zero) mark lo hi b = absurd (omega arith)
longer_return_at cs (suc (suc zero)) mark lo hi b = absurd (omega arith)
longer_return_at cs (suc (suc (suc zero))) mark lo hi b = absurd (omega arith)
longer_return_at cs (suc (suc (suc (suc zero)))) mark lo hi b = absurd (omega arith)
longer_return_at cs (suc (suc (suc (suc (suc zero))))) mark lo hi b = absurd (omega arith)
longer_return_at cs (suc (suc (suc (suc (suc (suc zero)))))) mark lo hi b = absurd (omega arith)
longer_return_at cs (suc (suc (suc (suc (suc (suc (suc m))))))) mark lo hi b =
    let none = longer_label cs m (omega arith) (omega arith) in
    rw (b, continues_name-ascii 101 (lit< tt), continues_name-ascii 116 (lit< tt), continues_name-ascii 117 (lit< tt), continues_name-ascii 114 (lit< tt), continues_name-ascii 110 (lit< tt), mark, none) refl

-- `return@` with its name is the longest front
longest-return_at : (cs : List ℕ) → begins_name (first cs) ≡ true → is_some (keyword_of (run continues_name cs)) ≡ false
    → longest lexeme (114 ∷ 101 ∷ 116 ∷ 117 ∷ 114 ∷ 110 ∷ 64 ∷ cs) ≡ Some (return_at (run continues_name cs), suc (suc (suc (suc (suc (suc (suc (prefix_len continues_name cs))))))))
longest-return_at cs begins name =
    let b : begins_name 114 ≡ true = begins_name-ascii 114 (lit< tt) in
    let mark : continues_name 64 ≡ false = continues_name-ascii 64 (lit< tt) in
    let bound = prefix_len-le continues_name cs in
    let word = is_word-begins cs begins in
    let end = ends_name cs in
    longest-some lexeme (114 ∷ 101 ∷ 116 ∷ 117 ∷ 114 ∷ 110 ∷ 64 ∷ cs) (suc (suc (suc (suc (suc (suc (suc (prefix_len continues_name cs)))))))) (return_at (run continues_name cs)) (omega arith) (omega arith)
    (rw (b, continues_name-ascii 101 (lit< tt), continues_name-ascii 116 (lit< tt), continues_name-ascii 117 (lit< tt), continues_name-ascii 114 (lit< tt), continues_name-ascii 110 (lit< tt), mark, word, name, end) refl)
    (λ m lo hi. longer_return_at cs m mark lo hi b)

-- what the code finds as a label
label_in-some : (cs : List ℕ) (p : List ℕ × List ℕ) → label_in cs ≡ Some p
    → (begins_name (first cs) ≡ true) × (is_some (keyword_of (run continues_name cs)) ≡ false) × (p ≡ (run continues_name cs, after_run continues_name cs))
label_in-some cs p e =
    elim (cases_Bool (begins_name (first cs))) [
      | inl begins ↦
          elim (cases_Bool (is_some (keyword_of (run continues_name cs)))) [
            | inl hit ↦ let none : None ≡ Some p = rw (begins, hit) at e in absurd (cc)
            | inr miss ↦ let some : Some (run continues_name cs, after_run continues_name cs) ≡ Some p = rw (begins, miss) at e in (begins, miss, cc)
          ]
      | inr other ↦ let none : None ≡ Some p = rw other at e in absurd (cc)
    ]

-- `return@` with its name is the longest token
token_at-return_at : (cs : List ℕ) (p : List ℕ × List ℕ) → label_in cs ≡ Some p → token_at lexeme (codes "return@" ++ cs) ≡ Some (return_at p.0, p.1)
token_at-return_at cs p e =
    let (begins, name, same_pair) = label_in-some cs p e in
    let here : token_at lexeme (codes "return@" ++ cs) ≡ Some (return_at (run continues_name cs), after_run continues_name cs) =
    ap (TokenAt (114 ∷ 101 ∷ 116 ∷ 117 ∷ 114 ∷ 110 ∷ 64 ∷ cs)) (longest-return_at cs begins name) in
    here ∙ ap (λ (q : List ℕ × List ℕ). Some (return_at q.0, q.1)) (sym same_pair)

-- the same where `return@` is stripped
label_of : (text : List ℕ) (o : Option (List ℕ)) (p : List ℕ × List ℕ) → strip_text (codes "return@") text ≡ o → option_and_then label_in o ≡ Some p
    → token_at lexeme text ≡ Some (return_at p.0, p.1)
label_of text None p e h = absurd (cc)
label_of text (Some cs) p e h = ap (token_at lexeme) (strip_text-some (codes "return@") text cs e) ∙ token_at-return_at cs p h

-- where the code finds a label that is the longest token
pub token_at-label : (text : List ℕ) (p : List ℕ × List ℕ) → label_at text ≡ Some p → token_at lexeme text ≡ Some (return_at p.0, p.1)
token_at-label text p e = label_of text (strip_text (codes "return@") text) p refl e

-- identifiers and keywords

-- where it finds none no front is `return@` with a name
no_return_at : (text : List ℕ) (m : ℕ) → label_at text ≡ None
    → (same (take 7 (take m text)) (codes "return@") && is_label (drop 7 (take m text)) (drop m text)) ≡ false
no_return_at text m none =
    elim (cases_Bool (same (take 7 (take m text)) (codes "return@"))) [
      | inl hit ↦
          let w = drop 7 (take m text) in
          let after = drop m text in
          let front : take m text ≡ codes "return@" ++ w = sym (take-append-drop 7 (take m text)) ∙ ap (λ t. t ++ w) (same-true (take 7 (take m text)) (codes "return@") hit) in
          let whole : text ≡ codes "return@" ++ (w ++ after) = sym (take-append-drop m text) ∙ ap (λ t. t ++ after) front ∙ append_assoc (codes "return@") w after in
          let stripped : strip_text (codes "return@") text ≡ Some (w ++ after) = ap (strip_text (codes "return@")) whole ∙ strip_text-append (codes "return@") (w ++ after) in
          let here : label_in (w ++ after) ≡ None = sym (ap (option_and_then label_in) stripped) ∙ none in
          and_right (same (take 7 (take m text)) (codes "return@")) (is_label w after) (no_label_before w after here)
      | inr miss ↦ and_left (same (take 7 (take m text)) (codes "return@")) (is_label (drop 7 (take m text)) (drop m text)) miss
    ]

-- no longer front than the run is a token
longer_word : (c : ℕ) (cs : List ℕ) (m : ℕ) → begins_name c ≡ true → strip_text (codes "as?") (c ∷ cs) ≡ None → label_at (c ∷ cs) ≡ None
    → suc (prefix_len continues_name cs) < m → m ≤ suc (length cs) → lexeme (take m (c ∷ cs)) (drop m (c ∷ cs)) ≡ None
longer_word c cs zero begins safe label lo hi = absurd (omega arith)
longer_word c cs (suc m) begins safe label lo hi =
    let no_word : list_all continues_name (take m cs) ≡ false = list_all-past continues_name cs m (omega arith) (omega arith) in
    let no_safe : same (c ∷ take m cs) (codes "as?") ≡ false = strip_text-none (suc m) (codes "as?") (c ∷ cs) safe in
    let no_return : (same (take 7 (c ∷ take m cs)) (codes "return@") && is_label (drop 7 (c ∷ take m cs)) (drop m cs)) ≡ false = no_return_at (c ∷ cs) (suc m) label in
    rw (begins, no_word, no_safe, no_return) refl

-- the run is the longest front
longest-word : (c : ℕ) (cs : List ℕ) → begins_name c ≡ true → strip_text (codes "as?") (c ∷ cs) ≡ None → label_at (c ∷ cs) ≡ None
    → let n = suc (prefix_len continues_name cs) in
    longest lexeme (c ∷ cs) ≡ Some (keyword_or_name (keyword_of (take n (c ∷ cs))) (take n (c ∷ cs)), n)
longest-word c cs begins safe label =
    let k = prefix_len continues_name cs in
    let bound = prefix_len-le continues_name cs in
    longest-some lexeme (c ∷ cs) (suc k) (keyword_or_name (keyword_of (c ∷ take k cs)) (c ∷ take k cs)) (omega arith) (omega arith)
    (rw (begins, list_all-run continues_name cs) refl)
    (λ m lo hi. longer_word c cs m begins safe label lo hi)

-- where the code finds neither the run is the longest token
pub token_at-word : (text : List ℕ) → begins_name (first text) ≡ true → strip_text (codes "as?") text ≡ None → label_at text ≡ None
    → token_at lexeme text ≡ Some (keyword_or_name (keyword_of (run continues_name text)) (run continues_name text), after_run continues_name text)
token_at-word [] begins safe label =
    let none : begins_name 0 ≡ false = begins_name-ascii 0 (lit< tt) in
    absurd (true≢false (sym begins ∙ none))
token_at-word (c ∷ cs) begins safe label =
    let k = prefix_len continues_name cs in
    let next : prefix_len continues_name (c ∷ cs) ≡ 1 + k = rw (continues_name-begins_name c begins) refl in
    let more : prefix_len continues_name (c ∷ cs) ≡ suc k = omega (arith, next) in
    rw more (ap (TokenAt (c ∷ cs)) (longest-word c cs begins safe label))
