-- Which fronts of a text that begins with a digit are integers.
use Rattle.std.proofs.Common.{◌≡◌, ℕ, zero, suc, ◌+◌, ◌<◌, ◌≤◌, Bool, true, false, not, cond, ◌&&◌, ◌||◌, ◌==◌, nat_lt, nat_le, List, [], ◌∷◌, length, take, drop, Option, Some, None, option_map, refl, sym, ap, ◌∙◌, inl, inr, arith, lit<}
use Rattle.std.proofs.lemmas.Bool.{cases_lt, cases_order, cases_eq, cases_Bool, and_parts, and_from, or_cases, or_left, or_right, eqb-true, true≢false, false≢true, agree_below_at, ltb-true, lt-ltb, leb-true}
use Rattle.std.proofs.lemmas.Bool.Decides.{nat_tests}
use Rattle.std.specs.List.{list_all, prefix_len}
use Rattle.std.specs.Char.{digit_value, is_ascii_alphanumeric}
use Rattle.kt_tree.specs.Characters.{begins_name, continues_name, is_digit}
use Rattle.kt_tree.specs.Integers.{integer, digits, integer_limit, bars_integer, is_digit_of, end_in_digit, are_digits, value_after}
use Rattle.kt_tree.specs.Lexemes.{number}
use Rattle.kt_tree.specs.Longest.{longest, token_at}
use Rattle.kt_tree.specs.Text.{first}
use Rattle.kt_tree.specs.Words.{lexeme, integer_lexeme}
use Rattle.kt_lex.specs.Steps.{integer_at}
use Rattle.kt_lex.proofs.Fronts.{list_all-past, prefix_len-le, inside_run}
use Rattle.kt_lex.proofs.Longest.{TokenAt, longest-some, longest-none}
use Rattle.kt_lex.proofs.NameCharacters.{continues_name-ascii}

-- of ASCII, a hexadecimal digit is a letter or a digit
hex_is_alphanumeric : (c : ℕ) → c < 128 → (not (is_digit_of 16 c) || is_ascii_alphanumeric c) ≡ true
hex_is_alphanumeric c h = agree_below_at (λ x. not (is_digit_of 16 x) || is_ascii_alphanumeric x) (λ x. true) 128 c refl h

-- what a true implication says
implied : (a b : Bool) → (not a || b) ≡ true → a ≡ true → b ≡ true
implied true b h e = h
implied false b h e = absurd (false≢true e)

-- the test of what is less
lt_is : (a b : ℕ) → a < b → nat_lt a b ≡ true
lt_is a b h = lt-ltb a b h

-- no digit lies past ASCII
past_ascii : (c base : ℕ) → 128 ≤ c → base ≤ 16 → is_digit_of base c ≡ true → ⊥
past_ascii c base above high h =
    let large : digit_value c ≡ 36 = grind (arith, nat_tests) in
    let low : digit_value c < base = ltb-true (digit_value c) base h in
    omega arith

-- of ASCII, a digit is a letter or a digit
digit_is_alphanumeric : (c : ℕ) → c < 128 → (not (is_digit c) || is_ascii_alphanumeric c) ≡ true
digit_is_alphanumeric c h = agree_below_at (λ x. not (is_digit x) || is_ascii_alphanumeric x) (λ x. true) 128 c refl h

-- a decimal digit continues an identifier
digit_char-continues : (c : ℕ) → is_digit c ≡ true → continues_name c ≡ true
digit_char-continues c h =
    let bounds = and_parts (nat_le 48 c) (nat_le c 57) h in
    let high : c ≤ 57 = leb-true c 57 bounds.1 in
    let ascii : c < 128 = omega arith in
    let alpha : is_ascii_alphanumeric c ≡ true = implied (is_digit c) (is_ascii_alphanumeric c) (digit_is_alphanumeric c ascii) h in
    continues_name-ascii c ascii ∙ or_right (c == 95) (is_ascii_alphanumeric c) alpha

-- a digit continues an identifier
pub digit-continues : (base c : ℕ) → base ≤ 16 → is_digit_of base c ≡ true → continues_name c ≡ true
digit-continues base c high h =
    let low : digit_value c < base = ltb-true (digit_value c) base h in
    elim (cases_lt c 128) [
      | inl ascii ↦
          let hex : is_digit_of 16 c ≡ true = lt_is (digit_value c) 16 (omega arith) in
          let alpha : is_ascii_alphanumeric c ≡ true = implied (is_digit_of 16 c) (is_ascii_alphanumeric c) (hex_is_alphanumeric c ascii) hex in
          continues_name-ascii c ascii ∙ or_right (c == 95) (is_ascii_alphanumeric c) alpha
      | inr above ↦ absurd (past_ascii c base above high h)
    ]

-- `_` continues an identifier
line-continues : continues_name 95 ≡ true
line-continues = continues_name-ascii 95 (lit< tt)

-- digits and `_` continue an identifier
end_in_digit-continues : (base : ℕ) (last : Bool) (cs : List ℕ) → base ≤ 16 → end_in_digit base last cs ≡ true → list_all continues_name cs ≡ true
end_in_digit-continues base last [] high h = refl
end_in_digit-continues base last (c ∷ cs) high h =
    let parts = and_parts (is_digit_of base c || (c == 95)) (end_in_digit base (is_digit_of base c) cs) h in
    let more = end_in_digit-continues base (is_digit_of base c) cs high parts.1 in
    elim (or_cases (is_digit_of base c) (c == 95) parts.0) [
      | inl digit ↦ and_from (continues_name c) (list_all continues_name cs) (digit-continues base c high digit) more
      | inr line ↦ and_from (continues_name c) (list_all continues_name cs) (ap continues_name (eqb-true c 95 line) ∙ line-continues) more
    ]

-- so do the characters of a value
digits-continue : (base v : ℕ) (cs : List ℕ) → base ≤ 16 → digits base cs ≡ Some v → list_all continues_name cs ≡ true
unfolding digits
digits-continue base v cs high e =
    elim (cases_Bool (are_digits base cs && nat_lt (value_after base 0 cs) integer_limit)) [
      | inl hit ↦
          let both = and_parts (are_digits base cs) (nat_lt (value_after base 0 cs) integer_limit) hit in
          let ends = and_parts (is_digit_of base (first cs)) (end_in_digit base false cs) both.0 in
          end_in_digit-continues base false cs high ends.1
      | inr miss ↦ let none : None ≡ Some v = rw miss at e in absurd (cc)
    ]

-- an integer is made of characters that continue an identifier
pub integer-continues : (v : ℕ) (cs : List ℕ) → integer cs ≡ Some v → list_all continues_name cs ≡ true
integer-continues v [] e = refl
integer-continues v (c ∷ []) e = digits-continue 10 v (c ∷ []) (omega arith) e
integer-continues v (c ∷ d ∷ cs) e =
    elim (cases_Bool (c == 48)) [
      | inl zero_first ↦
          let head : continues_name c ≡ true = ap continues_name (eqb-true c 48 zero_first) ∙ continues_name-ascii 48 (lit< tt) in
          elim (cases_Bool (d == 120 || (d == 88))) [
            | inl hex ↦
                let second : continues_name d ≡ true = elim (or_cases (d == 120) (d == 88) hex) [
                  | inl x ↦ ap continues_name (eqb-true d 120 x) ∙ continues_name-ascii 120 (lit< tt)
                  | inr x ↦ ap continues_name (eqb-true d 88 x) ∙ continues_name-ascii 88 (lit< tt)
                ] in
                let rest = digits-continue 16 v cs (omega arith) (rw (zero_first, hex) at e) in
                rw (head, second) rest
            | inr other ↦
                elim (cases_Bool (d == 98 || (d == 66))) [
                  | inl bin ↦
                      let second : continues_name d ≡ true = elim (or_cases (d == 98) (d == 66) bin) [
                        | inl b ↦ ap continues_name (eqb-true d 98 b) ∙ continues_name-ascii 98 (lit< tt)
                        | inr b ↦ ap continues_name (eqb-true d 66 b) ∙ continues_name-ascii 66 (lit< tt)
                      ] in
                      let rest = digits-continue 2 v cs (omega arith) (rw (zero_first, other, bin) at e) in
                      rw (head, second) rest
                  | inr neither ↦ let none : None ≡ Some v = rw (zero_first, other, neither) at e in absurd (cc)
                ]
          ]
      | inr decimal ↦ digits-continue 10 v (c ∷ d ∷ cs) (omega arith) (rw decimal at e)
    ]

-- fronts that are no integers, of a text that begins with a digit
shorter_integer : (text : List ℕ) (m : ℕ) → m < prefix_len continues_name text → integer_lexeme (take m text) (drop m text) ≡ None
shorter_integer text m h =
    let (d, ds, e, pass) = inside_run continues_name text m h in
    let bars : bars_integer (drop m text) ≡ true = ap bars_integer e ∙ or_left (continues_name d) (d == 46 && is_digit (first ds)) pass in
    rw bars refl

-- no integer has a character that continues no identifier, by its value
none_unless : (o : Option ℕ) (cs : List ℕ) → integer cs ≡ o → list_all continues_name cs ≡ false → integer cs ≡ None
none_unless None cs e h = e
none_unless (Some v) cs e h = absurd (true≢false (sym (integer-continues v cs e) ∙ h))

-- no integer has a character that continues no identifier
not_integer : (cs : List ℕ) → list_all continues_name cs ≡ false → integer cs ≡ None
not_integer cs h = none_unless (integer cs) cs refl h

-- a front that is longer than the run is no integer
longer_integer : (text : List ℕ) (m : ℕ) → prefix_len continues_name text < m → m ≤ length text → integer_lexeme (take m text) (drop m text) ≡ None
longer_integer text m lo hi =
    let none = not_integer (take m text) (list_all-past continues_name text m lo hi) in
    elim (cases_Bool (bars_integer (drop m text))) [
      | inl hit ↦ rw hit refl
      | inr miss ↦ rw (miss, none) refl
    ]

-- what begins with a digit is an integer or nothing
integer_front : (c : ℕ) (cs : List ℕ) (m : ℕ) → begins_name c ≡ false → is_digit c ≡ true → 0 < m → lexeme (take m (c ∷ cs)) (drop m (c ∷ cs)) ≡ integer_lexeme (take m (c ∷ cs)) (drop m (c ∷ cs))
integer_front c cs zero b d h = absurd (omega arith)
integer_front c cs (suc m) b d h = rw (b, d) refl

-- only the whole run may be an integer
other_fronts : (c : ℕ) (cs : List ℕ) (m : ℕ) → begins_name c ≡ false → is_digit c ≡ true → 0 < m → m ≤ length (c ∷ cs) → (m ≡ prefix_len continues_name (c ∷ cs) → ⊥)
    → lexeme (take m (c ∷ cs)) (drop m (c ∷ cs)) ≡ None
other_fronts c cs m b d some within other =
    let same = integer_front c cs m b d some in
    elim (cases_order m (prefix_len continues_name (c ∷ cs))) [
      | inl here ↦ absurd (other here)
      | inr (inl less) ↦ same ∙ shorter_integer (c ∷ cs) m less
      | inr (inr more) ↦ same ∙ longer_integer (c ∷ cs) m more within
    ]

-- no front is a token where the run isn't and no other one is
all_fronts : (text : List ℕ) (n m : ℕ) → 0 < m → m ≤ length text → lexeme (take n text) (drop n text) ≡ None
    → ((m : ℕ) → 0 < m → m ≤ length text → (m ≡ n → ⊥) → lexeme (take m text) (drop m text) ≡ None)
    → lexeme (take m text) (drop m text) ≡ None
all_fronts text n m lo hi here others =
    elim (cases_eq m n) [
      | inl e ↦ ap (λ k. lexeme (take k text) (drop k text)) e ∙ here
      | inr ne ↦ others m lo hi ne
    ]

-- the longest token is the run, if that is an integer
integer_cases : (text : List ℕ) (n : ℕ) (b : Bool) (o : Option ℕ) → 0 < n → n ≤ length text
    → bars_integer (drop n text) ≡ b → integer (take n text) ≡ o
    → lexeme (take n text) (drop n text) ≡ integer_lexeme (take n text) (drop n text)
    → ((m : ℕ) → 0 < m → m ≤ length text → (m ≡ n → ⊥) → lexeme (take m text) (drop m text) ≡ None)
    → TokenAt text (longest lexeme text) ≡ (cond b None (option_map (λ v. (number v, drop n text)) o))
integer_cases text n true o some within bars value same others =
    let none = longest-none lexeme text (λ m lo hi. all_fronts text n m lo hi (same ∙ rw bars refl) others) in
    ap (TokenAt text) none
integer_cases text n false None some within bars value same others =
    let none = longest-none lexeme text (λ m lo hi. all_fronts text n m lo hi (same ∙ rw (bars, value) refl) others) in
    ap (TokenAt text) none
integer_cases text n false (Some v) some within bars value same others =
    ap (TokenAt text) (longest-some lexeme text n (number v) some within (same ∙ rw (bars, value) refl) (λ m lo hi. others m (omega arith) hi (λ e. omega arith)))

-- where a digit stands the longest token is what the code reads
pub token_at-integer : (text : List ℕ) → begins_name (first text) ≡ false → is_digit (first text) ≡ true → token_at lexeme text ≡ integer_at text
unfolding integer_at
token_at-integer [] b d = absurd (false≢true d)
token_at-integer (c ∷ cs) b d =
    let text = c ∷ cs in
    let n = prefix_len continues_name (c ∷ cs) in
    let passes : continues_name c ≡ true = digit_char-continues c d in
    let next : prefix_len continues_name (c ∷ cs) ≡ 1 + prefix_len continues_name cs = rw passes refl in
    let some : 0 < prefix_len continues_name (c ∷ cs) = omega (arith, next) in
    let bound = prefix_len-le continues_name (c ∷ cs) in
    let same = integer_front c cs (prefix_len continues_name (c ∷ cs)) b d some in
    integer_cases (c ∷ cs) (prefix_len continues_name (c ∷ cs)) (bars_integer (drop (prefix_len continues_name (c ∷ cs)) (c ∷ cs))) (integer (take (prefix_len continues_name (c ∷ cs)) (c ∷ cs))) some bound refl refl same
    (λ m lo hi ne. other_fronts c cs m b d lo hi ne)
