-- The longest token at the front of a text. Kotlin's specification, "Lexical grammar". All fronts are tried, from the longest down; the code goes over
-- the characters once.
use Rattle.std.specs.Prelude.{ℕ, zero, suc, List, take, drop, length, Option, Some, None, option_map}
use Rattle.kt_tree.specs.Lexemes.{Lexeme}

-- A longer front counts before a shorter one.
abbrev pub or_shorter : Option Lexeme → ℕ → Option (Lexeme × ℕ) → Option (Lexeme × ℕ)
or_shorter (Some l) n shorter = Some (l, n)
or_shorter None n shorter = shorter

-- the longest front of at most n characters that is a token, and its length
abbrev pub longest_from : (List ℕ → List ℕ → Option Lexeme) → ℕ → List ℕ → Option (Lexeme × ℕ)
longest_from f zero text = None
longest_from f (suc n) text = or_shorter (f (take (suc n) text) (drop (suc n) text)) (suc n) (longest_from f n text)

-- the longest front that is a token, and its length; f says what is a token before what
unfoldable pub longest : (List ℕ → List ℕ → Option Lexeme) → List ℕ → Option (Lexeme × ℕ)
longest f text = longest_from f (length text) text

-- the longest token at the front, and what follows it
abbrev pub token_at : (List ℕ → List ℕ → Option Lexeme) → List ℕ → Option (Lexeme × List ℕ)
token_at f text = option_map (λ p. (p.0, drop p.1 text)) (longest f text)
