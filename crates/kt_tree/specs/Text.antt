-- A text as its characters, and places in it in bytes.
use Rattle.std.specs.Prelude.{ℕ, ◌-◌, length, Bool, ◌==◌, if◌then◌else◌, List, [], ◌∷◌, take, drop}
use Rattle.std.specs.Str.{encode_utf8_all}
use Rattle.std.specs.List.{prefix_len}

-- the first character, or 0, which no token has
abbrev pub first : List ℕ → ℕ
first [] = 0
first (c ∷ cs) = c

-- without the first character
abbrev pub after_first : List ℕ → List ℕ
after_first [] = []
after_first (c ∷ cs) = cs

-- without one U+FEFF at the start
abbrev pub without_mark : List ℕ → List ℕ
without_mark [] = []
without_mark (c ∷ cs) = if c == 0xFEFF then cs else c ∷ cs

-- how many bytes the characters take in UTF-8
abbrev pub width : List ℕ → ℕ
width cs = length (encode_utf8_all cs)

-- the place in the whole text at which the rest begins, in bytes
abbrev pub place : List ℕ → List ℕ → ℕ
place whole rest = width whole - width rest

-- the longest front of characters that pass
abbrev pub run : (ℕ → Bool) → List ℕ → List ℕ
run p cs = take (prefix_len p cs) cs

-- what follows it
abbrev pub after_run : (ℕ → Bool) → List ℕ → List ℕ
after_run p cs = drop (prefix_len p cs) cs
