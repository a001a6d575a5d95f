use Rattle.std.specs.Prelude.{ℕ, ◌+◌, ◌*◌, ◌/◌, ◌%◌, Bool, List, nat_eq, slice_index_or}
use Rattle.std.specs.Int.{bit_at}

-- Whether a bit of a word is set. This project's own: a pair is one bit.
abbrev pub bit_of : ℕ → ℕ → Bool
bit_of word place = nat_eq (bit_at word place) 1

-- The bit of a pair in the words of one row, 64 pairs to a word, the lowest bit first.
abbrev pub word_bit : List ℕ → ℕ → Bool
word_bit words pair = bit_of (slice_index_or words (pair / 64) 0) (pair % 64)

-- The bit of a pair in the row of a node, where the rows stand one behind another and each has `width` words.
abbrev pub row_bit : List ℕ → ℕ → ℕ → ℕ → Bool
row_bit words width node pair = bit_of (slice_index_or words (node * width + pair / 64) 0) (pair % 64)
