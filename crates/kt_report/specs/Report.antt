-- The report of a refused source. Its format is this project's own.
--
-- A line for the first finding: the place of its start, `-`, the place of its end, a space, the rule's code, a space, the rule's text; then the line
-- `refused findings=1`. A place is its line, `:` and its column, both from 1. A place is found over the bytes before it, of any source, be it a text of
-- UTF-8 or none.
use Rattle.std.specs.Prelude.{ℕ, ◌+◌, Bool, ◌&&◌, ◌||◌, not, ◌==◌, nat_lt, List, [], ◌∷◌, ◌++◌, take, drop, codes, decimal, if◌then◌else◌}
use Rattle.std.specs.List.{starts_with}
use Rattle.kt_model.specs.Codes.{code_of, text_of}
use Rattle.kt_model.specs.declared.finding.Finding.{Finding}

-- A line ends behind the byte b, before the next one: behind LF, and behind a CR that no LF follows.
abbrev pub ends_line : ℕ → ℕ → Bool
ends_line b next = b == 10 || (b == 13 && not (next == 10))

-- A character of UTF-8 begins at each byte but those from 128 to 191.
abbrev pub begins_character : ℕ → Bool
begins_character b = nat_lt b 128 || nat_lt 191 b

-- the column behind a byte that ends no line
abbrev pub next_column : ℕ → ℕ → ℕ
next_column column b = if begins_character b then column + 1 else column

-- the line and the column behind the byte b, before the next one
abbrev pub next_place : ℕ → ℕ → ℕ → ℕ → ℕ × ℕ
next_place line column b next = if ends_line b next then (line + 1, 1) else (line, next_column column b)

-- the first byte, or 0
abbrev pub first : List ℕ → ℕ
first [] = 0
first (b ∷ bs) = b

-- the line and the column behind the front, from those before it; the rest follows it
abbrev pub place_behind : ℕ → ℕ → List ℕ → List ℕ → ℕ × ℕ
place_behind line column [] rest = (line, column)
place_behind line column (b ∷ front) rest =
    let p = next_place line column b (first (front ++ rest)) in place_behind p.0 p.1 front rest

-- the three bytes of U+FEFF
abbrev pub mark : List ℕ
mark = 239 ∷ 187 ∷ 191 ∷ []

-- without one U+FEFF at the start, which is not counted
abbrev pub without_mark : List ℕ → List ℕ
without_mark bs = if starts_with ◌==◌ bs mark then drop 3 bs else bs

-- the line and the column of a place in bytes; one past the end counts as the end
abbrev pub line_col : List ℕ → ℕ → ℕ × ℕ
line_col source at = place_behind 1 1 (without_mark (take at source)) (drop at source)

abbrev pub place_text : ℕ × ℕ → List ℕ
place_text p = decimal p.0 ++ codes ":" ++ decimal p.1

abbrev pub place_of : List ℕ → ℕ → List ℕ
place_of source at = place_text (line_col source at)

-- the report of a source with this first finding
unfoldable pub report_of : List ℕ → Finding → List ℕ
report_of source finding =
    place_of source finding.span.start ++ codes "-" ++ place_of source finding.span.end
    ++ codes " " ++ code_of finding.rule ++ codes " " ++ text_of finding.rule ++ codes "\nrefused findings=1\n"
