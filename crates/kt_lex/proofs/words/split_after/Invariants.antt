use Rattle.std.proofs.Common.{◌≡◌, ℕ, List, ◌++◌, length}
use denote.Text.{Utf8}
use denote.Shadow.{shadow}
use Rattle.std.specs.Str.{chars}
use Rattle.kt_lex.proofs.words.split_after.Given as goal

abbrev pub invariant-loop : goal.invariant-loop
invariant-loop l = record {
  text : shadow (Utf8 l.rest);
  cut : (front : List ℕ) × (l.s ≡ front ++ l.rest);
  front : (front : List ℕ) × (chars l.s ≡ front ++ chars l.rest) × (length front ≡ l.counter);
}
