use Rattle.std.proofs.Common.{◌≡◌, ℕ, true, List, ◌++◌, length}
use denote.Text.{Utf8}
use denote.Shadow.{shadow}
use Rattle.std.specs.Str.{chars}
use Rattle.std.specs.List.{list_all}
use Rattle.kt_tree.specs.Characters.{continues_name}
use Rattle.kt_lex.proofs.words.split_run.Given as goal

abbrev pub invariant-characters : goal.invariant-characters
invariant-characters l = record {
  text : shadow (Utf8 l.rest);
  cut : (front : List ℕ) × (l.s ≡ front ++ l.rest);
  run : (front : List ℕ) × (chars l.s ≡ front ++ chars l.rest) × (list_all continues_name front ≡ true);
}

abbrev pub decreases-characters : goal.decreases-characters
decreases-characters l = length l.rest
