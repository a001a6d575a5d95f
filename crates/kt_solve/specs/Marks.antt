use Rattle.std.specs.Prelude.{ℕ, Bool, true, false, not, List, slice_index_or, ◌+◌, sum}
use Rattle.std.specs.List.{count_by}
use Rattle.kt_solve.specs.declared.mark.Mark.{Mark}
use Rattle.kt_solve.specs.declared.mark.Mark.TheVariants.{Unreached, Waiting, Read}

abbrev pub is_reached : Mark → Bool
is_reached Unreached = false
is_reached Waiting = true
is_reached Read = true

abbrev pub is_waiting : Mark → Bool
is_waiting Unreached = false
is_waiting Waiting = true
is_waiting Read = false

abbrev pub is_read : Mark → Bool
is_read Unreached = false
is_read Waiting = false
is_read Read = true

-- the mark of a node; a node past the end is not reached
abbrev pub mark_at : List Mark → ℕ → Mark
mark_at marks node = slice_index_or marks node Unreached

-- How much can still go: the nodes that are not reached, and the words of all rows read as numbers.
abbrev pub weight : List Mark → List ℕ → ℕ
weight marks words = count_by (λ (m : Mark). not (is_reached m)) marks + sum words
