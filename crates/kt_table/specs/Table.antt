-- Tables of rows, each a key and a value, in an order `cmp` of the keys. All of it is this project's own.
-- The code looks a key up by halving the rows; here the rows are gone through from the first to the last.
use Rattle.std.specs.Prelude.{Bool, true, ◌&&◌, List, [], ◌∷◌, Option}
use Rattle.std.specs.Map.{lookup}
use Rattle.std.specs.Ordering.{is_lt, is_eq}
use Rattle.std.specs.declared.cmp.Ordering.{Ordering}

-- whether the keys of the rows rise strictly from a key on: each is above the one before it
abbrev pub rises_from : {K V : Type 0} → (K → K → Ordering) → K → List (K × V) → Bool
rises_from cmp key [] = true
rises_from cmp key (row ∷ rows) = is_lt (cmp key row.0) && rises_from cmp row.0 rows

-- whether the keys of the rows rise strictly
abbrev pub rises : {K V : Type 0} → (K → K → Ordering) → List (K × V) → Bool
rises cmp [] = true
rises cmp (row ∷ rows) = rises_from cmp row.0 rows

-- the value of the first row whose key compares equal
abbrev pub first_value : {K V : Type 0} → (K → K → Ordering) → List (K × V) → K → Option V
first_value cmp rows key = lookup (λ held. is_eq (cmp held key)) rows
