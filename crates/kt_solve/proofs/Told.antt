use Rattle.std.proofs.Common.{◌≡◌, ℕ, ◌<◌, Bool, false, List, [], length, get_or, arith, ap, ◌∙◌}
use Rattle.std.proofs.lemmas.List.{get_or-map}
use Rattle.std.proofs.lemmas.List.FromFn.{get_or-map-range_with_len}
use Rattle.kt_solve.specs.declared.mark.Mark.{Mark}
use Rattle.kt_solve.specs.declared.mark.Mark.TheVariants.{Unreached}
use Rattle.kt_solve.specs.Marks.{is_reached, mark_at}
use Rattle.kt_solve.specs.Table.{reached_at, set_at, row_of, table_of}
use Rattle.kt_solve.specs.Words.{row_bit}

-- what a table of marks and words tells of a node
pub reached_at-table_of : (pairs width : ℕ) (marks : List Mark) (words : List ℕ) (node : ℕ) → node < length marks → reached_at (table_of pairs width marks words) node ≡ is_reached (mark_at marks node)
reached_at-table_of pairs width marks words node h = get_or-map is_reached marks node Unreached false h

-- and of a pair there
pub set_at-table_of : (pairs width : ℕ) (marks : List Mark) (words : List ℕ) (node pair : ℕ) → node < length marks → pair < pairs → set_at (table_of pairs width marks words) node pair ≡ row_bit words width node pair
set_at-table_of pairs width marks words node pair h l =
    ap (λ (r : List Bool). get_or r pair false) (get_or-map-range_with_len (row_of pairs width words) 0 (length marks) node node [] h (omega arith))
    ∙ get_or-map-range_with_len (row_bit words width node) 0 pairs pair pair false l (omega arith)
