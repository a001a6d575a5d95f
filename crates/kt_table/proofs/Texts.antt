-- Tables whose keys are texts.
use Rattle.std.proofs.Common.{◌≡◌, ℕ, Bool, cond, List, [], ◌∷◌, map, refl, ap, ◌∙◌, bytes_eq, Option, Some, nat_cmp, Bor}
use Rattle.std.specs.Map.{lookup}
use Rattle.std.specs.Cmp.Lexicographic.{slice_cmp}
use Rattle.std.proofs.lemmas.Map.Text.{is_eq-slice_cmp}
use Rattle.kt_table.specs.Table.{first_value}

-- the first row whose text compares equal is the first with the same bytes
pub first_value-text : {V : Type 0} (rows : List (Bor (List ℕ) × V)) (key : Bor (List ℕ)) → first_value (λ x y. slice_cmp nat_cmp x.now y.now) rows key ≡ lookup (λ text. bytes_eq text key.now) (map (λ row. (row.0.now, row.1)) rows)
first_value-text [] key = refl
first_value-text {V} (row ∷ rows) key =
    let found : Option V = first_value (λ x y. slice_cmp nat_cmp x.now y.now) rows key in
    ap (λ (b : Bool). cond b (Some row.1) found) (is_eq-slice_cmp row.0.now key.now) ∙ ap (λ (o : Option V). cond (bytes_eq row.0.now key.now) (Some row.1) o) (first_value-text rows key)
