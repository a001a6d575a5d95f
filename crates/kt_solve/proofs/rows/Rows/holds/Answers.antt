use Rattle.std.proofs.Common.{◌≡◌, ℕ, ◌<◌, Bool, true, ◌&&◌, length, arith, ap, sym, ◌∙◌}
use Rattle.std.proofs.lemmas.List.{length-map, get_or_default}
use Rattle.kt_solve.specs.declared.mark.Mark.TheVariants.{Unreached}
use Rattle.kt_solve.specs.Marks.{is_reached, mark_at}
use Rattle.kt_solve.specs.Table.{Table, reached_at, set_at, table_of}
use Rattle.kt_solve.specs.Words.{row_bit}
use Rattle.kt_solve.proofs.RowWords.{row_part}
use Rattle.kt_solve.proofs.Told.{reached_at-table_of, set_at-table_of}
use Rattle.kt_solve.proofs.rows.Rows.holds.Goals as goal

pub returns-then-reached : goal.returns-then-reached
returns-then-reached c =
    let i = c.self.inside in
    let n : ℕ = c.args.node in
    let q : ℕ = c.args.pair in
    let v : table_of c.self.inside.pairs c.self.inside.width c.self.inside.marks.items c.self.inside.words.items ≡ c.args.self.now = c.self.view_is in
    let hn : c.args.node < length c.self.inside.marks.items = omega (arith, ap (λ (t : Table). length t.reached) v, length-map c.self.inside.marks.items is_reached, c.requires.node) in
    let hp : c.args.pair < c.self.inside.pairs = omega (arith, ap (λ (t : Table). t.pairs) v, c.requires.pair) in
    let s : set_at c.args.self.now n q ≡ row_bit c.self.inside.words.items c.self.inside.width n q =
    ap (λ (t : Table). set_at t c.args.node c.args.pair) (sym v) ∙ set_at-table_of c.self.inside.pairs c.self.inside.width c.self.inside.marks.items c.self.inside.words.items c.args.node c.args.pair hn hp in
    let r : reached_at c.args.self.now n ≡ is_reached (mark_at c.self.inside.marks.items n) =
    ap (λ (t : Table). reached_at t c.args.node) (sym v) ∙ reached_at-table_of c.self.inside.pairs c.self.inside.width c.self.inside.marks.items c.self.inside.words.items c.args.node hn in
    let g : c.get_bit.result ≡ row_bit c.self.inside.words.items c.self.inside.width n q =
    (rw c.deref.ensures.value at c.get_bit.ensures) ∙ row_part c.self.inside.words.items c.args.node c.self.inside.width _ c.args.pair (omega arith) (omega (arith, hp, c.self.invariant.wide)) in
    let m : is_reached (mark_at c.self.inside.marks.items n) ≡ true =
    ap is_reached (sym (c.index.ensures ∙ get_or_default c.self.inside.marks.items c.args.node c.index.result.now Unreached hn)) ∙ sym c.is_reached-reached.ensures ∙ c.if-reached.true in
    g ∙ sym s ∙ ap (λ (b : Bool). b && set_at c.args.self.now c.args.node c.args.pair) (sym (r ∙ m))
