use Rattle.std.proofs.Common.{rules, is_lt}
use Rattle.std.proofs.lemmas.List.Sorted.{answers_always}
use Rattle.kt_table.proofs.Rising.{rises_answer, rises-iff}
use Rattle.kt_table.proofs.table.Table.checked.Goals as goal

pub returns-clause-value : goal.returns-clause-value
returns-clause-value g c =
    let answer = c.is_sorted_by.ensures.cases (λ x y. is_lt (g.K.Ord.cmp x.0 y.0)) (answers_always _ _ _ (λ f a r h called. search rules)) in
    rw (← c.self.view_is) (rises_answer g.K.Ord.cmp c.self.inside.rows.now c.is_sorted_by.result answer)

pub returns-clause-sorted : goal.returns-clause-sorted
returns-clause-sorted g c =
    let value = returns-clause-value g c in rw value (rises-iff g.K.Ord.cmp g.met.K.Ord.total c.args.self.now)
