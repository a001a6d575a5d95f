use Rattle.std.proofs.Common.{◌≡◌, rules, sym, true}
use Rattle.std.proofs.lemmas.Fn.{always_returns_same}
use Rattle.kt_table.specs.Table.{rises}
use Rattle.kt_table.proofs.Search.{first_at, one_row, none_iff, searchable, none_between, none_found}
use Rattle.kt_table.proofs.table.Table.find.Goals as goal

pub returns-in-Ok-clause-first : goal.returns-in-Ok-clause-first
returns-in-Ok-clause-first g c =
    let found = c.in-Ok.ensures.position (λ row. g.K.Ord.cmp row.0 c.args.key.now) (always_returns_same _ _ _ (λ a r h called. search rules)) in
    let rising : rises g.K.Ord.cmp c.self.inside.rows.now ≡ true = rw c.self.view_is c.requires in
    rw (← c.self.view_is) (sym (first_at g.K.Ord.cmp g.met.K.Ord.total c.args.key.now c.self.inside.rows.now rising c.in-Ok.place c.index-self-place.result c.in-Ok.ensures.bound (found c.index-self-place.result)))

pub returns-in-Ok-clause-one : goal.returns-in-Ok-clause-one
returns-in-Ok-clause-one g c = one_row g.K.Ord.cmp g.met.K.Ord.total c.args.key.now c.args.self.now c.requires _ (returns-in-Ok-clause-first g c)

pub returns-in-Ok-clause-none : goal.returns-in-Ok-clause-none
returns-in-Ok-clause-none g c = none_iff g.K.Ord.cmp g.met.K.Ord.total c.args.key.now c.args.self.now _ (returns-in-Ok-clause-first g c)

pub returns-in-Err-clause-first : goal.returns-in-Err-clause-first
returns-in-Err-clause-first g c =
    let found = c.in-Err.ensures.position (λ row. g.K.Ord.cmp row.0 c.args.key.now) (always_returns_same _ _ _ (λ a r h called. search rules)) in
    let rising : rises g.K.Ord.cmp c.self.inside.rows.now ≡ true = rw c.self.view_is c.requires in
    let sides = found (searchable g.K.Ord.cmp g.met.K.Ord.total c.args.key.now c.self.inside.rows.now rising) in
    rw (← c.self.view_is) (sym (none_found g.K.Ord.cmp g.met.K.Ord.total c.args.key.now c.self.inside.rows.now (none_between g.K.Ord.cmp g.met.K.Ord.total c.args.key.now c.self.inside.rows.now c.in-Err.field-0 sides)))

pub returns-in-Err-clause-one : goal.returns-in-Err-clause-one
returns-in-Err-clause-one g c = one_row g.K.Ord.cmp g.met.K.Ord.total c.args.key.now c.args.self.now c.requires _ (returns-in-Err-clause-first g c)

pub returns-in-Err-clause-none : goal.returns-in-Err-clause-none
returns-in-Err-clause-none g c = none_iff g.K.Ord.cmp g.met.K.Ord.total c.args.key.now c.args.self.now _ (returns-in-Err-clause-first g c)
