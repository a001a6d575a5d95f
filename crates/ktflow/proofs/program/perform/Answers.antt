use Rattle.std.proofs.Common.{◌≡◌, List, ℕ, subst, rules}
use Rattle.ktflow.specs.Executing.{Executes}
use Rattle.ktflow.proofs.Performing.{performs_run, performs_failed, performs_short, performs_usage}
use Rattle.ktflow.proofs.program.perform.Goals as goal

pub returns-in-Ok : goal.returns-in-Ok
returns-in-Ok g c = λ err err'.
    let source : c.deref.result.now ≡ c.in-Ok.source.items = search rules in
    let P : List ℕ → Type 0 = λ s. (input : List ℕ) → Executes s c.in-Some.request.steps input (g.O.Output.state c.args.out.now) (g.O.Output.state c.execute.new.out) c.execute.result in
    performs_run _ _ _ _ _ _ _ _ _ c.in-Ok.source.items c.execute.result c.in-Some.ensures c.in-Ok.ensures.fetches c.in-Ok.ensures.keeps (subst P source c.execute.ensures)

pub returns-in-Err-Failed : goal.returns-in-Err-Failed
returns-in-Err-Failed g c = λ err err'. performs_failed _ _ _ _ _ _ _ _ c.in-Some.ensures (rw c.in-Err-Failed.field-0-is at c.in-Err-Failed.ensures.fetches) c.in-Err-Failed.ensures.keeps

pub returns-in-Err-NoMemory : goal.returns-in-Err-NoMemory
returns-in-Err-NoMemory g c = λ err err'. performs_short _ _ _ _ _ _ _ _ c.in-Some.ensures (rw c.in-Err-NoMemory.field-0-is at c.in-Err-NoMemory.ensures.fetches) c.in-Err-NoMemory.ensures.keeps

pub returns-in-None : goal.returns-in-None
returns-in-None g c = λ err err'. performs_usage _ _ _ _ _ _ c.in-None.ensures
