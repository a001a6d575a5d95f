use Rattle.std.proofs.Common.{List, ℕ, drop, subst, ◌∙◌}
use Rattle.std.proofs.lemmas.List.{take_rest}
use Rattle.kt_outside.specs.Outside.{PutTakes, PutFails}
use Rattle.kt_outside.proofs.PutSteps.{puts_more, puts_front, put_within}
use Rattle.kt_outside.proofs.puts.put_all.Goals as goal

pub loop-at-preserved : goal.loop-at-preserved
loop-at-preserved g c =
    let before = g.O.Output.state c.loop-at.out in
    let after = g.O.Output.state c.put.new.self in
    let text = c.args.text.now in
    let P : List ℕ → Type 0 = λ piece. PutTakes before after piece c.in-Put.count in
    let takes : PutTakes before after (drop c.loop-at.at text) c.in-Put.count = subst P (take_rest text c.loop-at.at) c.in-Put.ensures.puts in
    (puts_more _ before after text c.loop-at.at c.in-Put.count c.loop-at.invariant.1 c.loop-at.invariant.0 takes, put_within before after text c.loop-at.at c.in-Put.count c.loop-at.invariant.1 takes, takes.faults ∙ c.loop-at.invariant.2)

pub returns-in-Failed : goal.returns-in-Failed
returns-in-Failed g c =
    let before = g.O.Output.state c.loop-at.out in
    let after = g.O.Output.state c.put.new.self in
    let text = c.args.text.now in
    let P : List ℕ → Type 0 = λ piece. PutFails before after piece in
    let fails : PutFails before after (drop c.loop-at.at text) = subst P (take_rest text c.loop-at.at) c.in-Failed.ensures.puts in
    puts_front _ before after text c.loop-at.at c.loop-at.invariant.1 c.loop-at.invariant.2 c.loop-at.invariant.0 fails
