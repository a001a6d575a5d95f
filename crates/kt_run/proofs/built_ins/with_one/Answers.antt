use Rattle.std.proofs.Common.{◌≡◌, ◌++◌, ◌∷◌, [], ℕ, sym, subst, ap, ◌∙◌}
use Rattle.kt_model.specs.declared.built_ins.BuiltIn.{BuiltIn}
use Rattle.kt_mean.specs.Evaluation.{built_in_of_one, demanded, failed, text_of_value}
use Rattle.kt_mean.specs.declared.states.Exception.TheVariants.{FailedRequirement, FailedCheck}
use Rattle.kt_run.specs.Scene.{scene, Runs}
use Rattle.kt_run.proofs.Chain.{prints_runs, quiet_runs}
use Rattle.kt_run.proofs.Steps.{no_built_in}
use Rattle.kt_run.proofs.built_ins.with_one.Goals as goal

-- a name that is that of a line of the table
named : {n : ℕ} {b line : BuiltIn} → n ≡ b.name → b ≡ line → n ≡ line.name
named e f = e ∙ ap (λ (b : BuiltIn). b.name) f

other : {n : ℕ} {b line : BuiltIn} → (n ≡ b.name → ⊥) → b ≡ line → n ≡ line.name → ⊥
other h f e = h (e ∙ sym (ap (λ (b : BuiltIn). b.name) f))

pub unreachable-requires : goal.unreachable-requires
unreachable-requires g c =
    no_built_in c.args.name c.args.value.now c.args.state.now (other c.if-name-println.false c.println.ensures) (other c.if-name-print.false c.print.ensures) (other c.if-name-require.false c.require.ensures) (other c.if-name-check.false c.check.ensures) (other c.if-name-error.false c.error.ensures) c.requires.right

pub returns-then-name-println : goal.returns-then-name-println
returns-then-name-println g c =
    let v = c.args.value.now in
    let state = c.args.state.now in
    let out = g.O.Output.state c.args.out.now in
    let end = scene state (g.O.Output.state c.print_line.new.out) in
    subst (λ (n : ℕ). Runs (built_in_of_one n v) (scene state out) c.print_line.result end) (sym (named c.if-name-println.true c.println.ensures))
    (prints_runs state out end.out (text_of_value v ++ 10 ∷ []) c.print_line.result c.print_line.ensures)

pub returns-then-name-print : goal.returns-then-name-print
returns-then-name-print g c =
    let v = c.args.value.now in
    let state = c.args.state.now in
    let out = g.O.Output.state c.args.out.now in
    let end = scene state (g.O.Output.state c.print-then-name-print.new.out) in
    subst (λ (n : ℕ). Runs (built_in_of_one n v) (scene state out) c.print-then-name-print.result end) (sym (named c.if-name-print.true c.print.ensures))
    (prints_runs state out end.out (text_of_value v) c.print-then-name-print.result c.print-then-name-print.ensures)

pub returns-then-name-require : goal.returns-then-name-require
returns-then-name-require g c =
    let v = c.args.value.now in
    let state = c.args.state.now in
    let out = g.O.Output.state c.args.out.now in
    let end = scene c.demand.new.state out in
    subst (λ (n : ℕ). Runs (built_in_of_one n v) (scene state out) c.demand.result end) (sym (named c.if-name-require.true c.require.ensures))
    (quiet_runs (demanded FailedRequirement v) state c.demand.result c.demand.new.state out c.demand.ensures)

pub returns-then-name-check : goal.returns-then-name-check
returns-then-name-check g c =
    let v = c.args.value.now in
    let state = c.args.state.now in
    let out = g.O.Output.state c.args.out.now in
    let end = scene c.demand-then-name-check.new.state out in
    subst (λ (n : ℕ). Runs (built_in_of_one n v) (scene state out) c.demand-then-name-check.result end) (sym (named c.if-name-check.true c.check.ensures))
    (quiet_runs (demanded FailedCheck v) state c.demand-then-name-check.result c.demand-then-name-check.new.state out c.demand-then-name-check.ensures)

pub returns-then-name-error : goal.returns-then-name-error
returns-then-name-error g c =
    let v = c.args.value.now in
    let state = c.args.state.now in
    let out = g.O.Output.state c.args.out.now in
    let end = scene c.fail.new.state out in
    subst (λ (n : ℕ). Runs (built_in_of_one n v) (scene state out) c.fail.result end) (sym (named c.if-name-error.true c.error.ensures))
    (quiet_runs (failed v) state c.fail.result c.fail.new.state out c.fail.ensures)
