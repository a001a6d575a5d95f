use Rattle.std.proofs.Common.{List, ℕ, Ok, Err, subst}
use Rattle.kt_mean.specs.declared.states.Value.{Value}
use Rattle.kt_mean.specs.declared.states.Exception.TheVariants.{Error}
use Rattle.kt_mean.specs.Evaluation.{make_text, text_of_value, throws}
use Rattle.kt_run.specs.Scene.{Quiet}
use Rattle.kt_run.proofs.Chain.{quiet_then, quiet_exit_by, same_quiet}
use Rattle.kt_run.proofs.Steps.{failed_as_text}
use Rattle.kt_run.proofs.built_ins.fail.Goals as goal

pub returns-in_err-text-in_default : goal.returns-in_err-text-in_default
returns-in_err-text-in_default c =
    let v = c.args.value.now in
    let state = c.args.state.now in
    let end = c.make_text.new.state in
    let next = λ (t : List ℕ). throws (Error t) in
    let left = Err c.in_err-text-in_default.field-0.0 in
    let over : Quiet (make_text (text_of_value v)) state left end = subst (λ (t : List ℕ). Quiet (make_text t) state left end) c.in_ok-bytes-in_default.ensures c.in_err-text-in_default.ensures in
    same_quiet _ _ state c.from_residual-in_err-text-in_default.result end (failed_as_text v c.in_default.not-Text)
    (quiet_exit_by {B = Value} (make_text (text_of_value v)) next state end _ c.from_residual-in_err-text-in_default.result c.from_residual-in_err-text-in_default.ensures.1 over)

pub returns-in_ok-text-in_default : goal.returns-in_ok-text-in_default
returns-in_ok-text-in_default c =
    let v = c.args.value.now in
    let state = c.args.state.now in
    let middle = c.make_text.new.state in
    let end = c.throw-in_default.new.state in
    let text = c.in_ok-text-in_default.text in
    let next = λ (t : List ℕ). throws (Error t) in
    let made : Quiet (make_text (text_of_value v)) state (Ok text) middle = subst (λ (t : List ℕ). Quiet (make_text t) state (Ok text) middle) c.in_ok-bytes-in_default.ensures c.in_ok-text-in_default.ensures in
    same_quiet _ _ state c.throw-in_default.result end (failed_as_text v c.in_default.not-Text)
    (quiet_then {B = Value} (make_text (text_of_value v)) next text state middle c.throw-in_default.result end made c.throw-in_default.ensures)
