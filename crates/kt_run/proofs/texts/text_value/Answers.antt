use Rattle.std.proofs.Common.{List, ℕ, Ok}
use Rattle.kt_mean.specs.declared.states.Value.TheVariants as value
use Rattle.kt_mean.specs.Frames.{pure}
use Rattle.kt_mean.specs.Evaluation.{make_text}
use Rattle.kt_run.proofs.Chain.{quiet_then, quiet_exit_by, pure_quiet}
use Rattle.kt_run.proofs.texts.text_value.Goals as goal

pub returns-in_err-text : goal.returns-in_err-text
returns-in_err-text c =
    quiet_exit_by (make_text c.args.bytes.items) (λ (t : List ℕ). pure (value.Text t)) c.args.state.now c.make_text.new.state c.in_err-text.field-0.0 c.from_residual.result c.from_residual.ensures.1 c.in_err-text.ensures

pub returns : goal.returns
returns c =
    let end = c.make_text.new.state in
    let text = c.in_ok-text.text in
    quiet_then (make_text c.args.bytes.items) (λ (t : List ℕ). pure (value.Text t)) text c.args.state.now end (Ok (value.Text text)) end c.in_ok-text.ensures (pure_quiet (value.Text text) end)
