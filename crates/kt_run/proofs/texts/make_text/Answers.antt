use Rattle.std.proofs.Common.{◌≡◌, ◌+◌, ◌<◌, ◌≤◌, List, ℕ, Ok, length, arith, sym, subst, ◌∙◌}
use Rattle.kt_mean.specs.Evaluation.{most_text}
use Rattle.kt_mean.specs.Evaluation as spec
use Rattle.kt_run.specs.Scene.{Quiet}
use Rattle.kt_run.proofs.Steps.{text_over, text_counted}
use Rattle.kt_run.proofs.texts.make_text.Goals as goal

pub returns-then-count-gt-MOST_TEXT : goal.returns-then-count-gt-MOST_TEXT
returns-then-count-gt-MOST_TEXT c =
    let past : most_text < c.args.state.now.text + length c.args.bytes.items = omega arith in
    text_over c.args.bytes.items c.args.state.now past

pub returns : goal.returns
returns c =
    let text = c.args.bytes.items in
    let state = c.args.state.now in
    let count = c.saturating_add-count.result in
    let is : count ≡ state.text + length text = omega arith in
    let within : count ≤ most_text = omega arith in
    subst (λ (t : List ℕ). Quiet (spec.make_text text) state (Ok t) (record state { text = count })) (sym (c.new.ensures ∙ c.from_vec.ensures)) (text_counted text count state is within)
