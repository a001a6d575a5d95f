use Rattle.std.proofs.Common.{List, ℕ, Bool, false, Some, Ok, sym, subst, ◌∙◌}
use Rattle.kt_mean.specs.declared.states.Value.TheVariants as value
use Rattle.kt_mean.specs.Evaluation.{string_of}
use Rattle.kt_run.specs.Scene.{Quiet}
use Rattle.kt_run.proofs.Chain.{pure_quiet}
use Rattle.kt_run.proofs.texts.string.Goals as goal

pub returns : goal.returns
returns c =
    let text = c.args.bytes.items in
    let state = c.args.state.now in
    subst (λ (b : Bool). Quiet (string_of b (Some text)) state (Ok (value.Text c.new.result)) state) (sym c.if-has_parts.false)
    (subst (λ (t : List ℕ). Quiet (string_of false (Some text)) state (Ok (value.Text t)) state) (sym (c.new.ensures ∙ c.from_vec.ensures)) (pure_quiet (value.Text text) state))
