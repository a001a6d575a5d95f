use Rattle.std.proofs.Common.{◌≡◌, ◌∷◌, [], ℤ, Bool, Ok, rules, sym, ap, subst, ◌∙◌}
use Rattle.kt_mean.specs.declared.states.Value.TheVariants as value
use Rattle.kt_mean.specs.Frames.{pure}
use Rattle.kt_mean.specs.Evaluation.{arithmetic_of, compared, operated}
use Rattle.kt_run.specs.declared.operators.Operator.{Operator}
use Rattle.kt_run.specs.Scene.{Right, Quiet}
use Rattle.kt_run.specs.Operators.{operation_of}
use Rattle.kt_run.proofs.Chain.{pure_quiet, same_quiet}
use Rattle.kt_run.proofs.Steps.{numbers_there, on_numbers}
use Rattle.kt_run.proofs.operators.combine.Goals as goal

pub number-requires : goal.number-requires
number-requires c =
    let a = c.args.a.now in
    let b = c.args.b.now in
    let state = c.args.state.now in
    (numbers_there (arithmetic_of c.in-Arithmetic.o) a b state (subst (λ (o : Operator). Right (operated (operation_of o) (a ∷ b ∷ [])) state) c.in-Arithmetic.is c.requires.right)).left

pub number-requires-in-Arithmetic : goal.number-requires-in-Arithmetic
number-requires-in-Arithmetic c =
    let a = c.args.a.now in
    let b = c.args.b.now in
    let state = c.args.state.now in
    (numbers_there (arithmetic_of c.in-Arithmetic.o) a b state (subst (λ (o : Operator). Right (operated (operation_of o) (a ∷ b ∷ [])) state) c.in-Arithmetic.is c.requires.right)).right

pub number-requires-in-Compare : goal.number-requires-in-Compare
number-requires-in-Compare c =
    let a = c.args.a.now in
    let b = c.args.b.now in
    let state = c.args.state.now in
    let comparison = c.in-Compare.o in
    (numbers_there (λ (k l : ℤ). pure (value.Bool (compared comparison k l))) a b state (subst (λ (o : Operator). Right (operated (operation_of o) (a ∷ b ∷ [])) state) c.in-Compare.is c.requires.right)).left

pub number-requires-in-Compare-2 : goal.number-requires-in-Compare-2
number-requires-in-Compare-2 c =
    let a = c.args.a.now in
    let b = c.args.b.now in
    let state = c.args.state.now in
    let comparison = c.in-Compare.o in
    (numbers_there (λ (k l : ℤ). pure (value.Bool (compared comparison k l))) a b state (subst (λ (o : Operator). Right (operated (operation_of o) (a ∷ b ∷ [])) state) c.in-Compare.is c.requires.right)).right

pub returns-in-Compare : goal.returns-in-Compare
returns-in-Compare c =
    let a = c.args.a.now in
    let b = c.args.b.now in
    let state = c.args.state.now in
    let comparison = c.in-Compare.o in
    let k = c.number-in-Compare.result in
    let l = c.number-in-Compare-2.result in
    let end = value.Bool c.compare.result in
    let is : c.compare.result ≡ compared comparison k l = search rules in
    subst (λ (o : Operator). Quiet (operated (operation_of o) (a ∷ b ∷ [])) state (Ok end) state) (sym c.in-Compare.is)
    (same_quiet _ _ state (Ok end) state
    (on_numbers (λ (k l : ℤ). pure (value.Bool (compared comparison k l))) a b k l c.number-in-Compare.ensures c.number-in-Compare-2.ensures ∙ ap (λ (b : Bool). pure (value.Bool b)) (sym is))
    (pure_quiet end state))

pub returns-in-Equal : goal.returns-in-Equal
returns-in-Equal c =
    let state = c.args.state.now in
    let end = value.Bool c.is_equal.result in
    subst (λ (o : Operator). Quiet (operated (operation_of o) (c.args.a.now ∷ c.args.b.now ∷ [])) state (Ok end) state) (sym c.in-Equal.is)
    (same_quiet _ _ state (Ok end) state (ap (λ (b : Bool). pure (value.Bool b)) (sym c.is_equal.ensures)) (pure_quiet end state))
