use Rattle.std.proofs.Common.{◌∷◌, refl, sym, subst}
use Rattle.std.specs.Prelude.{OnOk}
use Rattle.kt_scope.specs.Stack.{Reaches}
use Rattle.kt_scope.proofs.EventSteps as step
use Rattle.kt_scope.proofs.resolver.Resolver.event.Goals as goal

pub returns-in-Opens : goal.returns-in-Opens
returns-in-Opens c start before at =
    subst (λ e. OnOk c.open.result (Reaches c.args.tops.now start (e ∷ before) c.open.new.self)) (sym c.in-Opens.is) (step.opens c.open.result c.args.tops.now start before c.args.self.now c.open.new.self at c.open.ensures.scopes c.open.ensures.declared c.open.ensures.rows c.open.ensures.found)

pub returns-in-Parameter : goal.returns-in-Parameter
returns-in-Parameter c start before at =
    subst (λ e. OnOk c.parameter.result (Reaches c.args.tops.now start (e ∷ before) c.parameter.new.self)) (sym c.in-Parameter.is) (step.parameter c.parameter.result c.args.tops.now start before c.args.self.now c.parameter.new.self c.in-Parameter.name c.in-Parameter.written at c.parameter.ensures.scopes c.parameter.ensures.declared c.parameter.ensures.rows c.parameter.ensures.found)

pub returns-in-Local : goal.returns-in-Local
returns-in-Local c start before at =
    subst (λ e. OnOk c.local.result (Reaches c.args.tops.now start (e ∷ before) c.local.new.self)) (sym c.in-Local.is) (step.local c.local.result c.args.tops.now start before c.args.self.now c.local.new.self c.in-Local.tree c.in-Local.name c.in-Local.is_var c.in-Local.written at c.local.ensures.scopes c.local.ensures.declared c.local.ensures.rows c.local.ensures.found)

pub returns-in-Reads : goal.returns-in-Reads
returns-in-Reads c start before at =
    subst (λ e. OnOk c.value.result (Reaches c.args.tops.now start (e ∷ before) c.value.new.self)) (sym c.in-Reads.is) (step.reads c.value.result c.args.tops.now start before c.args.self.now c.value.new.self c.in-Reads.tree c.in-Reads.name at c.value.ensures.rows c.value.ensures.found c.value.ensures.scopes c.value.ensures.declared)

pub returns-in-Calls : goal.returns-in-Calls
returns-in-Calls c start before at =
    subst (λ e. OnOk c.call.result (Reaches c.args.tops.now start (e ∷ before) c.call.new.self)) (sym c.in-Calls.is) (step.calls c.call.result c.args.tops.now start before c.args.self.now c.call.new.self c.in-Calls.tree c.in-Calls.name at c.call.ensures.rows c.call.ensures.found c.call.ensures.scopes c.call.ensures.declared)

pub returns-in-Assigns : goal.returns-in-Assigns
returns-in-Assigns c start before at =
    subst (λ e. OnOk c.value-in-Assigns.result (Reaches c.args.tops.now start (e ∷ before) c.value-in-Assigns.new.self)) (sym c.in-Assigns.is) (step.assigns c.value-in-Assigns.result c.args.tops.now start before c.args.self.now c.value-in-Assigns.new.self c.in-Assigns.tree c.in-Assigns.name at c.value-in-Assigns.ensures.rows c.value-in-Assigns.ensures.found c.value-in-Assigns.ensures.scopes c.value-in-Assigns.ensures.declared)

pub returns-in-Closes : goal.returns-in-Closes
returns-in-Closes c start before at =
    subst (λ e. Reaches c.args.tops.now start (e ∷ before) (record { scopes = c.close.new.stack; declared = c.args.self.now.declared; rows = c.args.self.now.rows; found = c.args.self.now.found })) (sym c.in-Closes.is) (step.closes c.args.tops.now start before c.args.self.now (record { scopes = c.close.new.stack; declared = c.args.self.now.declared; rows = c.args.self.now.rows; found = c.args.self.now.found }) at c.close.ensures refl refl refl)
