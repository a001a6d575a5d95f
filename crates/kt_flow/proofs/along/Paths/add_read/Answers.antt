use Rattle.kt_flow.proofs.Strays.{read_early, read_allowed}
use Rattle.kt_flow.proofs.Adding.{adds_none}
use Rattle.std.proofs.Common.{sym, ◌∙◌}
use Rattle.std.proofs.lemmas.Bool.{false≢true}
use Rattle.kt_flow.proofs.along.Paths.add_read.Goals as goal

pub returns-in_ok-push : goal.returns-in_ok-push
returns-in_ok-push c =
    read_early c.args.self.now.graph.now c.args.node c.args.note.now c.args.local c.args.found.now.items c.push.new.self.items (c.is_local.ensures.0 c.if-not-is_local.false) (c.in_ok-strays.ensures.0 c.if-branch.true) c.in_ok-push.ensures.items

pub returns-else-branch : goal.returns-else-branch
returns-else-branch c =
    adds_none _ c.args.found.now.items (read_allowed c.args.self.now.graph.now c.args.node c.args.note.now c.args.local (λ h. false≢true (sym c.if-branch.false ∙ c.in_ok-strays.ensures.1 h)))
