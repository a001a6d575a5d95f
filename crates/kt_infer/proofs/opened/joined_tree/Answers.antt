use Rattle.std.proofs.Common.{ℕ, List, [], ap, ◌∙◌}
use Rattle.kt_infer.specs.Opening.{joined_with}
use Rattle.kt_infer.specs.declared.notes.Opened.{Opened}
use Rattle.kt_infer.proofs.opened.joined_tree.Goals as goal

pub returns : goal.returns
unfolding Rattle.kt_infer.specs.declared.notes.Opened.TheBlock.shape-the_row-Opened-0 Rattle.kt_infer.specs.declared.notes.Opened.TheBlock.hidden-the_row-Opened-0 denote.Hole.Carrier.hidden
returns c =
    let made = λ (l : List ℕ) (a b : Opened). joined_with (record { number = c.args.number; span = c.args.span; parens = l; complete = c.args.complete }) a c.args.between b in
    ap (λ l. made l c.in_ok-first.first c.in_ok-second.second) c.new.ensures ∙ ap (λ a. made [] a c.in_ok-second.second) c.in_ok-first.ensures ∙ ap (made [] c.args.first) c.in_ok-second.ensures
