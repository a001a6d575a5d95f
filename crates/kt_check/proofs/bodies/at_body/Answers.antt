use Rattle.std.proofs.Common.{ℕ, List, Contains, subst}
use Rattle.kt_model.specs.Bodies.{owner_parameters, owner_trees}
use Rattle.kt_model.specs.Classes.{Outlines, outlines, written}
use Rattle.kt_model.specs.Findings.{AreFindings}
use Rattle.kt_typing.specs.Typing.{IsTypingFinding, body_judged}
use Rattle.kt_infer.specs.Left.{is_in}
use Rattle.kt_model.specs.declared.uses.Owner.TheVariants as owner
use Rattle.kt_check.proofs.BodyFindings.{both_added}
use Rattle.kt_check.proofs.LeftTrees.{settled, typing_findings}
use Rattle.kt_check.proofs.bodies.at_body.Goals as goal

pub returns : goal.returns
returns c =
    let file = c.args.file.now in
    let uses = c.args.uses.now in
    let o = owner.Function c.args.place in
    let classes = written (outlines c.args.table.now) in
    let typing = c.in_ok-typed.typed.findings in
    let flow = c.in_ok-along_paths.along_paths.findings in
    let left = settled (owner_parameters uses o) (owner_trees file uses o) c.in_ok-along_paths.along_paths.left.items c.in_ok-along_paths.ensures.left in
    record {
      typing = typing;
      flow = flow;
      is = both_added c.args.found.now.items _ _ _ _ typing flow c.in_ok-extend_from_slice.ensures.items c.as_slice-2.ensures c.in_ok-extend_from_slice-2.ensures.items c.as_slice-3.ensures;
      typed = subst (λ (os : Outlines). AreFindings (IsTypingFinding file (written os) uses o) typing) c.requires.table (typing_findings file classes uses o typing left
          (subst (λ (trees : List ℕ). AreFindings (Contains (body_judged file classes uses (is_in trees) o).findings) typing) c.as_slice.ensures.value c.in_ok-typed.ensures.findings));
      flows = c.in_ok-along_paths.ensures.findings;
      settled = record { entered = c.in_ok-along_paths.ensures.entered; left = left };
    }
