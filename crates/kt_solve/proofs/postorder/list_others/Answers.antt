use Rattle.std.proofs.Common.{ℕ, ◌<◌, length, sym, ◌∙◌}
use Rattle.std.proofs.lemmas.List.Elements.{All-push, Contains-append_left}
use Rattle.kt_solve.proofs.Listing.{listed_more}
use Rattle.kt_solve.proofs.postorder.list_others.Goals as goal
use Rattle.kt_solve.proofs.postorder.list_others.Goals.{then-not-is_left+in_ok-push, else-not-is_left}
use borrow.Author.Count.{below_more}
use Rattle.std.specs.List.{Contains}

pub loop-node-preserved : goal.loop-node-preserved
loop-node-preserved c =
    let i = c.loop-node.invariant in
    elim c.if-not-is_left.branch [
      | then-not-is_left+in_ok-push w ↦ rw (w.order-is, w.in_ok-push.ensures.items) (record {
        within = All-push (λ (n : ℕ). n < length c.args.progress.now) c.loop-node.order.items c.loop-node.node i.within c.loop-node-test.true;
        left = λ n h t. Contains-append_left c.loop-node.order.items _ n (i.left n h t);
        listed = listed_more c.loop-node.order.items c.loop-node.node i.listed;
      })
      | else-not-is_left w ↦ rw w.order-is (record {
        within = i.within;
        left = i.left;
        listed = below_more (λ n. Contains c.loop-node.order.items n) c.loop-node.node i.listed (i.left c.loop-node.node c.loop-node-test.true (sym c.is_left.ensures ∙ w.if-not-is_left.false));
      })
    ]
