use Rattle.std.proofs.Common.{◌≡◌}
use Rattle.kt_tree.specs.Parts as spec
use Rattle.kt_parts.proofs.Times.{more}
use Rattle.kt_parts.proofs.lists.Queue+Built.some_pieces.Goals as goal

pub items-preserved : goal.items-preserved
items-preserved c =
    let h = more (spec.string_piece c.args.tokens.now) c.args.count c.items.left c.args.self.now c.string_piece.new.self c.items.self c.items.items c.in_ok-piece.piece c.items-test.true c.in_ok-piece.ensures c.items.invariant in
    rw (c.in_ok-push.ensures.ok) h
