use Rattle.std.proofs.Common.{◌≡◌, ◌++◌, take}
use Rattle.std.specs.List.{flat_map}
use Rattle.kt_model.specs.NameEvents.{expr_events, piece_events, stmt_events}
use Rattle.kt_scope.proofs.events.+events.Given as goal

abbrev pub invariant-in_exprs-loop-e : goal.invariant-in_exprs-loop-e
invariant-in_exprs-loop-e l = l.out.items ≡ l.fn.out.items ++ flat_map expr_events (take l.e-index l.es)

abbrev pub invariant-in_pieces-loop-piece : goal.invariant-in_pieces-loop-piece
invariant-in_pieces-loop-piece l = l.out.items ≡ l.fn.out.items ++ flat_map piece_events (take l.piece-index l.pieces)

abbrev pub invariant-in_stmts-loop-s : goal.invariant-in_stmts-loop-s
invariant-in_stmts-loop-s l = l.out.items ≡ l.fn.out.items ++ flat_map stmt_events (take l.s-index l.statements)
