use Rattle.std.proofs.Common.{sym, ◌≡◌, ◌+◌, arith, below_more, get_or, None, false}
use Rattle.kt_flow.specs.declared.notes.TreeNote.{TreeNote}
use Rattle.kt_flow.proofs.Ordered.{numbers, next_is}
use Rattle.kt_flow.proofs.rules.are_numbered.Goals as goal

pub loop-note-preserved : goal.loop-note-preserved
loop-note-preserved c =
    let n : TreeNote = get_or c.args.notes.now c.loop-note.note-index (record { tree = 0; word = record { start = 0; end = 0 }; read = None; fixed = None; declares = false }) in
    let next : get_or (numbers c.args.notes.now) (c.loop-note.note-index + 1) 0 ≡ n.tree = next_is c.args.notes.now c.loop-note.note-index _ (omega arith) in
    record { last = sym next; rises = below_more _ _ c.loop-note.invariant.rises (let last = c.loop-note.invariant.last in omega (arith, next, last, c.if-note-last.false)) }
