use Rattle.std.proofs.Common.{map, drop, take}
use Rattle.kt_model.specs.NameUses.{named_at}
use Rattle.kt_model.specs.BodyTrees.{stmt_tree, listed, seen, seen_trees, piece, inserted_of}
use Rattle.kt_typing.specs.Typing.{Each, all_judged}
use Rattle.kt_typing.specs.declared.claims.Way.TheVariants.{Unvalued, Plain}
use Rattle.kt_infer.specs.Demands.{as_ways, ways_from}
use Rattle.kt_infer.specs.Noting.{Continues, ContinuesBranch, ContinuesLeading, typing_of}
use Rattle.kt_infer.proofs.notes.Notes.+typing.Given as goal

abbrev pub invariant-arguments-loop-place : goal.invariant-arguments-loop-place
invariant-arguments-loop-place l =
    let uses = named_at l.body.uses.now in
    let ways = as_ways l.body.uses.now l.ways in
    Continues l.fn.self l.self (all_judged (typing_of l.body) ways l.fn.self.locals.entries (seen_trees (map (seen uses) l.arguments)))
    (all_judged (typing_of l.body) (ways_from l.place ways) l.self.locals.entries (seen_trees (map (seen uses) (drop l.place l.arguments)))) l.complete

abbrev pub invariant-pieces-loop-part : goal.invariant-pieces-loop-part
invariant-pieces-loop-part l =
    let uses = named_at l.body.uses.now in
    Continues l.fn.self l.self (all_judged (typing_of l.body) (Each Plain) l.fn.self.locals.entries (inserted_of (map (piece uses) l.parts)))
    (all_judged (typing_of l.body) (Each Plain) l.self.locals.entries (inserted_of (map (piece uses) (drop l.part-index l.parts)))) l.complete

abbrev pub invariant-statements-loop-s : goal.invariant-statements-loop-s
invariant-statements-loop-s l =
    let uses = named_at l.body.uses.now in
    ContinuesBranch l.fn.self l.self (all_judged (typing_of l.body) (Each Unvalued) l.fn.self.locals.entries (listed (map (stmt_tree uses) l.statements)))
    (all_judged (typing_of l.body) (Each Unvalued) l.self.locals.entries (listed (map (stmt_tree uses) (drop l.s-index l.statements)))) l.complete

abbrev pub invariant-leading-loop-place : goal.invariant-leading-loop-place
invariant-leading-loop-place l =
    let uses = named_at l.body.uses.now in
    ContinuesLeading l.fn.self l.self (all_judged (typing_of l.body) (Each Unvalued) l.fn.self.locals.entries (listed (map (stmt_tree uses) (take l.count l.statements))))
    (all_judged (typing_of l.body) (Each Unvalued) l.self.locals.entries (listed (map (stmt_tree uses) (drop l.place (take l.count l.statements))))) l.nothing
