use Rattle.std.proofs.Common.{◌≡◌, ◌++◌, ◌+◌, List, ℕ, map, length, drop, arith, ◌≤◌, sym, ap, ◌∙◌, true, false}
use Rattle.std.proofs.lemmas.List.{drop_all}
use Rattle.kt_mean.specs.declared.states.Value.{Value}
use Rattle.kt_model.specs.BodyTrees.{Template', piece, inserted_of, texts_of}
use Rattle.kt_mean.specs.Evaluation.{with_values, operated, text_of_value}
use Rattle.kt_run.specs.Scene.{scene}
use Rattle.kt_run.specs.Running.{program_seen, part, names}
use Rattle.kt_run.proofs.Chain.{Rest, rest_begins, rest_same, rest_next, first_right, exit_by, memory_by, quiet_runs, same_runs}
use Rattle.kt_run.proofs.StringSteps.{string_rest, string_begins, string_ends, text_next, part_next, inserted_same}
use Rattle.kt_run.proofs.evaluator.Evaluator.template.Goals as goal

pub loop-piece-init : goal.loop-piece-init
loop-piece-init g c =
    let resolved = c.args.self.now.resolved.now in
    let depth = c.args.self.now.depth in
    let state = c.args.state.now in
    let out = g.O.Output.state c.args.out.now in
    let p = program_seen resolved in
    let go = part resolved depth in
    let uses = names resolved in
    let xs = c.args.parts.now in
    let pieces = map (piece uses) xs in
    let whole = with_values p go (inserted_of pieces) (operated (Template' (texts_of pieces))) in
    let start = scene state out in
    rest_same whole _ _ start start (string_begins p go pieces ∙ ap (λ (b : List ℕ). string_rest p go false b pieces) (sym c.new-bytes.ensures.items)) (rest_begins whole start c.requires.right)

pub returns-in_err-extend_from_slice-in-Text : goal.returns-in_err-extend_from_slice-in-Text
returns-in_err-extend_from_slice-in-Text g c =
    let resolved = c.args.self.now.resolved.now in
    let depth = c.args.self.now.depth in
    let state = c.args.state.now in
    let out = g.O.Output.state c.args.out.now in
    let p = program_seen resolved in
    let go = part resolved depth in
    let uses = names resolved in
    let xs = c.args.parts.now in
    let pieces = map (piece uses) xs in
    let whole = with_values p go (inserted_of pieces) (operated (Template' (texts_of pieces))) in
    let start = scene state out in
    let here = scene c.loop-piece.state (g.O.Output.state c.loop-piece.out) in
    let i = c.loop-piece.piece-index in
    let made = c.loop-piece.has_parts in
    let front = c.loop-piece.bytes.items in
    let behind = map (piece uses) (drop (i + 1) xs) in
    c.loop-piece.invariant.on _ _ (memory_by _ here.state here.state here.out _ c.from_residual.ensures.1)

pub loop-piece-preserved-in-Text : goal.loop-piece-preserved-in-Text
loop-piece-preserved-in-Text g c =
    let resolved = c.args.self.now.resolved.now in
    let depth = c.args.self.now.depth in
    let state = c.args.state.now in
    let out = g.O.Output.state c.args.out.now in
    let p = program_seen resolved in
    let go = part resolved depth in
    let uses = names resolved in
    let xs = c.args.parts.now in
    let pieces = map (piece uses) xs in
    let whole = with_values p go (inserted_of pieces) (operated (Template' (texts_of pieces))) in
    let start = scene state out in
    let here = scene c.loop-piece.state (g.O.Output.state c.loop-piece.out) in
    let i = c.loop-piece.piece-index in
    let made = c.loop-piece.has_parts in
    let front = c.loop-piece.bytes.items in
    let behind = map (piece uses) (drop (i + 1) xs) in
    let text = c.in-Text.text in
    let same : c.extend_from_slice.new.self.items ≡ front ++ text = c.in_ok-extend_from_slice-in-Text.ensures.items ∙ ap (λ (t : List ℕ). front ++ t) c.as_slice.ensures in
    rest_same whole _ _ start here (text_next p go uses made front xs i c.piece-item.result text c.loop-piece-test.true c.piece-item.is c.in-Text.is ∙ ap (λ (b : List ℕ). string_rest p go made b behind) (sym same)) c.loop-piece.invariant

pub part-requires-clause-right : goal.part-requires-clause-right
part-requires-clause-right g c =
    let resolved = c.args.self.now.resolved.now in
    let depth = c.args.self.now.depth in
    let state = c.args.state.now in
    let out = g.O.Output.state c.args.out.now in
    let p = program_seen resolved in
    let go = part resolved depth in
    let uses = names resolved in
    let xs = c.args.parts.now in
    let pieces = map (piece uses) xs in
    let whole = with_values p go (inserted_of pieces) (operated (Template' (texts_of pieces))) in
    let start = scene state out in
    let here = scene c.loop-piece.state (g.O.Output.state c.loop-piece.out) in
    let i = c.loop-piece.piece-index in
    let made = c.loop-piece.has_parts in
    let front = c.loop-piece.bytes.items in
    let behind = map (piece uses) (drop (i + 1) xs) in
    let rest = rest_same whole _ _ start here (part_next p go uses made front xs i c.piece-item.result c.in-Inserted.e c.loop-piece-test.true c.piece-item.is c.in-Inserted.is) c.loop-piece.invariant in
    first_right _ _ _ rest.right

pub returns-in_err-value : goal.returns-in_err-value
returns-in_err-value g c =
    let resolved = c.args.self.now.resolved.now in
    let depth = c.args.self.now.depth in
    let state = c.args.state.now in
    let out = g.O.Output.state c.args.out.now in
    let p = program_seen resolved in
    let go = part resolved depth in
    let uses = names resolved in
    let xs = c.args.parts.now in
    let pieces = map (piece uses) xs in
    let whole = with_values p go (inserted_of pieces) (operated (Template' (texts_of pieces))) in
    let start = scene state out in
    let here = scene c.loop-piece.state (g.O.Output.state c.loop-piece.out) in
    let i = c.loop-piece.piece-index in
    let made = c.loop-piece.has_parts in
    let front = c.loop-piece.bytes.items in
    let behind = map (piece uses) (drop (i + 1) xs) in
    let rest = rest_same whole _ _ start here (part_next p go uses made front xs i c.piece-item.result c.in-Inserted.e c.loop-piece-test.true c.piece-item.is c.in-Inserted.is) c.loop-piece.invariant in
    rest.on _ _ (exit_by {B = Value} _ _ here _ _ _ c.from_residual-in_err-value.ensures.1 c.in_err-value.ensures)

pub returns-in_err-insert : goal.returns-in_err-insert
returns-in_err-insert g c =
    let resolved = c.args.self.now.resolved.now in
    let depth = c.args.self.now.depth in
    let state = c.args.state.now in
    let out = g.O.Output.state c.args.out.now in
    let p = program_seen resolved in
    let go = part resolved depth in
    let uses = names resolved in
    let xs = c.args.parts.now in
    let pieces = map (piece uses) xs in
    let whole = with_values p go (inserted_of pieces) (operated (Template' (texts_of pieces))) in
    let start = scene state out in
    let here = scene c.loop-piece.state (g.O.Output.state c.loop-piece.out) in
    let i = c.loop-piece.piece-index in
    let made = c.loop-piece.has_parts in
    let front = c.loop-piece.bytes.items in
    let behind = map (piece uses) (drop (i + 1) xs) in
    let rest = rest_same whole _ _ start here (part_next p go uses made front xs i c.piece-item.result c.in-Inserted.e c.loop-piece-test.true c.piece-item.is c.in-Inserted.is) c.loop-piece.invariant in
    let after = scene c.part.new.state (g.O.Output.state c.part.new.out) in
    let value = c.in_ok-value.value in
    let next : Rest whole (string_rest p go true (front ++ text_of_value value) behind) start after = rest_next whole _ _ value start here after rest c.in_ok-value.ensures in
    next.on _ _ (memory_by _ after.state after.state after.out _ c.from_residual-in_err-insert.ensures.1)

pub loop-piece-preserved : goal.loop-piece-preserved
loop-piece-preserved g c =
    let resolved = c.args.self.now.resolved.now in
    let depth = c.args.self.now.depth in
    let state = c.args.state.now in
    let out = g.O.Output.state c.args.out.now in
    let p = program_seen resolved in
    let go = part resolved depth in
    let uses = names resolved in
    let xs = c.args.parts.now in
    let pieces = map (piece uses) xs in
    let whole = with_values p go (inserted_of pieces) (operated (Template' (texts_of pieces))) in
    let start = scene state out in
    let here = scene c.loop-piece.state (g.O.Output.state c.loop-piece.out) in
    let i = c.loop-piece.piece-index in
    let made = c.loop-piece.has_parts in
    let front = c.loop-piece.bytes.items in
    let behind = map (piece uses) (drop (i + 1) xs) in
    let rest = rest_same whole _ _ start here (part_next p go uses made front xs i c.piece-item.result c.in-Inserted.e c.loop-piece-test.true c.piece-item.is c.in-Inserted.is) c.loop-piece.invariant in
    let after = scene c.part.new.state (g.O.Output.state c.part.new.out) in
    let value = c.in_ok-value.value in
    let next : Rest whole (string_rest p go true (front ++ text_of_value value) behind) start after = rest_next whole _ _ value start here after rest c.in_ok-value.ensures in
    rest_same whole _ _ start after (inserted_same p go front (text_of_value value) c.insert.new.bytes.items behind c.in_ok-insert.ensures) next

pub returns : goal.returns
returns g c =
    let resolved = c.args.self.now.resolved.now in
    let depth = c.args.self.now.depth in
    let state = c.args.state.now in
    let out = g.O.Output.state c.args.out.now in
    let p = program_seen resolved in
    let go = part resolved depth in
    let uses = names resolved in
    let xs = c.args.parts.now in
    let pieces = map (piece uses) xs in
    let whole = with_values p go (inserted_of pieces) (operated (Template' (texts_of pieces))) in
    let start = scene state out in
    let here = scene c.loop-piece.state (g.O.Output.state c.loop-piece.out) in
    let i = c.loop-piece.piece-index in
    let made = c.loop-piece.has_parts in
    let front = c.loop-piece.bytes.items in
    let behind = map (piece uses) (drop (i + 1) xs) in
    let past : length xs ≤ i = omega arith in
    let end = scene c.string.new.state here.out in
    let same = ap (λ l. string_rest p go made front (map (piece uses) l)) (drop_all i xs past) ∙ string_ends p go made front in
    c.loop-piece.invariant.on c.string.result end
    (same_runs _ _ here c.string.result end same (quiet_runs _ here.state c.string.result c.string.new.state here.out c.string.ensures))
